use Rattle.exec_io.proofs.KnownBytes.{moved_to_front}
use Rattle.exec_io.proofs.writing.put_front.Goals as goal

pub returns-clause-moved : goal.returns-clause-moved
returns-clause-moved g c = moved_to_front c.args.buffer.now c.copy_within.new.self c.args.end c.args.behind c.requires.0 c.requires.1 c.copy_within.ensures.after
