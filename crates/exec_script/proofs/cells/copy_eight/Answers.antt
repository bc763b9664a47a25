use Rattle.std.proofs.Common.{rules, ◌∙◌}
use Rattle.std.proofs.lemmas.Simd.{put_chunk_whole}
use Rattle.exec_script.proofs.Frames.{lanes_are}
use Rattle.exec_script.proofs.cells.copy_eight.Goals as goal

pub returns : goal.returns
returns c = put_chunk_whole c.args.to.now _ c.requires.1 ∙ search (rules, lanes_are)
