use Rattle.std.proofs.Common.{arith}
use Rattle.std.proofs.lemmas.Simd.{take_more_put_chunk}
use Rattle.exec_msg.proofs.place.place_lanes.Goals as goal

pub returns-clause-text : goal.returns-clause-text
returns-clause-text g c = take_more_put_chunk c.args.at c.args.bytes.now c.args.lanes _ (omega arith) (omega arith)
