use Rattle.std.proofs.Common.{arith}
use Rattle.exec_stream.proofs.GoingOn.{runs_on}
use Rattle.exec_stream.proofs.streaming.run_some.Goals as goal

pub loop-left-preserved : goal.loop-left-preserved
loop-left-preserved g c =
    let so = c.loop-left.invariant in
    let on = runs_on c.args.lane.now c.loop-left.lane c.run_next.new.lane c.args.sender.now c.loop-left.sender c.run_next.new.sender so.0 so.1 c.in_ok-run_next.ensures.lane c.in_ok-run_next.ensures.sent in
    let few = c.in_ok-run_next.ensures.few in
    let left = c.loop-left-test.true in
    let room = so.2 in
    (on.0, on.1, omega (arith, few, left, room))
