-- The division finds the least time, which is the one that the definition finds.
use Rattle.std.proofs.Common.{◌+◌, arith}
use Rattle.exec_msg.specs.Timer.{TimerState}
use Rattle.exec_msg.proofs.NextCall.{here_least, division_least, division_bound, next_call_least, same_least, IsNextCall-from_least}
use Rattle.exec_msg.proofs.timer.next_time.Goals as goal

pub returns-then-first-now : goal.returns-then-first-now
returns-then-first-now c =
    let timer : TimerState = record { next = c.args.next; period = c.args.period } in
    let found = here_least (c.args.next + c.args.period) c.args.period c.args.now c.if-first-now.true in
    record {
      value = same_least found (next_call_least timer c.args.now c.requires.period.0);
      least = IsNextCall-from_least timer c.args.now _ found;
      bound = omega arith;
    }

pub returns : goal.returns
returns c =
    let timer : TimerState = record { next = c.args.next; period = c.args.period } in
    let first = c.args.next + c.args.period in
    let found = division_least first c.args.period c.args.now c.requires.period.0 (omega arith) in
    rw c.div_ceil.ensures (record {
      value = same_least found (next_call_least timer c.args.now c.requires.period.0);
      least = IsNextCall-from_least timer c.args.now _ found;
      bound = omega (arith, division_bound first c.args.period c.args.now c.requires.period.0 (omega arith));
    })
