use Rattle.std.proofs.Common.{◌≡◌, ◌&&◌, true, nat_le, take, drop}
use Rattle.std.specs.List.{list_all}
use Rattle.exec_msg.specs.declared.limits.TheConstants.{TICKS}
use Rattle.exec_plan.specs.Lawful.{is_ascending_from}
use Rattle.exec_plan.proofs.plan.schedule.is_ascending.Given as goal

abbrev pub invariant-loop-moment : goal.invariant-loop-moment
invariant-loop-moment l = record {
  order : (l.ascending && is_ascending_from l.least (drop l.moment-index l.moments)) ≡ is_ascending_from 0 l.moments;
  bound : list_all (λ moment. nat_le moment TICKS) (take l.moment-index l.moments) ≡ true;
}
