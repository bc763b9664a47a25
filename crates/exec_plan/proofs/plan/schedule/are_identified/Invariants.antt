use Rattle.std.proofs.Common.{◌≡◌, true, Some, take}
use Rattle.std.specs.List.{list_all}
use Rattle.exec_plan.specs.Feeding.{has_128_bits}
use Rattle.exec_plan.specs.Schedule.{is_identified}
use Rattle.exec_plan.proofs.plan.schedule.are_identified.Given as goal

abbrev pub invariant-loop-entry : goal.invariant-loop-entry
invariant-loop-entry l = record {
  identified : list_all (λ entry. is_identified Some entry.fed) (take l.entry-index l.feed) ≡ true;
  bits : list_all (λ entry. has_128_bits entry.fed) (take l.entry-index l.feed) ≡ true;
}
