use Rattle.std.proofs.Common.{◌≡◌, map, max, drop}
use Rattle.exec_plan.specs.Schedule.{greatest, stamp_of}
use Rattle.exec_plan.proofs.plan.schedule.greatest_stamp.Given as goal

abbrev pub invariant-loop-entry : goal.invariant-loop-entry
invariant-loop-entry g l =
    max l.greatest (greatest (map (λ entry. stamp_of entry.fed) (drop l.entry-index l.feed))) ≡ greatest (map (λ entry. stamp_of entry.fed) l.feed)
