use Rattle.std.proofs.Common.{◌≡◌, ◌++◌, map, take, drop}
use Rattle.std.specs.List.{flat_map}
use Rattle.exec_rules.specs.Ready.{due_ready, timer_taken}
use Rattle.exec_rules.specs.inner.Listing.{listed_behind}
use Rattle.exec_queue.proofs.timer.take_due_into.Given as goal

-- the timers so far are taken, and those that were due have their callbacks listed
abbrev pub invariant-loop-place : goal.invariant-loop-place
invariant-loop-place l =
    (l.timers ≡ map (timer_taken l.now) (take l.place l.initial.timers) ++ drop l.place l.initial.timers)
    × (listed_behind l.list (flat_map (due_ready l.now) (drop l.place l.initial.timers)) ≡ listed_behind l.initial.list (flat_map (due_ready l.now) l.initial.timers))
