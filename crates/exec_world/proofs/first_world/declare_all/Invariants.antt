use Rattle.std.proofs.Common.{◌≡◌, ◌++◌}
use Rattle.exec_plan.specs.Graph.{has_kind}
use Rattle.exec_world.proofs.Wired.{made_from}
use Rattle.exec_world.specs.inner.Parts.{new_queue_of}
use Rattle.exec_world.proofs.first_world.declare_all.Given as goal

-- the queues so far are followed by those of the numbers that are left
abbrev pub invariant-loop-number : goal.invariant-loop-number
invariant-loop-number l =
    l.queues ++ made_from (new_queue_of l.order l.graph l.kind) (has_kind l.kind) l.graph l.number
    ≡ l.initial.queues ++ made_from (new_queue_of l.order l.graph l.kind) (has_kind l.kind) l.graph 0
