use Rattle.std.proofs.Common.{◌≡◌, ◌++◌, drop, map}
use Rattle.exec_world.proofs.Wired.{queues_from}
use Rattle.std.specs.List.{filter}
use Rattle.exec_plan.specs.Graph.{wait_set}
use Rattle.exec_rules.specs.Transcript.{new_queue, takes_from_queue}
use Rattle.exec_world.proofs.first_world.new_queues.Given as goal

-- the queues so far are followed by those of the kinds that are left
abbrev pub invariant-loop-kind : goal.invariant-loop-kind
invariant-loop-kind l = l.queues ++ queues_from l.order l.graph (drop l.kind-index l.kind-items) ≡ map (new_queue l.order l.graph) (filter (λ waitable. takes_from_queue waitable.kind) (wait_set l.graph))
