use Rattle.std.proofs.Common.{◌≡◌, false, ◌++◌}
use Rattle.exec_plan.specs.Graph.{entities_where, of_entity}
use Rattle.exec_world.proofs.Wired.{made_from}
use Rattle.exec_rules.specs.Transcript.{subscribes_to}
use Rattle.exec_world.proofs.first_world.subscribers_at.Given as goal

-- the subscriptions so far are followed by those among the numbers that are left
abbrev pub invariant-loop-number : goal.invariant-loop-number
invariant-loop-number l =
    l.subscribers.items ++ made_from (λ number. number) (of_entity false (subscribes_to l.topic)) l.graph l.number
    ≡ entities_where (of_entity false (subscribes_to l.topic)) l.graph
