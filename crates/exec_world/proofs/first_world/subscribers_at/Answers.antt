use Rattle.std.proofs.Common.{false, ap, ◌∙◌, arith}
use Rattle.exec_plan.specs.Graph.{entities_where, of_entity}
use Rattle.exec_plan.specs.declared.entity.Declared.{Declared}
use Rattle.exec_world.proofs.Wired.{as_they_are, next_made}
use Rattle.exec_rules.specs.Transcript.{subscribes_to}
use Rattle.exec_world.specs.inner.Parts.{with_if}
use Rattle.exec_world.proofs.first_world.subscribers_at.Goals as goal

pub loop-number-init : goal.loop-number-init
loop-number-init c = rw c.new-subscribers.ensures.items (as_they_are (entities_where (of_entity false (subscribes_to c.args.topic)) c.args.graph.now))

pub loop-number-preserved : goal.loop-number-preserved
loop-number-preserved c =
    next_made (λ number. number) (of_entity false (subscribes_to c.args.topic)) c.args.graph.now c.loop-number.number c.loop-number.subscribers.items _ _ (omega arith)
    (c.in_ok-push_subscriber.ensures ∙ ap (λ (declared : Declared). with_if (of_entity false (subscribes_to c.args.topic) declared) c.loop-number.number c.loop-number.subscribers.items) c.declaration.ensures)
    c.loop-number.invariant
