use Rattle.std.proofs.Common.{true, length, map, rules, sym, ap, ◌∙◌}
use Rattle.std.proofs.lemmas.List.{with_items_is}
use Rattle.exec_world.proofs.Snapshots.{answered, first_listed, listed_parts}
use Rattle.exec_rules.specs.World.{WorldState}
use Rattle.exec_rules.specs.Ready.{timer_taken}
use Rattle.exec_world.specs.inner.Snapshots.{filled_places}
use Rattle.exec_world.proofs.state.WorldBody.list_in_parts.Goals as goal

pub returns : goal.returns
returns g c =
    let held = c.args.self.now in
    let taken = timer_taken c.args.moment in
    let first = first_listed c.deref_mut.result.now c.args.moment c.clear.new.self c.take_due_into.new.list c.list_queues.new.scratch.list
    c.self.view_is c.deref_mut.ensures.value c.clear.ensures c.in_ok-take_due_into.ensures.listed c.in_ok-list_queues.ensures.list in
    let later = c.self-2.view_is ∙ c.in_ok-list_queues.ensures.same in
    let timers = with_items_is c.self.inside.timers c.take_due_into.new.timers (search rules) ∙ c.in_ok-take_due_into.ensures.timers ∙ ap (map taken) (c.deref_mut.ensures.value ∙ ap (λ (world : WorldState). world.timers) c.self.view_is) in
    let calls = answered held (map taken held.timers) c.queues.result.now c.deref.result.now c.answer_calls.new.clients (later ∙ (λ i. record (c.self.view_is i) { timers = timers i })) c.queues.ensures
    (c.deref.ensures.value ∙ c.in_ok-list_queues.ensures.places ∙ ap (λ (world : WorldState). filled_places true world.queues) (sym later)) c.answer_calls.ensures in
    listed_parts c.args.moment held _ c.list_queues-2.new.self c.list_queues.new.scratch.list c.list_queues-2.new.scratch.list _ (length c.as_slice-before.result.now)
    first calls c.in_ok-list_queues-2.ensures.list c.in_ok-list_queues-2.ensures.same (ap length c.as_slice-before.ensures) (search rules)
