use Rattle.std.proofs.Common.{rules, ◌≡◌, false, find, length, [], Some, ◌<◌, slice_get, refl, ap, subst, sym, ◌∙◌, true≢false}
use Rattle.std.specs.Option.{option_map_or}
use Rattle.exec_msg.specs.KeepLast.{displaced}
use Rattle.exec_msg.proofs.FirstPlaces.{find-nowhere, find-first_place, change_first-nowhere, change_first-first_place, first_place-within}
use Rattle.exec_queue.proofs.FoundQueues.{looked_up, finds_after, covers_after, filled_after, found_empty, lost_is}
use Rattle.exec_queue.proofs.Numbered.{numbered_sent}
use Rattle.exec_queue.proofs.Parts.{early_changed}
use Rattle.exec_rules.specs.Item.{taker_of}
use Rattle.exec_rules.specs.World.{is_queue, queue_after}
use Rattle.exec_msg.specs.Places.{change_at}
use Rattle.exec_queue.specs.inner.Queues.{AreBeforePolls, HaveTheirNumbers, has_item}
use Rattle.exec_queue.proofs.queue.Queues.send.Goals as goal

pub returns-in_default-clause-ok : goal.returns-in_default-clause-ok
returns-in_default-clause-ok g c =
    let nowhere = looked_up g.self.inside.places g.self.inside.entries.items g.args.self.now g.self.invariant.0 g.self.view_is g.args.entity g.kind.result (taker_of g.args.item) g.kind.ensures g.queue_number.result g.queue_number.ensures.value _ g.in_default.ensures in
    sym (change_first-nowhere (is_queue g.args.entity (taker_of g.args.item)) (queue_after g.args.number.now g.args.item) g.args.self.now nowhere) c

pub returns-in_default-clause-lost : goal.returns-in_default-clause-lost
returns-in_default-clause-lost g c =
    let nowhere = looked_up g.self.inside.places g.self.inside.entries.items g.args.self.now g.self.invariant.0 g.self.view_is g.args.entity g.kind.result (taker_of g.args.item) g.kind.ensures g.queue_number.result g.queue_number.ensures.value _ g.in_default.ensures in
    ap (λ found. option_map_or (λ queue. displaced queue.depth g.args.item queue.items) found []) (sym (find-nowhere (is_queue g.args.entity (taker_of g.args.item)) g.args.self.now nowhere)) c

pub invariant_of-self-2 : goal.invariant_of-self-2
invariant_of-self-2 c =
    let at = looked_up c.self.inside.places c.self.inside.entries.items c.args.self.now c.self.invariant.0 c.self.view_is c.args.entity c.kind.result (taker_of c.args.item) c.kind.ensures c.queue_number.result c.queue_number.ensures.value (Some c.in-Some.place) c.in-Some.ensures in
    let within : c.in-Some.place < length c.self.inside.entries.items =
    subst (λ queues. c.in-Some.place < length queues) (sym c.self.view_is) (first_place-within (is_queue c.args.entity (taker_of c.args.item)) c.args.self.now c.in-Some.place at) in
    let noted = c.in_ok-lost.ensures.noted within in (
      finds_after c.self.inside.places c.self.inside.entries.items c.send_at.new.entries.items c.in-Some.place c.args.number.now c.args.item c.self.invariant.0 c.in_ok-lost.ensures.ok,
      covers_after c.self.inside.filled.items c.send_at.new.filled.items c.self.inside.entries.items c.send_at.new.entries.items c.in-Some.place (queue_after c.args.number.now c.args.item) noted c.in_ok-lost.ensures.ok c.self.invariant.1,
      filled_after c.self.inside.filled.items c.send_at.new.filled.items c.self.inside.entries.items c.send_at.new.entries.items c.in-Some.place (queue_after c.args.number.now c.args.item) noted c.in_ok-lost.ensures.ok
          (c.in_ok-lost.ensures.filled within) c.self.invariant.2,
      λ settled. absurd (true≢false (sym settled)),
      λ none. subst AreBeforePolls (sym c.in_ok-lost.ensures.ok) (early_changed (queue_after c.args.number.now c.args.item) (λ queue. refl) c.in-Some.place c.self.inside.entries.items (c.self.invariant.4 none)),
      subst HaveTheirNumbers (sym c.in_ok-lost.ensures.ok) (numbered_sent c.in-Some.place c.args.number.now c.args.item c.self.inside.entries.items c.self.invariant.5),
    )

pub returns-clause-ok : goal.returns-clause-ok
returns-clause-ok g c =
    let at = looked_up g.self.inside.places g.self.inside.entries.items g.args.self.now g.self.invariant.0 g.self.view_is g.args.entity g.kind.result (taker_of g.args.item) g.kind.ensures g.queue_number.result g.queue_number.ensures.value (Some g.in-Some.place) g.in-Some.ensures in
    (g.in_ok-lost.ensures.ok
    ∙ ap (change_at g.in-Some.place (queue_after g.args.number.now g.args.item)) g.self.view_is
    ∙ sym (change_first-first_place (is_queue g.args.entity (taker_of g.args.item)) (queue_after g.args.number.now g.args.item) g.args.self.now g.in-Some.place at)) c

pub returns-clause-lost : goal.returns-clause-lost
returns-clause-lost g c =
    let at = looked_up g.self.inside.places g.self.inside.entries.items g.args.self.now g.self.invariant.0 g.self.view_is g.args.entity g.kind.result (taker_of g.args.item) g.kind.ensures g.queue_number.result g.queue_number.ensures.value (Some g.in-Some.place) g.in-Some.ensures in
    (lost_is (slice_get g.self.inside.entries.items g.in-Some.place) g.args.item g.in_ok-lost.lost g.in_ok-lost.ensures.bound g.in_ok-lost.ensures.lost
    ∙ ap (λ found. option_map_or (λ queue. displaced queue.depth g.args.item queue.items) found [])
    (ap (λ queues. slice_get queues g.in-Some.place) g.self.view_is ∙ sym (find-first_place (is_queue g.args.entity (taker_of g.args.item)) g.args.self.now g.in-Some.place at))) c

pub returns-in_err-lost-clause-memory : goal.returns-in_err-lost-clause-memory
returns-in_err-lost-clause-memory c =
    let at = looked_up c.self.inside.places c.self.inside.entries.items c.args.self.now c.self.invariant.0 c.self.view_is c.args.entity c.kind.result (taker_of c.args.item) c.kind.ensures c.queue_number.result c.queue_number.ensures.value (Some c.in-Some.place) c.in-Some.ensures in
    let empty : option_map_or has_item (find (is_queue c.args.entity (taker_of c.args.item)) c.args.self.now) false ≡ false =
    found_empty (is_queue c.args.entity (taker_of c.args.item)) c.args.self.now _ c.in-Some.place at c.self.view_is c.in_err-lost.ensures.memory in
    search rules
