use Rattle.std.proofs.Common.{None, Some, slice_get, refl, ap, sym, ◌∙◌}
use Rattle.std.specs.Option.{option_map_or}
use Rattle.exec_msg.proofs.FirstPlaces.{find-nowhere, find-first_place}
use Rattle.exec_queue.proofs.FoundQueues.{looked_up}
use Rattle.exec_rules.specs.Ready.{first_number}
use Rattle.exec_rules.specs.World.{is_queue}
use Rattle.exec_queue.proofs.queue.Queues.first_number.Goals as goal

pub returns-in-None : goal.returns-in-None
returns-in-None c =
    let nowhere = looked_up c.self.inside.places c.self.inside.entries.items c.args.self.now c.self.invariant.0 c.self.view_is c.args.entity c.args.kind c.args.kind refl c.queue_number.result c.queue_number.ensures.value None c.in-None.ensures in
    ap (λ found. option_map_or first_number found 0) (sym (find-nowhere (is_queue c.args.entity c.args.kind) c.args.self.now nowhere))

pub returns-in-Some : goal.returns-in-Some
returns-in-Some c =
    let at = looked_up c.self.inside.places c.self.inside.entries.items c.args.self.now c.self.invariant.0 c.self.view_is c.args.entity c.args.kind c.args.kind refl c.queue_number.result c.queue_number.ensures.value (Some c.in-Some.place) c.in-Some.ensures in
    c.first_number_at.ensures
    ∙ ap (λ queues. option_map_or first_number (slice_get queues c.in-Some.place) 0) (c.deref.ensures.value ∙ c.self.view_is)
    ∙ ap (λ found. option_map_or first_number found 0) (sym (find-first_place (is_queue c.args.entity c.args.kind) c.args.self.now c.in-Some.place at))
