use Rattle.std.proofs.Common.{rules, ◌≡◌, ◌<◌, ◌&&◌, ◌++◌, length, vec_capacity, ap, sym, ◌∙◌, arith}
use Rattle.exec_queue.proofs.Filled.{covers_settled, filled_settled, settled}
use Rattle.exec_rules.specs.inner.Places.{places_where}
use Rattle.exec_queue.specs.inner.Queues.{has_item, is_in_part}
use Rattle.exec_queue.proofs.queue.Queues.list_filled.Goals as goal

pub invariant_of-self : goal.invariant_of-self
invariant_of-self c = (
  c.self.invariant.0,
  covers_settled c.self.inside.entries.items c.self.inside.filled.items c.settle.new.places.items c.settle.ensures.keeps c.self.invariant.1,
  filled_settled c.self.inside.entries.items c.self.inside.filled.items c.settle.new.places.items c.settle.ensures.only c.self.invariant.2,
  λ _. c.settle.ensures.rises,
  c.self.invariant.4,
  c.self.invariant.5,
)

pub invariant_of-self-2 : goal.invariant_of-self-2
invariant_of-self-2 c = (
  c.self.invariant.0,
  covers_settled c.self.inside.entries.items c.self.inside.filled.items c.settle.new.places.items c.settle.ensures.keeps c.self.invariant.1,
  filled_settled c.self.inside.entries.items c.self.inside.filled.items c.settle.new.places.items c.settle.ensures.only c.self.invariant.2,
  λ _. c.settle.ensures.rises,
  c.self.invariant.4,
  c.self.invariant.5,
)

pub leave_part-requires-clause-filled : goal.leave_part-requires-clause-filled
leave_part-requires-clause-filled c =
    c.in_ok-extend_from_slice.ensures.items
    ∙ (λ i. c.clear.ensures.items i ++ c.deref.ensures.value i)
    ∙ settled c.self.inside.entries.items c.self.inside.filled.items c.settle.new.places.items c.settle.ensures.rises c.settle.ensures.keeps c.settle.ensures.only c.self.invariant.1 c.self.invariant.2
    ∙ ap (places_where has_item) (sym c.deref-2.ensures.value)

pub returns-in_err-extend_from_slice-clause-memory : goal.returns-in_err-extend_from_slice-clause-memory
returns-in_err-extend_from_slice-clause-memory c =
    let long : length c.deref.result.now ≡ length (places_where has_item c.args.self.now) =
    ap length
    (c.deref.ensures.value
    ∙ settled c.self.inside.entries.items c.self.inside.filled.items c.settle.new.places.items c.settle.ensures.rises c.settle.ensures.keeps c.settle.ensures.only c.self.invariant.1 c.self.invariant.2
    ∙ ap (places_where has_item) c.self.view_is) in
    let full = c.in_err-extend_from_slice.ensures.full in
    let none = c.clear.ensures.len in
    let room = c.clear.ensures.capacity in
    let low : vec_capacity c.args.places.now < length (places_where has_item c.args.self.now) = omega (arith, long, full, none, room) in
    search rules

pub returns-clause-places : goal.returns-clause-places
returns-clause-places c = c.leave_part.ensures ∙ ap (places_where (λ queue. has_item queue && is_in_part c.args.before_polls queue)) (c.deref-2.ensures.value ∙ c.self.view_is)
