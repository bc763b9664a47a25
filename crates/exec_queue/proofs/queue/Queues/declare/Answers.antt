use Rattle.std.proofs.Common.{length, refl, ap, subst, sym, ◌∙◌, true≢false}
use Rattle.exec_queue.proofs.FoundQueues.{finds_behind, covers_behind, filled_declared}
use Rattle.exec_queue.proofs.Numbered.{numbered_by, numbered_declared}
use Rattle.exec_queue.proofs.Parts.{early_declared}
use Rattle.exec_queue.specs.inner.Numbers.{items_of, numbers_of}
use Rattle.exec_rules.specs.World.{Handler, Queue}
use Rattle.exec_msg.specs.Places.{change_at, first_noted}
use Rattle.exec_queue.specs.inner.Queues.{queue_number, AreBeforePolls, HaveTheirNumbers, FindsQueues, CoversFilled, AreFilled}
use Rattle.exec_queue.proofs.queue.Queues.declare.Goals as goal

pub invariant_of-self-2 : goal.invariant_of-self-2
invariant_of-self-2 c =
    let queue : Queue = record { handler = c.args.handler; kind = c.args.kind; depth = c.new-queue.result.depth; items = items_of c.new-queue.result.items; arrivals = numbers_of c.needs_numbers-numbered.result c.new-queue.result.items } in (
      subst (FindsQueues c.note.new.self) (sym c.in_ok-push.ensures.items)
          (finds_behind c.self.inside.places c.reserve.new.self c.note.new.self c.self.inside.entries.items queue c.args.handler.entity c.queue_number-slot.result c.args.kind c.self.invariant.0 c.in_ok-reserve.ensures.same c.in_ok-reserve.ensures.room
          (c.queue_number-slot.ensures.value ∙ ap (λ (handler : Handler). queue_number handler.entity c.args.kind) c.handler.view_is) refl refl
          (c.note.ensures ∙ ap (λ n. change_at c.queue_number-slot.result (first_noted n) c.reserve.new.self) (c.count-place.ensures ∙ ap length c.deref.ensures.value))),
      subst (CoversFilled c.self.inside.filled.items) (sym c.in_ok-push.ensures.items)
          (covers_behind c.self.inside.filled.items c.self.inside.entries.items queue c.self.invariant.1 (ap (λ queue. items_of queue.items) c.new-queue.ensures)),
      subst (AreFilled c.self.inside.filled.items) (sym c.in_ok-push.ensures.items)
          (filled_declared c.self.inside.filled.items c.self.inside.entries.items queue c.self.invariant.2 (ap (λ queue. items_of queue.items) c.new-queue.ensures)),
      λ settled. absurd (true≢false (sym settled)),
      λ none. subst AreBeforePolls (sym c.in_ok-push.ensures.items) (early_declared c.self.inside.entries.items queue c.self.inside.has_late c.has_late_with-self-inside.result c.has_late_with-self-inside.ensures c.self.invariant.4 none),
      subst HaveTheirNumbers (sym c.in_ok-push.ensures.items) (numbered_declared c.self.inside.entries.items queue c.self.invariant.5
          (numbered_by c.needs_numbers-numbered.result c.new-queue.result.items)),
    )
