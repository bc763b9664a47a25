use Rattle.std.proofs.Common.{◌≡◌, map, ap, subst, sym, ◌∙◌, filter, true≢false}
use Rattle.exec_queue.proofs.Filled.{all_taken, covers_settled, covers_taken, filled_covers, filled_left, finds_taken, settled}
use Rattle.exec_queue.proofs.Numbered.{all_numbered_taken}
use Rattle.exec_queue.proofs.Parts.{early_taken}
use Rattle.exec_rules.specs.Ready.{queue_taken}
use Rattle.exec_rules.specs.inner.Places.{change_each}
use Rattle.exec_queue.specs.inner.Queues.{is_filled_at, AreBeforePolls, HaveTheirNumbers}
use Rattle.exec_queue.proofs.queue.Queues.take_first.Goals as goal

pub invariant_of-self : goal.invariant_of-self
invariant_of-self c =
    let taken : c.take_each.new.entries.items ≡ map queue_taken c.self.inside.entries.items =
    c.take_each.ensures
    ∙ ap (λ places. change_each places queue_taken c.self.inside.entries.items)
    (c.deref.ensures.value ∙ settled c.self.inside.entries.items c.self.inside.filled.items c.settle.new.places.items c.settle.ensures.rises c.settle.ensures.keeps c.settle.ensures.only c.self.invariant.1 c.self.invariant.2)
    ∙ all_taken c.self.inside.entries.items c.self.invariant.5 in
    let kept = c.keep_filled.ensures ∙ (λ i. filter (λ place. is_filled_at (c.deref-2.ensures.value i) place) c.settle.new.places.items) in (
      finds_taken c.self.inside.places c.self.inside.entries.items c.take_each.new.entries.items c.self.invariant.0 taken,
      filled_covers c.take_each.new.entries.items c.settle.new.places.items c.keep_filled.new.places.items kept
          (covers_taken c.settle.new.places.items c.self.inside.entries.items c.take_each.new.entries.items
          (covers_settled c.self.inside.entries.items c.self.inside.filled.items c.settle.new.places.items c.settle.ensures.keeps c.self.invariant.1) taken),
      filled_left c.take_each.new.entries.items c.settle.new.places.items c.keep_filled.new.places.items kept,
      λ settled. absurd (true≢false (sym settled)),
      λ none. subst AreBeforePolls (sym taken) (early_taken c.self.inside.entries.items (c.self.invariant.4 none)),
      subst HaveTheirNumbers (sym taken) (all_numbered_taken c.self.inside.entries.items c.self.invariant.5),
    )

pub returns : goal.returns
returns c =
    c.take_each.ensures
    ∙ ap (λ places. change_each places queue_taken c.self.inside.entries.items)
    (c.deref.ensures.value ∙ settled c.self.inside.entries.items c.self.inside.filled.items c.settle.new.places.items c.settle.ensures.rises c.settle.ensures.keeps c.settle.ensures.only c.self.invariant.1 c.self.invariant.2)
    ∙ all_taken c.self.inside.entries.items c.self.invariant.5
    ∙ ap (map queue_taken) c.self.view_is
