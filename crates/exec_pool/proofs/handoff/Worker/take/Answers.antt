use Rattle.std.proofs.Common.{◌≡◌, sym, ap, subst, ◌∙◌, arith}
use Rattle.std.specs.Prelude.{◌==◌, None}
use mathlib.Core.Option.{none}
use prog.Atomic.{either}
use Rattle.atomic_table.specs.Table.{Allows, step}
use Rattle.exec_pool.specs.Pair.{PairRule}
use Rattle.exec_pool.specs.Plays.{Mine, taken_so}
use Rattle.exec_pool.proofs.Seating.{in_slot, worker_has}
use Rattle.exec_pool.proofs.Steps.{takes_job}
use Rattle.exec_pool.proofs.handoff.Worker.take.Goals as goal

pub compare_exchange-word-requires : goal.compare_exchange-word-requires
compare_exchange-word-requires c =
    let table = ap (λ t. t.shared.table_id) c.deref-2.ensures in
    let words : c.deref-2.result.now.shared.table_id.words ≡ 1 = ap (λ t. t.words) table ∙ c.self.invariant.words in
    let before = worker_has _ _ c.self.inside.seat.me None c.self.invariant (c.self.view_is ∙ c.requires) in (
      c.self.invariant.same ∙ sym table,
      omega (arith, words),
      subst (λ (me : Mine). Allows PairRule c.deref-2.result.now.shared.table_id.slots c.self.inside.seat.id me 0 (λ n. either (n == 1) 2 n) (taken_so (step c.deref-2.result.now.shared.table_id.slots 0 1 2 none) me)) (sym before)
          (takes_job c.deref-2.result.now.shared.table_id.slots c.self.inside.seat.id),
    )

pub exchange-requires : goal.exchange-requires
exchange-requires c =
    let won = c.compare_exchange-word.ensures.2.0 c.if-word-ne-POSTED.false in
    (c.compare_exchange-word.ensures.0 ∙ c.self.invariant.same ∙ sym (ap (λ t. t.shared.table_id) c.deref-3.ensures), in_slot c.compare_exchange-word.new.seat.me _ _ won.2)
