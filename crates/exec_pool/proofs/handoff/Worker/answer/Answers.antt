use Rattle.std.proofs.Common.{◌≡◌, sym, ap, subst, ◌∙◌, arith}
use Rattle.std.specs.Prelude.{None, Some}
use mathlib.Core.Option.{none}
use Rattle.atomic_table.specs.Table.{Allows, step}
use Rattle.exec_pool.specs.Pair.{PairRule}
use Rattle.exec_pool.specs.Plays.{Mine, answered_so}
use Rattle.exec_pool.proofs.Seating.{filled, worker_has}
use Rattle.exec_pool.proofs.Steps.{answers}
use Rattle.exec_pool.proofs.handoff.Worker.answer.Goals as goal

pub store-requires : goal.store-requires
store-requires c =
    let table = ap (λ t. t.shared.table_id) c.deref-2.ensures in
    let words : c.deref-2.result.now.shared.table_id.words ≡ 1 = ap (λ t. t.words) table ∙ c.self.invariant.words in
    let before = worker_has _ _ c.self.inside.seat.me (Some c.requires.0) c.self.invariant (c.self.view_is ∙ c.requires.1) in
    let after = filled c.self.inside.seat.me c.exchange.new.seat.me _ None (Some c.args.job) before c.exchange.ensures.3 in (
      c.exchange.ensures.0 ∙ c.self.invariant.same ∙ sym table,
      omega (arith, words),
      subst (λ (me : Mine). Allows PairRule c.deref-2.result.now.shared.table_id.slots c.exchange.new.seat.id me 0 (λ _. 3) (λ _. answered_so (step c.deref-2.result.now.shared.table_id.slots 0 3 0 none) me 3)) (sym after)
          (answers c.deref-2.result.now.shared.table_id.slots c.exchange.new.seat.id c.requires.0 c.args.job c.requires.2),
    )
