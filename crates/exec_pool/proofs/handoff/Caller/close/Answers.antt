use Rattle.std.proofs.Common.{◌≡◌, [], ◌∷◌, sym, ap, subst, ◌∙◌, arith}
use Rattle.std.specs.Prelude.{None}
use mathlib.Core.Option.{none}
use Rattle.atomic_table.specs.Table.{Allows, step}
use Rattle.exec_pool.specs.Pair.{PairRule}
use Rattle.exec_pool.specs.Plays.{Mine, closed_so}
use Rattle.exec_pool.proofs.Seating.{caller_has}
use Rattle.exec_pool.proofs.Steps.{closes}
use Rattle.exec_pool.proofs.handoff.Caller.close.Goals as goal

pub store-requires : goal.store-requires
store-requires c =
    let table = ap (λ t. t.shared.table_id) c.deref.ensures in
    let words : c.deref.result.now.shared.table_id.words ≡ 1 = ap (λ t. t.words) table ∙ c.self.invariant.words in
    let before = caller_has _ _ c.self.inside.seat.me None c.self.invariant (c.self.view_is ∙ c.requires) in (
      c.self.invariant.same ∙ sym table,
      omega (arith, words),
      subst (λ (me : Mine). Allows PairRule c.deref.result.now.shared.table_id.slots c.self.inside.seat.id me 0 (λ _. 4) (λ _. closed_so (step c.deref.result.now.shared.table_id.slots 0 4 0 none) me 4)) (sym before)
          (closes c.deref.result.now.shared.table_id.slots c.self.inside.seat.id ((0, None) ∷ [])),
    )
