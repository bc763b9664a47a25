use Rattle.std.proofs.Common.{◌≡◌, List, [], ◌∷◌, ◌++◌, sym, ap, subst, ◌∙◌, arith}
use Rattle.std.specs.Prelude.{Option, None}
use mathlib.Core.Option.{none}
use Rattle.atomic_table.specs.Table.{Allows, Splits, opening, step}
use Rattle.exec_pool.specs.Pair.{PairRule, View, caller, opener, worker}
use Rattle.exec_pool.specs.Plays.{Mine, begun_so}
use Rattle.exec_pool.specs.declared.job.Job.{Job}
use Rattle.exec_pool.proofs.Steps.{begins, hires, opens}
use Rattle.exec_pool.proofs.handoff.pair.Goals as goal

pub new-requires : goal.new-requires
new-requires c = subst (λ (slots : List (Option Job)). PairRule (opening (5 ∷ []) slots opener)) (sym (c.push_reserved.ensures.items ∙ ap (λ (slots : List (Option Job)). slots ++ None ∷ []) c.in_ok-slots.ensures.items)) opens

pub swap-requires : goal.swap-requires
swap-requires c =
    let made = c.in-Ok.ensures.ok in
    let words : c.in-Ok.table.shared.table_id.words ≡ 1 = made.0 in (
      made.2,
      omega (arith, words),
      subst (λ (me : Mine). Allows PairRule c.in-Ok.table.shared.table_id.slots c.in-Ok.seat.id me 0 (λ _. 0) (begun_so (step c.in-Ok.table.shared.table_id.slots 0 0 0 none) me)) (sym made.4)
          (begins c.in-Ok.table.shared.table_id.slots c.in-Ok.seat.id),
    )

pub split_seat-other-requires : goal.split_seat-other-requires
split_seat-other-requires c =
    let made = c.in-Ok.ensures.ok in
    let words : c.in-Ok.table.shared.table_id.words ≡ 1 = made.0 in (
      c.swap.ensures.0 ∙ made.2,
      omega (arith, words),
      subst (λ (view : View). Splits PairRule c.swap.new.seat.id view (caller None) (worker None)) (sym (ap (λ (me : Mine). me.0) c.swap.ensures.2)) (hires c.swap.new.seat.id),
    )
