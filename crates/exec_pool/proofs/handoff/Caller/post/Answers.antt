use Rattle.std.proofs.Common.{◌≡◌, sym, ap, subst, ◌∙◌, arith}
use Rattle.std.specs.Prelude.{None, Some}
use mathlib.Core.Option.{none}
use Rattle.atomic_table.specs.Table.{Allows, step}
use Rattle.exec_pool.specs.Pair.{PairRule}
use Rattle.exec_pool.specs.Plays.{Mine, posted_so}
use Rattle.exec_pool.proofs.Seating.{caller_has, filled}
use Rattle.exec_pool.proofs.Steps.{posts}
use Rattle.exec_pool.proofs.handoff.Caller.post.Goals as goal

pub store-requires : goal.store-requires
store-requires c =
    let table = ap (λ t. t.shared.table_id) c.deref-2.ensures in
    let words : c.deref-2.result.now.shared.table_id.words ≡ 1 = ap (λ t. t.words) table ∙ c.self.invariant.words in
    let before = caller_has _ _ c.self.inside.seat.me None c.self.invariant (c.self.view_is ∙ c.requires.idle) in
    let after = filled c.self.inside.seat.me c.exchange.new.seat.me _ None (Some c.args.job) before c.exchange.ensures.3 in (
      c.exchange.ensures.0 ∙ c.self.invariant.same ∙ sym table,
      omega (arith, words),
      subst (λ (me : Mine). Allows PairRule c.deref-2.result.now.shared.table_id.slots c.exchange.new.seat.id me 0 (λ _. 1) (λ _. posted_so (step c.deref-2.result.now.shared.table_id.slots 0 1 0 none) me 1)) (sym after)
          (posts c.deref-2.result.now.shared.table_id.slots c.exchange.new.seat.id c.args.job c.requires.may),
    )
