use Rattle.std.proofs.Common.{◌≡◌, sym, ap, subst, ◌∙◌, arith}
use Rattle.std.specs.Prelude.{◌==◌, Some}
use mathlib.Core.Option.{none}
use prog.Atomic.{either}
use Rattle.atomic_table.specs.Table.{Allows, step}
use Rattle.exec_pool.specs.Pair.{PairRule}
use Rattle.exec_pool.specs.Plays.{Mine, taken_back_so}
use Rattle.exec_pool.proofs.Seating.{came_back, caller_has, in_slot, runs_as_it_was}
use Rattle.exec_pool.proofs.Steps.{takes_back}
use Rattle.exec_pool.proofs.handoff.Caller.take_back.Goals as goal

pub compare_exchange-word-requires : goal.compare_exchange-word-requires
compare_exchange-word-requires c =
    let table = ap (λ t. t.shared.table_id) c.deref.ensures in
    let words : c.deref.result.now.shared.table_id.words ≡ 1 = ap (λ t. t.words) table ∙ c.self.invariant.words in
    let before = caller_has _ _ c.self.inside.seat.me (Some c.requires.0) c.self.invariant (c.self.view_is ∙ c.requires.1) in (
      c.self.invariant.same ∙ sym table,
      omega (arith, words),
      subst (λ (me : Mine). Allows PairRule c.deref.result.now.shared.table_id.slots c.self.inside.seat.id me 0 (λ n. either (n == 1) 0 n) (taken_back_so (step c.deref.result.now.shared.table_id.slots 0 1 0 none) me)) (sym before)
          (takes_back c.deref.result.now.shared.table_id.slots c.self.inside.seat.id c.requires.0),
    )

pub exchange-requires : goal.exchange-requires
exchange-requires c =
    let won = c.compare_exchange-word.ensures.2.0 c.if-word-ne-POSTED.false in
    (c.compare_exchange-word.ensures.0 ∙ c.self.invariant.same ∙ sym (ap (λ t. t.shared.table_id) c.deref-2.ensures), in_slot c.compare_exchange-word.new.seat.me _ _ won.3)

pub returns-clause-back : goal.returns-clause-back
returns-clause-back c =
    let won = c.compare_exchange-word.ensures.2.0 c.if-word-ne-POSTED.false in
    came_back c.self.inside.seat.me.0 c.compare_exchange-word.new.seat.me won.0 won.0 c.exchange.result c.args.self.now c.self.view_is won.1 (runs_as_it_was won.0 won.2) won.3 c.exchange.ensures.2
