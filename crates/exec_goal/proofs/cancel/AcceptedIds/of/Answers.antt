use Rattle.std.proofs.Common.{◌∙◌, Bool, true, false, ◌||◌, ◌&&◌, ◌==◌, rules, sym, ap, take}
use Rattle.exec_goal.specs.inner.Ids.{is_among}
use Rattle.exec_goal.specs.Cancel.{decided_goal, is_accepted_for}
use Rattle.exec_goal.proofs.AmongIds.{among_more, not_counted}
use Rattle.exec_goal.proofs.Answering.{accepted_next}
use Rattle.exec_goal.proofs.Entries.{ids_decide}
use Rattle.exec_goal.proofs.cancel.AcceptedIds.of.Goals.{then-is_acceptance+in_ok-insert, else-is_acceptance}
use Rattle.exec_goal.proofs.cancel.AcceptedIds.of.Goals as goal

pub loop-decided-preserved : goal.loop-decided-preserved
loop-decided-preserved c =
    let next = accepted_next c.args.decisions.now c.loop-decided.decided-index c.decided-item.result in
    elim c.if-is_acceptance.branch [
      | then-is_acceptance+in_ok-insert w ↦ λ id.
          ap (λ ids. is_among ids.keys id) w.ids-is
          ∙ among_more _ (λ a b. ids_decide a b) c.loop-decided.ids.keys w.insert.new.self.keys (decided_goal c.decided-item.result) id (w.in_ok-insert.ensures.updates.0 id)
          ∙ ap (λ (b : Bool). b || ((decided_goal c.decided-item.result == id) && true)) (c.loop-decided.invariant id)
          ∙ sym (next true id (search rules) c.decided-item.is (sym c.is_acceptance.ensures ∙ w.if-is_acceptance.true))
      | else-is_acceptance w ↦ λ id.
          ap (λ ids. is_among ids.keys id) w.ids-is
          ∙ c.loop-decided.invariant id
          ∙ not_counted (is_accepted_for (take c.loop-decided.decided-index c.args.decisions.now) id) (decided_goal c.decided-item.result == id)
          ∙ sym (next false id (search rules) c.decided-item.is (sym c.is_acceptance.ensures ∙ w.if-is_acceptance.false))
    ]
