use Rattle.std.proofs.Common.{◌≡◌, ◌<◌, ◌+◌, ◌∙◌, ℕ, get_or, sym, subst, arith, false, Option, Some}
use Rattle.std.proofs.lemmas.List.Folds.{list_any_none}
use Rattle.exec_goal.proofs.Filtering.{filter-none}
use Rattle.exec_goal.proofs.Looping.{known-next}
use Rattle.exec_goal.proofs.Searching.{next-ends, all-ends, before-idle, ends-idle, unexpired-idle}
use Rattle.exec_goal.specs.State.{is_terminal}
use Rattle.exec_goal.specs.Table.{GoalRecord, is_expired}
use Rattle.exec_goal.specs.inner.Tally.{EndsFrom}
use Rattle.exec_goal.proofs.goals.Goals.first_expired.Goals.{then-has_ended_at+else-is_expired_at, else-has_ended_at}
use Rattle.exec_goal.proofs.goals.Goals.first_expired.Goals as goal

pub loop-index-init : goal.loop-index-init
loop-index-init c =
    let goals = c.args.self.now in
    let idle = before-idle is_terminal c.ended_from-index.result goals c.ended_from-index.ensures in
    record {
      expired = λ k d below. unexpired-idle c.args.moment c.args.timeout (get_or goals k d) (idle k d below);
      ends = idle;
    }

pub loop-index-preserved : goal.loop-index-preserved
loop-index-preserved c =
    let goals = c.args.self.now in
    let index = c.loop-index.index in
    let fails = λ (goal : GoalRecord). is_expired c.args.moment (Some c.args.timeout) goal ≡ false in
    let end = λ (first : Option ℕ). (k : ℕ) (d : GoalRecord) → k < index + 1 → EndsFrom first (get_or goals k d) in
    elim c.if-has_ended_at.branch [
      | then-has_ended_at+else-is_expired_at w ↦ record {
        expired = known-next fails goals index (λ d. sym (w.is_expired_at.ensures d) ∙ w.if-is_expired_at.false) c.loop-index.invariant.expired;
        ends = subst end (sym w.first-is) (next-ends goals index c.loop-index.first w.first_with_goal-first.result w.first_with_goal-first.ensures c.loop-index.invariant.ends);
      }
      | else-has_ended_at w ↦ record {
        expired = known-next fails goals index (λ d. unexpired-idle c.args.moment c.args.timeout (get_or goals index d) (sym (c.has_ended_at.ensures d) ∙ w.if-has_ended_at.false)) c.loop-index.invariant.expired;
        ends = subst end (sym w.first-is) (known-next (EndsFrom c.loop-index.first) goals index (λ d. ends-idle c.loop-index.first (get_or goals index d) (sym (c.has_ended_at.ensures d) ∙ w.if-has_ended_at.false)) c.loop-index.invariant.ends);
      }
    ]

pub returns-clause-none : goal.returns-clause-none
returns-clause-none c =
    let test = is_expired c.args.moment (Some c.args.timeout) in
    filter-none test c.args.self.now (list_any_none test c.args.self.now (λ k d within. c.loop-index.invariant.expired k d (omega (arith, within, c.loop-index-test.false, c.len-index-end.ensures.count))))

pub returns-clause-first : goal.returns-clause-first
returns-clause-first c =
    all-ends c.loop-index.first c.args.self.now (λ k d within. c.loop-index.invariant.ends k d (omega (arith, within, c.loop-index-test.false, c.len-index-end.ensures.count)))
