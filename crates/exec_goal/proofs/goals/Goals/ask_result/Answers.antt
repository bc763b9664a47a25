use Rattle.std.proofs.Common.{◌∙◌, sym, ap, refl, rules, true, false, w64, to_z-of_z}
use mir.Val.{SFits}
use Rattle.exec_goal.proofs.Entries.{ids_decide, key_test, changed-in, change_first-same, asked-unknown, asked-held, on_err}
use Rattle.exec_goal.specs.Calls.{noted}
use Rattle.exec_goal.specs.inner.Held.{record_of, records_of}
use Rattle.exec_goal.specs.Info.{answer_of}
use Rattle.exec_goal.specs.Table.{GoalRecord, Asked, asked_by}
use Rattle.exec_goal.specs.declared.asked.Asked.TheVariants as answer
use Rattle.exec_goal.proofs.Tallying.{unmoved, tallied-in, tallied-kept}
use Rattle.exec_goal.proofs.goals.Goals.ask_result.Goals as goal

pub returns-in_default-clause-told : goal.returns-in_default-clause-told
returns-in_default-clause-told c =
    sym (ap answer_of (asked-unknown _ c.args.id (key_test _ (λ a b. ids_decide a b) c.args.id) c.self.inside.held.entries c.args.self.now c.self.view_is c.in_default.ensures.value))

pub returns-in_default-clause-noted : goal.returns-in_default-clause-noted
returns-in_default-clause-noted c =
    let asked = asked-unknown _ c.args.id (key_test _ (λ a b. ids_decide a b) c.args.id) c.self.inside.held.entries c.args.self.now c.self.view_is c.in_default.ensures.value in
    ap (λ map. records_of map.entries) c.get_mut.follows.holds-at-none ∙ c.self.view_is ∙ sym (ap (λ (asked : Asked). noted asked c.args.id c.args.asker c.args.self.now) asked)

pub returns-then-is_terminal-clause-told : goal.returns-then-is_terminal-clause-told
returns-then-is_terminal-clause-told c =
    let fits : SFits w64 c.in-Some.goal.now.result = search rules in
    let asked = asked-held _ c.args.id (key_test _ (λ a b. ids_decide a b) c.args.id) true c.in-Some.goal.now c.self.inside.held.entries c.args.self.now c.self.view_is c.in-Some.ensures.value (sym c.is_terminal.ensures ∙ c.if-is_terminal.true) in
    (λ i. answer.Now (c.status.ensures i) (to_z-of_z fits i)) ∙ sym (ap answer_of asked)

pub returns-then-is_terminal-clause-noted : goal.returns-then-is_terminal-clause-noted
returns-then-is_terminal-clause-noted c =
    let asked = asked-held _ c.args.id (key_test _ (λ a b. ids_decide a b) c.args.id) true c.in-Some.goal.now c.self.inside.held.entries c.args.self.now c.self.view_is c.in-Some.ensures.value (sym c.is_terminal.ensures ∙ c.if-is_terminal.true) in
    changed-in _ c.args.id (key_test _ (λ a b. ids_decide a b) c.args.id) (λ (goal : GoalRecord). goal) c.in-Some.goal.now c.in-Some.goal.now refl
    c.self.inside.held.entries (c.get_mut.follows.lender c.in-Some.goal.now).entries c.args.self.now c.self.view_is c.in-Some.ensures.value (c.get_mut.follows.holds c.in-Some.goal.now).0
    ∙ change_first-same c.args.id c.args.self.now ∙ sym (ap (λ (asked : Asked). noted asked c.args.id c.args.asker c.args.self.now) asked)

pub returns-clause-told : goal.returns-clause-told
returns-clause-told c =
    sym (ap answer_of (asked-held _ c.args.id (key_test _ (λ a b. ids_decide a b) c.args.id) false c.in-Some.goal.now c.self.inside.held.entries c.args.self.now c.self.view_is c.in-Some.ensures.value (sym c.is_terminal.ensures ∙ c.if-is_terminal.false)))

pub returns-clause-noted : goal.returns-clause-noted
returns-clause-noted c =
    let goal = record_of (c.args.id, c.in-Some.goal.now) in
    let asked = asked-held _ c.args.id (key_test _ (λ a b. ids_decide a b) c.args.id) false c.in-Some.goal.now c.self.inside.held.entries c.args.self.now c.self.view_is c.in-Some.ensures.value (sym c.is_terminal.ensures ∙ c.if-is_terminal.false) in
    changed-in _ c.args.id (key_test _ (λ a b. ids_decide a b) c.args.id) (asked_by c.args.asker) c.in-Some.goal.now _ (ap (λ askers. record goal { askers = askers }) c.in_ok-push.ensures.ok)
    c.self.inside.held.entries (c.get_mut.follows.lender _).entries c.args.self.now c.self.view_is c.in-Some.ensures.value (c.get_mut.follows.holds _).0
    ∙ sym (ap (λ (asked : Asked). noted asked c.args.id c.args.asker c.args.self.now) asked)

pub returns-in_err-push-clause-memory : goal.returns-in_err-push-clause-memory
returns-in_err-push-clause-memory c =
    let asked = asked-held _ c.args.id (key_test _ (λ a b. ids_decide a b) c.args.id) false c.in-Some.goal.now c.self.inside.held.entries c.args.self.now c.self.view_is c.in-Some.ensures.value (sym c.is_terminal.ensures ∙ c.if-is_terminal.false) in
    search rules

pub returns-in_err-push-clause-unchanged : goal.returns-in_err-push-clause-unchanged
returns-in_err-push-clause-unchanged c =
    let goal = record_of (c.args.id, c.in-Some.goal.now) in
    let kept = changed-in _ c.args.id (key_test _ (λ a b. ids_decide a b) c.args.id) (λ (goal : GoalRecord). goal) c.in-Some.goal.now _ (ap (λ askers. record goal { askers = askers }) c.in_err-push.ensures.unchanged)
    c.self.inside.held.entries (c.get_mut.follows.lender _).entries c.args.self.now c.self.view_is c.in-Some.ensures.value (c.get_mut.follows.holds _).0
    ∙ change_first-same c.args.id c.args.self.now in
    on_err c.from_residual.result kept

pub invariant_of-self-then-is_terminal : goal.invariant_of-self-then-is_terminal
invariant_of-self-then-is_terminal c = tallied-kept _ c.args.id (key_test _ (λ a b. ids_decide a b) c.args.id) c.in-Some.goal.now c.self.inside.held.entries c.in-Some.ensures.value (c.get_mut.follows.lender c.in-Some.goal.now).entries c.self.inside.tally (c.get_mut.follows.holds c.in-Some.goal.now).0 c.self.invariant

pub invariant_of-self-in_err-push : goal.invariant_of-self-in_err-push
invariant_of-self-in_err-push c =
    tallied-in _ c.args.id (key_test _ (λ a b. ids_decide a b) c.args.id) c.in-Some.goal.now c.self.inside.held.entries c.in-Some.ensures.value _ (c.get_mut.follows.lender _).entries c.self.inside.tally (c.get_mut.follows.holds _).0
    (unmoved c.in-Some.goal.now.state c.in-Some.goal.now.ended c.self.inside.tally (sym c.is_terminal.ensures ∙ c.if-is_terminal.false)) refl c.self.invariant

pub invariant_of-self-2 : goal.invariant_of-self-2
invariant_of-self-2 c =
    tallied-in _ c.args.id (key_test _ (λ a b. ids_decide a b) c.args.id) c.in-Some.goal.now c.self.inside.held.entries c.in-Some.ensures.value _ (c.get_mut.follows.lender _).entries c.self.inside.tally (c.get_mut.follows.holds _).0
    (unmoved c.in-Some.goal.now.state c.in-Some.goal.now.ended c.self.inside.tally (sym c.is_terminal.ensures ∙ c.if-is_terminal.false)) refl c.self.invariant
