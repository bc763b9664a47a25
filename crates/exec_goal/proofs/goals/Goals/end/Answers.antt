use Rattle.std.proofs.Common.{refl, ℕ, ◌∙◌, ◌≡◌, sym, ap, subst, rules, None, Some, w64, to_z, of_z, to_z-of_z, List}
use Rattle.std.specs.Option.{unwrap_or}
use mir.Val.{SFits}
use Rattle.exec_goal.proofs.Entries.{ids_decide, key_test, next-in, changed-in, terminal-reached, none-looked, found-there, set-there, set_value_at-same}
use Rattle.exec_goal.specs.Calls.{where_terminal}
use Rattle.exec_goal.specs.State.{after}
use Rattle.exec_goal.specs.Table.{after_end}
use Rattle.exec_goal.specs.declared.held.GoalEntry.{GoalEntry}
use Rattle.exec_goal.specs.inner.Held.{record_of, records_of}
use Rattle.exec_goal.specs.inner.Tally.{IsTallied}
use Rattle.exec_goal.proofs.Tallying.{tallied-fits, counted-at, told-within, tallied-at, never_anew}
use Rattle.exec_goal.proofs.goals.Goals.end.Goals as goal

pub returns-in_default-clause-illegal : goal.returns-in_default-clause-illegal
returns-in_default-clause-illegal c =
    ap where_terminal (next-in _ c.args.id (key_test _ (λ a b. ids_decide a b) c.args.id) c.args.event c.self.inside.held.entries c.args.self.now None c.self.view_is (none-looked _ c.self.inside.held.entries c.in_default.ensures.found))

pub invariant_of-self : goal.invariant_of-self
invariant_of-self c =
    let entry : ℕ × GoalEntry = (c.pair_mut-goal.result.0.now, c.pair_mut-goal.result.1.now) in
    subst (λ (entries : List (ℕ × GoalEntry)). IsTallied c.self.inside.tally (records_of entries)) (sym (set_value_at-same c.self.inside.held.entries c.in-Some.place entry c.pair_mut-goal.ensures.value)) c.self.invariant

pub returns-in_default-end-clause-illegal : goal.returns-in_default-end-clause-illegal
returns-in_default-end-clause-illegal c =
    let entry : ℕ × GoalEntry = (c.pair_mut-goal.result.0.now, c.pair_mut-goal.result.1.now) in
    ap where_terminal (next-in _ c.args.id (key_test _ (λ a b. ids_decide a b) c.args.id) c.args.event c.self.inside.held.entries c.args.self.now (Some entry.1) c.self.view_is
    (found-there _ c.self.inside.held.entries c.in-Some.place entry c.in-Some.ensures.index c.pair_mut-goal.ensures.value))
    ∙ sym c.in_default-end.ensures

pub returns-in_default-end-clause-unchanged : goal.returns-in_default-end-clause-unchanged
returns-in_default-end-clause-unchanged c =
    let entry : ℕ × GoalEntry = (c.pair_mut-goal.result.0.now, c.pair_mut-goal.result.1.now) in
    ap records_of (set_value_at-same c.self.inside.held.entries c.in-Some.place entry c.pair_mut-goal.ensures.value) ∙ c.self.view_is

pub returns-clause-state : goal.returns-clause-state
returns-clause-state c =
    let entry : ℕ × GoalEntry = (c.pair_mut-goal.result.0.now, c.pair_mut-goal.result.1.now) in
    ap where_terminal (next-in _ c.args.id (key_test _ (λ a b. ids_decide a b) c.args.id) c.args.event c.self.inside.held.entries c.args.self.now (Some entry.1) c.self.view_is
    (found-there _ c.self.inside.held.entries c.in-Some.place entry c.in-Some.ensures.index c.pair_mut-goal.ensures.value))
    ∙ sym c.in-Some-end.ensures

pub returns-clause-ended : goal.returns-clause-ended
returns-clause-ended c =
    let entry : ℕ × GoalEntry = (c.pair_mut-goal.result.0.now, c.pair_mut-goal.result.1.now) in
    let fits : SFits w64 c.args.value = search rules in
    let goal = record_of (c.args.id, entry.1) in
    let reached = terminal-reached (after entry.1.state c.args.event) c.in-Some-end.next c.in-Some-end.ensures in
    let changes : record goal { state = c.in-Some-end.next; result = to_z w64 (of_z w64 c.args.value); ended = c.args.moment } ≡ after_end c.args.event c.args.value c.args.moment goal =
    (λ i. record goal { state = unwrap_or (sym reached i) goal.state; result = to_z-of_z fits i; ended = c.args.moment }) in
    changed-in _ c.args.id (key_test _ (λ a b. ids_decide a b) c.args.id) (after_end c.args.event c.args.value c.args.moment) entry.1 _ changes
    c.self.inside.held.entries _ c.args.self.now c.self.view_is
    (found-there _ c.self.inside.held.entries c.in-Some.place entry c.in-Some.ensures.index c.pair_mut-goal.ensures.value)
    (set-there _ c.self.inside.held.entries c.in-Some.place entry c.in-Some.ensures.index c.pair_mut-goal.ensures.value _)

pub count_move-requires-clause-counted : goal.count_move-requires-clause-counted
count_move-requires-clause-counted c =
    let entry : ℕ × GoalEntry = (c.pair_mut-goal.result.0.now, c.pair_mut-goal.result.1.now) in
    counted-at c.self.inside.held.entries c.in-Some.place entry c.pair_mut-goal.ensures.value c.self.inside.tally c.self.invariant

pub count_move-requires-clause-fits : goal.count_move-requires-clause-fits
count_move-requires-clause-fits c = tallied-fits c.self.inside.tally (records_of c.self.inside.held.entries) c.self.invariant

pub count_move-requires-clause-told : goal.count_move-requires-clause-told
count_move-requires-clause-told c =
    let entry : ℕ × GoalEntry = (c.pair_mut-goal.result.0.now, c.pair_mut-goal.result.1.now) in
    told-within c.self.inside.held.entries c.in-Some.place entry c.pair_mut-goal.ensures.value c.self.inside.tally c.self.invariant

pub invariant_of-self-2 : goal.invariant_of-self-2
invariant_of-self-2 c =
    let entry : ℕ × GoalEntry = (c.pair_mut-goal.result.0.now, c.pair_mut-goal.result.1.now) in
    tallied-at c.self.inside.held.entries c.in-Some.place entry c.pair_mut-goal.ensures.value _ c.self.inside.tally c.count_move.new.self (λ _. never_anew entry.1.state c.args.event c.in-Some-end.next (terminal-reached (after entry.1.state c.args.event) c.in-Some-end.next c.in-Some-end.ensures)) c.count_move.ensures.ended c.count_move.ensures.counts c.count_move.ensures.tells refl c.self.invariant
