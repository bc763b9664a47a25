-- Which goals an answer to a cancel request moves.
use Rattle.std.proofs.Common.{◌≡◌, ◌⊎◌, inl, inr, ℕ, ◌+◌, ◌<◌, ◌==◌, List, [], ◌∷◌, length, map, take, Bool, true, false, ◌&&◌, ◌||◌, if◌then◌else◌, refl, ap, sym, subst, ◌∙◌, get_or, arith}
use Rattle.std.specs.List.{All, Any, Contains}
use Rattle.std.proofs.lemmas.Bool.{and_parts, and_from, eqb-true, eq-eqb}
use Rattle.std.proofs.lemmas.List.{length-map, get_or-map, get_or_default}
use Rattle.std.proofs.lemmas.List.Elements.{filter_passes, All-weaker}
use Rattle.std.proofs.lemmas.List.Folds.{Any-from_list_any, list_any-from_Any, list_any_more}
use Rattle.exec_goal.specs.Cancel.{CancelRequest, Decided, decided_goal, decision_of, accepts, is_acceptance, is_accepted_for, candidates, is_moved, moved, table_after}
use Rattle.exec_goal.specs.State.{is_cancelable}
use Rattle.exec_goal.specs.Table.{GoalRecord, after_event}
use Rattle.exec_goal.specs.declared.state.State.{State}
use Rattle.exec_goal.specs.declared.state.State.TheVariants as state
use Rattle.exec_msg.specs.declared.goal.CancelDecision.{CancelDecision}
use Rattle.exec_msg.specs.declared.goal.CancelDecision.TheVariants as cancel_decision
use Rattle.exec_msg.specs.declared.goal.Event.TheVariants as event

pub cancelable_to : (held : State) → is_cancelable held ≡ true → (held ≡ state.Accepted) ⊎ (held ≡ state.Executing)
cancelable_to state.Accepted is = inl refl
cancelable_to state.Executing is = inr refl
cancelable_to _ is = absurd cc

pub cancelable_from : (held : State) → (held ≡ state.Accepted) ⊎ (held ≡ state.Executing) → is_cancelable held ≡ true
cancelable_from held (inl is) = ap is_cancelable is
cancelable_from held (inr is) = ap is_cancelable is

-- one decision accepts, and the other rejects
pub accept_alone : (made : CancelDecision) → accepts made ≡ true → made ≡ cancel_decision.Accept
accept_alone cancel_decision.Reject is = absurd cc
accept_alone cancel_decision.Accept is = refl

pub reject_alone : (made : CancelDecision) → accepts made ≡ false → made ≡ cancel_decision.Reject
reject_alone cancel_decision.Reject is = refl
reject_alone cancel_decision.Accept is = absurd cc

-- a goal is accepted for cancelling where a decision that accepts names it
pub accepted_to : (decisions : List Decided) (id : ℕ) → is_accepted_for decisions id ≡ true → Contains decisions (id, cancel_decision.Accept)
accepted_to decisions id is =
    let found = Any-from_list_any (λ (decided : Decided). (decided_goal decided == id) && is_acceptance decided) decisions is in
    let parts = and_parts (decided_goal found.1 == id) (is_acceptance found.1) found.4 in
    let same : found.1 ≡ (id, cancel_decision.Accept) = λ i. (eqb-true (decided_goal found.1) id parts.0 i, accept_alone (decision_of found.1) parts.1 i) in
    (found.0, found.2, get_or_default decisions found.0 (id, cancel_decision.Accept) found.1 found.2 ∙ found.3 ∙ same)

pub accepted_from : (decisions : List Decided) (id : ℕ) → Contains decisions (id, cancel_decision.Accept) → is_accepted_for decisions id ≡ true
accepted_from decisions id has =
    list_any-from_Any (λ (decided : Decided). (decided_goal decided == id) && is_acceptance decided) decisions
    (has.0, (id, cancel_decision.Accept), has.1, has.2, and_from (id == id) true (eq-eqb id id refl) refl)

-- by one more decision, of which it is known whether it accepts
pub accepted_next : (decisions : List Decided) (n : ℕ) (decided : Decided) (b : Bool) (id : ℕ) → n < length decisions → decided ≡ get_or decisions n decided → is_acceptance decided ≡ b →
    is_accepted_for (take (n + 1) decisions) id ≡ (is_accepted_for (take n decisions) id || ((decided_goal decided == id) && b))
accepted_next decisions n decided b id within is test =
    list_any_more (λ (one : Decided). (decided_goal one == id) && is_acceptance one) decisions n decided within
    ∙ ap (λ (one : Decided). is_accepted_for (take n decisions) id || ((decided_goal one == id) && is_acceptance one)) (sym is)
    ∙ ap (λ (c : Bool). is_accepted_for (take n decisions) id || ((decided_goal decided == id) && c)) test

-- an answer leaves a goal's identifier
answered_id : (test : Bool) (goal : GoalRecord) → (if test then after_event event.CancelGoal goal else goal).id ≡ goal.id
answered_id true goal = refl
answered_id false goal = refl

pub table-ids : (decisions : List Decided) (goals : List GoalRecord) → map (λ goal. goal.id) (table_after decisions goals) ≡ map (λ goal. goal.id) goals
table-ids decisions [] = refl
table-ids decisions (goal ∷ goals) =
    ap (λ id. id ∷ map (λ goal. goal.id) (table_after decisions goals)) (answered_id (is_moved decisions goal) goal)
    ∙ ap (λ ids. goal.id ∷ ids) (table-ids decisions goals)

-- a number that a function gives at an element of a list is one of those that it gives
Contains-map : {X : Type 0} (f : X → ℕ) (xs : List X) (x : X) → Contains xs x → Contains (map f xs) (f x)
Contains-map f xs x has =
    (has.0, (omega (arith, length-map xs f, has.1)), get_or-map f xs has.0 x (f x) has.1 ∙ ap f has.2)

-- a number that a function gives somewhere is given by an element
Any-map : {X : Type 0} (f : X → ℕ) (xs : List X) (n : ℕ) (d : X) → Contains (map f xs) n → Any (λ x. f x ≡ n) xs
Any-map f xs n d has =
    let below : has.0 < length xs = omega (arith, length-map xs f, has.1) in
    (has.0, get_or xs has.0 d, below, get_or_default xs has.0 (get_or xs has.0 d) d below, sym (get_or-map f xs has.0 d n below) ∙ has.2)

-- where the decisions are on the candidates of a request, each goal that moves has the identifier of a candidate
pub moved_among : (request : CancelRequest) (decisions : List Decided) (before goals : List GoalRecord) →
    map decided_goal decisions ≡ map (λ goal. goal.id) (candidates request before) →
    All (λ goal. Any (λ candidate. candidate.id ≡ goal.id) (candidates request before)) (moved decisions goals)
moved_among request decisions before goals same =
    All-weaker (λ goal. is_moved decisions goal ≡ true) (λ goal. Any (λ candidate. candidate.id ≡ goal.id) (candidates request before))
    (λ goal moves.
    let accepted = accepted_to decisions goal.id (and_parts (is_accepted_for decisions goal.id) (is_cancelable goal.state) moves).0 in
    Any-map (λ goal. goal.id) (candidates request before) goal.id goal
    (subst (λ ids. Contains ids goal.id) same (Contains-map decided_goal decisions (goal.id, cancel_decision.Accept) accepted)))
    (moved decisions goals) (filter_passes (is_moved decisions) goals)
