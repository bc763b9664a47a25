-- The return codes of cancel requests.
use Rattle.std.proofs.Common.{◌≡◌, ◌≢◌, ℕ, zero, suc, List, [], ◌∷◌, Bool, true, false, if◌then◌else◌, Option, None, Some, refl, ap}
use Rattle.std.specs.List.{find, list_any}
use Rattle.std.proofs.lemmas.Bool.{not-true, not_from_false, false_from_ne_true, true_from_ne_false}
use Rattle.std.proofs.lemmas.List.Elements.{All-weaker}
use Rattle.std.proofs.lemmas.List.Folds.{list_any_none}
use Rattle.exec_goal.proofs.Answering.{reject_alone}
use Rattle.exec_goal.proofs.Filtering.{filter-none, none-filter, find-none, none-find, All-none}
use Rattle.exec_goal.specs.Cancel.{CancelRequest, Decided, decision_of, accepts, is_acceptance, is_refused, is_moved, moved, code_by, code_of}
use Rattle.exec_goal.specs.LawWords.{AllRefused}
use Rattle.exec_goal.specs.State.{is_terminal}
use Rattle.exec_goal.specs.Table.{GoalRecord, has_id, holds_id}
use Rattle.exec_msg.specs.declared.goal.CancelDecision.TheVariants as cancel_decision
use Rattle.exec_msg.specs.declared.goal.ReturnCode.{ReturnCode}
use Rattle.exec_msg.specs.declared.goal.ReturnCode.TheVariants as code

pub refused_from : (decisions : List Decided) → AllRefused decisions → is_refused decisions ≡ true
refused_from [] refused = absurd (refused.0 refl)
refused_from (decided ∷ others) refused =
    not_from_false (list_any is_acceptance (decided ∷ others))
    (list_any_none is_acceptance (decided ∷ others) (All-weaker (λ decided. decision_of decided ≡ cancel_decision.Reject) (λ decided. is_acceptance decided ≡ false) (λ decided rejects. ap accepts rejects) (decided ∷ others) refused.1))

pub refused_to : (decisions : List Decided) → is_refused decisions ≡ true → AllRefused decisions
refused_to [] refused = absurd cc
refused_to (decided ∷ others) refused = (
  (λ none. cc),
  All-weaker (λ decided. is_acceptance decided ≡ false) (λ decided. decision_of decided ≡ cancel_decision.Reject) (λ decided fails. reject_alone (decision_of decided) fails) (decided ∷ others)
      (All-none is_acceptance (decided ∷ others) (not-true (list_any is_acceptance (decided ∷ others)) refused)),
)

-- not all were refused
unrefused : (decisions : List Decided) → (AllRefused decisions → ⊥) → is_refused decisions ≡ false
unrefused decisions not_all = false_from_ne_true (is_refused decisions) (λ refused. not_all (refused_to decisions refused))

-- the code by its three parts: whether a goal moved, whether all were refused, and the code by the goal that is named
coded : (any refused : Bool) (by wanted : ReturnCode) → any ≡ false → refused ≡ false → by ≡ wanted → (if any then code.None else (if refused then code.Rejected else by)) ≡ wanted
coded any refused by wanted none some same = rw (none, some) same

parts_of : (any refused : Bool) (by wanted : ReturnCode) → code.None ≢ wanted → code.Rejected ≢ wanted → (if any then code.None else (if refused then code.Rejected else by)) ≡ wanted → (any ≡ false) × (refused ≡ false) × (by ≡ wanted)
parts_of true refused by wanted not_none not_rejected is = absurd (not_none is)
parts_of false true by wanted not_none not_rejected is = absurd (not_rejected is)
parts_of false false by wanted not_none not_rejected is = (refl, refl, is)

any_moves : (any refused : Bool) (by : ReturnCode) → by ≢ code.None → (if any then code.None else (if refused then code.Rejected else by)) ≡ code.None → any ≡ true
any_moves true refused by other is = refl
any_moves false true by other is = absurd cc
any_moves false false by other is = absurd (other is)

by_state : (ended : Bool) → (if ended then code.GoalTerminated else code.Rejected) ≢ code.None
by_state true is = cc
by_state false is = cc

by_none : (id : ℕ) (named : Option GoalRecord) → code_by id named ≢ code.None
by_none zero named is = cc
by_none (suc id) None is = cc
by_none (suc id) (Some goal) is = by_state (is_terminal goal.state) is

pub none_to : (request : CancelRequest) (decisions : List Decided) (goals : List GoalRecord) → code_of request decisions goals ≡ code.None → moved decisions goals ≢ []
none_to request decisions goals is none =
    let any : list_any (is_moved decisions) goals ≡ true = any_moves (list_any (is_moved decisions) goals) (is_refused decisions) (code_by request.id (find (has_id request.id) goals)) (by_none request.id (find (has_id request.id) goals)) is in
    let not_any : list_any (is_moved decisions) goals ≡ false = none-filter (is_moved decisions) goals none in
    cc

pub none_from : (request : CancelRequest) (decisions : List Decided) (goals : List GoalRecord) → moved decisions goals ≢ [] → code_of request decisions goals ≡ code.None
none_from request decisions goals some =
    let any : list_any (is_moved decisions) goals ≡ true = true_from_ne_false (list_any (is_moved decisions) goals) (λ none. some (filter-none (is_moved decisions) goals none)) in
    rw any refl

refused_code : (any refused : Bool) (by : ReturnCode) → any ≡ false → refused ≡ true → (if any then code.None else (if refused then code.Rejected else by)) ≡ code.Rejected
refused_code any refused by none all = rw (none, all) refl

pub rejected_from : (request : CancelRequest) (decisions : List Decided) (goals : List GoalRecord) → moved decisions goals ≡ [] → AllRefused decisions → code_of request decisions goals ≡ code.Rejected
rejected_from request decisions goals none refused =
    refused_code (list_any (is_moved decisions) goals) (is_refused decisions) (code_by request.id (find (has_id request.id) goals))
    (none-filter (is_moved decisions) goals none) (refused_from decisions refused)

rejected_by : (any refused : Bool) (by : ReturnCode) → any ≡ false → by ≡ code.Rejected → (if any then code.None else (if refused then code.Rejected else by)) ≡ code.Rejected
rejected_by any true by none is = rw none refl
rejected_by any false by none is = rw none is

pub unnamed_code : (stamp : ℕ) (decisions : List Decided) (goals : List GoalRecord) → moved decisions goals ≡ [] → code_of (record { id = 0; stamp = stamp }) decisions goals ≡ code.Rejected
unnamed_code stamp decisions goals none =
    rejected_by (list_any (is_moved decisions) goals) (is_refused decisions) code.Rejected (none-filter (is_moved decisions) goals none) refl

active_by : (id : ℕ) (named : Option GoalRecord) (goal : GoalRecord) → named ≡ Some goal → is_terminal goal.state ≡ false → code_by id named ≡ code.Rejected
active_by zero named goal is active = refl
active_by (suc id) named goal is active = rw (is, active) refl

pub active_code : (request : CancelRequest) (decisions : List Decided) (goals : List GoalRecord) (goal : GoalRecord) → moved decisions goals ≡ [] → find (has_id request.id) goals ≡ Some goal → is_terminal goal.state ≡ false → code_of request decisions goals ≡ code.Rejected
active_code request decisions goals goal none is active =
    rejected_by (list_any (is_moved decisions) goals) (is_refused decisions) (code_by request.id (find (has_id request.id) goals))
    (none-filter (is_moved decisions) goals none) (active_by request.id (find (has_id request.id) goals) goal is active)

by_unknown : (id : ℕ) (named : Option GoalRecord) → code_by id named ≡ code.UnknownGoalId → (id ≢ 0) × (named ≡ None)
by_unknown zero named is = absurd cc
by_unknown (suc id) None is = ((λ none. cc), refl)
by_unknown (suc id) (Some goal) is = absurd (unknown_state (is_terminal goal.state) is)
  where
    unknown_state : (ended : Bool) → (if ended then code.GoalTerminated else code.Rejected) ≢ code.UnknownGoalId
    unknown_state true is = cc
    unknown_state false is = cc

unknown_by : (id : ℕ) (named : Option GoalRecord) → id ≢ 0 → named ≡ None → code_by id named ≡ code.UnknownGoalId
unknown_by zero named some is = absurd (some refl)
unknown_by (suc id) named some is = rw is refl

pub unknown_to : (request : CancelRequest) (decisions : List Decided) (goals : List GoalRecord) → code_of request decisions goals ≡ code.UnknownGoalId →
    (moved decisions goals ≡ []) × (AllRefused decisions → ⊥) × (request.id ≢ 0) × (holds_id request.id goals ≡ false)
unknown_to request decisions goals is =
    let parts = parts_of (list_any (is_moved decisions) goals) (is_refused decisions) (code_by request.id (find (has_id request.id) goals)) code.UnknownGoalId (λ same. cc) (λ same. cc) is in
    let by = by_unknown request.id (find (has_id request.id) goals) parts.2 in (
      filter-none (is_moved decisions) goals parts.0,
      (λ refused. let all : is_refused decisions ≡ true = refused_from decisions refused in let some : is_refused decisions ≡ false = parts.1 in cc),
      by.0,
      none-find (has_id request.id) goals by.1,
    )

pub unknown_from : (request : CancelRequest) (decisions : List Decided) (goals : List GoalRecord) →
    (moved decisions goals ≡ []) × (AllRefused decisions → ⊥) × (request.id ≢ 0) × (holds_id request.id goals ≡ false) → code_of request decisions goals ≡ code.UnknownGoalId
unknown_from request decisions goals known =
    coded (list_any (is_moved decisions) goals) (is_refused decisions) (code_by request.id (find (has_id request.id) goals)) code.UnknownGoalId
    (none-filter (is_moved decisions) goals known.0) (unrefused decisions known.1)
    (unknown_by request.id (find (has_id request.id) goals) known.2 (find-none (has_id request.id) goals known.3))

by_terminated : (id : ℕ) (named : Option GoalRecord) → code_by id named ≡ code.GoalTerminated → (id ≢ 0) × ((goal : GoalRecord) × (named ≡ Some goal) × (is_terminal goal.state ≡ true))
by_terminated zero named is = absurd cc
by_terminated (suc id) None is = absurd cc
by_terminated (suc id) (Some goal) is = ((λ none. cc), (goal, refl, terminated_state (is_terminal goal.state) is))
  where
    terminated_state : (ended : Bool) → (if ended then code.GoalTerminated else code.Rejected) ≡ code.GoalTerminated → ended ≡ true
    terminated_state true is = refl
    terminated_state false is = absurd cc

terminated_by : (id : ℕ) (named : Option GoalRecord) (goal : GoalRecord) → id ≢ 0 → named ≡ Some goal → is_terminal goal.state ≡ true → code_by id named ≡ code.GoalTerminated
terminated_by zero named goal some is ended = absurd (some refl)
terminated_by (suc id) named goal some is ended = rw (is, ended) refl

pub terminated_to : (request : CancelRequest) (decisions : List Decided) (goals : List GoalRecord) → code_of request decisions goals ≡ code.GoalTerminated →
    (moved decisions goals ≡ []) × (AllRefused decisions → ⊥) × (request.id ≢ 0) × ((goal : GoalRecord) × (find (has_id request.id) goals ≡ Some goal) × (is_terminal goal.state ≡ true))
terminated_to request decisions goals is =
    let parts = parts_of (list_any (is_moved decisions) goals) (is_refused decisions) (code_by request.id (find (has_id request.id) goals)) code.GoalTerminated (λ same. cc) (λ same. cc) is in
    let by = by_terminated request.id (find (has_id request.id) goals) parts.2 in (
      filter-none (is_moved decisions) goals parts.0,
      (λ refused. let all : is_refused decisions ≡ true = refused_from decisions refused in let some : is_refused decisions ≡ false = parts.1 in cc),
      by.0,
      by.1,
    )

pub terminated_from : (request : CancelRequest) (decisions : List Decided) (goals : List GoalRecord) →
    (moved decisions goals ≡ []) × (AllRefused decisions → ⊥) × (request.id ≢ 0) × ((goal : GoalRecord) × (find (has_id request.id) goals ≡ Some goal) × (is_terminal goal.state ≡ true)) →
    code_of request decisions goals ≡ code.GoalTerminated
terminated_from request decisions goals known =
    coded (list_any (is_moved decisions) goals) (is_refused decisions) (code_by request.id (find (has_id request.id) goals)) code.GoalTerminated
    (none-filter (is_moved decisions) goals known.0) (unrefused decisions known.1)
    (terminated_by request.id (find (has_id request.id) goals) known.3.0 known.2 known.3.1 known.3.2)
