-- What a server forgets, and what it executes.
use Rattle.std.proofs.Common.{◌≡◌, ℕ, ◌<◌, ◌==◌, ◌||◌, List, [], ◌∷◌, map, length, drop, get_or, Bool, true, false, not, cond, if◌then◌else◌, Option, None, Some, IfNone, Result, Ok, Err, OnOk, OnErr, refl, ap, sym, subst, ◌∙◌, arith}
use Rattle.std.specs.List.{find, filter, list_any}
use Rattle.std.specs.Option.{option_map, unwrap_or}
use Rattle.std.proofs.lemmas.Bool.{both_ways, eqb-false, eq-eqb, ne_eqb, or_parts, or_from, or_left, or_right}
use Rattle.exec_goal.specs.Calls.{next_state, moved_to}
use Rattle.exec_goal.specs.inner.Ids.{is_among}
use Rattle.exec_goal.specs.State.{after}
use Rattle.exec_goal.specs.Table.{GoalRecord, has_id, holds_id, after_event, is_expired, expired, unexpired}
use Rattle.exec_goal.specs.declared.state.State.{State}
use Rattle.exec_msg.specs.declared.goal.Event.{Event}
use Rattle.exec_msg.specs.declared.goal.Event.TheVariants as event
use Rattle.exec_msg.specs.Lists.{change_first, drop_first}
use Rattle.exec_entity.proofs.Serving.{goal_ids, kept_ids, among-goals}
use Rattle.exec_rules.proofs.Keeping.{ids_changed}
use Rattle.exec_rules.specs.Transcript.{expire_lines, server_expired}
use Rattle.exec_msg.specs.declared.line.Line.TheVariants as line
use Rattle.exec_goal.proofs.Filtering.{filter-none, none-find}
use Rattle.exec_rules.specs.World.{Handler, HeldGoal, ServerEntry, records_of}
use Rattle.exec_entity.specs.inner.Server.{Kept, all_joined, is_kept_for, joined}
use Rattle.exec_entity.specs.inner.Keeping.{AreDistinct, AreKept, executed}

-- ---- a goal is moved by an event

unmoved_by : (by : Event) (b : Bool) (goal : GoalRecord) (goals changed : List GoalRecord) (found : Option GoalRecord) → moved_to by (option_map (λ goal. goal.state) (cond b (Some goal) found)) ≡ None →
    (moved_to by (option_map (λ goal. goal.state) found) ≡ None → changed ≡ goals) → (if b then after_event by goal ∷ goals else goal ∷ changed) ≡ goal ∷ goals
unmoved_by by true goal goals changed found none others = ap (λ reached. record goal { state = unwrap_or reached goal.state } ∷ goals) none
unmoved_by by false goal goals changed found none others = ap (λ goals. goal ∷ goals) (others none)

-- where there is no transition no goal changes
unmoved : (id : ℕ) (by : Event) (goals : List GoalRecord) → next_state id by goals ≡ None → change_first (has_id id) (after_event by) goals ≡ goals
unmoved id by [] none = refl
unmoved id by (goal ∷ goals) none = unmoved_by by (has_id id goal) goal goals (change_first (has_id id) (after_event by) goals) (find (has_id id) goals) none (unmoved id by goals)

-- goals after an event, whether there is such a transition or not
pub applied : {E : Type 0} (id : ℕ) (by : Event) (goals left : List GoalRecord) (r : Result State E) → OnOk r (left ≡ change_first (has_id id) (after_event by) goals) → OnErr r (next_state id by goals ≡ None) → OnErr r (left ≡ goals) →
    left ≡ change_first (has_id id) (after_event by) goals
applied id by goals left (Ok state) moved illegal refused = moved
applied id by goals left (Err fault) moved illegal refused = refused ∙ sym (unmoved id by goals illegal)

executed_by : (found : Option GoalRecord) (id : ℕ) (goals : List GoalRecord) → Some id ≡ option_map (λ goal. goal.id) found → executed found goals ≡ change_first (has_id id) (after_event event.Execute) goals
executed_by None id goals is = absurd cc
executed_by (Some goal) id goals is =
    let same : goal.id ≡ id = cc in
    ap (λ id. change_first (has_id id) (after_event event.Execute) goals) same

pub executed-ids : (found : Option GoalRecord) (goals : List GoalRecord) → goal_ids (executed found goals) ≡ goal_ids goals
executed-ids None goals = refl
executed-ids (Some goal) goals = ids_changed goal.id (after_event event.Execute) (λ one. refl) goals

-- the goal that was found is executed
pub executed-found : (found : Option GoalRecord) (id : ℕ) (goals left : List GoalRecord) → Some id ≡ option_map (λ goal. goal.id) found → left ≡ change_first (has_id id) (after_event event.Execute) goals → left ≡ executed found goals
executed-found found id goals left is moved = moved ∙ sym (executed_by found id goals is)

-- ---- goals that are forgotten

not_among : (ids : List ℕ) (a b : ℕ) → is_among ids a ≡ true → is_among ids b ≡ false → (b == a) ≡ false
not_among ids a b is none = ne_eqb b a (λ same. both_ways (is_among ids a) (ap (is_among ids) (sym same) ∙ none) is)

-- a goal that is found is among the goals
among-found : (test : GoalRecord → Bool) (goals : List GoalRecord) (id : ℕ) → Some id ≡ option_map (λ goal. goal.id) (find test goals) → is_among (goal_ids goals) id ≡ true
among-found test [] id is = absurd cc
among-found test (goal ∷ goals) id is = by (test goal) is (among-found test goals id)
  where
    by : (b : Bool) → Some id ≡ option_map (λ goal. goal.id) (cond b (Some goal) (find test goals)) → (Some id ≡ option_map (λ goal. goal.id) (find test goals) → is_among (goal_ids goals) id ≡ true) →
        ((goal.id == id) || is_among (goal_ids goals) id) ≡ true
    by true is others = or_left (goal.id == id) (is_among (goal_ids goals) id) (eq-eqb goal.id id cc)
    by false is others = or_right (goal.id == id) (is_among (goal_ids goals) id) (others is)

among-dropped : (test : GoalRecord → Bool) (goals : List GoalRecord) (id : ℕ) → is_among (goal_ids goals) id ≡ false → is_among (goal_ids (drop_first test goals)) id ≡ false
among-dropped test [] id none = none
among-dropped test (goal ∷ goals) id none =
    let parts = or_parts (goal.id == id) (is_among (goal_ids goals) id) none in
    by (test goal) parts.0 parts.1 (among-dropped test goals id parts.1)
  where
    by : (b : Bool) → (goal.id == id) ≡ false → is_among (goal_ids goals) id ≡ false → is_among (goal_ids (drop_first test goals)) id ≡ false → is_among (goal_ids (if b then goals else goal ∷ drop_first test goals)) id ≡ false
    by true here none others = none
    by false here none others = or_from (goal.id == id) (is_among (goal_ids (drop_first test goals)) id) here others

distinct-dropped : (test : GoalRecord → Bool) (goals : List GoalRecord) → AreDistinct (goal_ids goals) → AreDistinct (goal_ids (drop_first test goals))
distinct-dropped test [] distinct = distinct
distinct-dropped test (goal ∷ goals) distinct = by (test goal) (distinct-dropped test goals distinct.1)
  where
    by : (b : Bool) → AreDistinct (goal_ids (drop_first test goals)) → AreDistinct (goal_ids (if b then goals else goal ∷ drop_first test goals))
    by true others = distinct.1
    by false others = (among-dropped test goals goal.id distinct.0, others)

-- what is kept beside the goal that is dropped is dropped with it
ids-dropped : (test : GoalRecord → Bool) (goals : List GoalRecord) (held : List Kept) (id : ℕ) → Some id ≡ option_map (λ goal. goal.id) (find test goals) → goal_ids goals ≡ kept_ids held → AreDistinct (goal_ids goals) →
    goal_ids (drop_first test goals) ≡ kept_ids (drop_first (is_kept_for id) held)
ids-dropped test [] held id is same distinct = absurd cc
ids-dropped test (goal ∷ goals) [] id is same distinct = absurd cc
ids-dropped test (goal ∷ goals) (one ∷ held) id is same distinct = by (test goal) (is_kept_for id one) is refl (ids-dropped test goals held id)
  where
    first : goal.id ≡ one.id
    first = ap (λ ids. get_or ids 0 0) same

    rest : goal_ids goals ≡ kept_ids held
    rest = ap (drop 1) same

    by : (b e : Bool) → Some id ≡ option_map (λ goal. goal.id) (cond b (Some goal) (find test goals)) → is_kept_for id one ≡ e →
        (Some id ≡ option_map (λ goal. goal.id) (find test goals) → goal_ids goals ≡ kept_ids held → AreDistinct (goal_ids goals) → goal_ids (drop_first test goals) ≡ kept_ids (drop_first (is_kept_for id) held)) →
        goal_ids (if b then goals else goal ∷ drop_first test goals) ≡ kept_ids (if e then held else one ∷ drop_first (is_kept_for id) held)
    by true true is named others = rest
    by false false is named others = (λ i. first i ∷ others is rest distinct.1 i)
    by true false is named others =
        let same : goal.id ≡ id = cc in
        absurd (both_ways (is_kept_for id one) named (eq-eqb one.id id (sym first ∙ same)))
    by false true is named others =
        absurd (both_ways (is_kept_for id one) (ap (λ (key : ℕ). key == id) (sym first) ∙ not_among (goal_ids goals) id goal.id (among-found test goals id is) distinct.0) named)

-- all that is left is kept
pub kept-dropped : (test : GoalRecord → Bool) (goals after : List GoalRecord) (held left : List Kept) (id : ℕ) → Some id ≡ option_map (λ goal. goal.id) (find test goals) → after ≡ drop_first test goals → left ≡ drop_first (is_kept_for id) held →
    AreKept goals held → AreKept after left
kept-dropped test goals after held left id is drops others kept = rw (drops, others) (record {
  same = ids-dropped test goals held id is kept.same kept.distinct;
  distinct = distinct-dropped test goals kept.distinct;
})

holds-filter : (test : GoalRecord → Bool) (goals : List GoalRecord) (id : ℕ) → is_among (goal_ids goals) id ≡ false → holds_id id (filter test goals) ≡ false
holds-filter test [] id none = refl
holds-filter test (goal ∷ goals) id none =
    let parts = or_parts (goal.id == id) (is_among (goal_ids goals) id) none in
    by (test goal) parts.0 (holds-filter test goals id parts.1)
  where
    by : (b : Bool) → (goal.id == id) ≡ false → holds_id id (filter test goals) ≡ false → holds_id id (cond b (goal ∷ filter test goals) (filter test goals)) ≡ false
    by true here others = or_from (goal.id == id) (holds_id id (filter test goals)) here others
    by false here others = others

-- what is left of the goals of which the first that passes is dropped, with what is kept beside it
dropped-joined : (test : GoalRecord → Bool) (goals : List GoalRecord) (kept : List Kept) (id : ℕ) → Some id ≡ option_map (λ goal. goal.id) (find test goals) → goal_ids goals ≡ kept_ids kept → AreDistinct (goal_ids goals) →
    all_joined (drop_first test goals) (drop_first (is_kept_for id) kept) ≡ drop_first (λ (held : HeldGoal). test held.goal) (all_joined goals kept)
dropped-joined test [] kept id is same distinct = absurd cc
dropped-joined test (goal ∷ goals) [] id is same distinct = absurd cc
dropped-joined test (goal ∷ goals) (one ∷ kept) id is same distinct = by (test goal) (is_kept_for id one) is refl (dropped-joined test goals kept id)
  where
    first : goal.id ≡ one.id
    first = ap (λ ids. get_or ids 0 0) same

    rest : goal_ids goals ≡ kept_ids kept
    rest = ap (drop 1) same

    by : (b e : Bool) → Some id ≡ option_map (λ goal. goal.id) (cond b (Some goal) (find test goals)) → is_kept_for id one ≡ e →
        (Some id ≡ option_map (λ goal. goal.id) (find test goals) → goal_ids goals ≡ kept_ids kept → AreDistinct (goal_ids goals) → all_joined (drop_first test goals) (drop_first (is_kept_for id) kept) ≡ drop_first (λ (held : HeldGoal). test held.goal) (all_joined goals kept)) →
        all_joined (if b then goals else goal ∷ drop_first test goals) (if e then kept else one ∷ drop_first (is_kept_for id) kept) ≡ (if b then all_joined goals kept else joined goal one ∷ drop_first (λ (held : HeldGoal). test held.goal) (all_joined goals kept))
    by true true is named others = refl
    by false false is named others = ap (λ (behind : List HeldGoal). joined goal one ∷ behind) (others is rest distinct.1)
    by true false is named others =
        let same : goal.id ≡ id = cc in
        absurd (both_ways (is_kept_for id one) named (eq-eqb one.id id (sym first ∙ same)))
    by false true is named others =
        absurd (both_ways (is_kept_for id one) (ap (λ (key : ℕ). key == id) (sym first) ∙ not_among (goal_ids goals) id goal.id (among-found test goals id is) distinct.0) named)

-- what doesn't pass stays, whether or not the first that passes is dropped before
left-dropped : {A : Type 0} (test : A → Bool) (xs : List A) → filter (λ x. not (test x)) (drop_first test xs) ≡ filter (λ x. not (test x)) xs
left-dropped test [] = refl
left-dropped {A} test (x ∷ xs) = by (test x) refl (left-dropped test xs)
  where
    by : (b : Bool) → test x ≡ b → filter (λ x. not (test x)) (drop_first test xs) ≡ filter (λ x. not (test x)) xs → filter (λ x. not (test x)) (drop_first test (x ∷ xs)) ≡ filter (λ x. not (test x)) (x ∷ xs)
    by true e others = rw e refl
    by false e others = rw (e, e) (ap (λ (rest : List A). x ∷ rest) others)

-- a server after one goal that it forgets is dropped
pub forgets-dropped : (moment : ℕ) (handler : Handler) (timeout : Option ℕ) (goals after : List GoalRecord) (kept left : List Kept) (id limit : ℕ) → timeout ≡ Some limit → Some id ≡ option_map (λ goal. goal.id) (find (is_expired moment (Some limit)) goals) →
    after ≡ drop_first (is_expired moment (Some limit)) goals → left ≡ drop_first (is_kept_for id) kept → AreKept goals kept →
    server_expired moment (record { handler = handler; timeout = timeout; held = all_joined after left }) ≡ server_expired moment (record { handler = handler; timeout = timeout; held = all_joined goals kept })
forgets-dropped moment handler timeout goals after kept left id limit lasts is drops others all =
    rw (lasts, drops, others) (ap (λ (held : List HeldGoal). record { handler = handler; timeout = Some limit; held = held })
    (ap (filter (λ (held : HeldGoal). not (is_expired moment (Some limit) held.goal))) (dropped-joined (is_expired moment (Some limit)) goals kept id is all.same all.distinct)
    ∙ left-dropped (λ (held : HeldGoal). is_expired moment (Some limit) held.goal) (all_joined goals kept)))

-- what is kept for other identifiers stays, whether or not this one does
kept-apart : (id : ℕ) (test : ℕ → Bool) (held : List Kept) → is_among (kept_ids held) id ≡ false → filter (λ one. (id == one.id) || test one.id) held ≡ filter (λ one. test one.id) held
kept-apart id test [] none = refl
kept-apart id test (one ∷ held) none =
    let parts = or_parts (one.id == id) (is_among (kept_ids held) id) none in
    let apart : (id == one.id) ≡ false = ne_eqb id one.id (λ same. eqb-false one.id id parts.0 (sym same)) in
    let behind = filter (λ one. (id == one.id) || test one.id) held in
    ap (λ (b : Bool). cond (b || test one.id) (one ∷ behind) behind) apart
    ∙ ap (λ (rest : List Kept). cond (test one.id) (one ∷ rest) rest) (kept-apart id test held parts.1)

module _ (test : GoalRecord → Bool) where
  -- what is kept beside the goals that stay stays
  ids-filtered : (goals : List GoalRecord) (held : List Kept) → goal_ids goals ≡ kept_ids held → AreDistinct (goal_ids goals) → goal_ids (filter test goals) ≡ kept_ids (filter (λ one. holds_id one.id (filter test goals)) held)
  ids-filtered [] [] same distinct = refl
  ids-filtered [] (one ∷ held) same distinct = absurd cc
  ids-filtered (goal ∷ goals) [] same distinct = absurd cc
  ids-filtered (goal ∷ goals) (one ∷ held) same distinct = by (test goal) (ids-filtered goals held rest distinct.1)
    where
      first : goal.id ≡ one.id
      first = ap (λ ids. get_or ids 0 0) same

      rest : goal_ids goals ≡ kept_ids held
      rest = ap (drop 1) same

      left : List GoalRecord
      left = filter test goals

      by : (b : Bool) → goal_ids left ≡ kept_ids (filter (λ one. holds_id one.id left) held) →
          goal_ids (cond b (goal ∷ left) left) ≡ kept_ids (filter (λ one. holds_id one.id (cond b (goal ∷ left) left)) (one ∷ held))
      by true others =
          let behind = filter (λ (other : Kept). (goal.id == other.id) || holds_id other.id left) held in
          let here : ((goal.id == one.id) || holds_id one.id left) ≡ true = or_left (goal.id == one.id) (holds_id one.id left) (eq-eqb goal.id one.id first) in
          (λ i. first i ∷ (others ∙ ap kept_ids (sym (kept-apart goal.id (λ id. holds_id id left) held (ap (λ ids. is_among ids goal.id) (sym rest) ∙ distinct.0)))) i)
          ∙ sym (ap (λ (b : Bool). kept_ids (cond b (one ∷ behind) behind)) here)
      by false others =
          let behind = filter (λ (other : Kept). holds_id other.id left) held in
          let gone : holds_id one.id left ≡ false = holds-filter test goals one.id (ap (is_among (goal_ids goals)) (sym first) ∙ distinct.0) in
          others ∙ sym (ap (λ (b : Bool). kept_ids (cond b (one ∷ behind) behind)) gone)

  distinct-filtered : (goals : List GoalRecord) → AreDistinct (goal_ids goals) → AreDistinct (goal_ids (filter test goals))
  distinct-filtered [] distinct = distinct
  distinct-filtered (goal ∷ goals) distinct = by (test goal) (distinct-filtered goals distinct.1)
    where
      by : (b : Bool) → AreDistinct (goal_ids (filter test goals)) → AreDistinct (goal_ids (cond b (goal ∷ filter test goals) (filter test goals)))
      by true others = (among-goals goal.id (filter test goals) ∙ holds-filter test goals goal.id distinct.0, others)
      by false others = others

  -- all that is left is kept
  pub kept-filtered : (goals after : List GoalRecord) (held left : List Kept) → after ≡ filter test goals → left ≡ filter (λ one. holds_id one.id after) held → AreKept goals held → AreKept after left
  kept-filtered goals after held left are stays kept =
      let others : left ≡ filter (λ one. holds_id one.id (filter test goals)) held = stays ∙ ap (λ (goals : List GoalRecord). filter (λ (one : Kept). holds_id one.id goals) held) are in
      rw (are, others) (record {
        same = ids-filtered goals held kept.same kept.distinct;
        distinct = distinct-filtered goals kept.distinct;
      })

-- and the goals that are left
filtered-joined : (test : GoalRecord → Bool) (goals : List GoalRecord) (kept : List Kept) → goal_ids goals ≡ kept_ids kept → AreDistinct (goal_ids goals) →
    all_joined (filter test goals) (filter (λ one. holds_id one.id (filter test goals)) kept) ≡ filter (λ (held : HeldGoal). test held.goal) (all_joined goals kept)
filtered-joined test [] [] same distinct = refl
filtered-joined test [] (one ∷ kept) same distinct = absurd cc
filtered-joined test (goal ∷ goals) [] same distinct = absurd cc
filtered-joined test (goal ∷ goals) (one ∷ kept) same distinct = by (test goal) (filtered-joined test goals kept rest distinct.1)
  where
    first : goal.id ≡ one.id
    first = ap (λ ids. get_or ids 0 0) same

    rest : goal_ids goals ≡ kept_ids kept
    rest = ap (drop 1) same

    left : List GoalRecord
    left = filter test goals

    by : (b : Bool) → all_joined left (filter (λ one. holds_id one.id left) kept) ≡ filter (λ (held : HeldGoal). test held.goal) (all_joined goals kept) →
        all_joined (cond b (goal ∷ left) left) (filter (λ one. holds_id one.id (cond b (goal ∷ left) left)) (one ∷ kept)) ≡ cond b (joined goal one ∷ filter (λ (held : HeldGoal). test held.goal) (all_joined goals kept)) (filter (λ (held : HeldGoal). test held.goal) (all_joined goals kept))
    by true others =
        let behind = filter (λ (other : Kept). (goal.id == other.id) || holds_id other.id left) kept in
        let here : ((goal.id == one.id) || holds_id one.id left) ≡ true = or_left (goal.id == one.id) (holds_id one.id left) (eq-eqb goal.id one.id first) in
        ap (λ (b : Bool). all_joined (goal ∷ left) (cond b (one ∷ behind) behind)) here
        ∙ ap (λ (kept : List Kept). joined goal one ∷ all_joined left kept) (kept-apart goal.id (λ id. holds_id id left) kept (ap (λ ids. is_among ids goal.id) (sym rest) ∙ distinct.0))
        ∙ ap (λ (behind : List HeldGoal). joined goal one ∷ behind) others
    by false others =
        let behind = filter (λ (other : Kept). holds_id other.id left) kept in
        let gone : holds_id one.id left ≡ false = holds-filter test goals one.id (ap (is_among (goal_ids goals)) (sym first) ∙ distinct.0) in
        ap (λ (b : Bool). all_joined left (cond b (one ∷ behind) behind)) gone ∙ others

-- a server that forgets goals keeps the others, with what is kept beside them
pub forgotten : (moment : ℕ) (handler : Handler) (timeout : Option ℕ) (goals after : List GoalRecord) (kept left : List Kept) (limit : ℕ) → timeout ≡ Some limit → after ≡ unexpired moment (Some limit) goals → left ≡ filter (λ one. holds_id one.id after) kept → AreKept goals kept →
    record { handler = handler; timeout = timeout; held = all_joined after left } ≡ server_expired moment (record { handler = handler; timeout = timeout; held = all_joined goals kept })
forgotten moment handler timeout goals after kept left limit lasts are stays all =
    let others : left ≡ filter (λ one. holds_id one.id (unexpired moment (Some limit) goals)) kept = stays ∙ ap (λ (goals : List GoalRecord). filter (λ (one : Kept). holds_id one.id goals) kept) are in
    rw (lasts, are, others) (ap (λ (held : List HeldGoal). record { handler = handler; timeout = Some limit; held = held }) (filtered-joined (λ goal. not (is_expired moment (Some limit) goal)) goals kept all.same all.distinct))

none-left : (test : GoalRecord → Bool) (held : List HeldGoal) → list_any test (records_of held) ≡ false → filter (λ (one : HeldGoal). not (test one.goal)) held ≡ held
none-left test [] none = refl
none-left test (one ∷ held) none =
    let parts = or_parts (test one.goal) (list_any test (records_of held)) none in
    by (test one.goal) parts.0 (none-left test held parts.1)
  where
    by : (b : Bool) → b ≡ false → filter (λ (one : HeldGoal). not (test one.goal)) held ≡ held → cond (not b) (one ∷ filter (λ (one : HeldGoal). not (test one.goal)) held) (filter (λ (one : HeldGoal). not (test one.goal)) held) ≡ one ∷ held
    by true none others = absurd cc
    by false none others = ap (λ (held : List HeldGoal). one ∷ held) others

-- where no identifier is found there is no goal
pub unfound : (found : Option GoalRecord) → None ≡ option_map (λ goal. goal.id) found → found ≡ None
unfound None is = refl
unfound (Some goal) is = absurd cc

-- a server that has no goal to forget stays
pub settled : (moment : ℕ) (entry : ServerEntry) → list_any (is_expired moment entry.timeout) (records_of entry.held) ≡ false → server_expired moment entry ≡ entry
settled moment entry none = ap (λ (held : List HeldGoal). record entry { held = held }) (none-left (is_expired moment entry.timeout) entry.held none)

lasting : (moment : ℕ) (goals : List GoalRecord) → list_any (is_expired moment None) goals ≡ false
lasting moment [] = refl
lasting moment (goal ∷ goals) = lasting moment goals

-- a server without a timeout has none
pub lasting-in : (moment : ℕ) (timeout : Option ℕ) (goals : List GoalRecord) → timeout ≡ None → list_any (is_expired moment timeout) goals ≡ false
lasting-in moment timeout goals none = rw none (lasting moment goals)

-- a server that has no goal to forget leaves no line
pub no_lines : (moment : ℕ) (entry : ServerEntry) → list_any (is_expired moment entry.timeout) (records_of entry.held) ≡ false → expire_lines moment entry ≡ []
no_lines moment entry none = ap (map (λ (goal : GoalRecord). line.Expire entry.handler.entity goal.id)) (filter-none (is_expired moment entry.timeout) (records_of entry.held) none)

-- where a place is one of a list there is an element
pub any_of : {A : Type 0} (xs : List A) (i : ℕ) → i < length xs → A
any_of [] i within = absurd (omega (arith, within))
any_of (x ∷ xs) i within = x

undropped : {A : Type 0} (test : A → Bool) (xs : List A) → find test xs ≡ None → drop_first test xs ≡ xs
undropped test [] none = refl
undropped {A} test (x ∷ xs) none = by (test x) none (undropped test xs)
  where
    by : (b : Bool) → cond b (Some x) (find test xs) ≡ None → (find test xs ≡ None → drop_first test xs ≡ xs) → (if b then xs else x ∷ drop_first test xs) ≡ x ∷ xs
    by true none others = absurd cc
    by false none others = ap (λ xs. x ∷ xs) (others none)

-- where none is found none is dropped
pub undropped-goals : (test : GoalRecord → Bool) (goals after : List GoalRecord) → None ≡ option_map (λ goal. goal.id) (find test goals) → after ≡ drop_first test goals → after ≡ goals
undropped-goals test goals after none drops = drops ∙ undropped test goals (unfound (find test goals) none)

never : (moment : ℕ) (goals : List GoalRecord) → expired moment None goals ≡ []
never moment [] = refl
never moment (goal ∷ goals) = never moment goals

pub never-expired : (moment : ℕ) (timeout : Option ℕ) (goals : List GoalRecord) → timeout ≡ None → expired moment timeout goals ≡ []
never-expired moment timeout goals none = rw none (never moment goals)

-- the same where none is found that a server with its timeout forgets
pub settled-in : (moment : ℕ) (entry : ServerEntry) (timeout : Option ℕ) → entry.timeout ≡ timeout → None ≡ option_map (λ goal. goal.id) (find (is_expired moment timeout) (records_of entry.held)) → server_expired moment entry ≡ entry
settled-in moment entry timeout lasts none =
    settled moment entry (none-find (is_expired moment entry.timeout) (records_of entry.held) (unfound (find (is_expired moment entry.timeout) (records_of entry.held))
    (subst (λ (timeout : Option ℕ). None ≡ option_map (λ goal. goal.id) (find (is_expired moment timeout) (records_of entry.held))) (sym lasts) none)))

-- what holds holds where there is no value
pub on_none : {A : Type 0} {P : Type 0} (found : Option A) → P → IfNone found P
on_none None holds_id = holds_id
on_none (Some x) holds_id = tt
