-- That a server keeps work beside each of its goals, whatever its calls change.
use Rattle.std.proofs.Common.{◌≡◌, ℕ, ◌==◌, ◌||◌, List, [], ◌∷◌, ◌++◌, map, Bool, true, false, if◌then◌else◌, refl, ap, sym, subst, ◌∙◌}
use Rattle.std.specs.List.{list_any}
use Rattle.std.proofs.lemmas.Bool.{eqb-false, ne_eqb, or_parts, not-true, or_from}
use Rattle.std.proofs.lemmas.List.{map_push}
use Rattle.exec_goal.specs.Calls.{noted, after_asking}
use Rattle.exec_goal.specs.inner.Ids.{is_among}
use Rattle.exec_goal.specs.Cancel.{Decided, is_moved, table_after}
use Rattle.exec_goal.specs.Table.{GoalRecord, Asked, told, later, unknown, has_id, holds_id, is_full, after_event, asked_for, asked_by}
use Rattle.exec_msg.specs.declared.goal.Event.TheVariants as event
use Rattle.exec_msg.specs.Lists.{change_first}
use Rattle.exec_rules.specs.World.{has_room_for}
use Rattle.exec_entity.specs.inner.Server.{Kept, is_kept_for}
use Rattle.exec_entity.specs.inner.Keeping.{AreDistinct, AreKept}

abbrev pub goal_ids : List GoalRecord → List ℕ
goal_ids goals = map (λ goal. goal.id) goals

abbrev pub kept_ids : List Kept → List ℕ
kept_ids held = map (λ one. one.id) held

-- where the identifiers stay all is kept
pub kept-same : (goals after : List GoalRecord) (held left : List Kept) → goal_ids after ≡ goal_ids goals → kept_ids left ≡ kept_ids held → AreKept goals held → AreKept after left
kept-same goals after held left same others kept = record {
  same = same ∙ kept.same ∙ sym others;
  distinct = subst AreDistinct (sym same) kept.distinct;
}

module _ {A : Type 0} (id : A → ℕ) (test : A → Bool) (change : A → A) (keeps : (x : A) → id (change x) ≡ id x) where
  ids_by : (b : Bool) (x : A) (xs others : List A) → map id others ≡ map id xs → map id (if b then change x ∷ xs else x ∷ others) ≡ id x ∷ map id xs
  ids_by true x xs others same = ap (λ one. one ∷ map id xs) (keeps x)
  ids_by false x xs others same = ap (λ ids. id x ∷ ids) same

  -- a change of one element that keeps its identifier keeps all
  pub changed-ids : (xs : List A) → map id (change_first test change xs) ≡ map id xs
  changed-ids [] = refl
  changed-ids (x ∷ xs) = ids_by (test x) x xs (change_first test change xs) (changed-ids xs)

-- a goal's work changes
pub kept-changed : (test : GoalRecord → Bool) (change : GoalRecord → GoalRecord) → ((goal : GoalRecord) → (change goal).id ≡ goal.id) → (goals : List GoalRecord) (held : List Kept) → AreKept goals held → AreKept (change_first test change goals) held
kept-changed test change keeps goals held kept = kept-same goals (change_first test change goals) held held (changed-ids (λ goal. goal.id) test change keeps goals) refl kept

answered_by : (b : Bool) (goal : GoalRecord) → (if b then after_event event.CancelGoal goal else goal).id ≡ goal.id
answered_by true goal = refl
answered_by false goal = refl

answered-ids : (decisions : List Decided) (goals : List GoalRecord) → goal_ids (table_after decisions goals) ≡ goal_ids goals
answered-ids decisions [] = refl
answered-ids decisions (goal ∷ goals) = (λ i. answered_by (is_moved decisions goal) goal i ∷ answered-ids decisions goals i)

-- a cancel request is answered
pub kept-answered : (decisions : List Decided) (goals : List GoalRecord) (held : List Kept) → AreKept goals held → AreKept (table_after decisions goals) held
kept-answered decisions goals held kept = kept-same goals (table_after decisions goals) held held (answered-ids decisions goals) refl kept

pub noted-ids : (asked : Asked) (id client : ℕ) (goals : List GoalRecord) → goal_ids (noted asked id client goals) ≡ goal_ids goals
noted-ids (told status value) id client goals = refl
noted-ids later id client goals = changed-ids (λ goal. goal.id) (has_id id) (asked_by client) (λ goal. refl) goals
noted-ids unknown id client goals = refl

noted_by : (asked : Asked) (id client : ℕ) (goals : List GoalRecord) (held : List Kept) → AreKept goals held → AreKept (noted asked id client goals) held
noted_by (told status value) id client goals held kept = kept
noted_by later id client goals held kept = kept-changed (has_id id) (asked_by client) (λ goal. refl) goals held kept
noted_by unknown id client goals held kept = kept

-- a result is asked for
pub kept-asked : (id client : ℕ) (goals : List GoalRecord) (held : List Kept) → AreKept goals held → AreKept (after_asking id client goals) held
kept-asked id client goals held kept = noted_by (asked_for id goals) id client goals held kept

-- ---- one more goal

-- what holds a goal has its identifier
pub among-goals : (id : ℕ) (goals : List GoalRecord) → is_among (goal_ids goals) id ≡ holds_id id goals
among-goals id [] = refl
among-goals id (goal ∷ goals) = ap (λ others. (goal.id == id) || others) (among-goals id goals)

among-held : (id : ℕ) (held : List Kept) → is_among (kept_ids held) id ≡ list_any (is_kept_for id) held
among-held id [] = refl
among-held id (one ∷ held) = ap (λ others. (one.id == id) || others) (among-held id held)

-- a server that holds no goal of an identifier keeps nothing for it
pub kept-none : (id : ℕ) (goals : List GoalRecord) (held : List Kept) → AreKept goals held → holds_id id goals ≡ false → list_any (is_kept_for id) held ≡ false
kept-none id goals held kept none = sym (among-held id held) ∙ ap (λ ids. is_among ids id) (sym kept.same) ∙ among-goals id goals ∙ none

apart : (a b : ℕ) → (a == b) ≡ false → (b == a) ≡ false
apart a b differ = ne_eqb b a (λ same. eqb-false a b differ (sym same))

among-push : (ids : List ℕ) (one id : ℕ) → (id == one) ≡ false → is_among ids one ≡ false → is_among (ids ++ id ∷ []) one ≡ false
among-push [] one id differ none = or_from (id == one) false differ refl
among-push (other ∷ ids) one id differ none =
    let parts = or_parts (other == one) (is_among ids one) none in
    or_from (other == one) (is_among (ids ++ id ∷ []) one) parts.0 (among-push ids one id differ parts.1)

distinct-push : (ids : List ℕ) (id : ℕ) → is_among ids id ≡ false → AreDistinct ids → AreDistinct (ids ++ id ∷ [])
distinct-push [] id none distinct = (refl, tt)
distinct-push (one ∷ ids) id none distinct =
    let parts = or_parts (one == id) (is_among ids id) none in
    (among-push ids one id (apart one id parts.0) distinct.0, distinct-push ids id parts.1 distinct.1)

-- one more goal is kept with its work
pub kept-accepted : (goals : List GoalRecord) (held : List Kept) (goal : GoalRecord) (one : Kept) → goal.id ≡ one.id → holds_id goal.id goals ≡ false → AreKept goals held →
    AreKept (goals ++ goal ∷ []) (held ++ one ∷ [])
kept-accepted goals held goal one named none kept = record {
  same = map_push (λ (goal : GoalRecord). goal.id) goals goal ∙ (λ i. kept.same i ++ named i ∷ []) ∙ sym (map_push (λ (one : Kept). one.id) held one);
  distinct = subst AreDistinct (sym (map_push (λ (goal : GoalRecord). goal.id) goals goal)) (distinct-push (goal_ids goals) goal.id (among-goals goal.id goals ∙ none) kept.distinct);
}

-- the same, where it is known which lists come of it
pub kept-accepted-in : (goals after : List GoalRecord) (held before left : List Kept) (goal : GoalRecord) (one : Kept) → after ≡ goals ++ goal ∷ [] → before ≡ held → left ≡ before ++ one ∷ [] → goal.id ≡ one.id → holds_id goal.id goals ≡ false → AreKept goals held →
    AreKept after left
kept-accepted-in goals after held before left goal one is stays others named none kept = rw (is, others, stays) (kept-accepted goals held goal one named none kept)

-- a server that has room for an identifier holds no goal of it
pub room-none : (id : ℕ) (goals : List GoalRecord) → has_room_for id goals ≡ true → holds_id id goals ≡ false
room-none id goals room = (or_parts (holds_id id goals) (is_full goals) (not-true (holds_id id goals || is_full goals) room)).0
