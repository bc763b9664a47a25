-- The entries of a table's map, whose keys are the goals' identifiers.
use Rattle.std.proofs.Common.{◌≡◌, ℕ, zero, suc, slice_get, ◌+◌, ◌<◌, ◌*◌, ◌/◌, ◌%◌, ◌^◌, ◌==◌, ◌&&◌, ◌||◌, List, [], ◌∷◌, ◌++◌, map, length, Bool, true, false, not, cond, if◌then◌else◌, Option, None, Some, is_some, Result, Ok, Err, OnErr, refl, ap, sym, subst, ◌∙◌, arith}
use Rattle.std.specs.Bool.{Decides}
use Rattle.std.specs.List.{find, IsDistinct, position, position_or_len}
use Rattle.std.specs.Map.{keys_of, lookup, set_value}
use Rattle.std.specs.Option.{option_map}
use Rattle.std.proofs.lemmas.Bool.{and_parts, and_from, eqb-true, eq-eqb}
use Rattle.std.proofs.lemmas.Bool.Decides.{same_from_decides}
use Rattle.std.proofs.lemmas.List.{get_or-map, length-map}
use Rattle.std.proofs.lemmas.Map.Made.{AllPairs-from_IsDistinct}
use Rattle.std.proofs.lemmas.Nat.{div-add-mod'}
use Rattle.indexmap.specs.IndexMap.{insert_entry, set_value_at}
use Rattle.indexmap.proofs.MapLemmas.{Found-position}
use Rattle.std.proofs.lemmas.Option.{slice_get-map}
use Rattle.exec_goal.specs.Calls.{next_state, moved_to, where_terminal}
use Rattle.exec_goal.specs.inner.Held.{record_of, records_of}
use Rattle.exec_goal.specs.State.{is_terminal, status_of}
use Rattle.exec_goal.specs.declared.state.State.{State}
use Rattle.exec_goal.specs.Table.{GoalRecord, told, later, unknown, has_id, holds_id, HaveDistinctIds, answer_to, asked_for}
use Rattle.exec_msg.specs.Lists.{change_first}
use Rattle.exec_msg.specs.declared.goal.Event.{Event}
use Rattle.exec_goal.specs.declared.held.GoalEntry.{GoalEntry}

-- identifiers are compared by their halves
abbrev pub halves_eq : ℕ → ℕ → Bool
halves_eq a b = (a / 2 ^ 64 == b / 2 ^ 64) && (a % 2 ^ 64 == b % 2 ^ 64)

-- two identifiers with the same halves are one
pub ids_decide : (a b : ℕ) → Decides (halves_eq a b) (a ≡ b)
ids_decide a b = (
  (λ same.
      let parts = and_parts (a / 2 ^ 64 == b / 2 ^ 64) (a % 2 ^ 64 == b % 2 ^ 64) same in
      let high : a / 2 ^ 64 ≡ b / 2 ^ 64 = eqb-true (a / 2 ^ 64) (b / 2 ^ 64) parts.0 in
      let low : a % 2 ^ 64 ≡ b % 2 ^ 64 = eqb-true (a % 2 ^ 64) (b % 2 ^ 64) parts.1 in
      sym (div-add-mod' a (2 ^ 64)) ∙ ap (λ h. h * 2 ^ 64 + a % 2 ^ 64) high ∙ ap (λ l. b / 2 ^ 64 * 2 ^ 64 + l) low ∙ div-add-mod' b (2 ^ 64)),
  (λ same. and_from (a / 2 ^ 64 == b / 2 ^ 64) (a % 2 ^ 64 == b % 2 ^ 64) (eq-eqb (a / 2 ^ 64) (b / 2 ^ 64) (ap (λ n. n / 2 ^ 64) same)) (eq-eqb (a % 2 ^ 64) (b % 2 ^ 64) (ap (λ n. n % 2 ^ 64) same))),
)

-- the identifiers of the records are the keys
pub ids-records : (entries : List (ℕ × GoalEntry)) → map (λ goal. goal.id) (records_of entries) ≡ keys_of entries
ids-records [] = refl
ids-records (entry ∷ entries) = ap (λ keys. entry.0 ∷ keys) (ids-records entries)

module _ (eq : ℕ → ℕ → Bool) (decides : (a b : ℕ) → Decides (eq a b) (a ≡ b)) where
  -- the map's test of a key is the table's test of a goal
  pub key_test : (id key : ℕ) → eq id key ≡ (key == id)
  key_test id key = same_from_decides (eq id key) (key == id) (decides id key) ((λ is. sym (eqb-true key id is)), (λ is. eq-eqb key id (sym is)))

  -- no two goals have one identifier
  pub distinct_ids : (entries : List (ℕ × GoalEntry)) → IsDistinct eq (keys_of entries) → HaveDistinctIds (records_of entries)
  distinct_ids entries unique i j d before within same =
      let ids : List ℕ = map (λ goal. goal.id) (records_of entries) in
      let below : j < length ids = omega (arith, length-map (records_of entries) (λ (goal : GoalRecord). goal.id), within) in
      AllPairs-from_IsDistinct decides ids (subst (λ keys. IsDistinct eq keys) (sym (ids-records entries)) unique) i j d.id before below
      (get_or-map (λ (goal : GoalRecord). goal.id) (records_of entries) i d d.id (omega (arith, before, within)) ∙ same ∙ sym (get_or-map (λ (goal : GoalRecord). goal.id) (records_of entries) j d d.id within))

  inserted_by : (b c : Bool) (id : ℕ) (held : GoalEntry) (entry : ℕ × GoalEntry) (entries set : List (ℕ × GoalEntry)) → b ≡ c → (c || holds_id id (records_of entries)) ≡ false →
      (holds_id id (records_of entries) ≡ false → records_of set ≡ records_of entries ++ record_of (id, held) ∷ []) →
      records_of (if b then (entry.0, held) ∷ entries else entry ∷ set) ≡ record_of entry ∷ (records_of entries ++ record_of (id, held) ∷ [])
  inserted_by b true id held entry entries set tests none others = absurd cc
  inserted_by b false id held entry entries set tests none others = rw tests (ap (λ goals. record_of entry ∷ goals) (others none))

  -- an entry of a new key stands last
  pub inserted-new : (id : ℕ) (held : GoalEntry) (entries : List (ℕ × GoalEntry)) → holds_id id (records_of entries) ≡ false →
      records_of (insert_entry eq entries id held) ≡ records_of entries ++ record_of (id, held) ∷ []
  inserted-new id held [] none = refl
  inserted-new id held (entry ∷ entries) none =
      inserted_by (eq id entry.0) (entry.0 == id) id held entry entries (insert_entry eq entries id held) (key_test id entry.0) none (inserted-new id held entries)

module _ (test : ℕ → Bool) (id : ℕ) (same : (key : ℕ) → test key ≡ (key == id)) where
  found_by : (b c : Bool) (entry : ℕ × GoalEntry) (rest : Option GoalEntry) (found : Option GoalRecord) → b ≡ c → (entry.0 == id) ≡ c → found ≡ option_map (λ held. record_of (id, held)) rest →
      cond c (Some (record_of entry)) found ≡ option_map (λ held. record_of (id, held)) (cond b (Some entry.1) rest)
  found_by b true entry rest found tests is others = rw tests (ap (λ key. Some (record_of (key, entry.1))) (eqb-true entry.0 id is))
  found_by b false entry rest found tests is others = rw tests others

  -- a goal is found by its identifier where the map finds its entry
  pub find-lookup : (entries : List (ℕ × GoalEntry)) → find (has_id id) (records_of entries) ≡ option_map (λ held. record_of (id, held)) (lookup test entries)
  find-lookup [] = refl
  find-lookup (entry ∷ entries) =
      found_by (test entry.0) (entry.0 == id) entry (lookup test entries) (find (has_id id) (records_of entries)) (same entry.0) refl (find-lookup entries)

  -- the same where the map's entries are those of a table, and it is known what the map finds
  pub found-in : (entries : List (ℕ × GoalEntry)) (goals : List GoalRecord) (rest : Option GoalEntry) → records_of entries ≡ goals → rest ≡ lookup test entries →
      find (has_id id) goals ≡ option_map (λ held. record_of (id, held)) rest
  found-in entries goals rest are is = subst (λ (goals : List GoalRecord). find (has_id id) goals ≡ option_map (λ held. record_of (id, held)) rest) are (find-lookup entries ∙ ap (λ (found : Option GoalEntry). option_map (λ held. record_of (id, held)) found) (sym is))

  -- the state that an event moves a goal to, where it is known what the map finds
  pub next-in : (event : Event) (entries : List (ℕ × GoalEntry)) (goals : List GoalRecord) (rest : Option GoalEntry) → records_of entries ≡ goals → rest ≡ lookup test entries →
      next_state id event goals ≡ moved_to event (option_map (λ held. held.state) rest)
  next-in event entries goals None are is = ap (λ (found : Option GoalRecord). moved_to event (option_map (λ goal. goal.state) found)) (found-in entries goals None are is)
  next-in event entries goals (Some held) are is = ap (λ (found : Option GoalRecord). moved_to event (option_map (λ goal. goal.state) found)) (found-in entries goals (Some held) are is)

  -- what a result request is told where the map has no such key
  pub asked-unknown : (entries : List (ℕ × GoalEntry)) (goals : List GoalRecord) → records_of entries ≡ goals → None ≡ lookup test entries → asked_for id goals ≡ unknown
  asked-unknown entries goals are is = ap answer_to (found-in entries goals None are is)

  -- and where it has one
  pub asked-held : (ended : Bool) (held : GoalEntry) (entries : List (ℕ × GoalEntry)) (goals : List GoalRecord) → records_of entries ≡ goals → Some held ≡ lookup test entries → is_terminal held.state ≡ ended →
      asked_for id goals ≡ (if ended then told (status_of held.state) held.result else later)
  asked-held ended held entries goals are is known =
      ap answer_to (found-in entries goals (Some held) are is) ∙ ap (λ (ended : Bool). if ended then told (status_of held.state) held.result else later) known

  held_by : (b c any some : Bool) (held : GoalEntry) (rest : Option GoalEntry) → b ≡ c → any ≡ is_some rest → (c || any) ≡ is_some (cond b (Some held) rest)
  held_by b true any some held rest tests others = rw tests refl
  held_by b false any some held rest tests others = rw tests others

  -- a table holds_id a goal where its map has the key
  pub holds-lookup : (entries : List (ℕ × GoalEntry)) → holds_id id (records_of entries) ≡ is_some (lookup test entries)
  holds-lookup [] = refl
  holds-lookup (entry ∷ entries) =
      held_by (test entry.0) (entry.0 == id) (holds_id id (records_of entries)) false entry.1 (lookup test entries) (same entry.0) (holds-lookup entries)

  module _ (change : GoalRecord → GoalRecord) (held after : GoalEntry) (changes : record_of (id, after) ≡ change (record_of (id, held))) where
    changed_here : (entry : ℕ × GoalEntry) → entry.0 ≡ id → entry.1 ≡ held → record_of (entry.0, after) ≡ change (record_of entry)
    changed_here entry named holds_id = ap (λ key. record_of (key, after)) named ∙ changes ∙ (λ i. change (record_of (sym named i, sym holds_id i)))

    changed_by : (b c : Bool) (entry : ℕ × GoalEntry) (entries : List (ℕ × GoalEntry)) (rest : Option GoalEntry) (set : List (ℕ × GoalEntry)) (others : List GoalRecord) → b ≡ c → (entry.0 == id) ≡ c →
        cond b (Some entry.1) rest ≡ Some held → (rest ≡ Some held → records_of set ≡ others) →
        records_of (cond b ((entry.0, after) ∷ entries) (entry ∷ set)) ≡ cond c (change (record_of entry) ∷ records_of entries) (record_of entry ∷ others)
    changed_by true true entry entries rest set others tests is found induction = ap (λ goal. goal ∷ records_of entries) (changed_here entry (eqb-true entry.0 id is) (cc))
    changed_by false false entry entries rest set others tests is found induction = ap (λ goals. record_of entry ∷ goals) (induction found)
    changed_by true false entry entries rest set others tests is found induction = absurd cc
    changed_by false true entry entries rest set others tests is found induction = absurd cc

    -- a change of an entry's value is a change of its goal
    pub changed-set_value : (entries : List (ℕ × GoalEntry)) → lookup test entries ≡ Some held → records_of (set_value test entries after) ≡ change_first (has_id id) change (records_of entries)
    changed-set_value [] found = absurd cc
    changed-set_value (entry ∷ entries) found =
        changed_by (test entry.0) (entry.0 == id) entry entries (lookup test entries) (set_value test entries after) (change_first (has_id id) change (records_of entries)) (same entry.0) refl found
        (λ rest. changed-set_value entries rest)

    -- the same where the map's entries are those of a table
    pub changed-in : (entries set : List (ℕ × GoalEntry)) (goals : List GoalRecord) → records_of entries ≡ goals → Some held ≡ lookup test entries → set ≡ set_value test entries after →
        records_of set ≡ change_first (has_id id) change goals
    changed-in entries set goals are found is = ap records_of is ∙ changed-set_value entries (sym found) ∙ ap (λ (goals : List GoalRecord). change_first (has_id id) change goals) are

-- a key that the map hasn't is found nowhere
pub none-looked : (test : ℕ → Bool) (entries : List (ℕ × GoalEntry)) → false ≡ is_some (lookup test entries) → None ≡ lookup test entries
none-looked test entries is = by (lookup test entries) is
  where
    by : (found : Option GoalEntry) → false ≡ is_some found → None ≡ found
    by None is = refl
    by (Some held) is = absurd cc

-- the value of the first entry whose key passes is the one at its place
set-first : (test : ℕ → Bool) (entries : List (ℕ × GoalEntry)) (place : ℕ) (after : GoalEntry) → position_or_len test (keys_of entries) ≡ place → set_value_at entries place after ≡ set_value test entries after
set-first test [] place after is = refl
set-first test (entry ∷ entries) place after is = by (test entry.0) place (λ behind same. set-first test entries behind after same) is
  where
    by : (b : Bool) (place : ℕ) → ((behind : ℕ) → position_or_len test (keys_of entries) ≡ behind → set_value_at entries behind after ≡ set_value test entries after) → cond (not b) (1 + position_or_len test (keys_of entries)) 0 ≡ place → set_value_at (entry ∷ entries) place after ≡ cond b ((entry.0, after) ∷ entries) (entry ∷ set_value test entries after)
    by true zero rest is = refl
    by true (suc place) rest is = absurd (omega (arith, is))
    by false zero rest is = absurd (omega (arith, is))
    by false (suc place) rest is = ap (λ entries. entry ∷ entries) (rest place (omega (arith, is)))

-- a key that the map has at a place
module _ (test : ℕ → Bool) (entries : List (ℕ × GoalEntry)) (place : ℕ) (entry : ℕ × GoalEntry) (looked : Some place ≡ position test (keys_of entries)) (at : slice_get entries place ≡ Some entry) where
  pub found-there : Some entry.1 ≡ lookup test entries
  found-there = sym ((Found-position test entries place (sym looked)).value ∙ slice_get-map (λ (one : ℕ × GoalEntry). one.1) entries place ∙ ap (option_map (λ (one : ℕ × GoalEntry). one.1)) at)

  pub set-there : (after : GoalEntry) → set_value_at entries place after ≡ set_value test entries after
  set-there after = set-first test entries place after (Found-position test entries place (sym looked)).or_len

-- an entry that is written back as it was
pub set_value_at-same : (entries : List (ℕ × GoalEntry)) (place : ℕ) (entry : ℕ × GoalEntry) → slice_get entries place ≡ Some entry → set_value_at entries place entry.1 ≡ entries
set_value_at-same [] place entry at = refl
set_value_at-same (first ∷ entries) zero entry at =
    let same : first ≡ entry = cc in
    ap (λ (held : GoalEntry). (first.0, held) ∷ entries) (sym (ap (λ (one : ℕ × GoalEntry). one.1) same))
set_value_at-same (first ∷ entries) (suc place) entry at = ap (λ rest. first ∷ rest) (set_value_at-same entries place entry at)

same_goal : (b : Bool) (goal : GoalRecord) (goals others : List GoalRecord) → others ≡ goals → (if b then goal ∷ goals else goal ∷ others) ≡ goal ∷ goals
same_goal true goal goals others same = refl
same_goal false goal goals others same = ap (λ goals. goal ∷ goals) same

-- where a goal is changed to itself the table stays
pub change_first-same : (id : ℕ) (goals : List GoalRecord) → change_first (has_id id) (λ (goal : GoalRecord). goal) goals ≡ goals
change_first-same id [] = refl
change_first-same id (goal ∷ goals) = same_goal (has_id id goal) goal goals (change_first (has_id id) (λ (goal : GoalRecord). goal) goals) (change_first-same id goals)

-- a terminal state that an event leads to is one that it leads to
pub terminal-reached : (reached : Option State) (next : State) → Some next ≡ where_terminal reached → reached ≡ Some next
terminal-reached None next is = absurd cc
terminal-reached (Some reached) next is = by (is_terminal reached) is
  where
    by : (b : Bool) → Some next ≡ (if b then Some reached else None) → Some reached ≡ Some next
    by true is = sym is
    by false is = absurd cc

-- what holds holds on an error
pub on_err : {X E : Type 0} {P : Type 0} (r : Result X E) → P → OnErr r P
on_err (Ok x) holds_id = tt
on_err (Err e) holds_id = holds_id
