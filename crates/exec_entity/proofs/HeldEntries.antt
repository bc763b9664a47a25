-- The entries of a server's map, whose keys are the goals' identifiers.
use Rattle.std.proofs.Common.{◌≡◌, ℕ, ◌==◌, ◌||◌, List, [], ◌∷◌, ◌++◌, Bool, true, false, cond, if◌then◌else◌, Option, Some, Result, Ok, Err, IsOk, OnOk, refl, ap, sym, subst, ◌∙◌}
use Rattle.std.specs.Bool.{Decides}
use Rattle.std.specs.List.{find, list_any}
use Rattle.std.specs.Map.{lookup, set_value, remove_entry}
use Rattle.std.specs.Option.{option_map}
use Rattle.std.proofs.lemmas.Bool.{eqb-true, eq-eqb}
use Rattle.std.proofs.lemmas.Bool.Decides.{same_from_decides}
use Rattle.indexmap.specs.IndexMap.{insert_entry}
use Rattle.exec_msg.specs.Lists.{change_first, drop_first}
use Rattle.exec_entity.specs.inner.Server.{Kept, all_kept, is_kept_for, kept_of}
use Rattle.exec_entity.specs.declared.server.KeptWithGoal.{KeptWithGoal}

module _ (eq : ℕ → ℕ → Bool) (decides : (a b : ℕ) → Decides (eq a b) (a ≡ b)) where
  -- the map's test of a key is the list's test of what is kept
  pub key_test : (id key : ℕ) → eq id key ≡ (key == id)
  key_test id key = same_from_decides (eq id key) (key == id) (decides id key) ((λ is. sym (eqb-true key id is)), (λ is. eq-eqb key id (sym is)))

  inserted_by : (b c : Bool) (id : ℕ) (held : KeptWithGoal) (entry : ℕ × KeptWithGoal) (entries set : List (ℕ × KeptWithGoal)) → b ≡ c → (c || list_any (is_kept_for id) (all_kept entries)) ≡ false →
      (list_any (is_kept_for id) (all_kept entries) ≡ false → all_kept set ≡ all_kept entries ++ kept_of (id, held) ∷ []) →
      all_kept (if b then (entry.0, held) ∷ entries else entry ∷ set) ≡ kept_of entry ∷ (all_kept entries ++ kept_of (id, held) ∷ [])
  inserted_by b true id held entry entries set tests none others = absurd cc
  inserted_by b false id held entry entries set tests none others = rw tests (ap (λ helds. kept_of entry ∷ helds) (others none))

  -- an entry of a new key stands last
  pub inserted-new : (id : ℕ) (held : KeptWithGoal) (entries : List (ℕ × KeptWithGoal)) → list_any (is_kept_for id) (all_kept entries) ≡ false →
      all_kept (insert_entry eq entries id held) ≡ all_kept entries ++ kept_of (id, held) ∷ []
  inserted-new id held [] none = refl
  inserted-new id held (entry ∷ entries) none =
      inserted_by (eq id entry.0) (entry.0 == id) id held entry entries (insert_entry eq entries id held) (key_test id entry.0) none (inserted-new id held entries)

module _ (test : ℕ → Bool) (id : ℕ) (same : (key : ℕ) → test key ≡ (key == id)) where
  found_by : (b c : Bool) (entry : ℕ × KeptWithGoal) (rest : Option KeptWithGoal) (found : Option Kept) → b ≡ c → (entry.0 == id) ≡ c → found ≡ option_map (λ held. kept_of (id, held)) rest →
      cond c (Some (kept_of entry)) found ≡ option_map (λ held. kept_of (id, held)) (cond b (Some entry.1) rest)
  found_by b true entry rest found tests is others = rw tests (ap (λ key. Some (kept_of (key, entry.1))) (eqb-true entry.0 id is))
  found_by b false entry rest found tests is others = rw tests others

  -- what is kept is found by its identifier where the map finds its entry
  pub find-lookup : (entries : List (ℕ × KeptWithGoal)) → find (is_kept_for id) (all_kept entries) ≡ option_map (λ held. kept_of (id, held)) (lookup test entries)
  find-lookup [] = refl
  find-lookup (entry ∷ entries) =
      found_by (test entry.0) (entry.0 == id) entry (lookup test entries) (find (is_kept_for id) (all_kept entries)) (same entry.0) refl (find-lookup entries)

  -- the same where the map's entries are those of a list, and it is known what the map finds
  pub found-in : (entries : List (ℕ × KeptWithGoal)) (helds : List Kept) (rest : Option KeptWithGoal) → all_kept entries ≡ helds → rest ≡ lookup test entries →
      find (is_kept_for id) helds ≡ option_map (λ held. kept_of (id, held)) rest
  found-in entries helds rest are is = subst (λ (helds : List Kept). find (is_kept_for id) helds ≡ option_map (λ held. kept_of (id, held)) rest) are (find-lookup entries ∙ ap (λ (found : Option KeptWithGoal). option_map (λ held. kept_of (id, held)) found) (sym is))

  removed_by : (b c : Bool) (entry : ℕ × KeptWithGoal) (entries set : List (ℕ × KeptWithGoal)) (others : List Kept) → b ≡ c → all_kept set ≡ others →
      all_kept (cond b entries (entry ∷ set)) ≡ (if c then all_kept entries else kept_of entry ∷ others)
  removed_by b true entry entries set others tests same = rw tests refl
  removed_by b false entry entries set others tests same = rw tests (ap (λ helds. kept_of entry ∷ helds) same)

  -- an entry that is removed is dropped from the list
  pub removed-entry : (entries : List (ℕ × KeptWithGoal)) → all_kept (remove_entry test entries) ≡ drop_first (is_kept_for id) (all_kept entries)
  removed-entry [] = refl
  removed-entry (entry ∷ entries) =
      removed_by (test entry.0) (entry.0 == id) entry entries (remove_entry test entries) (drop_first (is_kept_for id) (all_kept entries)) (same entry.0) (removed-entry entries)

  module _ (change : Kept → Kept) (held after : KeptWithGoal) (changes : kept_of (id, after) ≡ change (kept_of (id, held))) where
    changed_here : (entry : ℕ × KeptWithGoal) → entry.0 ≡ id → entry.1 ≡ held → kept_of (entry.0, after) ≡ change (kept_of entry)
    changed_here entry named holds = ap (λ key. kept_of (key, after)) named ∙ changes ∙ (λ i. change (kept_of (sym named i, sym holds i)))

    changed_by : (b c : Bool) (entry : ℕ × KeptWithGoal) (entries : List (ℕ × KeptWithGoal)) (rest : Option KeptWithGoal) (set : List (ℕ × KeptWithGoal)) (others : List Kept) → b ≡ c → (entry.0 == id) ≡ c →
        cond b (Some entry.1) rest ≡ Some held → (rest ≡ Some held → all_kept set ≡ others) →
        all_kept (cond b ((entry.0, after) ∷ entries) (entry ∷ set)) ≡ cond c (change (kept_of entry) ∷ all_kept entries) (kept_of entry ∷ others)
    changed_by true true entry entries rest set others tests is found induction = ap (λ goal. goal ∷ all_kept entries) (changed_here entry (eqb-true entry.0 id is) (cc))
    changed_by false false entry entries rest set others tests is found induction = ap (λ helds. kept_of entry ∷ helds) (induction found)
    changed_by true false entry entries rest set others tests is found induction = absurd cc
    changed_by false true entry entries rest set others tests is found induction = absurd cc

    -- a change of an entry's value is a change of what is kept
    pub changed-set_value : (entries : List (ℕ × KeptWithGoal)) → lookup test entries ≡ Some held → all_kept (set_value test entries after) ≡ change_first (is_kept_for id) change (all_kept entries)
    changed-set_value [] found = absurd cc
    changed-set_value (entry ∷ entries) found =
        changed_by (test entry.0) (entry.0 == id) entry entries (lookup test entries) (set_value test entries after) (change_first (is_kept_for id) change (all_kept entries)) (same entry.0) refl found
        (λ rest. changed-set_value entries rest)

    -- the same where the map's entries are those of a list
    pub changed-in : (entries set : List (ℕ × KeptWithGoal)) (helds : List Kept) → all_kept entries ≡ helds → Some held ≡ lookup test entries → set ≡ set_value test entries after →
        all_kept set ≡ change_first (is_kept_for id) change helds
    changed-in entries set helds are found is = ap all_kept is ∙ changed-set_value entries (sym found) ∙ ap (λ (helds : List Kept). change_first (is_kept_for id) change helds) are

-- what holds where a call succeeds
pub on_ok : {X E P : Type 0} (r : Result X E) → IsOk r → OnOk r P → P
on_ok (Ok x) is holds = holds
on_ok (Err e) is holds = absurd cc
