-- Where what a server keeps stands, by its place.
use Rattle.std.proofs.Common.{◌≡◌, ℕ, zero, suc, ◌==◌, ◌<◌, ◌||◌, List, [], ◌∷◌, length, map, Bool, true, false, cond, if◌then◌else◌, Option, None, Some, IfSome, slice_get, get_or, is_some, IfNone, refl, ap, sym, subst, ◌∙◌, arith}
use Rattle.std.specs.List.{find, position}
use Rattle.std.specs.Map.{keys_of, values_of, lookup}
use Rattle.std.specs.Option.{option_map}
use Rattle.std.proofs.lemmas.Bool.{eqb-true, eq-eqb}
use Rattle.std.proofs.lemmas.List.Quantifiers.{position-Some}
use Rattle.indexmap.specs.IndexMap.{set_value_at}
use Rattle.exec_goal.specs.inner.Ids.{is_among}
use Rattle.exec_goal.specs.Table.{GoalRecord}
use Rattle.exec_msg.specs.Lists.{change_first}
use Rattle.exec_rules.specs.World.{Handler, HeldGoal, ServerEntry, is_for}
use Rattle.exec_entity.proofs.HeldEntries.{find-lookup}
use Rattle.exec_entity.proofs.Joined.{ids-joined, work-now}
use Rattle.exec_entity.proofs.Serving.{kept_ids}
use Rattle.exec_entity.specs.inner.Keeping.{AreDistinct, AreKept, IsFor}
use Rattle.exec_entity.specs.inner.Server.{Kept, all_joined, all_kept, is_kept_for, kept_of, work_there}
use Rattle.exec_entity.specs.declared.server.KeptWithGoal.{KeptWithGoal}

-- what is kept at a place, from 0, is for this goal
abbrev pub IsKeptAt : List Kept → ℕ → ℕ → Type 0
IsKeptAt kept place id = slice_get (kept_ids kept) place ≡ Some id

among-at : (entries : List (ℕ × KeptWithGoal)) (place id : ℕ) → IsKeptAt (all_kept entries) place id → is_among (kept_ids (all_kept entries)) id ≡ true
among-at [] place id named = absurd cc
among-at (entry ∷ entries) zero id named =
    let is : entry.0 ≡ id = cc in
    ap (λ (b : Bool). b || is_among (kept_ids (all_kept entries)) id) (eq-eqb entry.0 id is)
among-at (entry ∷ entries) (suc place) id named = by (entry.0 == id) (among-at entries place id named)
  where
    by : (b : Bool) → is_among (kept_ids (all_kept entries)) id ≡ true → (b || is_among (kept_ids (all_kept entries)) id) ≡ true
    by true is = refl
    by false is = is

-- what stands before a place isn't for its goal
differs : (entry : ℕ × KeptWithGoal) (entries : List (ℕ × KeptWithGoal)) (place id : ℕ) → AreDistinct (kept_ids (all_kept (entry ∷ entries))) → IsKeptAt (all_kept entries) place id → (entry.0 == id) ≡ false
differs entry entries place id distinct named = by (entry.0 == id) refl
  where
    by : (b : Bool) → (entry.0 == id) ≡ b → b ≡ false
    by true is =
        let same : entry.0 ≡ id = eqb-true entry.0 id is in
        let among : is_among (kept_ids (all_kept entries)) entry.0 ≡ true = subst (λ (one : ℕ). is_among (kept_ids (all_kept entries)) one ≡ true) (sym same) (among-at entries place id named) in
        absurd cc
    by false is = refl

-- what is kept for a goal, where it stands at a place of entries of which no two are for one goal
pub record KeptAt (id : ℕ) (held : KeptWithGoal) (entries : List (ℕ × KeptWithGoal)) (place : ℕ) : Type 0 where
  pub distinct : AreDistinct (kept_ids (all_kept entries))
  pub named : IsKeptAt (all_kept entries) place id
  pub kept : Some held ≡ slice_get (values_of entries) place

-- the entries of a server's map are such
pub kept-at : (id : ℕ) (held : KeptWithGoal) (goals : List GoalRecord) (entries : List (ℕ × KeptWithGoal)) (now : List HeldGoal) (place : ℕ) → all_joined goals (all_kept entries) ≡ now → AreKept goals (all_kept entries)
    → IsFor now place id → Some held ≡ slice_get (values_of entries) place → KeptAt id held entries place
kept-at id held goals entries now place are all named kept = record {
  distinct = subst AreDistinct all.same all.distinct;
  named = subst (λ (ids : List ℕ). slice_get ids place ≡ Some id) (sym (ap (map (λ (one : HeldGoal). one.goal.id)) are) ∙ ids-joined goals (all_kept entries) all.same) named;
  kept = kept;
}

-- it is found by the goal's identifier
pub found-at : (id : ℕ) (held : KeptWithGoal) (entries : List (ℕ × KeptWithGoal)) (place : ℕ) → KeptAt id held entries place → find (is_kept_for id) (all_kept entries) ≡ Some (kept_of (id, held))
found-at id held [] place at = let kept = at.kept in absurd cc
found-at id held (entry ∷ entries) zero at =
    let named = at.named in
    let kept = at.kept in
    let is : entry.0 ≡ id = cc in
    let holds : entry.1 ≡ held = cc in
    ap (λ (b : Bool). cond b (Some (kept_of entry)) (find (is_kept_for id) (all_kept entries))) (eq-eqb entry.0 id is) ∙ (λ i. Some (kept_of (is i, holds i)))
found-at id held (entry ∷ entries) (suc place) at =
    ap (λ (b : Bool). cond b (Some (kept_of entry)) (find (is_kept_for id) (all_kept entries))) (differs entry entries place id at.distinct at.named)
    ∙ found-at id held entries place (record { distinct = at.distinct.1; named = at.named; kept = at.kept })

-- and is the work of the server's goal
pub work-placed : {id : ℕ} {held : KeptWithGoal} {entries : List (ℕ × KeptWithGoal)} {place : ℕ} {goals : List GoalRecord} {handler : Handler} {timeout : Option ℕ} {now : ServerEntry} → KeptAt id held entries place → AreKept goals (all_kept entries)
    → record { handler = handler; timeout = timeout; held = all_joined goals (all_kept entries) } ≡ now → option_map (λ held. held.work) (find (is_for id) now.held) ≡ Some (work_there held.task)
work-placed {id} {held} {entries} {place} at all is = sym (work-now all is id) ∙ ap (λ (found : Option Kept). option_map (λ one. one.work) found) (found-at id held entries place at)

-- and a change of it is a change of what is kept for the goal
pub changed-at : {id : ℕ} {held : KeptWithGoal} {entries : List (ℕ × KeptWithGoal)} {place : ℕ} → KeptAt id held entries place → (after : KeptWithGoal) (change : Kept → Kept) → kept_of (id, after) ≡ change (kept_of (id, held))
    → all_kept (set_value_at entries place after) ≡ change_first (is_kept_for id) change (all_kept entries)
changed-at {id} {held} {entries} {place} at after change changes = walk entries place at
  where
    chosen : ℕ × KeptWithGoal → List (ℕ × KeptWithGoal) → Bool → List Kept
    chosen entry entries b = if b then change (kept_of entry) ∷ all_kept entries else kept_of entry ∷ change_first (is_kept_for id) change (all_kept entries)

    walk : (entries : List (ℕ × KeptWithGoal)) (place : ℕ) → KeptAt id held entries place → all_kept (set_value_at entries place after) ≡ change_first (is_kept_for id) change (all_kept entries)
    walk [] place at = let kept = at.kept in absurd cc
    walk (entry ∷ entries) zero at =
        let named = at.named in
        let kept = at.kept in
        let is : entry.0 ≡ id = cc in
        let holds : entry.1 ≡ held = cc in
        ap (λ (goal : Kept). goal ∷ all_kept entries) (ap (λ (key : ℕ). kept_of (key, after)) is ∙ changes ∙ (λ i. change (kept_of (sym is i, sym holds i))))
        ∙ ap (chosen entry entries) (sym (eq-eqb entry.0 id is))
    walk (entry ∷ entries) (suc place) at =
        ap (λ (goals : List Kept). kept_of entry ∷ goals) (walk entries place (record { distinct = at.distinct.1; named = at.named; kept = at.kept }))
        ∙ ap (chosen entry entries) (sym (differs entry entries place id at.distinct at.named))

named_here : (entries : List (ℕ × KeptWithGoal)) (place d : ℕ) → place < length (keys_of entries) → IsKeptAt (all_kept entries) place (get_or (keys_of entries) place d)
named_here [] place d within = absurd (omega (arith, within))
named_here (entry ∷ entries) zero d within = refl
named_here (entry ∷ entries) (suc place) d within = named_here entries place d (omega (arith, within))

-- what stands at an entry's place is for its key
pub named-there : (entries : List (ℕ × KeptWithGoal)) (place : ℕ) (entry : ℕ × KeptWithGoal) → Some entry ≡ slice_get entries place → IsKeptAt (all_kept entries) place entry.0
named-there [] place entry at = absurd cc
named-there (first ∷ entries) zero entry at =
    let same : first ≡ entry = cc in
    ap (λ (one : ℕ × KeptWithGoal). Some one.0) same
named-there (first ∷ entries) (suc place) entry at = named-there entries place entry at

-- where the map finds an entry, what stands there is for its key
pub named-at-found : (test : ℕ → Bool) (id : ℕ) → ((key : ℕ) → test key ≡ (key == id)) → (entries : List (ℕ × KeptWithGoal)) (found : Option ℕ) → found ≡ position test (keys_of entries) → IfSome found (λ place. IsKeptAt (all_kept entries) place id)
named-at-found test id same entries None is = tt
named-at-found test id same entries (Some place) is =
    let first = position-Some test (keys_of entries) place 0 (sym is) in
    let key : get_or (keys_of entries) place 0 ≡ id = eqb-true (get_or (keys_of entries) place 0) id (sym (same (get_or (keys_of entries) place 0)) ∙ first.1) in
    subst (IsKeptAt (all_kept entries) place) key (named_here entries place 0 first.0)

-- where the map finds no entry, nothing is kept for the goal
pub none-found : (test : ℕ → Bool) (id : ℕ) → ((key : ℕ) → test key ≡ (key == id)) → (entries : List (ℕ × KeptWithGoal)) (found : Option ℕ) → is_some found ≡ is_some (lookup test entries) → IfNone found (find (is_kept_for id) (all_kept entries) ≡ None)
none-found test id same entries (Some place) is = tt
none-found test id same entries None is = find-lookup test id same entries ∙ by (lookup test entries) is
  where
    by : (rest : Option KeptWithGoal) → false ≡ is_some rest → option_map (λ held. kept_of (id, held)) rest ≡ None
    by None none = refl
    by (Some held) none = absurd cc
