-- The goals that a server holds, of their records and what is kept beside each.
use Rattle.std.proofs.Common.{◌≡◌, ℕ, suc, ◌<◌, ◌==◌, List, [], ◌∷◌, ◌++◌, map, length, drop, get_or, Bool, true, false, Option, None, Some, IfNone, refl, ap, sym, ◌∙◌, arith}
use Rattle.std.specs.List.{find}
use Rattle.std.specs.Option.{option_map, option_map_or}
use Rattle.std.proofs.lemmas.List.{length-map}
use Rattle.std.proofs.lemmas.Option.{slice_get_within}
use Rattle.exec_goal.specs.Table.{GoalRecord, has_id}
use Rattle.exec_msg.specs.Lists.{change_first}
use Rattle.exec_msg.specs.Numbers.{GoalId}
use Rattle.exec_rules.specs.World.{Handler, HeldGoal, ServerEntry, is_for, records_of, with_goals, with_held, with_records}
use Rattle.exec_entity.proofs.Serving.{goal_ids, kept_ids}
use Rattle.exec_entity.specs.inner.Keeping.{AreKept, IsFor}
use Rattle.exec_entity.specs.inner.Server.{Kept, all_joined, is_kept_for, joined}

-- their records
pub records-joined : (goals : List GoalRecord) (kept : List Kept) → goal_ids goals ≡ kept_ids kept → records_of (all_joined goals kept) ≡ goals
records-joined [] [] same = refl
records-joined [] (one ∷ kept) same = absurd cc
records-joined (goal ∷ goals) [] same = absurd cc
records-joined (goal ∷ goals) (one ∷ kept) same = ap (λ (rest : List GoalRecord). goal ∷ rest) (records-joined goals kept (ap (drop 1) same))

-- their identifiers
pub ids-joined : (goals : List GoalRecord) (kept : List Kept) → goal_ids goals ≡ kept_ids kept → map (λ (one : HeldGoal). one.goal.id) (all_joined goals kept) ≡ kept_ids kept
ids-joined [] [] same = refl
ids-joined [] (one ∷ kept) same = absurd cc
ids-joined (goal ∷ goals) [] same = absurd cc
ids-joined (goal ∷ goals) (one ∷ kept) same =
    let first : goal.id ≡ one.id = ap (λ ids. get_or ids 0 0) same in
    (λ i. first i ∷ ids-joined goals kept (ap (drop 1) same) i)

pub length-joined : (goals : List GoalRecord) (kept : List Kept) → goal_ids goals ≡ kept_ids kept → length (all_joined goals kept) ≡ length goals
length-joined [] [] same = refl
length-joined [] (one ∷ kept) same = absurd cc
length-joined (goal ∷ goals) [] same = absurd cc
length-joined (goal ∷ goals) (one ∷ kept) same = ap suc (length-joined goals kept (ap (drop 1) same))

-- other records under the same identifiers
pub joined-put : (goals after : List GoalRecord) (kept : List Kept) → goal_ids goals ≡ kept_ids kept → goal_ids after ≡ goal_ids goals → all_joined after kept ≡ with_records after (all_joined goals kept)
joined-put [] [] [] same ids = refl
joined-put [] [] (one ∷ kept) same ids = absurd cc
joined-put [] (new ∷ after) kept same ids = absurd cc
joined-put (goal ∷ goals) after [] same ids = absurd cc
joined-put (goal ∷ goals) [] (one ∷ kept) same ids = absurd cc
joined-put (goal ∷ goals) (new ∷ after) (one ∷ kept) same ids = ap (λ (rest : List HeldGoal). joined new one ∷ rest) (joined-put goals after kept (ap (drop 1) same) (ap (drop 1) ids))

-- a goal is found by its identifier where what is kept beside it is
module _ (id : GoalId) where
  alike : (goal : GoalRecord) (goals : List GoalRecord) (one : Kept) (kept : List Kept) → goal_ids (goal ∷ goals) ≡ kept_ids (one ∷ kept) → has_id id goal ≡ is_kept_for id one
  alike goal goals one kept same = ap (λ (n : GoalId). n == id) (ap (λ ids. get_or ids 0 0) same)

  -- what is kept beside a goal changes
  pub joined-changed : (by : Kept → Kept) (change : HeldGoal → HeldGoal) → ((goal : GoalRecord) (one : Kept) → joined goal (by one) ≡ change (joined goal one)) → (goals : List GoalRecord) (kept : List Kept) → goal_ids goals ≡ kept_ids kept →
      all_joined goals (change_first (is_kept_for id) by kept) ≡ change_first (is_for id) change (all_joined goals kept)
  joined-changed by change changes [] [] same = refl
  joined-changed by change changes [] (one ∷ kept) same = absurd cc
  joined-changed by change changes (goal ∷ goals) [] same = absurd cc
  joined-changed by change changes (goal ∷ goals) (one ∷ kept) same = at (is_kept_for id one) refl (joined-changed by change changes goals kept (ap (drop 1) same))
    where
      at : (b : Bool) → is_kept_for id one ≡ b → all_joined goals (change_first (is_kept_for id) by kept) ≡ change_first (is_for id) change (all_joined goals kept) →
          all_joined (goal ∷ goals) (change_first (is_kept_for id) by (one ∷ kept)) ≡ change_first (is_for id) change (all_joined (goal ∷ goals) (one ∷ kept))
      at true e rest = rw (e, alike goal goals one kept same ∙ e) (ap (λ (first : HeldGoal). first ∷ all_joined goals kept) (changes goal one))
      at false e rest = rw (e, alike goal goals one kept same ∙ e) (ap (λ (others : List HeldGoal). joined goal one ∷ others) rest)

  -- what is read of a goal beside its record
  pub read-joined : {B : Type 0} (part : HeldGoal → B) (own : Kept → B) (none : B) → ((goal : GoalRecord) (one : Kept) → part (joined goal one) ≡ own one) → (goals : List GoalRecord) (kept : List Kept) → goal_ids goals ≡ kept_ids kept →
      option_map_or part (find (is_for id) (all_joined goals kept)) none ≡ option_map_or own (find (is_kept_for id) kept) none
  read-joined part own none reads [] [] same = refl
  read-joined part own none reads [] (one ∷ kept) same = absurd cc
  read-joined part own none reads (goal ∷ goals) [] same = absurd cc
  read-joined part own none reads (goal ∷ goals) (one ∷ kept) same = at (is_kept_for id one) refl (read-joined part own none reads goals kept (ap (drop 1) same))
    where
      at : (b : Bool) → is_kept_for id one ≡ b → option_map_or part (find (is_for id) (all_joined goals kept)) none ≡ option_map_or own (find (is_kept_for id) kept) none →
          option_map_or part (find (is_for id) (all_joined (goal ∷ goals) (one ∷ kept))) none ≡ option_map_or own (find (is_kept_for id) (one ∷ kept)) none
      at true e rest = rw (e, alike goal goals one kept same ∙ e) (reads goal one)
      at false e rest = rw (e, alike goal goals one kept same ∙ e) rest

  -- its work
  pub work-joined : (goals : List GoalRecord) (kept : List Kept) → goal_ids goals ≡ kept_ids kept → option_map (λ held. held.work) (find (is_for id) (all_joined goals kept)) ≡ option_map (λ (one : Kept). one.work) (find (is_kept_for id) kept)
  work-joined [] [] same = refl
  work-joined [] (one ∷ kept) same = absurd cc
  work-joined (goal ∷ goals) [] same = absurd cc
  work-joined (goal ∷ goals) (one ∷ kept) same = at (is_kept_for id one) refl (work-joined goals kept (ap (drop 1) same))
    where
      at : (b : Bool) → is_kept_for id one ≡ b → option_map (λ held. held.work) (find (is_for id) (all_joined goals kept)) ≡ option_map (λ (one : Kept). one.work) (find (is_kept_for id) kept) →
          option_map (λ held. held.work) (find (is_for id) (all_joined (goal ∷ goals) (one ∷ kept))) ≡ option_map (λ (one : Kept). one.work) (find (is_kept_for id) (one ∷ kept))
      at true e rest = rw (e, alike goal goals one kept same ∙ e) refl
      at false e rest = rw (e, alike goal goals one kept same ∙ e) rest

  -- where nothing is kept there is no goal
  pub none-joined : (goals : List GoalRecord) (kept : List Kept) → goal_ids goals ≡ kept_ids kept → find (is_kept_for id) kept ≡ None → find (is_for id) (all_joined goals kept) ≡ None
  none-joined [] kept same none = refl
  none-joined (goal ∷ goals) [] same none = refl
  none-joined (goal ∷ goals) (one ∷ kept) same none = at (is_kept_for id one) refl none (none-joined goals kept (ap (drop 1) same))
    where
      at : (b : Bool) → is_kept_for id one ≡ b → find (is_kept_for id) (one ∷ kept) ≡ None → (find (is_kept_for id) kept ≡ None → find (is_for id) (all_joined goals kept) ≡ None) → find (is_for id) (all_joined (goal ∷ goals) (one ∷ kept)) ≡ None
      at true e none rest = let there : Some one ≡ None = rw e at none in absurd cc
      at false e none rest = let behind : find (is_kept_for id) kept ≡ None = rw e at none in rw (alike goal goals one kept same ∙ e) (rest behind)

-- one more goal
pub joined-accepted : (goals : List GoalRecord) (kept : List Kept) (goal : GoalRecord) (one : Kept) → goal_ids goals ≡ kept_ids kept → all_joined (goals ++ goal ∷ []) (kept ++ one ∷ []) ≡ all_joined goals kept ++ joined goal one ∷ []
joined-accepted [] [] goal one same = refl
joined-accepted [] (other ∷ kept) goal one same = absurd cc
joined-accepted (first ∷ goals) [] goal one same = absurd cc
joined-accepted (first ∷ goals) (other ∷ kept) goal one same = ap (λ (rest : List HeldGoal). joined first other ∷ rest) (joined-accepted goals kept goal one (ap (drop 1) same))

-- ---- a server, by what it is made of

module _ {goals : List GoalRecord} {kept : List Kept} {handler : Handler} {timeout : Option ℕ} {now : ServerEntry} (all : AreKept goals kept) (is : record { handler = handler; timeout = timeout; held = all_joined goals kept } ≡ now) where
  -- the records of its goals
  pub goals-now : goals ≡ records_of now.held
  goals-now = sym (records-joined goals kept all.same) ∙ ap (λ (server : ServerEntry). records_of server.held) is

  -- how many goals it holds
  pub length-now : length goals ≡ length now.held
  length-now = sym (length-joined goals kept all.same) ∙ ap (λ (server : ServerEntry). length server.held) is

  -- how many goals something is kept beside
  pub length-kept : length kept ≡ length now.held
  length-kept = omega (arith, length-now, ap length all.same, length-map goals (λ (goal : GoalRecord). goal.id), length-map kept (λ (one : Kept). one.id))

  -- the identifier of the goal at a place
  pub ids-now : kept_ids kept ≡ map (λ (one : HeldGoal). one.goal.id) now.held
  ids-now = sym (ids-joined goals kept all.same) ∙ ap (λ (server : ServerEntry). map (λ (one : HeldGoal). one.goal.id) server.held) is

  -- a goal's place is one at which something is kept
  pub place-now : (place : ℕ) (id : GoalId) → IsFor now.held place id → place < length kept
  place-now place id at = omega (arith, slice_get_within (map (λ (one : HeldGoal). one.goal.id) now.held) place id at, length-map now.held (λ (one : HeldGoal). one.goal.id), length-kept)

  -- the server once it holds one more goal
  pub accepted-now : (goal : GoalRecord) (one : Kept) (after : List GoalRecord) (left : List Kept) → after ≡ goals ++ goal ∷ [] → left ≡ kept ++ one ∷ [] →
      record { handler = handler; timeout = timeout; held = all_joined after left } ≡ record now { held = now.held ++ joined goal one ∷ [] }
  accepted-now goal one after left are stays =
      ap (λ (held : List HeldGoal). record { handler = handler; timeout = timeout; held = held })
      ((λ i. all_joined (are i) (stays i)) ∙ joined-accepted goals kept goal one all.same)
      ∙ ap (λ (server : ServerEntry). record server { held = server.held ++ joined goal one ∷ [] }) is

  -- the server once records are changed under their identifiers
  pub put-now : (change : List GoalRecord → List GoalRecord) → goal_ids (change goals) ≡ goal_ids goals → (after : List GoalRecord) → after ≡ change goals → record { handler = handler; timeout = timeout; held = all_joined after kept } ≡ with_goals change now
  put-now change same after are =
      ap (λ (held : List HeldGoal). record { handler = handler; timeout = timeout; held = held })
      (ap (λ (goals : List GoalRecord). all_joined goals kept) are
      ∙ joined-put goals (change goals) kept all.same same
      ∙ ap (λ (own : List GoalRecord). with_records (change own) (all_joined goals kept)) (sym (records-joined goals kept all.same)))
      ∙ ap (with_goals change) is

  -- the server once what is kept beside a goal is changed
  pub change-now : (id : GoalId) (by : Kept → Kept) (change : HeldGoal → HeldGoal) → ((goal : GoalRecord) (one : Kept) → joined goal (by one) ≡ change (joined goal one)) → (after : List Kept) → after ≡ change_first (is_kept_for id) by kept →
      record { handler = handler; timeout = timeout; held = all_joined goals after } ≡ with_held id change now
  change-now id by change changes after are =
      ap (λ (held : List HeldGoal). record { handler = handler; timeout = timeout; held = held })
      (ap (λ (kept : List Kept). all_joined goals kept) are ∙ joined-changed id by change changes goals kept all.same)
      ∙ ap (with_held id change) is

  -- what is read of a goal beside its record
  pub read-now : {B : Type 0} (part : HeldGoal → B) (own : Kept → B) (none : B) → ((goal : GoalRecord) (one : Kept) → part (joined goal one) ≡ own one) → (id : GoalId) → option_map_or own (find (is_kept_for id) kept) none ≡ option_map_or part (find (is_for id) now.held) none
  read-now part own none reads id = sym (read-joined id part own none reads goals kept all.same) ∙ ap (λ (server : ServerEntry). option_map_or part (find (is_for id) server.held) none) is

  -- its work
  pub work-now : (id : GoalId) → option_map (λ (one : Kept). one.work) (find (is_kept_for id) kept) ≡ option_map (λ held. held.work) (find (is_for id) now.held)
  work-now id = sym (work-joined id goals kept all.same) ∙ ap (λ (server : ServerEntry). option_map (λ held. held.work) (find (is_for id) server.held)) is

-- what follows where there is no value holds there
pub if_none_weaker : {A P Q : Type 0} (found : Option A) → (P → Q) → IfNone found P → IfNone found Q
if_none_weaker None weaker holds = weaker holds
if_none_weaker (Some x) weaker holds = tt
