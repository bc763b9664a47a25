-- The records of goals that a server holds.
use Rattle.std.proofs.Common.{◌≡◌, ◌||◌, Bool, true, false, List, [], ◌∷◌, map, refl, ap}
use Rattle.std.specs.List.{AllByRecursion, filter, find, list_any}
use Rattle.std.specs.Option.{option_map_or}
use Rattle.exec_goal.specs.Table.{GoalRecord, has_id}
use Rattle.exec_msg.specs.Lists.{change_first}
use Rattle.exec_msg.specs.Numbers.{GoalId}
use Rattle.exec_rules.specs.World.{HeldGoal, is_for, records_of, with_records}

-- the identifiers of goals
abbrev pub ids : List GoalRecord → List GoalId
ids goals = map (λ goal. goal.id) goals

-- the records of which goals are given theirs are those that they are given
pub records_put : (goals : List GoalRecord) (held : List HeldGoal) → ids goals ≡ ids (records_of held) → records_of (with_records goals held) ≡ goals
records_put [] [] same = refl
records_put [] (one ∷ held) same = absurd cc
records_put (goal ∷ goals) [] same = absurd cc
records_put (goal ∷ goals) (one ∷ held) same =
    let behind : ids goals ≡ ids (records_of held) = cc in
    ap (λ (rest : List GoalRecord). goal ∷ rest) (records_put goals held behind)

-- and the goals have the identifiers that they had
pub any_put : (id : GoalId) (goals : List GoalRecord) (held : List HeldGoal) → ids goals ≡ ids (records_of held) → list_any (is_for id) (with_records goals held) ≡ list_any (is_for id) held
any_put id [] [] same = refl
any_put id [] (one ∷ held) same = absurd cc
any_put id (goal ∷ goals) [] same = absurd cc
any_put id (goal ∷ goals) (one ∷ held) same =
    let here : has_id id goal ≡ is_for id one = cc in
    let behind : ids goals ≡ ids (records_of held) = cc in
    λ i. here i || any_put id goals held behind i

-- what is read of a goal beside its record stays
pub read_put : {B : Type 0} (part : HeldGoal → B) (none : B) → ((goal : GoalRecord) (one : HeldGoal) → part (record one { goal = goal }) ≡ part one) → (id : GoalId) (goals : List GoalRecord) (held : List HeldGoal) → ids goals ≡ ids (records_of held) →
    option_map_or part (find (is_for id) (with_records goals held)) none ≡ option_map_or part (find (is_for id) held) none
read_put part none stays id [] [] same = refl
read_put part none stays id [] (one ∷ held) same = absurd cc
read_put part none stays id (goal ∷ goals) [] same = absurd cc
read_put part none stays id (goal ∷ goals) (one ∷ held) same =
    let here : is_for id one ≡ has_id id goal = cc in
    let behind : ids goals ≡ ids (records_of held) = cc in
    by (has_id id goal) refl here (read_put part none stays id goals held behind)
  where
    by : (b : Bool) → has_id id goal ≡ b → is_for id one ≡ has_id id goal → option_map_or part (find (is_for id) (with_records goals held)) none ≡ option_map_or part (find (is_for id) held) none →
        option_map_or part (find (is_for id) (with_records (goal ∷ goals) (one ∷ held))) none ≡ option_map_or part (find (is_for id) (one ∷ held)) none
    by true e here rest = rw (here, e) (stays goal one)
    by false e here rest = rw (here, e) rest

module _ (id : GoalId) (change : HeldGoal → HeldGoal) (goal_same : (one : HeldGoal) → (change one).goal ≡ one.goal) where
  -- a change that leaves records
  pub records_left : (held : List HeldGoal) → records_of (change_first (is_for id) change held) ≡ records_of held
  records_left [] = refl
  records_left (one ∷ held) = by (is_for id one) refl (records_left held)
    where
      by : (b : Bool) → is_for id one ≡ b → records_of (change_first (is_for id) change held) ≡ records_of held → records_of (change_first (is_for id) change (one ∷ held)) ≡ records_of (one ∷ held)
      by true e rest = rw e (ap (λ (goal : GoalRecord). goal ∷ records_of held) (goal_same one))
      by false e rest = rw e (ap (λ (goals : List GoalRecord). one.goal ∷ goals) rest)

  -- comes to the same before goals are given records and behind it
  pub put_changed : ((goal : GoalRecord) (one : HeldGoal) → change (record one { goal = goal }) ≡ record (change one) { goal = goal }) → (goals : List GoalRecord) (held : List HeldGoal) → ids goals ≡ ids (records_of held) →
      change_first (is_for id) change (with_records goals held) ≡ with_records goals (change_first (is_for id) change held)
  put_changed apart [] [] same = refl
  put_changed apart [] (one ∷ held) same = absurd cc
  put_changed apart (goal ∷ goals) [] same = absurd cc
  put_changed apart (goal ∷ goals) (one ∷ held) same =
      let here : is_for id one ≡ has_id id goal = cc in
      let behind : ids goals ≡ ids (records_of held) = cc in
      by (has_id id goal) refl here (put_changed apart goals held behind)
    where
      by : (b : Bool) → has_id id goal ≡ b → is_for id one ≡ has_id id goal → change_first (is_for id) change (with_records goals held) ≡ with_records goals (change_first (is_for id) change held) →
          change_first (is_for id) change (with_records (goal ∷ goals) (one ∷ held)) ≡ with_records (goal ∷ goals) (change_first (is_for id) change (one ∷ held))
      by true e here rest = rw (here, e) (ap (λ (first : HeldGoal). first ∷ with_records goals held) (apart goal one))
      by false e here rest = rw (here, e) (ap (λ (others : List HeldGoal). record one { goal = goal } ∷ others) rest)

-- the goals whose records pass a test
pub records_filtered : (test : GoalRecord → Bool) (held : List HeldGoal) → records_of (filter (λ one. test one.goal) held) ≡ filter test (records_of held)
records_filtered test [] = refl
records_filtered test (one ∷ held) = by (test one.goal) refl (records_filtered test held)
  where
    by : (b : Bool) → test one.goal ≡ b → records_of (filter (λ one. test one.goal) held) ≡ filter test (records_of held) → records_of (filter (λ one. test one.goal) (one ∷ held)) ≡ filter test (records_of (one ∷ held))
    by true e rest = rw e (ap (λ (goals : List GoalRecord). one.goal ∷ goals) rest)
    by false e rest = rw e rest

-- what is true of each goal, whatever its record is under its identifier
pub all_put : (P : HeldGoal → Type 0) → ((goal : GoalRecord) (one : HeldGoal) → goal.id ≡ one.goal.id → P one → P (record one { goal = goal })) → (goals : List GoalRecord) (held : List HeldGoal) → ids goals ≡ ids (records_of held) →
    AllByRecursion P held → AllByRecursion P (with_records goals held)
all_put P stays [] held same p = tt
all_put P stays (goal ∷ goals) [] same p = tt
all_put P stays (goal ∷ goals) (one ∷ held) same p =
    let here : goal.id ≡ one.goal.id = cc in
    let behind : ids goals ≡ ids (records_of held) = cc in
    (stays goal one here p.0, all_put P stays goals held behind p.1)

-- a part of each goal, beside its record
pub parts_put : {B : Type 0} (part : HeldGoal → B) → ((goal : GoalRecord) (one : HeldGoal) → part (record one { goal = goal }) ≡ part one) → (goals : List GoalRecord) (held : List HeldGoal) → ids goals ≡ ids (records_of held) → map part (with_records goals held) ≡ map part held
parts_put part stays [] [] same = refl
parts_put part stays [] (one ∷ held) same = absurd cc
parts_put part stays (goal ∷ goals) [] same = absurd cc
parts_put part stays (goal ∷ goals) (one ∷ held) same =
    let behind : ids goals ≡ ids (records_of held) = cc in
    λ i. stays goal one i ∷ parts_put part stays goals held behind i
