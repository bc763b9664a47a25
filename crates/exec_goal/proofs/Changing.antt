-- What a change of one goal does to a table.
use Rattle.std.proofs.Common.{◌≡◌, ◌≢◌, ℕ, ◌==◌, List, [], ◌∷◌, map, Bool, true, false, cond, if◌then◌else◌, Some, refl, ap, sym, ◌∙◌}
use Rattle.std.specs.List.{find}
use Rattle.std.specs.Option.{option_map}
use Rattle.std.proofs.lemmas.Bool.{eqb-true, ne_eqb}
use Rattle.exec_msg.specs.Lists.{change_first}
use Rattle.exec_goal.specs.Table.{GoalRecord, has_id}

module _ (change : GoalRecord → GoalRecord) (keeps : (goal : GoalRecord) → (change goal).id ≡ goal.id) where
  ids_by : (b : Bool) (goal : GoalRecord) (goals others : List GoalRecord) → map (λ goal. goal.id) others ≡ map (λ goal. goal.id) goals →
      map (λ goal. goal.id) (if b then change goal ∷ goals else goal ∷ others) ≡ goal.id ∷ map (λ goal. goal.id) goals
  ids_by true goal goals others same = ap (λ id. id ∷ map (λ goal. goal.id) goals) (keeps goal)
  ids_by false goal goals others same = ap (λ ids. goal.id ∷ ids) same

  -- the identifiers stay, in their order
  pub changed-ids : (id : ℕ) (goals : List GoalRecord) → map (λ goal. goal.id) (change_first (has_id id) change goals) ≡ map (λ goal. goal.id) goals
  changed-ids id [] = refl
  changed-ids id (goal ∷ goals) = ids_by (has_id id goal) goal goals (change_first (has_id id) change goals) (changed-ids id goals)

  found_by : (id : ℕ) (b : Bool) (goal : GoalRecord) (goals others : List GoalRecord) → has_id id goal ≡ b → find (has_id id) others ≡ option_map change (find (has_id id) goals) →
      find (has_id id) (if b then change goal ∷ goals else goal ∷ others) ≡ option_map change (cond b (Some goal) (find (has_id id) goals))
  found_by id true goal goals others is same =
      let named : has_id id (change goal) ≡ true = ap (λ one. one == id) (keeps goal) ∙ is in
      rw named refl
  found_by id false goal goals others is same = rw is same

  -- the goal of the identifier is the one that was held, changed
  pub changed-found : (id : ℕ) (goals : List GoalRecord) → find (has_id id) (change_first (has_id id) change goals) ≡ option_map change (find (has_id id) goals)
  changed-found id [] = refl
  changed-found id (goal ∷ goals) = found_by id (has_id id goal) goal goals (change_first (has_id id) change goals) refl (changed-found id goals)

  others_by : (id other : ℕ) (b : Bool) (goal : GoalRecord) (goals changed : List GoalRecord) → id ≢ other → has_id id goal ≡ b → find (has_id other) changed ≡ find (has_id other) goals →
      find (has_id other) (if b then change goal ∷ goals else goal ∷ changed) ≡ cond (has_id other goal) (Some goal) (find (has_id other) goals)
  others_by id other true goal goals changed differ is same =
      let here : goal.id ≡ id = eqb-true goal.id id is in
      let mine : has_id other goal ≡ false = ne_eqb goal.id other (λ equal. differ (sym here ∙ equal)) in
      let changed : has_id other (change goal) ≡ false = ap (λ one. one == other) (keeps goal) ∙ mine in
      rw (mine, changed) refl
  others_by id other false goal goals changed differ is same = ap (λ found. cond (has_id other goal) (Some goal) found) same

  -- each goal of another identifier stays
  pub changed-others : (id other : ℕ) (goals : List GoalRecord) → id ≢ other → find (has_id other) (change_first (has_id id) change goals) ≡ find (has_id other) goals
  changed-others id other [] differ = refl
  changed-others id other (goal ∷ goals) differ = others_by id other (has_id id goal) goal goals (change_first (has_id id) change goals) differ refl (changed-others id other goals differ)
