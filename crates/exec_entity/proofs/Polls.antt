-- A server's goals that are awake, goal by goal.
use Rattle.std.proofs.Common.{◌≡◌, ℕ, ◌+◌, ◌<◌, Bool, true, false, List, [], ◌∷◌, ◌++◌, length, get_or, take, map, refl, sym, ap, ◌∙◌}
use Rattle.std.specs.List.{filter, flat_map}
use Rattle.std.proofs.lemmas.List.{flat_map_more, take_more}
use Rattle.exec_rules.specs.Ready.{is_goal_awake}
use Rattle.exec_msg.specs.Numbers.{Moment}
use Rattle.exec_rules.specs.World.{HeldGoal, ServerEntry}
use Rattle.exec_rules.specs.declared.ready.AwakeGoal.{AwakeGoal}
use Rattle.exec_rules.specs.inner.Awake.{awake_goal, awake_goals, goal_awake}

pub awake_are : (moment : Moment) (entry : ServerEntry) → awake_goals moment entry ≡ map (λ held. awake_goal entry.handler held.goal) (filter (is_goal_awake moment) entry.held)
awake_are moment entry = each entry.held
  where
    each : (held : List HeldGoal) → flat_map (goal_awake moment entry.handler) held ≡ map (λ held. awake_goal entry.handler held.goal) (filter (is_goal_awake moment) held)
    each [] = refl
    each (one ∷ held) = by (is_goal_awake moment one) refl (each held)
      where
        by : (b : Bool) → is_goal_awake moment one ≡ b → flat_map (goal_awake moment entry.handler) held ≡ map (λ held. awake_goal entry.handler held.goal) (filter (is_goal_awake moment) held)
            → flat_map (goal_awake moment entry.handler) (one ∷ held) ≡ map (λ held. awake_goal entry.handler held.goal) (filter (is_goal_awake moment) (one ∷ held))
        by true e rest = rw e (ap (λ (goals : List AwakeGoal). awake_goal entry.handler one.goal ∷ goals) rest)
        by false e rest = rw e rest

pub none_awake : (moment : Moment) (entry : ServerEntry) → filter (is_goal_awake moment) entry.held ≡ [] → awake_goals moment entry ≡ []
none_awake moment entry none = awake_are moment entry ∙ ap (map (λ held. awake_goal entry.handler held.goal)) none

-- what an element gives is added next
pub added_next : {A B : Type 0} (f : A → List B) (before : List B) (xs : List A) (i : ℕ) (d : A) → i < length xs → (before ++ flat_map f (take i xs)) ++ f (get_or xs i d) ≡ before ++ flat_map f (take (i + 1) xs)
added_next f before xs i d within = flat_map_more f before (take i xs) (get_or xs i d) ∙ ap (λ (all : List _). before ++ flat_map f all) (sym (take_more xs i d within))
