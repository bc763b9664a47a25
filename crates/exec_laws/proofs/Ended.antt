-- What comes behind a terminal status, and between two.
use Rattle.std.proofs.Common.{◌≡◌, ◌↔◌, inl, inr, true, List, [], ◌∷◌, ◌++◌, drop, Option, None, Some, is_some, refl, sym, ap, ◌∙◌, true≢false}
use Rattle.exec_goal.specs.State.{Transition, after, is_terminal, status_of}
use Rattle.exec_goal.specs.declared.state.State.{State}
use Rattle.exec_goal.specs.declared.state.State.TheVariants as state
use Rattle.exec_msg.specs.declared.goal.Event.{Event}
use Rattle.exec_msg.specs.declared.goal.GoalStatus.{GoalStatus}
use Rattle.exec_msg.specs.declared.goal.GoalStatus.TheVariants as status
use Rattle.exec_laws.specs.Goals.{AreLawful, IsFinal, MayCome}

source_final : (one : State) → IsFinal (status_of one) → is_terminal one ≡ true
source_final state.Accepted (inl h) = absurd cc
source_final state.Accepted (inr (inl h)) = absurd cc
source_final state.Accepted (inr (inr h)) = absurd cc
source_final state.Executing (inl h) = absurd cc
source_final state.Executing (inr (inl h)) = absurd cc
source_final state.Executing (inr (inr h)) = absurd cc
source_final state.Canceling (inl h) = absurd cc
source_final state.Canceling (inr (inl h)) = absurd cc
source_final state.Canceling (inr (inr h)) = absurd cc
source_final state.Succeeded final = refl
source_final state.Canceled final = refl
source_final state.Aborted final = refl

-- so only an acceptance comes behind a terminal status, where goals move by the table and those that ended stay
pub behind_final : ((source : State) (by : Event) (target : State) → (after source by ≡ Some target) ↔ Transition source by target)
    → ((source : State) (by : Event) → is_terminal source ≡ true → after source by ≡ None)
    → (before next : GoalStatus) → IsFinal before → MayCome (Some before) next → next ≡ status.Accepted
behind_final moves stay before next final (inl step) =
    let moved : after step.source step.by ≡ Some step.target = (moves step.source step.by step.target).1 step.moves in
    let stayed : after step.source step.by ≡ None = stay step.source step.by (source_final step.source (rw step.comes_from final)) in
    absurd (true≢false (ap (λ (o : Option State). is_some o) (sym moved ∙ stayed)))
behind_final moves stay before next final (inr accepted) = accepted.1

-- and between two terminal statuses stands an acceptance
pub ends_apart : ((before next : GoalStatus) → IsFinal before → MayCome (Some before) next → next ≡ status.Accepted)
    → (last : Option GoalStatus) (before between behind : List GoalStatus) (first second : GoalStatus) → AreLawful last (before ++ first ∷ between ++ second ∷ behind) → IsFinal first → IsFinal second → between ≡ status.Accepted ∷ drop 1 between
ends_apart once last [] [] behind first second lawful ended again = absurd (accepted_ends second (once first second ended lawful.1.0) again)
  where
    accepted_ends : (one : GoalStatus) → one ≡ status.Accepted → IsFinal one → ⊥
    accepted_ends one is (inl h) = let wrong : status.Accepted ≡ status.Succeeded = sym is ∙ h in absurd cc
    accepted_ends one is (inr (inl h)) = let wrong : status.Accepted ≡ status.Canceled = sym is ∙ h in absurd cc
    accepted_ends one is (inr (inr h)) = let wrong : status.Accepted ≡ status.Aborted = sym is ∙ h in absurd cc
ends_apart once last [] (next ∷ between) behind first second lawful ended again = ap (λ (one : GoalStatus). one ∷ between) (once first next ended lawful.1.0)
ends_apart once last (one ∷ before) between behind first second lawful ended again = ends_apart once (Some one) before between behind first second lawful.1 ended again
