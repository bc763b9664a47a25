-- Words for the laws of goals.
use Rattle.std.specs.Prelude.{◌≡◌, ◌≢◌, List, [], ◌∷◌, All}
use Rattle.exec_goal.specs.Cancel.{Decided, decision_of}
use Rattle.exec_msg.specs.declared.goal.CancelDecision.TheVariants as cancel_decision

-- the first list is the second without some of its elements, the others in their order
pub data IsSublist {X : Type 0} : List X → List X → Type 0 where
  empty : IsSublist [] []
  with_first : (x : X) (xs ys : List X) → IsSublist xs ys → IsSublist (x ∷ xs) (x ∷ ys)
  without_first : (x : X) (xs ys : List X) → IsSublist xs ys → IsSublist xs (x ∷ ys)

-- there were candidates, and the handler refused all of them
abbrev pub AllRefused : List Decided → Type 0
AllRefused decisions = (decisions ≢ []) × All (λ decided. decision_of decided ≡ cancel_decision.Reject) decisions
