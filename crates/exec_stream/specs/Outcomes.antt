-- What is put into a queue of outcomes and taken out of it, over all its passes.
use Rattle.std.specs.Prelude.{◌≡◌, ℕ, ◌+◌, ◌-◌, ◌/◌, ◌^◌, List, [], ◌∷◌, ◌++◌, length, IsPermutation}
use Rattle.std.specs.List.{flat_map, sum_by}
use mathlib.Core.Option.{some}
use lib.ListN.{get_elem?}
use Rattle.exec_lane.specs.declared.outcome.Outcome.{Outcome}

-- what the caller with a pass of a queue knows: how many of the queue's parts the pass has, and what it put and took, the last
-- one last. The passes of a queue share its parts, so that the pass that has all of them knows that it is the last
pub record Hand : Type 0 where
  pub parts : ℕ
  pub put : List Outcome
  pub took : List Outcome

-- the parts of a queue
abbrev pub all_parts : ℕ
all_parts = 2 ^ 65

-- the first pass
abbrev pub first_hand : Hand
first_hand = record { parts = all_parts; put = []; took = [] }

-- a pass that was joined to another
abbrev pub spent_hand : Hand
spent_hand = record { parts = 0; put = []; took = [] }

-- a pass that has put an outcome, and one that has taken one
abbrev pub having_put : Outcome → Hand → Hand
having_put outcome hand = record hand { put = hand.put ++ outcome ∷ [] }

abbrev pub having_taken : Outcome → Hand → Hand
having_taken outcome hand = record hand { took = hand.took ++ outcome ∷ [] }

-- a pass that was split keeps what it put and took, and half of its parts, rounded down
abbrev pub kept_hand : Hand → Hand
kept_hand hand = record hand { parts = hand.parts / 2 }

-- the other pass has the rest
abbrev pub new_hand : Hand → Hand
new_hand hand = record { parts = hand.parts - hand.parts / 2; put = []; took = [] }

-- two passes joined
abbrev pub joined_hands : Hand → Hand → Hand
joined_hands hand other = record { parts = hand.parts + other.parts; put = hand.put ++ other.put; took = hand.took ++ other.took }

-- what all passes put, and what they took
abbrev pub put_by_all : List Hand → List Outcome
put_by_all hands = flat_map (λ (hand : Hand). hand.put) hands

abbrev pub taken_by_all : List Hand → List Outcome
taken_by_all hands = flat_map (λ (hand : Hand). hand.took) hands

-- The balance: what all passes put is, item by item and as often, what all took and what the queue holds.
pub record Balanced (items : List Outcome) (hands : List Hand) : Type 0 where
  pub parts : sum_by (λ (hand : Hand). hand.parts) hands ≡ all_parts
  pub same : IsPermutation (put_by_all hands) (taken_by_all hands ++ items)
  pub spent : (seat : ℕ) (hand : Hand) → get_elem? hands seat ≡ some hand → hand.parts ≡ 0 → hand ≡ spent_hand

-- the queue held these items while a pass of it knew this
abbrev pub WasHeld : Hand → List Outcome → Type 0
WasHeld hand items = (hands : List Hand) × (seat : ℕ) × (get_elem? hands seat ≡ some hand) × Balanced items hands

-- and there were so many of them
abbrev pub WasHolding : ℕ → Hand → Type 0
WasHolding count hand = (items : List Outcome) × (length items ≡ count) × WasHeld hand items
