-- Entries of a graph's entities, found by the entities' numbers.
use Rattle.std.specs.Prelude.{◌≡◌, ℕ, Bool, List, ◌==◌, Option, None, Some, find}
use Rattle.exec_msg.specs.Lists.{change_first}
use Rattle.exec_msg.specs.Places.{first_place, place_under}

-- a look-up by a number gives the place of the first entry that has it
abbrev pub FindsByNumber : {E : Type 0} → (E → ℕ) → List (Option ℕ) → List E → Type 0
FindsByNumber number_of places entries = (number : ℕ) → place_under number places ≡ first_place (λ entry. number_of entry == number) entries

-- a change leaves an entry its number, whatever it answers
abbrev pub KeepsNumber : {E T : Type 0} → (E → ℕ) → (E → T → E → Type 0) → Type 0
KeepsNumber {E} {T} number_of Changes = (before : E) (told : T) (after : E) → Changes before told after → number_of after ≡ number_of before

-- entries of which the first that passes a test, if one does, is changed so, and what the change answers
abbrev pub IsChanged : {E T : Type 0} → (E → T → E → Type 0) → (E → Bool) → List E → Option T → List E → Type 0
IsChanged Changes test before None after = (find test before ≡ None) × (after ≡ before)
IsChanged {E} Changes test before (Some told) after =
    (entry changed : E) × (find test before ≡ Some entry) × Changes entry told changed × (after ≡ change_first test (λ _. changed) before)
