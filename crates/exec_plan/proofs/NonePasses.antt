-- A test that nothing passes.
use Rattle.std.proofs.Common.{◌≡◌, Bool, true, false, cond, ◌||◌, List, [], ◌∷◌, Option, None, Some, find, refl}
use Rattle.std.specs.List.{list_any}

none_here : {A : Type 0} (x : A) (rest : Option A) (b c : Bool) → cond b (Some x) rest ≡ None → (rest ≡ None → c ≡ false) → (b || c) ≡ false
none_here x rest true c found others = absurd cc
none_here x rest false c found others = others found

pub none_passes : {A : Type 0} (test : A → Bool) (xs : List A) → find test xs ≡ None → list_any test xs ≡ false
none_passes test [] found = refl
none_passes test (x ∷ xs) found = none_here x (find test xs) (test x) (list_any test xs) found (none_passes test xs)
