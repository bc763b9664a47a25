-- What is known of a schedule that was read.
use Rattle.std.proofs.Common.{◌≡◌, ◌&&◌, Bool, true, false, List, [], ◌∷◌, Option, Some, refl}
use Rattle.std.specs.Bool.{then_some}
use Rattle.std.specs.List.{list_all}
use Rattle.exec_msg.specs.Options.{◌>>=◌, each}

-- each passes a test where all do
pub each_only : {A : Type 0} (test : A → Bool) (xs : List A) → each (λ x. then_some (test x) x) xs ≡ then_some (list_all test xs) xs
each_only test [] = refl
each_only {A} test (x ∷ xs) = both (test x) (list_all test xs) (each (λ x. then_some (test x) x) xs) (each_only test xs) where
  both : (b c : Bool) (rest : Option (List A)) → rest ≡ then_some c xs → (then_some b x >>= (λ y. rest >>= (λ ys. Some (y ∷ ys)))) ≡ then_some (b && c) (x ∷ xs)
  both true true rest e = rw e refl
  both true false rest e = rw e refl
  both false c rest e = refl
