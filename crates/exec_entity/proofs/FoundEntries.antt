-- What is found by a number has it.
use Rattle.std.proofs.Common.{◌≡◌, ℕ, ◌==◌, Bool, true, false, cond, List, [], ◌∷◌, Some, find, refl, subst}
use Rattle.std.proofs.lemmas.Bool.{eqb-true}

pub found_number : {E : Type 0} (number_of : E → ℕ) (number : ℕ) (entries : List E) (entry : E) → find (λ one. number_of one == number) entries ≡ Some entry → number_of entry ≡ number
found_number number_of number [] entry found = absurd cc
found_number {E} number_of number (one ∷ entries) entry found = by (number_of one == number) refl found (found_number number_of number entries entry)
  where
    by : (b : Bool) → (number_of one == number) ≡ b → cond b (Some one) (find (λ one. number_of one == number) entries) ≡ Some entry → (find (λ one. number_of one == number) entries ≡ Some entry → number_of entry ≡ number) → number_of entry ≡ number
    by true same found later =
        let here : number_of one ≡ number = eqb-true (number_of one) number same in
        let is : one ≡ entry = cc in
        subst (λ (e : E). number_of e ≡ number) is here
    by false other found later = later found
