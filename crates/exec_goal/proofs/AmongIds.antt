-- Which identifiers stand in a list.
use Rattle.std.proofs.Common.{◌≡◌, ℕ, Bool, true, false, cond, ◌&&◌, ◌||◌, ◌==◌, List, [], ◌∷◌, refl, sym, ◌∙◌}
use Rattle.std.specs.Bool.{Decides}
use Rattle.std.specs.List.{list_any}
use Rattle.std.proofs.lemmas.Bool.{eqb-true, eq-eqb}
use Rattle.std.proofs.lemmas.Bool.Decides.{same_from_decides}
use Rattle.exec_goal.specs.inner.Ids.{is_among}

-- what stays where one more doesn't count, and what comes where it does
pub not_counted : (b c : Bool) → b ≡ (b || (c && false))
not_counted true c = refl
not_counted false true = refl
not_counted false false = refl

counted : (b c : Bool) → cond c true b ≡ (b || (c && true))
counted true true = refl
counted true false = refl
counted false true = refl
counted false false = refl

module _ (eq : ℕ → ℕ → Bool) (decides : (a b : ℕ) → Decides (eq a b) (a ≡ b)) where
  among : (ids : List ℕ) (id : ℕ) → list_any (eq id) ids ≡ is_among ids id
  among [] id = refl
  among (one ∷ ids) id = λ i. same_from_decides (eq id one) (one == id) (decides id one) ((λ is. sym (eqb-true one id is)), (λ is. eq-eqb one id (sym is))) i || among ids id i

  -- an identifier is put into a set
  pub among_more : (ids after : List ℕ) (new id : ℕ) → list_any (eq id) after ≡ cond (eq new id) true (list_any (eq id) ids) → is_among after id ≡ (is_among ids id || ((new == id) && true))
  among_more ids after new id updated =
      sym (among after id) ∙ updated
      ∙ (λ i. cond (same_from_decides (eq new id) (new == id) (decides new id) ((λ is. eqb-true new id is), (λ is. eq-eqb new id is)) i) true (among ids id i))
      ∙ counted (is_among ids id) (new == id)
