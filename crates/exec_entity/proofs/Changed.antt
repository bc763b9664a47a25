-- What is made of a list by a change of the entry that is found.
use Rattle.std.proofs.Common.{◌≡◌, Bool, true, false, cond, if◌then◌else◌, List, [], ◌∷◌, Option, Some, None, find, Result, Ok, Err, IfNone, IfSome, OnOk, refl, sym, subst, ap, ◌∙◌}
use Rattle.std.specs.Option.{option_flatten, option_transpose, unwrap_or}
use Rattle.exec_msg.specs.Lists.{change_first}
use Rattle.exec_entity.specs.inner.Numbered.{IsChanged}

module _ {E : Type 0} (test : E → Bool) where
  -- if no element passes, none is changed
  pub unchanged-none : (change : E → E) (xs : List E) → find test xs ≡ None → change_first test change xs ≡ xs
  unchanged-none change [] none = refl
  unchanged-none change (x ∷ xs) none = by (test x) none (unchanged-none change xs)
    where
      by : (b : Bool) → cond b (Some x) (find test xs) ≡ None → (find test xs ≡ None → change_first test change xs ≡ xs) → (if b then change x ∷ xs else x ∷ change_first test change xs) ≡ x ∷ xs
      by true none others = absurd cc
      by false none others = ap (λ rest. x ∷ rest) (others none)

  -- if each is changed to itself, the list stays
  pub unchanged_first : (xs : List E) → change_first test (λ x. x) xs ≡ xs
  unchanged_first [] = refl
  unchanged_first (x ∷ xs) = by (test x) (unchanged_first xs)
    where
      by : (b : Bool) → change_first test (λ x. x) xs ≡ xs → (if b then x ∷ xs else x ∷ change_first test (λ x. x) xs) ≡ x ∷ xs
      by true others = refl
      by false others = ap (λ rest. x ∷ rest) others

  -- only what is made of the element that is found matters
  made_alike : (change other : E → E) (entry : E) (xs : List E) → find test xs ≡ Some entry → change entry ≡ other entry → change_first test change xs ≡ change_first test other xs
  made_alike change other entry [] found same = refl
  made_alike change other entry (x ∷ xs) found same = by (test x) found (λ later. made_alike change other entry xs later same)
    where
      by : (b : Bool) → cond b (Some x) (find test xs) ≡ Some entry → (find test xs ≡ Some entry → change_first test change xs ≡ change_first test other xs)
          → (if b then change x ∷ xs else x ∷ change_first test change xs) ≡ (if b then other x ∷ xs else x ∷ change_first test other xs)
      by true found others = let is : x ≡ entry = cc in (λ i. (ap change is ∙ same ∙ ap other (sym is)) i ∷ xs)
      by false found others = ap (λ rest. x ∷ rest) (others found)

module _ {E T : Type 0} (Changes : E → T → E → Type 0) (test : E → Bool) (change : E → E) (before after : List E) where
  -- the entry is changed as each answer says
  pub changed : (told : Option T) → IsChanged Changes test before told after → ((answer : T) (entry now : E) → find test before ≡ Some entry → Changes entry answer now → now ≡ change entry) → after ≡ change_first test change before
  changed None p says = p.1 ∙ sym (unchanged-none test change before p.0)
  changed (Some answer) p says = p.4 ∙ made_alike test (λ _. p.1) change p.0 before p.2 (says answer p.0 p.1 p.2 p.3)

  -- and if there is no answer, none is
  pub changed-none : (told : Option T) → IsChanged Changes test before told after → told ≡ None → after ≡ change_first test change before
  changed-none None p is = p.1 ∙ sym (unchanged-none test change before p.0)
  changed-none (Some answer) p is = absurd cc

-- what holds unless a change was refused
abbrev pub UnlessRefused : {T Z : Type 0} → Option (Result T Z) → Type 0 → Type 0
UnlessRefused None P = P
UnlessRefused (Some answer) P = OnOk answer P

module _ {E T Z : Type 0} (Changes : E → Result T Z → E → Type 0) (test : E → Bool) (change : E → E) (before after : List E) where
  -- the same of a change that may be refused
  pub changed_ok : (told : Option (Result T Z)) → IsChanged Changes test before told after → ((made : T) (entry now : E) → find test before ≡ Some entry → Changes entry (Ok made) now → now ≡ change entry)
      → UnlessRefused told (after ≡ change_first test change before)
  changed_ok None p says = p.1 ∙ sym (unchanged-none test change before p.0)
  changed_ok (Some (Ok made)) p says = p.4 ∙ made_alike test (λ _. p.1) change p.0 before p.2 (says made p.0 p.1 p.2 p.3)
  changed_ok (Some (Err e)) p says = tt

module _ {T Z : Type 0} (P : Type 0) where
  -- what holds then holds of each form of the answer
  pub on_unwrapped : (told : Option (Result T Z)) (otherwise answer : Result T Z) → answer ≡ unwrap_or told otherwise → UnlessRefused told P → OnOk answer P
  on_unwrapped told otherwise answer is p = subst (λ (one : Result T Z). OnOk one P) (sym is) (by told otherwise p)
    where
      by : (told : Option (Result T Z)) (otherwise : Result T Z) → UnlessRefused told P → OnOk (unwrap_or told otherwise) P
      by None (Ok made) p = p
      by None (Err e) p = tt
      by (Some answer) otherwise p = p

  pub on_transposed : (told : Option (Result T Z)) (answer : Result (Option T) Z) → answer ≡ option_transpose told → UnlessRefused told P → OnOk answer P
  on_transposed told answer is p = subst (λ (one : Result (Option T) Z). OnOk one P) (sym is) (by told p)
    where
      by : (told : Option (Result T Z)) → UnlessRefused told P → OnOk (option_transpose told) P
      by None p = p
      by (Some (Ok made)) p = p
      by (Some (Err e)) p = tt

module _ {E T : Type 0} (Changes : E → Option T → E → Type 0) (test : E → Bool) (change : E → E) (before after : List E) where
  -- and if it may find nothing to do
  pub changed_if : (told : Option (Option T)) (answer : Option T) → IsChanged Changes test before told after → answer ≡ option_flatten told
      → ((made : Option T) (entry now : E) → find test before ≡ Some entry → Changes entry made now → IfSome made (λ _. now ≡ change entry) × IfNone made (now ≡ entry))
      → IfSome answer (λ _. after ≡ change_first test change before) × IfNone answer (after ≡ before)
  changed_if told answer p is says = subst (λ (one : Option T). IfSome one (λ _. after ≡ change_first test change before) × IfNone one (after ≡ before)) (sym is) (by told p)
    where
      by : (told : Option (Option T)) → IsChanged Changes test before told after → IfSome (option_flatten told) (λ _. after ≡ change_first test change before) × IfNone (option_flatten told) (after ≡ before)
      by None p = (tt, p.1)
      by (Some None) p = (tt, p.4 ∙ made_alike test (λ _. p.1) (λ one. one) p.0 before p.2 (says None p.0 p.1 p.2 p.3).1 ∙ unchanged_first test before)
      by (Some (Some made)) p = (p.4 ∙ made_alike test (λ _. p.1) change p.0 before p.2 (says (Some made) p.0 p.1 p.2 p.3).0, tt)
