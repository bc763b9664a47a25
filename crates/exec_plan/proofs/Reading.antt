-- What is read of each element of a list.
use Rattle.std.proofs.Common.{◌≡◌, ℕ, zero, suc, true, is_some, List, [], ◌∷◌, Option, None, Some, length, slice_get, map, refl, ap, ap₂, subst}
use Rattle.std.specs.List.{list_all}
use Rattle.std.specs.Option.{option_map}
use Rattle.std.proofs.lemmas.Bool.{and_parts}
use Rattle.std.proofs.lemmas.Option.{same_Some}
use Rattle.exec_msg.specs.Options.{◌>>=◌, each}

pub then_read : {A B : Type 0} (K : Type 0) (o : Option A) (f : A → Option B) (b : B) → (o >>= f) ≡ Some b → ((a : A) → o ≡ Some a → f a ≡ Some b → K) → K
then_read K None f b e next = absurd cc
then_read K (Some a) f b e next = next a refl e

-- what is seen of something that is there
pub mapped_read : {A B : Type 0} (K : Type 0) (o : Option A) (f : A → B) (b : B) → option_map f o ≡ Some b → ((a : A) → o ≡ Some a → f a ≡ b → K) → K
mapped_read K None f b e next = absurd cc
mapped_read K (Some a) f b e next = next a refl (same_Some (f a) b e)

-- what isn't something is nothing
pub nothing_else : {A : Type 0} (o : Option A) → ((a : A) → o ≡ Some a → ⊥) → o ≡ None
nothing_else None other = refl
nothing_else (Some a) other = absurd (other a refl)

-- the second list has what f gives of each element of the first
abbrev pub AreRead : {A B : Type 0} → (A → Option B) → List A → List B → Type 0
AreRead f [] [] = Unit {0}
AreRead f [] (y ∷ ys) = ⊥
AreRead f (x ∷ xs) [] = ⊥
AreRead f (x ∷ xs) (y ∷ ys) = (f x ≡ Some y) × AreRead f xs ys

pub are_read : {A B : Type 0} (f : A → Option B) (xs : List A) (ys : List B) → each f xs ≡ Some ys → AreRead f xs ys
are_read {A} {B} f [] ys e = let empty : List B = [] in subst (AreRead f []) (same_Some empty ys e) tt
are_read f (x ∷ xs) ys e =
    then_read _ (f x) _ ys e (λ y first e1.
    then_read _ (each f xs) _ ys e1 (λ zs others e2.
    subst (AreRead f (x ∷ xs)) (same_Some (y ∷ zs) ys e2) (first, are_read f xs zs others)))

-- what is read of the element at a place stands at that place
pub record IsReadAt {A B : Type 0} (f : A → Option B) (x : A) (ys : List B) (place : ℕ) : Type 0 where
  pub element : B
  pub there : slice_get ys place ≡ Some element
  pub is : f x ≡ Some element

read_first : {A B : Type 0} (f : A → Option B) (x z : A) (y : B) (ys : List B) → f x ≡ Some y → Some x ≡ Some z → IsReadAt f z (y ∷ ys) zero
read_first f x z y ys first there = subst (λ w. IsReadAt f w (y ∷ ys) zero) (same_Some x z there) (record { element = y; there = refl; is = first })

pub read_at : {A B : Type 0} (f : A → Option B) (xs : List A) (ys : List B) (place : ℕ) (x : A) → AreRead f xs ys → slice_get xs place ≡ Some x → IsReadAt f x ys place
read_at f [] [] place x reads there = absurd cc
read_at f [] (y ∷ ys) place x reads there = absurd reads
read_at f (z ∷ xs) [] place x reads there = absurd reads
read_at f (z ∷ xs) (y ∷ ys) zero x reads there = read_first f z x y ys reads.0 there
read_at f (z ∷ xs) (y ∷ ys) (suc place) x reads there =
    let later = read_at f xs ys place x reads.1 there in
    record { element = later.element; there = later.there; is = later.is }

-- what is seen alike of each element and what is read of it
pub seen_alike : {A B C : Type 0} (f : A → Option B) (see : A → C) (look : B → C) (xs : List A) (ys : List B) → ((x : A) (y : B) → f x ≡ Some y → look y ≡ see x) → AreRead f xs ys → map look ys ≡ map see xs
seen_alike f see look [] [] alike reads = refl
seen_alike f see look [] (y ∷ ys) alike reads = absurd reads
seen_alike f see look (x ∷ xs) [] alike reads = absurd reads
seen_alike {A} {B} {C} f see look (x ∷ xs) (y ∷ ys) alike reads = ap₂ (λ (c : C) (cs : List C). c ∷ cs) (alike x y reads.0) (seen_alike f see look xs ys alike reads.1)

-- what is read is as long as what it is read from
pub as_many : {A B : Type 0} (f : A → Option B) (xs : List A) (ys : List B) → AreRead f xs ys → length ys ≡ length xs
as_many f [] [] reads = refl
as_many f [] (y ∷ ys) reads = absurd reads
as_many f (x ∷ xs) [] reads = absurd reads
as_many f (x ∷ xs) (y ∷ ys) reads = ap (λ (n : ℕ). suc n) (as_many f xs ys reads.1)

pub some_mapped : {A B : Type 0} (f : A → B) (o : Option A) → is_some o ≡ true → is_some (option_map f o) ≡ true
some_mapped f None there = there
some_mapped f (Some a) there = refl

-- something is made of something where each step finds something
pub goes_on : {A B : Type 0} (o : Option A) (f : A → Option B) → is_some o ≡ true → ((a : A) → is_some (f a) ≡ true) → is_some (o >>= f) ≡ true
goes_on None f there next = absurd cc
goes_on (Some a) f there next = next a

pub each_some : {A B : Type 0} (f : A → Option B) (xs : List A) → list_all (λ x. is_some (f x)) xs ≡ true → is_some (each f xs) ≡ true
each_some f [] there = refl
each_some f (x ∷ xs) there =
    let rest = each_some f xs (and_parts (is_some (f x)) (list_all (λ x. is_some (f x)) xs) there).1 in
    goes_on (f x) (λ y. each f xs >>= (λ ys. Some (y ∷ ys))) (and_parts (is_some (f x)) (list_all (λ x. is_some (f x)) xs) there).0
    (λ y. goes_on (each f xs) (λ ys. Some (y ∷ ys)) rest (λ ys. refl))
