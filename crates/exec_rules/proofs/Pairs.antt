-- What holds of each element of a list, and of each two.
use Rattle.std.proofs.Common.{◌≡◌, Bool, true, false, ◌&&◌, ◌||◌, List, [], ◌∷◌, ◌++◌, map, refl, ap, ◌∙◌}
use Rattle.std.specs.List.{AllByRecursion, filter, flat_map, list_all, list_any}
use Rattle.std.proofs.lemmas.Bool.{and_parts}
use Rattle.std.proofs.lemmas.List.Folds.{list_any-append}

pub all_append : {A : Type 0} (P : A → Type 0) (some more : List A) → AllByRecursion P some → AllByRecursion P more → AllByRecursion P (some ++ more)
all_append P [] more p q = q
all_append P (one ∷ some) more p q = (p.0, all_append P some more p.1 q)

pub all_flat : {A B : Type 0} (P : B → Type 0) (f : A → List B) → ((one : A) → AllByRecursion P (f one)) → (all : List A) → AllByRecursion P (flat_map f all)
all_flat P f each [] = tt
all_flat P f each (one ∷ all) = all_append P (f one) (flat_map f all) (each one) (all_flat P f each all)

pub all_map : {A B : Type 0} (P : B → Type 0) (f : A → B) → ((one : A) → P (f one)) → (all : List A) → AllByRecursion P (map f all)
all_map P f each [] = tt
all_map P f each (one ∷ all) = (each one, all_map P f each all)

pub all_mapped : {A B : Type 0} (Q : A → Type 0) (P : B → Type 0) (f : A → B) → ((one : A) → Q one → P (f one)) → (all : List A) → AllByRecursion Q all → AllByRecursion P (map f all)
all_mapped Q P f each [] q = tt
all_mapped Q P f each (one ∷ all) q = (each one q.0, all_mapped Q P f each all q.1)

pub all_both : {A : Type 0} (P Q R : A → Type 0) → ((one : A) → P one → Q one → R one) → (all : List A) → AllByRecursion P all → AllByRecursion Q all → AllByRecursion R all
all_both P Q R both [] p q = tt
all_both P Q R both (one ∷ all) p q = (both one p.0 q.0, all_both P Q R both all p.1 q.1)

pub all_weaker : {A : Type 0} (P Q : A → Type 0) → ((one : A) → P one → Q one) → (all : List A) → AllByRecursion P all → AllByRecursion Q all
all_weaker P Q weaker [] p = tt
all_weaker P Q weaker (one ∷ all) p = (weaker one p.0, all_weaker P Q weaker all p.1)

-- a relation holds of each element and each behind it
abbrev pub Pairs : {A : Type 0} → (A → A → Type 0) → List A → Type 0
Pairs R [] = Unit {0}
Pairs R (one ∷ rest) = AllByRecursion (R one) rest × Pairs R rest

pub pairs_append : {A : Type 0} (R : A → A → Type 0) (some more : List A) → Pairs R some → Pairs R more → AllByRecursion (λ one. AllByRecursion (R one) more) some → Pairs R (some ++ more)
pairs_append R [] more p q cross = q
pairs_append R (one ∷ some) more p q cross = (all_append (R one) some more p.0 cross.0, pairs_append R some more p.1 q cross.1)

-- of lists that are joined, where it holds in each and between each two
pub across : {A B : Type 0} (S : A → A → Type 0) (R : B → B → Type 0) (f : A → List B) → ((one other : A) → S one other → AllByRecursion (λ x. AllByRecursion (R x) (f other)) (f one)) → (one : A) (rest : List A) → AllByRecursion (S one) rest → AllByRecursion (λ x. AllByRecursion (R x) (flat_map f rest)) (f one)
across {A} {B} S R f between one [] s = each (f one)
  where
    each : (all : List B) → AllByRecursion (λ (x : B). AllByRecursion (R x) []) all
    each [] = tt
    each (x ∷ all) = (tt, each all)
across S R f between one (other ∷ rest) s =
    all_both (λ x. AllByRecursion (R x) (f other)) (λ x. AllByRecursion (R x) (flat_map f rest)) (λ x. AllByRecursion (R x) (f other ++ flat_map f rest))
    (λ x p q. all_append (R x) (f other) (flat_map f rest) p q) (f one) (between one other s.0) (across S R f between one rest s.1)

pub pairs_flat : {A B : Type 0} (S : A → A → Type 0) (R : B → B → Type 0) (f : A → List B) → ((one : A) → Pairs R (f one)) → ((one other : A) → S one other → AllByRecursion (λ x. AllByRecursion (R x) (f other)) (f one)) → (all : List A) → Pairs S all → Pairs R (flat_map f all)
pairs_flat S R f within between [] s = tt
pairs_flat S R f within between (one ∷ all) s =
    pairs_append R (f one) (flat_map f all) (within one) (pairs_flat S R f within between all s.1) (across S R f between one all s.0)

pub pairs_map : {A B : Type 0} (S : A → A → Type 0) (R : B → B → Type 0) (f : A → B) → ((one other : A) → S one other → R (f one) (f other)) → (all : List A) → Pairs S all → Pairs R (map f all)
pairs_map S R f mapped [] s = tt
pairs_map {A} {B} S R f mapped (one ∷ all) s = (each all s.0, pairs_map S R f mapped all s.1)
  where
    each : (rest : List A) → AllByRecursion (S one) rest → AllByRecursion (R (f one)) (map f rest)
    each [] t = tt
    each (other ∷ rest) t = (mapped one other t.0, each rest t.1)

-- a test of each two
abbrev pub all_pairs : {A : Type 0} → (A → A → Bool) → List A → Bool
all_pairs test [] = true
all_pairs test (one ∷ rest) = list_all (test one) rest && all_pairs test rest

pub pairs_tested : {A : Type 0} (test : A → A → Bool) (all : List A) → all_pairs test all ≡ true → Pairs (λ one other. test one other ≡ true) all
pairs_tested test [] e = tt
pairs_tested {A} test (one ∷ all) e = (each all (and_parts (list_all (test one) all) (all_pairs test all) e).0, pairs_tested test all (and_parts (list_all (test one) all) (all_pairs test all) e).1)
  where
    each : (rest : List A) → list_all (test one) rest ≡ true → AllByRecursion (λ other. test one other ≡ true) rest
    each [] t = tt
    each (other ∷ rest) t = ((and_parts (test one other) (list_all (test one) rest) t).0, each rest (and_parts (test one other) (list_all (test one) rest) t).1)

-- ---- lists whose elements have a property of their own

pub all_flat_where : {A B : Type 0} (Q : A → Type 0) (P : B → Type 0) (f : A → List B) → ((one : A) → Q one → AllByRecursion P (f one)) → (all : List A) → AllByRecursion Q all → AllByRecursion P (flat_map f all)
all_flat_where Q P f each [] q = tt
all_flat_where Q P f each (one ∷ all) q = all_append P (f one) (flat_map f all) (each one q.0) (all_flat_where Q P f each all q.1)

-- a property of all, put beside a relation of each two
pub pairs_with : {A : Type 0} (P : A → Type 0) (R : A → A → Type 0) (all : List A) → AllByRecursion P all → Pairs R all → Pairs (λ one other. P one × (P other × R one other)) all
pairs_with P R [] p r = tt
pairs_with P R (one ∷ all) p r = (all_both P (R one) (λ other. P one × (P other × R one other)) (λ other q s. (p.0, (q, s))) all p.1 r.0, pairs_with P R all p.1 r.1)

-- a relation that each two elements of a property have
pub pairs_all : {A : Type 0} (Q : A → Type 0) (R : A → A → Type 0) → ((one other : A) → Q one → Q other → R one other) → (all : List A) → AllByRecursion Q all → Pairs R all
pairs_all Q R related [] q = tt
pairs_all Q R related (one ∷ all) q = (all_weaker Q (R one) (λ other p. related one other q.0 p) all q.1, pairs_all Q R related all q.1)

pub pairs_weaker : {A : Type 0} (R S : A → A → Type 0) → ((one other : A) → R one other → S one other) → (all : List A) → Pairs R all → Pairs S all
pairs_weaker R S weaker [] p = tt
pairs_weaker R S weaker (one ∷ all) p = (all_weaker (R one) (S one) (λ other q. weaker one other q) all p.0, pairs_weaker R S weaker all p.1)

-- ---- what a test leaves

pub all_filter : {A : Type 0} (P : A → Type 0) (test : A → Bool) (all : List A) → AllByRecursion P all → AllByRecursion P (filter test all)
all_filter P test [] p = tt
all_filter {A} P test (one ∷ all) p = by (test one) refl (all_filter P test all p.1)
  where
    by : (b : Bool) → test one ≡ b → AllByRecursion P (filter test all) → AllByRecursion P (filter test (one ∷ all))
    by true e rest = rw e (p.0, rest)
    by false e rest = rw e rest

pub all_passed : {A : Type 0} (test : A → Bool) (all : List A) → AllByRecursion (λ one. test one ≡ true) (filter test all)
all_passed test [] = tt
all_passed {A} test (one ∷ all) = by (test one) refl (all_passed test all)
  where
    by : (b : Bool) → test one ≡ b → AllByRecursion (λ one. test one ≡ true) (filter test all) → AllByRecursion (λ one. test one ≡ true) (filter test (one ∷ all))
    by true e rest = rw e (e, rest)
    by false e rest = rw e rest

pub pairs_filter : {A : Type 0} (R : A → A → Type 0) (test : A → Bool) (all : List A) → Pairs R all → Pairs R (filter test all)
pairs_filter R test [] p = tt
pairs_filter R test (one ∷ all) p = by (test one) refl (pairs_filter R test all p.1)
  where
    by : (b : Bool) → test one ≡ b → Pairs R (filter test all) → Pairs R (filter test (one ∷ all))
    by true e rest = rw e (all_filter (R one) test all p.0, rest)
    by false e rest = rw e rest

-- ---- what holds of all that is made of elements, holds of the elements

pub all_unmapped : {A B : Type 0} (P : B → Type 0) (f : A → B) (all : List A) → AllByRecursion P (map f all) → AllByRecursion (λ one. P (f one)) all
all_unmapped P f [] p = tt
all_unmapped P f (one ∷ all) p = (p.0, all_unmapped P f all p.1)

pub pairs_unmapped : {A B : Type 0} (R : B → B → Type 0) (f : A → B) (all : List A) → Pairs R (map f all) → Pairs (λ one other. R (f one) (f other)) all
pairs_unmapped R f [] p = tt
pairs_unmapped R f (one ∷ all) p = (all_unmapped (R (f one)) f all p.0, pairs_unmapped R f all p.1)

-- what passes a test is among more
pub any_before : {A : Type 0} (test : A → Bool) (some more : List A) → list_any test some ≡ true → list_any test (some ++ more) ≡ true
any_before test some more e = list_any-append test some more ∙ ap (λ (b : Bool). b || list_any test more) e
