-- Texts that are added to names one after another.
use Rattle.std.proofs.Common.{◌≡◌, ℕ, ◌+◌, ◌<◌, ◌≤◌, Bool, true, false, not, ◌&&◌, ◌||◌, if◌then◌else◌, length, get_or, drop, map, List, [], ◌∷◌, ◌++◌, Option, None, Some, refl, sym, ap, ◌∙◌, append-nil, append_assoc}
use Rattle.std.specs.Bool.{then_some}
use Rattle.std.specs.List.{list_all, list_any}
use Rattle.std.specs.Str.{bytes_eq}
use Rattle.std.proofs.lemmas.List.{drop_all, drop_more}
use Rattle.std.proofs.lemmas.List.Folds.{list_any-append}
use Rattle.exec_graph.specs.inner.Directory.{names_from}
use Rattle.exec_graph.specs.Faults.{are_names}
use Rattle.exec_plan.specs.Names.{is_name, are_distinct}
use Rattle.exec_plan.proofs.SameTexts.{bytes_sym}

-- ---- steps

-- what stands at a place, and behind it
pub from_place : {X : Type 0} (xs : List X) (i : ℕ) (x : X) → i < length xs → x ≡ get_or xs i x → drop i xs ≡ x ∷ drop (i + 1) xs
from_place {X} xs i x within there = drop_more xs i x within ∙ ap (λ (y : X). y ∷ drop (i + 1) xs) (sym there)

-- what is seen of it
pub at_place : {X A : Type 0} (see : X → A) (xs : List X) (i : ℕ) (x : X) → i < length xs → x ≡ get_or xs i x → map see (drop i xs) ≡ see x ∷ map see (drop (i + 1) xs)
at_place see xs i x within there = ap (map see) (from_place xs i x within there)

-- whether a text is a name and none of these
abbrev pub is_new : List (List ℕ) → List ℕ → Bool
is_new names text = is_name text && not (list_any (λ other. bytes_eq other text) names)

more_by : (b c : Bool) (names more : List (List ℕ)) (text : List ℕ) (texts : List (List ℕ)) → b ≡ true → b ≡ c → more ≡ (if b then names ++ text ∷ [] else names) →
    (if c then names_from (names ++ text ∷ []) texts else None) ≡ names_from more texts
more_by true true names more text texts is same are = ap (λ (ns : List (List ℕ)). names_from ns texts) (sym are)
more_by true false names more text texts is same are = absurd cc
more_by false c names more text texts is same are = absurd cc

none_by : (b c : Bool) (rest : Option (List (List ℕ))) → b ≡ false → b ≡ c → (if c then rest else None) ≡ None
none_by false false rest is same = refl
none_by false true rest is same = absurd cc
none_by true c rest is same = absurd cc

module _ {X : Type 0} (see : X → List ℕ) (xs : List X) (i : ℕ) (x : X) (names : List (List ℕ)) (within : i < length xs) (there : x ≡ get_or xs i x) where
  -- a text that was added
  pub next_name : (b : Bool) (text : List ℕ) (more : List (List ℕ)) → b ≡ true → text ≡ see x → b ≡ is_new names text → more ≡ (if b then names ++ text ∷ [] else names) →
      names_from more (map see (drop (i + 1) xs)) ≡ names_from names (map see (drop i xs))
  next_name b text more is seen new are =
      sym (ap (names_from names) (at_place see xs i x within there ∙ ap (λ (t : List ℕ). t ∷ map see (drop (i + 1) xs)) (sym seen))
      ∙ more_by b (is_new names text) names more text (map see (drop (i + 1) xs)) is new are)

  -- a text that wasn't
  pub no_name : (b : Bool) (text : List ℕ) → b ≡ false → text ≡ see x → b ≡ is_new names text → names_from names (map see (drop i xs)) ≡ None
  no_name b text is seen new =
      ap (names_from names) (at_place see xs i x within there ∙ ap (λ (t : List ℕ). t ∷ map see (drop (i + 1) xs)) (sym seen))
      ∙ none_by b (is_new names text) (names_from (names ++ text ∷ []) (map see (drop (i + 1) xs))) is new

-- texts are seen as they are
pub as_they_are : (texts : List (List ℕ)) → map (λ text. text) texts ≡ texts
as_they_are [] = refl
as_they_are (text ∷ texts) = ap (λ (ts : List (List ℕ)). text ∷ ts) (as_they_are texts)

-- none is left
pub no_more : {X : Type 0} (see : X → List ℕ) (xs : List X) (i : ℕ) (names : List (List ℕ)) → length xs ≤ i → names_from names (map see (drop i xs)) ≡ Some names
no_more {X} see xs i names all = ap (λ (rest : List X). names_from names (map see rest)) (drop_all i xs all)

-- ---- all texts

-- none of the texts is one of these
abbrev are_apart : List (List ℕ) → List (List ℕ) → Bool
are_apart names texts = list_all (λ text. not (list_any (λ other. bytes_eq other text) names)) texts

apart_by : (s b f c : Bool) → (not (s || (b || false)) && (not f && c)) ≡ (not (b || f) && (not s && c))
apart_by true true f c = refl
apart_by true false true c = refl
apart_by true false false c = refl
apart_by false true f c = refl
apart_by false false f c = refl

apart_more : (names : List (List ℕ)) (text : List ℕ) (texts : List (List ℕ)) → are_apart (names ++ text ∷ []) texts ≡ (not (list_any (λ other. bytes_eq other text) texts) && are_apart names texts)
apart_more names text [] = refl
apart_more names text (t ∷ texts) =
    (λ i. not (list_any-append (λ other. bytes_eq other t) names (text ∷ []) i) && apart_more names text texts i)
    ∙ ap (λ (b : Bool). not (list_any (λ other. bytes_eq other t) names || (b || false)) && (not (list_any (λ other. bytes_eq other text) texts) && are_apart names texts)) (bytes_sym text t)
    ∙ apart_by (list_any (λ other. bytes_eq other t) names) (bytes_eq t text) (list_any (λ other. bytes_eq other text) texts) (are_apart names texts)

tests_by : (n s N D F C : Bool) → ((n && not s) && (N && (D && (F && C)))) ≡ ((n && N) && ((F && D) && (not s && C)))
tests_by false s N D F C = refl
tests_by true true false D F C = refl
tests_by true true true D false C = refl
tests_by true true true false true C = refl
tests_by true true true true true C = refl
tests_by true false false D F C = refl
tests_by true false true D true C = refl
tests_by true false true false false C = refl
tests_by true false true true false C = refl

chosen_by : (b c : Bool) (all : List (List ℕ)) → (if b then then_some c all else None) ≡ then_some (b && c) all
chosen_by true c all = refl
chosen_by false c all = refl

-- texts can be added to names where they are names, differ and aren't there yet
added_to : (names texts : List (List ℕ)) → names_from names texts ≡ then_some (list_all is_name texts && (are_distinct texts && are_apart names texts)) (names ++ texts)
added_to names [] = ap (λ (ns : List (List ℕ)). Some ns) (sym (append-nil names))
added_to names (text ∷ texts) =
    ap (λ (rest : Option (List (List ℕ))). if is_new names text then rest else None) (added_to (names ++ text ∷ []) texts ∙ (λ i. then_some (list_all is_name texts && (are_distinct texts && apart_more names text texts i)) (append_assoc names (text ∷ []) texts i)))
    ∙ chosen_by (is_new names text) (list_all is_name texts && (are_distinct texts && (not (list_any (λ other. bytes_eq other text) texts) && are_apart names texts))) (names ++ text ∷ texts)
    ∙ ap (λ (b : Bool). then_some b (names ++ text ∷ texts)) (tests_by (is_name text) (list_any (λ other. bytes_eq other text) names) (list_all is_name texts) (are_distinct texts) (not (list_any (λ other. bytes_eq other text) texts)) (are_apart names texts))

apart_from_none : (texts : List (List ℕ)) → are_apart [] texts ≡ true
apart_from_none [] = refl
apart_from_none (text ∷ texts) = apart_from_none texts

last_true : (n d a : Bool) → a ≡ true → (n && (d && a)) ≡ (n && d)
last_true false d a is = refl
last_true true false a is = refl
last_true true true a is = is

-- texts can be added to no names where they are names and differ
pub added_to_none : (texts : List (List ℕ)) → names_from [] texts ≡ then_some (are_names texts) texts
added_to_none texts = added_to [] texts ∙ ap (λ (b : Bool). then_some b texts) (last_true (list_all is_name texts) (are_distinct texts) (are_apart [] texts) (apart_from_none texts))

is_so : (b : Bool) (names texts : List (List ℕ)) → Some names ≡ then_some b texts → true ≡ b
is_so true names texts is = refl
is_so false names texts is = absurd cc

is_not : (b : Bool) (texts : List (List ℕ)) → None ≡ then_some b texts → false ≡ b
is_not true texts is = absurd cc
is_not false texts is = refl

pub are_so : (names texts : List (List ℕ)) → Some names ≡ names_from [] texts → true ≡ are_names texts
are_so names texts is = is_so (are_names texts) names texts (is ∙ added_to_none texts)

pub are_not : (texts : List (List ℕ)) → None ≡ names_from [] texts → false ≡ are_names texts
are_not texts is = is_not (are_names texts) texts (is ∙ added_to_none texts)
