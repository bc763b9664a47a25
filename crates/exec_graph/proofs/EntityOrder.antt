-- The entities of all kinds, one kind after another.
use Rattle.exec_graph.proofs.NameLists.{from_place}
use Rattle.std.proofs.Common.{◌≡◌, ℕ, ◌+◌, ◌<◌, length, get_or, drop, add-one, List, [], ◌∷◌, ◌++◌, flat_map, filter_map, Bool, true, ◌&&◌, Option, None, Some, option_and_then, slice_get, refl, sym, ap, ◌∙◌, append_assoc}
use Rattle.std.proofs.Math.Seq.{drop-cons}
use Rattle.std.proofs.lemmas.Option.{get_or_from_slice_get, slice_get_within}
use Rattle.std.specs.List.{cons_option, list_all}
use Rattle.std.specs.Option.{option_map_or, option_to_list}

-- what is gathered so far gains what the next gives
pub next_gathered : {A B : Type 0} (f : A → List B) (xs : List A) (i : ℕ) (d : A) (front : List B) → i < length xs →
    front ++ flat_map f (drop i xs) ≡ (front ++ f (get_or xs i d)) ++ flat_map f (drop (i + 1) xs)
next_gathered {A} {B} f xs i d front within =
    ap (λ (rest : List A). front ++ flat_map f rest) (drop-cons xs i d within ∙ ap (λ (n : ℕ). get_or xs i d ∷ drop n xs) (sym (add-one i)))
    ∙ sym (append_assoc front (f (get_or xs i d)) (flat_map f (drop (i + 1) xs)))

-- the same where it is known what the next gives
pub next_given : {A B : Type 0} (f : A → List B) (xs : List A) (i : ℕ) (x : A) (front more given : List B) → i < length xs → x ≡ get_or xs i x → more ≡ front ++ given → given ≡ f x →
    more ++ flat_map f (drop (i + 1) xs) ≡ front ++ flat_map f (drop i xs)
next_given {A} {B} f xs i x front more given within there is gives =
    ap (λ (all : List B). all ++ flat_map f (drop (i + 1) xs)) (is ∙ ap (λ (g : List B). front ++ g) gives)
    ∙ append_assoc front (f x) (flat_map f (drop (i + 1) xs))
    ∙ ap (λ (rest : List A). front ++ flat_map f rest) (sym (from_place xs i x within there))

kept_by : {A B : Type 0} (f : A → Option B) (x : A) (xs : List A) (found : Option B) → f x ≡ found → option_to_list found ++ filter_map f xs ≡ filter_map f (x ∷ xs)
kept_by f x xs None is = rw is refl
kept_by f x xs (Some found) is = rw is refl

-- what there is of the next is added
pub next_listed : {A B : Type 0} (f : A → Option B) (xs : List A) (i : ℕ) (x : A) (front more : List B) (found : Option B) → i < length xs → x ≡ get_or xs i x → more ≡ front ++ option_to_list found → found ≡ f x →
    more ++ filter_map f (drop (i + 1) xs) ≡ front ++ filter_map f (drop i xs)
next_listed {A} {B} f xs i x front more found within there is gives =
    ap (λ (all : List B). all ++ filter_map f (drop (i + 1) xs)) is
    ∙ append_assoc front (option_to_list found) (filter_map f (drop (i + 1) xs))
    ∙ ap (λ (all : List B). front ++ all) (kept_by f x (drop (i + 1) xs) found (sym gives) ∙ ap (filter_map f) (sym (from_place xs i x within there)))

-- what is listed of what is there
pub listed_of_there : {A B : Type 0} (f : A → Option B) (xs : List (Option A)) → filter_map (option_and_then f) xs ≡ filter_map f (filter_map (λ x. x) xs)
listed_of_there f [] = refl
listed_of_there f (None ∷ xs) = listed_of_there f xs
listed_of_there {A} {B} f (Some x ∷ xs) = ap (λ (others : List B). cons_option (f x) others) (listed_of_there f xs)

-- whether all that is there passes
pub all_of_there : {A : Type 0} (test : A → Bool) (xs : List (Option A)) → list_all (λ x. option_map_or test x true) xs ≡ list_all test (filter_map (λ x. x) xs)
all_of_there test [] = refl
all_of_there test (None ∷ xs) = all_of_there test xs
all_of_there test (Some x ∷ xs) = ap (λ (others : Bool). test x && others) (all_of_there test xs)

-- the same where the next is the one at a place
pub next_at : {A B : Type 0} (f : A → List B) (xs : List A) (i : ℕ) (x : A) (front more : List B) → slice_get xs i ≡ Some x → more ≡ front ++ f x →
    more ++ flat_map f (drop (i + 1) xs) ≡ front ++ flat_map f (drop i xs)
next_at f xs i x front more there is =
    next_given f xs i x front more (f x) (slice_get_within xs i x there) (sym (get_or_from_slice_get xs i x x there)) is refl
