-- What is dealt to shares and put back is as it was, and so it is where each item was changed meanwhile.
use Rattle.std.proofs.Common.{◌≡◌, ℕ, zero, suc, ◌+◌, ◌-◌, ◌%◌, ◌<◌, List, [], ◌∷◌, ◌++◌, length, map, take, drop, get_or, replicate, reverse, refl, sym, ap, ◌∙◌, arith}
use Rattle.std.proofs.Math.ListN.{set}
use Rattle.std.proofs.Math.Seq.{take-append_seam, drop-append_seam}
use Rattle.std.proofs.lemmas.List.{append-nil, append_assoc, drop-map, get_or-map, get_or-set_same, length-append, length-map, length-replicate, length-set, map-append, map-set, reverse-append, set-get_or, take-append-drop, take-map}
use Rattle.std.proofs.lemmas.Nat.{mod_below}
use Rattle.exec_round.specs.inner.Shares.{dealt, dealt_from, given_to, last_of, put_back, taken_from, without_last}

snoc_short : {A : Type 0} (xs : List A) (x : A) → length (xs ++ x ∷ []) - 1 ≡ length xs
snoc_short xs x = let long = length-append xs (x ∷ []) in omega (arith, long)

last_given : {A : Type 0} (xs : List A) (x : A) → last_of (xs ++ x ∷ []) ≡ x ∷ []
last_given xs x = ap (λ n. drop n (xs ++ x ∷ [])) (snoc_short xs x) ∙ drop-append_seam xs (x ∷ [])

others_given : {A : Type 0} (xs : List A) (x : A) → without_last (xs ++ x ∷ []) ≡ xs
others_given xs x = ap (λ n. take n (xs ++ x ∷ [])) (snoc_short xs x) ∙ take-append_seam xs (x ∷ [])

same_end : {A : Type 0} (front xs ys : List A) → front ++ xs ≡ front ++ ys → xs ≡ ys
same_end [] xs ys same = same
same_end {A} (x ∷ front) xs ys same = same_end front xs ys (ap rest same)
  where
    rest : List A → List A
    rest [] = []
    rest (one ∷ all) = all

set_twice : {A : Type 0} (xs : List A) (i : ℕ) (a b : A) → set (set xs i a) i b ≡ set xs i b
set_twice [] i a b = refl
set_twice (x ∷ xs) zero a b = refl
set_twice (x ∷ xs) (suc i) a b = ap (λ others. x ∷ others) (set_twice xs i a b)

-- what was given last is taken first
taken_given : {A : Type 0} (place : ℕ) (x : A) (shares : List (List A)) → place < length shares → taken_from place (given_to place x shares) ≡ shares
taken_given place x shares within =
    ap (λ share. set (given_to place x shares) place (without_last share)) (get_or-set_same shares place (get_or shares place [] ++ x ∷ []) [] within)
    ∙ set_twice shares place (get_or shares place [] ++ x ∷ []) (without_last (get_or shares place [] ++ x ∷ []))
    ∙ ap (set shares place) (others_given (get_or shares place []) x)
    ∙ set-get_or shares place []

found_given : {A : Type 0} (place : ℕ) (x : A) (shares : List (List A)) → place < length shares → last_of (get_or (given_to place x shares) place []) ≡ x ∷ []
found_given place x shares within =
    ap last_of (get_or-set_same shares place (get_or shares place [] ++ x ∷ []) [] within)
    ∙ last_given (get_or shares place []) x

put_back_one : {A : Type 0} (count number : ℕ) (x : A) (shares : List (List A)) → 0 < count → length shares ≡ count →
    put_back count (suc number) (given_to (number % count) x shares) ≡ put_back count number shares ++ x ∷ []
put_back_one count number x shares some long =
    let low = mod_below number count some in
    let within : number % count < length shares = omega (arith, low, long) in
    (λ i. put_back count number (taken_given (number % count) x shares within i) ++ found_given (number % count) x shares within i)

put_back_all : {A : Type 0} (count number : ℕ) (xs : List A) (shares : List (List A)) → 0 < count → length shares ≡ count →
    put_back count (number + length xs) (dealt_from count number xs shares) ≡ put_back count number shares ++ xs
put_back_all count number [] shares some long =
    let none : number + 0 ≡ number = omega arith in
    ap (λ n. put_back count n shares) none ∙ sym (append-nil (put_back count number shares))
put_back_all count number (x ∷ xs) shares some long =
    let more : number + suc (length xs) ≡ suc number + length xs = omega arith in
    let given = given_to (number % count) x shares in
    let same : length given ≡ count = length-set shares (number % count) (get_or shares (number % count) [] ++ x ∷ []) ∙ long in
    ap (λ n. put_back count n (dealt_from count (suc number) xs given)) more
    ∙ put_back_all count (suc number) xs given some same
    ∙ ap (λ front. front ++ xs) (put_back_one count number x shares some long)
    ∙ append_assoc (put_back count number shares) (x ∷ []) xs

-- putting back what was dealt gives the list
pub dealt_back : {A : Type 0} (count : ℕ) (xs : List A) → 0 < count → put_back count (length xs) (dealt count xs) ≡ xs
dealt_back count xs some =
    let none : 0 + length xs ≡ length xs = omega arith in
    ap (λ n. put_back count n (dealt count xs)) (sym none)
    ∙ put_back_all count 0 xs (replicate count []) some (length-replicate count [])

-- ---- shares whose items are read

-- the items of a share of these
read_at : {V A : Type 0} (items : V → List A) (shares : List V) (place : ℕ) (share : V) → place < length shares → share ≡ get_or shares place share →
    get_or (map items shares) place [] ≡ items share
read_at items shares place share within is = get_or-map items shares place share [] within ∙ ap items (sym is)

-- a share has one more
pub given_in : {V A : Type 0} (items : V → List A) (shares : List V) (place : ℕ) (share after : V) (x : A) → place < length shares → share ≡ get_or shares place share →
    items after ≡ items share ++ x ∷ [] → map items (set shares place after) ≡ given_to place x (map items shares)
given_in items shares place share after x within is more =
    map-set items shares place after
    ∙ ap (set (map items shares) place) (more ∙ ap (λ some. some ++ x ∷ []) (sym (read_at items shares place share within is)))

-- a share has lost its last
pub taken_in : {V A : Type 0} (items : V → List A) (shares : List V) (place count : ℕ) (share after : V) → place < length shares → share ≡ get_or shares place share → count ≡ length (items share) →
    items after ≡ take (count - 1) (items share) → map items (set shares place after) ≡ taken_from place (map items shares)
taken_in items shares place count share after within is long less =
    map-set items shares place after
    ∙ ap (set (map items shares) place) (less ∙ ap (λ n. take (n - 1) (items share)) long ∙ ap without_last (sym (read_at items shares place share within is)))

-- which was this
pub last_in : {V A : Type 0} (items : V → List A) (shares : List V) (place count : ℕ) (share after : V) (last : List A) → place < length shares → share ≡ get_or shares place share → count ≡ length (items share) →
    items after ≡ take (count - 1) (items share) → items share ≡ items after ++ last → last ≡ last_of (get_or (map items shares) place [])
last_in items shares place count share after last within is long less both =
    let front : items after ≡ without_last (items share) = less ∙ ap (λ n. take (n - 1) (items share)) long in
    same_end (items after) last (last_of (items share))
    (sym both ∙ sym (take-append-drop (length (items share) - 1) (items share)) ∙ ap (λ some. some ++ last_of (items share)) (sym front))
    ∙ ap last_of (sym (read_at items shares place share within is))

-- ---- the loops

last_first : {A : Type 0} (all front : List A) (one : A) → all ≡ front ++ one ∷ [] → reverse all ≡ one ∷ reverse front
last_first all front one is = ap reverse is ∙ reverse-append front (one ∷ [])

-- one lane more is dealt
pub deals_next : {V A : Type 0} (items : V → List A) (count number : ℕ) (all front : List A) (one : A) (shares : List V) (share after : V) (whole : List (List A)) → 0 < count → length shares ≡ count → all ≡ front ++ one ∷ [] →
    share ≡ get_or shares (number % count) share → items after ≡ items share ++ one ∷ [] → dealt_from count number (reverse all) (map items shares) ≡ whole →
    dealt_from count (number + 1) (reverse front) (map items (set shares (number % count) after)) ≡ whole
deals_next items count number all front one shares share after whole some long is here more on =
    let low = mod_below number count some in
    let next : number + 1 ≡ suc number = omega arith in
    (λ i. dealt_from count (next i) (reverse front) (given_in items shares (number % count) share after one (omega (arith, low, long)) here more i))
    ∙ ap (λ rest. dealt_from count number rest (map items shares)) (sym (last_first all front one is))
    ∙ on

-- one place less is to be put back
pub puts_next : {A : Type 0} (count left : ℕ) (shares after : List (List A)) (last done more whole : List A) → 0 < left →
    after ≡ taken_from ((left - 1) % count) shares → last ≡ last_of (get_or shares ((left - 1) % count) []) → reverse more ≡ last ++ reverse done →
    put_back count left shares ++ reverse done ≡ whole → put_back count (left - 1) after ++ reverse more ≡ whole
puts_next count zero shares after last done more whole some taken is so on = absurd (omega (arith, some))
puts_next count (suc left) shares after last done more whole some taken is so on =
    let here : suc left - 1 ≡ left = omega arith in
    ap (λ rest. put_back count (suc left - 1) after ++ rest) so
    ∙ (λ i. put_back count (here i) after ++ (last ++ reverse done))
    ∙ sym (append_assoc (put_back count left after) last (reverse done))
    ∙ (λ i. put_back count left ((taken ∙ ap (λ n. taken_from (n % count) shares) here) i) ++ (is ∙ ap (λ n. last_of (get_or shares (n % count) [])) here) i ++ reverse done)
    ∙ on

-- ---- items that were changed meanwhile

share_there : {A B : Type 0} (f : A → B) (shares : List (List A)) (place : ℕ) → get_or (map (map f) shares) place [] ≡ map f (get_or shares place [])
share_there f [] place = refl
share_there f (share ∷ shares) zero = refl
share_there f (share ∷ shares) (suc place) = share_there f shares place

last-map : {A B : Type 0} (f : A → B) (xs : List A) → last_of (map f xs) ≡ map f (last_of xs)
last-map f xs = ap (λ n. drop (n - 1) (map f xs)) (length-map xs f) ∙ drop-map f (length xs - 1) xs

others-map : {A B : Type 0} (f : A → B) (xs : List A) → without_last (map f xs) ≡ map f (without_last xs)
others-map f xs = ap (λ n. take (n - 1) (map f xs)) (length-map xs f) ∙ take-map f (length xs - 1) xs

taken-map : {A B : Type 0} (f : A → B) (place : ℕ) (shares : List (List A)) → taken_from place (map (map f) shares) ≡ map (map f) (taken_from place shares)
taken-map f place shares =
    ap (λ share. set (map (map f) shares) place (without_last share)) (share_there f shares place)
    ∙ ap (set (map (map f) shares) place) (others-map f (get_or shares place []))
    ∙ sym (map-set (map f) shares place (without_last (get_or shares place [])))

-- what is put back of changed items is what is put back, changed
pub put_back-map : {A B : Type 0} (f : A → B) (count number : ℕ) (shares : List (List A)) → put_back count number (map (map f) shares) ≡ map f (put_back count number shares)
put_back-map f count zero shares = refl
put_back-map f count (suc number) shares =
    (λ i. put_back count number (taken-map f (number % count) shares i) ++ last_of (share_there f shares (number % count) i))
    ∙ (λ i. put_back-map f count number (taken_from (number % count) shares) i ++ last-map f (get_or shares (number % count) []) i)
    ∙ sym (map-append f (put_back count number (taken_from (number % count) shares)) (last_of (get_or shares (number % count) [])))

-- where a test of shares finds what another found of them before, so it does of the lists of them
same_each : {V B : Type 0} (f g : V → B) (before after : List V) → length after ≡ length before → ((i : ℕ) (d : V) → i < length before → f (get_or after i d) ≡ g (get_or before i d)) → map f after ≡ map g before
same_each f g [] [] long each = refl
same_each f g [] (y ∷ after) long each = absurd (omega (arith, long))
same_each f g (x ∷ before) [] long each = absurd (omega (arith, long))
same_each f g (x ∷ before) (y ∷ after) long each =
    (λ i. each 0 x (omega arith) i ∷ same_each f g before after (omega (arith, long)) (λ k d within. each (suc k) d (omega (arith, within))) i)

-- what is written back of a slice is all of it
pub same_written : {V B : Type 0} (f g : V → B) (n : ℕ) (before after : List V) → n ≡ length before → length after ≡ length before → ((i : ℕ) (d : V) → i < length before → f (get_or after i d) ≡ g (get_or before i d)) →
    map f (take n (after ++ drop (length after) before)) ≡ map g before
same_written f g n before after count long each =
    ap (λ k. map f (take k (after ++ drop (length after) before))) (count ∙ sym long)
    ∙ ap (map f) (take-append_seam after (drop (length after) before))
    ∙ same_each f g before after long each

twice : {V A B : Type 0} (items : V → List A) (f : A → B) (shares : List V) → map (λ share. map f (items share)) shares ≡ map (map f) (map items shares)
twice items f [] = refl
twice items f (share ∷ shares) = ap (λ others. map f (items share) ∷ others) (twice items f shares)

-- where a test of dealt items finds, share by share, what another found of them before, so it does of what is put back
pub back_same : {V A B : Type 0} (items : V → List A) (f g : A → B) (count number : ℕ) (before after : List V) (lanes : List A) → 0 < count → number ≡ length lanes → map items before ≡ dealt count lanes →
    map (λ share. map f (items share)) after ≡ map (λ share. map g (items share)) before → map f (put_back count number (map items after)) ≡ map g lanes
back_same items f g count number before after lanes some all dealt_so same =
    sym (put_back-map f count number (map items after))
    ∙ ap (put_back count number) (sym (twice items f after) ∙ same ∙ twice items g before ∙ ap (map (map g)) dealt_so)
    ∙ put_back-map g count number (dealt count lanes)
    ∙ ap (λ n. map g (put_back count n (dealt count lanes))) all
    ∙ ap (map g) (dealt_back count lanes some)
