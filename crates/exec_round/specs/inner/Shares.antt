-- How items are dealt to shares, and put back in their order.
use Rattle.std.specs.Prelude.{ℕ, zero, suc, ◌-◌, ◌%◌, List, [], ◌∷◌, ◌++◌, length, replicate, take, drop, slice_index_or, slice_set}

-- shares of which the one at a place has one more item, its last
abbrev pub given_to : {A : Type 0} → ℕ → A → List (List A) → List (List A)
given_to place x shares = slice_set shares place (slice_index_or shares place [] ++ x ∷ [])

-- so many shares to which items are dealt in turn, the first of which has this number
abbrev pub dealt_from : {A : Type 0} → ℕ → ℕ → List A → List (List A) → List (List A)
dealt_from count number [] shares = shares
dealt_from count number (x ∷ xs) shares = dealt_from count (suc number) xs (given_to (number % count) x shares)

-- items, dealt to so many shares: item i, from 0, to share i modulo their number
abbrev pub dealt : {A : Type 0} → ℕ → List A → List (List A)
dealt count xs = dealt_from count 0 xs (replicate count [])

-- the last item of a share, if it has any, and the others
abbrev pub last_of : {A : Type 0} → List A → List A
last_of xs = drop (length xs - 1) xs

abbrev pub without_last : {A : Type 0} → List A → List A
without_last xs = take (length xs - 1) xs

-- shares of which the one at a place has lost its last item
abbrev pub taken_from : {A : Type 0} → ℕ → List (List A) → List (List A)
taken_from place shares = slice_set shares place (without_last (slice_index_or shares place []))

-- the first items, so many of them, that were dealt to so many shares
abbrev pub put_back : {A : Type 0} → ℕ → ℕ → List (List A) → List A
put_back count zero shares = []
put_back count (suc number) shares = put_back count number (taken_from (number % count) shares) ++ last_of (slice_index_or shares (number % count) [])
