-- Callbacks that are listed one part after another are listed.
use Rattle.std.proofs.Common.{◌≡◌, ℕ, suc, ◌+◌, ◌<◌, List, [], ◌∷◌, ◌++◌, length, get_or, take, drop, map, refl, sym, ap, ◌∙◌, arith, append_assoc, length-append}
use Rattle.std.specs.List.{flat_map}
use Rattle.std.proofs.lemmas.List.{drop_more, get_or_at, length-map, length-take-le}
use Rattle.exec_rules.specs.Ready.{placed_from}
use Rattle.exec_rules.specs.declared.listed.Listed.{Listed}
use Rattle.exec_rules.specs.declared.ready.Ready.{Ready}
use Rattle.exec_rules.specs.inner.Listing.{as_listed, listed_behind}

pub placed_length : (position : ℕ) (list : List Ready) → length (placed_from position list) ≡ length list
placed_length position [] = refl
placed_length position (one ∷ list) = ap (λ (n : ℕ). suc n) (placed_length (suc position) list)

pub placed_more : (position : ℕ) (some more : List Ready) → placed_from position (some ++ more) ≡ placed_from position some ++ placed_from (position + length some) more
placed_more position [] more = ap (λ (n : ℕ). placed_from n more) (omega arith)
placed_more position (one ∷ some) more =
    ap (λ (rest : List Ready). record one { position = position } ∷ rest)
    (placed_more (suc position) some more ∙ ap (λ (n : ℕ). placed_from (suc position) some ++ placed_from n more) (omega arith))

as_listed_more : (some more : List Ready) → map as_listed (some ++ more) ≡ map as_listed some ++ map as_listed more
as_listed_more [] more = refl
as_listed_more (one ∷ some) more = ap (λ (rest : List Listed). as_listed one ∷ rest) (as_listed_more some more)

-- what is listed behind what is listed
pub listed_more : (list : List Listed) (some more : List Ready) → listed_behind (listed_behind list some) more ≡ listed_behind list (some ++ more)
listed_more list some more =
    let first : List Ready = placed_from (length list + 1) some in
    append_assoc list (map as_listed first) (map as_listed (placed_from (length (listed_behind list some) + 1) more))
    ∙ ap (λ (n : ℕ). list ++ (map as_listed first ++ map as_listed (placed_from n more)))
    (let whole : length (listed_behind list some) ≡ length list + length (map as_listed first) = length-append list (map as_listed first) in
    let mapped : length (map as_listed first) ≡ length first = length-map first as_listed in
    let part : length first ≡ length some = placed_length (length list + 1) some in
    omega (arith, whole, mapped, part))
    ∙ ap (λ (rest : List Listed). list ++ rest) (sym (ap (map as_listed) (placed_more (length list + 1) some more) ∙ as_listed_more first (placed_from (length list + 1 + length some) more)))

-- the element that is read next is the list's own, where those before it are mapped
pub next_is : {X : Type 0} (f : X → X) (xs ys : List X) (i : ℕ) (x : X) → i < length xs → ys ≡ map f (take i xs) ++ drop i xs → x ≡ get_or ys i x → x ≡ get_or xs i x
next_is f xs ys i x within so_far read =
    read ∙ ap (λ (zs : List _). get_or zs i x) (so_far ∙ ap (λ (rest : List _). map f (take i xs) ++ rest) (drop_more xs i x within))
    ∙ get_or_at (map f (take i xs)) (get_or xs i x) (drop (i + 1) xs) x i (length-map (take i xs) f ∙ length-take-le i xs (omega arith))

-- what an element gives is listed next
pub listed_next : {X : Type 0} (f : X → List Ready) (xs : List X) (i : ℕ) (d : X) (before after whole : List Listed) → i < length xs → after ≡ listed_behind before (f (get_or xs i d)) →
    listed_behind before (flat_map f (drop i xs)) ≡ whole → listed_behind after (flat_map f (drop (i + 1) xs)) ≡ whole
listed_next f xs i d before after whole within given so_far =
    ap (λ (list : List Listed). listed_behind list (flat_map f (drop (i + 1) xs))) given
    ∙ listed_more before (f (get_or xs i d)) (flat_map f (drop (i + 1) xs))
    ∙ ap (λ (rest : List _). listed_behind before (flat_map f rest)) (sym (drop_more xs i d within))
    ∙ so_far
