-- Known bytes that are read or written one part after another.
use Rattle.std.proofs.Common.{◌≡◌, ℕ, ◌+◌, List, ◌++◌, take, drop, Option, Some, None, sym, ap, subst, ◌∙◌, append_assoc}
use Rattle.std.proofs.Math.Seq.{take-add}
use Rattle.std.specs.Io.KnownBytes.{Appends, Consumes}

pub Appends-then : (a b c : Option (List ℕ)) (xs ys : List ℕ) → Appends a b xs → Appends b c ys → Appends a c (xs ++ ys)
Appends-then None b c xs ys p q = tt
Appends-then (Some u) None c xs ys p q = absurd p
Appends-then (Some u) (Some v) None xs ys p q = absurd q
Appends-then (Some u) (Some v) (Some w) xs ys p q = q ∙ ap (λ (l : List ℕ). l ++ ys) p ∙ append_assoc u xs ys

pub Consumes-then : (a b c : Option (List ℕ)) (xs ys : List ℕ) → Consumes a b xs → Consumes b c ys → Consumes a c (xs ++ ys)
Consumes-then None b c xs ys p q = tt
Consumes-then (Some u) None c xs ys p q = absurd p
Consumes-then (Some u) (Some v) None xs ys p q = absurd q
Consumes-then (Some u) (Some v) (Some w) xs ys p q = p ∙ ap (λ (l : List ℕ). xs ++ l) q ∙ sym (append_assoc xs ys w)

-- a reader that gave the first i bytes of a buffer gives n more, in a buffer that keeps those
pub Consumes-more : (a b c : Option (List ℕ)) (before buffer : List ℕ) (i n : ℕ) → take i buffer ≡ take i before
    → Consumes a b (take i before) → Consumes b c (take n (drop i buffer)) → Consumes a c (take (i + n) buffer)
Consumes-more a b c before buffer i n e p q =
    subst (Consumes a c) (sym (take-add i n buffer ∙ ap (λ (l : List ℕ). l ++ take n (drop i buffer)) e)) (Consumes-then a b c _ _ p q)
