-- Known bytes that are read or written one piece after another.
use Rattle.std.proofs.Common.{◌≡◌, ℕ, ◌+◌, ◌-◌, ◌≤◌, length, List, ◌++◌, take, drop, Option, Some, None, sym, ap, subst, ◌∙◌, append_assoc, take-take, take-append-drop, length-drop, arith}
use Rattle.std.proofs.Math.Seq.{paste, take-add, take-append-add}
use Rattle.std.proofs.lemmas.List.{take-append-le}
use Rattle.std.proofs.lemmas.List.Edits.{take-paste}
use Rattle.std.specs.Io.KnownBytes.{Appends, Consumes}
use Rattle.std.specs.List.{copy_within}

Appends-then : (a b c : Option (List ℕ)) (xs ys : List ℕ) → Appends a b xs → Appends b c ys → Appends a c (xs ++ ys)
Appends-then None b c xs ys p q = tt
Appends-then (Some u) None c xs ys p q = absurd p
Appends-then (Some u) (Some v) None xs ys p q = absurd q
Appends-then (Some u) (Some v) (Some w) xs ys p q = q ∙ ap (λ (l : List ℕ). l ++ ys) p ∙ append_assoc u xs ys

Consumes-then : (a b c : Option (List ℕ)) (xs ys : List ℕ) → Consumes a b xs → Consumes b c ys → Consumes a c (xs ++ ys)
Consumes-then None b c xs ys p q = tt
Consumes-then (Some u) None c xs ys p q = absurd p
Consumes-then (Some u) (Some v) None xs ys p q = absurd q
Consumes-then (Some u) (Some v) (Some w) xs ys p q = p ∙ ap (λ (l : List ℕ). xs ++ l) q ∙ sym (append_assoc xs ys w)

-- a writer that took the first i bytes of a text takes n more
pub Appends-more : (a b c : Option (List ℕ)) (text : List ℕ) (i n : ℕ) → Appends a b (take i text) → Appends b c (take n (drop i text)) → Appends a c (take (i + n) text)
Appends-more a b c text i n p q = subst (Appends a c) (sym (take-add i n text)) (Appends-then a b c _ _ p q)

-- a reader that gave the first i bytes of a buffer gives n more, in a buffer that keeps those
pub Consumes-more : (a b c : Option (List ℕ)) (before buffer : List ℕ) (i n : ℕ) → take i buffer ≡ take i before
    → Consumes a b (take i before) → Consumes b c (take n (drop i buffer)) → Consumes a c (take (i + n) buffer)
Consumes-more a b c before buffer i n e p q =
    subst (Consumes a c) (sym (take-add i n buffer ∙ ap (λ (l : List ℕ). l ++ take n (drop i buffer)) e)) (Consumes-then a b c _ _ p q)

-- a writer that took what comes before a piece of a text, and a front of the piece
pub Appends-front : (a b c : Option (List ℕ)) (before piece behind text : List ℕ) (n : ℕ) → before ++ (piece ++ behind) ≡ text → n ≤ length piece → Appends a b before → Appends b c (take n piece)
    → Appends a c (take (length before + n) text)
Appends-front a b c before piece behind text n is within p q =
    subst (Appends a c) (ap (λ (l : List ℕ). before ++ l) (sym (take-append-le n piece behind within)) ∙ sym (take-append-add before (piece ++ behind) n) ∙ ap (take (length before + n)) is) (Appends-then a b c before (take n piece) p q)

-- one that took all of it
pub Appends-piece : (a b c : Option (List ℕ)) (before piece : List ℕ) → Appends a b before → Appends b c piece → Appends a c (before ++ piece)
Appends-piece a b c before piece p q = Appends-then a b c before piece p q

-- the front of what stood before a text was written, and what is left of it stands before the rest
pub front_written : (written front behind all rest before lines text : List ℕ) → front ++ behind ≡ all → before ++ lines ≡ all ++ rest → written ++ (before ++ lines) ≡ text → (written ++ front) ++ (behind ++ rest) ≡ text
front_written written front behind all rest before lines text parts same whole =
    append_assoc written front (behind ++ rest)
    ∙ ap (λ (l : List ℕ). written ++ l) (sym (append_assoc front behind rest) ∙ ap (λ (l : List ℕ). l ++ rest) parts ∙ sym same)
    ∙ whole

-- a front of what is placed stands before the rest of the text
pub front_and_rest : (written buffer rest before lines text : List ℕ) (count end : ℕ) → count ≤ end → before ++ lines ≡ take end buffer ++ rest → written ++ (before ++ lines) ≡ text
    → written ++ (take count buffer ++ (drop count (take end buffer) ++ rest)) ≡ text
front_and_rest written buffer rest before lines text count end within same whole =
    ap (λ (l : List ℕ). written ++ l)
    (
    ap (λ (l : List ℕ). l ++ (drop count (take end buffer) ++ rest)) (sym (take-take count end buffer within))
    ∙ sym (append_assoc (take count (take end buffer)) (drop count (take end buffer)) rest)
    ∙ ap (λ (l : List ℕ). l ++ rest) (take-append-drop count (take end buffer))
    ∙ sym same
    )
    ∙ whole

-- the bytes up to an end, where the last of them were moved to the front
pub moved_to_front : (buffer after : List ℕ) (end behind : ℕ) → behind ≤ end → end ≤ length buffer → after ≡ copy_within buffer (end - behind) end 0 → take (end - behind) buffer ++ take behind after ≡ take end buffer
moved_to_front buffer after end behind within fits is =
    let front : ℕ = end - behind in
    let count : end - front ≡ behind = omega arith in
    let same : behind ≡ 0 + behind = omega arith in
    let left : behind ≤ length (drop front buffer) = omega (arith, length-drop front buffer) in
    let whole : front + behind ≡ end = omega arith in
    let placed : take behind after ≡ take behind (drop front buffer) =
    ap (take behind) (is ∙ ap (paste buffer 0 (drop front buffer)) count) ∙ ap (λ n. take n (paste buffer 0 (drop front buffer) behind)) same ∙ take-paste buffer 0 (drop front buffer) behind (omega arith) left in
    ap (λ (l : List ℕ). take front buffer ++ l) placed ∙ sym (take-add front behind buffer) ∙ ap (λ n. take n buffer) whole
