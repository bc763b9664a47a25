-- The numbers of a client's pending calls are the keys of its map, and each call is new.
use Rattle.std.proofs.Common.{◌≡◌, ℕ, ◌+◌, ◌<◌, ◌≤◌, ◌==◌, Bool, true, false, cond, List, [], ◌∷◌, ◌++◌, Option, Some, None, refl, sym, ap, ◌∙◌, arith}
use Rattle.std.specs.List.{All, list_any}
use Rattle.std.specs.Option.{is_some}
use Rattle.std.specs.Prelude.{unwrap_or}
use Rattle.std.specs.Map.{keys_of, lookup, remove_entry}
use Rattle.std.proofs.lemmas.Bool.{eqb-true}
use Rattle.std.proofs.lemmas.List.Elements.{All-nil, All-cons, All-head, All-tail}
use Rattle.std.proofs.lemmas.Map.Made.{is_some-lookup}
use Rattle.exec_msg.specs.Lists.{drop_first}
use Rattle.exec_rules.proofs.Identifiers.{eq_turned}
use Rattle.exec_task.specs.Call.{PendingCallState, new_call}
use Rattle.indexmap.specs.IndexMap.{insert_entry}

-- each number is at most this
abbrev Below : ℕ → List ℕ → Type 0
Below most numbers = All (λ number. number ≤ most) numbers

unlike : (a b : ℕ) → b < a → (a == b) ≡ false
unlike a b above = by (a == b) refl
  where
    by : (c : Bool) → (a == b) ≡ c → (a == b) ≡ false
    by false e = e
    by true e = absurd (omega (arith, eqb-true a b e))

-- a number beyond all keys is a new key, and stands last
pub keys_more : {V : Type 0} (most number : ℕ) (value : V) (entries : List (ℕ × V)) → most < number → Below most (keys_of entries) → keys_of (insert_entry (λ a b. a == b) entries number value) ≡ keys_of entries ++ number ∷ []
keys_more most number value [] above below = refl
keys_more most number value (entry ∷ entries) above below =
    rw (unlike number entry.0 (omega (arith, above, All-head (λ one. one ≤ most) entry.0 (keys_of entries) below)))
    (ap (λ (rest : List ℕ). entry.0 ∷ rest) (keys_more most number value entries above (All-tail (λ one. one ≤ most) entry.0 (keys_of entries) below)))

-- they stay at most the greatest
pub below_more : (most : ℕ) (numbers : List ℕ) → Below most numbers → Below (most + 1) (numbers ++ (most + 1) ∷ [])
below_more most [] below = All-cons (λ one. one ≤ most + 1) (most + 1) [] (omega arith) (All-nil (λ one. one ≤ most + 1))
below_more most (number ∷ numbers) below =
    All-cons (λ one. one ≤ most + 1) number (numbers ++ (most + 1) ∷ []) (omega (arith, All-head (λ one. one ≤ most) number numbers below))
    (below_more most numbers (All-tail (λ one. one ≤ most) number numbers below))

-- a key that is removed is the first of its number
pub keys_less : {V : Type 0} (number : ℕ) (entries : List (ℕ × V)) → keys_of (remove_entry (λ key. number == key) entries) ≡ drop_first (λ key. key == number) (keys_of entries)
keys_less number [] = refl
keys_less {V} number (entry ∷ entries) = by (entry.0 == number) (eq_turned number entry.0) (keys_less number entries)
  where
    by : (b : Bool) → (number == entry.0) ≡ b → keys_of (remove_entry (λ key. number == key) entries) ≡ drop_first (λ key. key == number) (keys_of entries) →
        keys_of (remove_entry (λ key. number == key) (entry ∷ entries)) ≡ cond b (keys_of entries) (entry.0 ∷ drop_first (λ key. key == number) (keys_of entries))
    by true e rest = rw e refl
    by false e rest = rw e (ap (λ (keys : List ℕ). entry.0 ∷ keys) rest)

-- and what is left stays at most the greatest
pub below_less : (most number : ℕ) (numbers : List ℕ) → Below most numbers → Below most (drop_first (λ key. key == number) numbers)
below_less most number [] below = below
below_less most number (one ∷ numbers) below = by (one == number) (below_less most number numbers (All-tail (λ key. key ≤ most) one numbers below))
  where
    by : (b : Bool) → Below most (drop_first (λ key. key == number) numbers) → Below most (cond b numbers (one ∷ drop_first (λ key. key == number) numbers))
    by true rest = All-tail (λ key. key ≤ most) one numbers below
    by false rest = All-cons (λ key. key ≤ most) one (drop_first (λ key. key == number) numbers) (All-head (λ key. key ≤ most) one numbers below) rest

-- a call by its number has no reply
abbrev pub IsNew : ℕ × PendingCallState → Type 0
IsNew pending = pending.1.call ≡ new_call pending.0

-- calls stay new if one more is
pub new_more : (most number : ℕ) (call : PendingCallState) (entries : List (ℕ × PendingCallState)) → most < number → Below most (keys_of entries) → call.call ≡ new_call number → All IsNew entries
    → All IsNew (insert_entry (λ a b. a == b) entries number call)
new_more most number call [] above below is news = All-cons IsNew (number, call) [] is (All-nil IsNew)
new_more most number call (entry ∷ entries) above below is news =
    rw (unlike number entry.0 (omega (arith, above, All-head (λ one. one ≤ most) entry.0 (keys_of entries) below)))
    (All-cons IsNew entry (insert_entry (λ a b. a == b) entries number call) (All-head IsNew entry entries news)
    (new_more most number call entries above (All-tail (λ one. one ≤ most) entry.0 (keys_of entries) below) is (All-tail IsNew entry entries news)))

-- and if one goes
pub new_less : (number : ℕ) (entries : List (ℕ × PendingCallState)) → All IsNew entries → All IsNew (remove_entry (λ key. number == key) entries)
new_less number [] news = news
new_less number (entry ∷ entries) news = by (number == entry.0) (new_less number entries (All-tail IsNew entry entries news))
  where
    by : (b : Bool) → All IsNew (remove_entry (λ key. number == key) entries) → All IsNew (cond b entries (entry ∷ remove_entry (λ key. number == key) entries))
    by true rest = All-tail IsNew entry entries news
    by false rest = All-cons IsNew entry (remove_entry (λ key. number == key) entries) (All-head IsNew entry entries news) rest

-- a call that is found by its number is new
pub found_new : (number : ℕ) (entries : List (ℕ × PendingCallState)) (call : PendingCallState) → All IsNew entries → lookup (λ key. number == key) entries ≡ Some call → call.call ≡ new_call number
found_new number [] call news found = absurd (none_some found)
  where
    none_some : None ≡ Some call → ⊥
    none_some same = cc
found_new number (entry ∷ entries) call news found = by (number == entry.0) refl (found_new number entries call (All-tail IsNew entry entries news)) found
  where
    by : (b : Bool) → (number == entry.0) ≡ b → (lookup (λ key. number == key) entries ≡ Some call → call.call ≡ new_call number) → cond b (Some entry.1) (lookup (λ key. number == key) entries) ≡ Some call → call.call ≡ new_call number
    by true e rest here = sym (ap (λ (one : PendingCallState). one.call) (ap (λ (one : Option PendingCallState). unwrap_or one call) here)) ∙ All-head IsNew entry entries news ∙ ap new_call (sym (eqb-true number entry.0 e))
    by false e rest there = rest there

-- a call is found by its number exactly if it pends
pub pended : {V : Type 0} (number : ℕ) (entries : List (ℕ × V)) (found : Option V) → found ≡ lookup (λ key. number == key) entries → is_some found ≡ list_any (λ call. call == number) (keys_of entries)
pended number entries found is =
    ap is_some is ∙ is_some-lookup (λ key. number == key) entries ∙ (λ i. list_any (λ call. eq_turned number call i) (keys_of entries))
