-- A ready list is cut into lanes so that each callback stands in one.
use Rattle.std.proofs.Common.{◌≡◌, ℕ, ◌+◌, Bool, true, false, List, [], ◌∷◌, ◌++◌, length, refl, sym, ap, ◌∙◌, true≢false, arith}
use Rattle.std.specs.List.{filter, flat_map, fold, list_any}
use Rattle.std.proofs.lemmas.List.Elements.{filter-append}
use Rattle.std.proofs.lemmas.List.{length-append}
use Rattle.exec_lane.specs.Lane.{goes_into, lanes_of, with_callback}
use Rattle.exec_msg.specs.Lists.{change_first}
use Rattle.exec_rules.specs.declared.ready.Ready.{Ready}

-- how many callbacks pass a test
abbrev size : (Ready → Bool) → List Ready → ℕ
size test list = length (filter test list)

-- how many of all lanes do
abbrev size_of : (Ready → Bool) → List (List Ready) → ℕ
size_of test lanes = size test (flat_map (λ lane. lane) lanes)

size_append : (test : Ready → Bool) (some more : List Ready) → size test (some ++ more) ≡ size test some + size test more
size_append test some more = ap (λ (xs : List Ready). length xs) (filter-append test some more) ∙ length-append (filter test some) (filter test more)

-- one more callback in a lane that is there
size_joined : (test : Ready → Bool) (takes : List Ready → Bool) (one : Ready) (lanes : List (List Ready)) → list_any takes lanes ≡ true →
    size_of test (change_first takes (λ lane. lane ++ one ∷ []) lanes) ≡ size_of test lanes + size test (one ∷ [])
size_joined test takes one [] there = absurd (true≢false (sym there))
size_joined test takes one (lane ∷ lanes) there = by (takes lane) refl (size_joined test takes one lanes)
  where
    rest : List Ready
    rest = flat_map (λ lane. lane) lanes

    by : (b : Bool) → takes lane ≡ b → (list_any takes lanes ≡ true → size_of test (change_first takes (λ lane. lane ++ one ∷ []) lanes) ≡ size_of test lanes + size test (one ∷ [])) →
        size_of test (change_first takes (λ lane. lane ++ one ∷ []) (lane ∷ lanes)) ≡ size_of test (lane ∷ lanes) + size test (one ∷ [])
    by true e behind =
        let a = size_append test (lane ++ one ∷ []) rest in
        let b = size_append test lane (one ∷ []) in
        let c = size_append test lane rest in
        rw e (omega (arith, a, b, c))
    by false e behind =
        let there_behind : list_any takes lanes ≡ true = rw e at there in
        let a = size_append test lane (flat_map (λ lane. lane) (change_first takes (λ lane. lane ++ one ∷ []) lanes)) in
        let c = size_append test lane rest in
        let d = behind there_behind in
        rw e (omega (arith, a, c, d))

-- or in one of its own
size_begun : (test : Ready → Bool) (one : Ready) (lanes : List (List Ready)) → size_of test (lanes ++ (one ∷ []) ∷ []) ≡ size_of test lanes + size test (one ∷ [])
size_begun test one [] = omega (arith, size_append test (one ∷ []) [])
size_begun test one (lane ∷ lanes) =
    let a = size_append test lane (flat_map (λ lane. lane) (lanes ++ (one ∷ []) ∷ [])) in
    let b = size_append test lane (flat_map (λ lane. lane) lanes) in
    let c = size_begun test one lanes in
    omega (arith, a, b, c)

size_with : (test : Ready → Bool) (lanes : List (List Ready)) (one : Ready) → size_of test (with_callback lanes one) ≡ size_of test lanes + size test (one ∷ [])
size_with test lanes one = by (list_any (goes_into one) lanes) refl
  where
    by : (b : Bool) → list_any (goes_into one) lanes ≡ b → size_of test (with_callback lanes one) ≡ size_of test lanes + size test (one ∷ [])
    by true e = rw e (size_joined test (goes_into one) one lanes e)
    by false e = rw e (size_begun test one lanes)

-- lanes to which callbacks are added have as many more
added : (test : Ready → Bool) (list : List Ready) (lanes : List (List Ready)) → size_of test (fold with_callback lanes list) ≡ size_of test lanes + size test list
added test [] lanes = omega arith
added test (one ∷ list) lanes =
    let a = added test list (with_callback lanes one) in
    let b = size_with test lanes one in
    let c = size_append test (one ∷ []) list in
    omega (arith, a, b, c)

-- the lanes of a ready list have each callback once
pub lanes_have_all : (list : List Ready) (test : Ready → Bool) → size_of test (lanes_of list) ≡ size test list
lanes_have_all list test = let all = added test list [] in omega (arith, all)
