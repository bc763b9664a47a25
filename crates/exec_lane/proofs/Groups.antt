-- Which lanes a callback group has.
use Rattle.std.proofs.Common.{◌≡◌, ℕ, Bool, true, false, not, cond, ◌&&◌, ◌||◌, ◌==◌, List, [], ◌∷◌, ◌++◌, map, refl, sym, ap, ◌∙◌, true≢false}
use Rattle.std.specs.List.{AllByRecursion, filter, fold, list_any}
use Rattle.std.proofs.lemmas.Bool.{and_parts, eqb-true, eq-eqb}
use Rattle.exec_plan.specs.Graph.{GroupNo}
use Rattle.exec_lane.specs.Lane.{as_lane, goes_into, has_exclusive, is_beside, is_of_exclusive, lanes_of, with_callback}
use Rattle.exec_msg.specs.Lists.{change_first}
use Rattle.exec_rules.specs.declared.ready.Ready.{Ready}

-- a test of callbacks that those of one lane agree on
abbrev Agrees : (Ready → Bool) → List Ready → Type 0
Agrees test [] = ⊥
Agrees test (first ∷ lane) = list_any test (first ∷ lane) ≡ test first

-- which a callback that goes into a lane agrees on too
abbrev KeptBeside : (Ready → Bool) → Type 0
KeptBeside test = (one other : Ready) → is_beside one other ≡ true → test one ≡ test other

any_more : (test : Ready → Bool) (list : List Ready) (one : Ready) → list_any test (list ++ one ∷ []) ≡ list_any test list || test one
any_more test [] one = by (test one)
  where
    by : (b : Bool) → b || false ≡ b
    by true = refl
    by false = refl
any_more test (first ∷ list) one = by (test first) (any_more test list one)
  where
    by : (b : Bool) → list_any test (list ++ one ∷ []) ≡ list_any test list || test one → b || list_any test (list ++ one ∷ []) ≡ (b || list_any test list) || test one
    by true e = refl
    by false e = e

same_or : (b : Bool) → b || b ≡ b
same_or true = refl
same_or false = refl

-- a lane with one more callback
agrees_more : (test : Ready → Bool) → KeptBeside test → (one : Ready) (lane : List Ready) → goes_into one lane ≡ true → Agrees test lane → Agrees test (lane ++ one ∷ []) × (list_any test (lane ++ one ∷ []) ≡ list_any test lane)
agrees_more test kept one [] goes agrees = absurd agrees
agrees_more test kept one (first ∷ lane) goes agrees =
    let same : list_any test ((first ∷ lane) ++ one ∷ []) ≡ list_any test (first ∷ lane) =
    any_more test (first ∷ lane) one ∙ (λ i. agrees i || kept one first goes i) ∙ same_or (test first) ∙ sym agrees in
    (same ∙ agrees, same)

-- what is added to the first lane that takes it
joined_agree : (test : Ready → Bool) → KeptBeside test → (one : Ready) (lanes : List (List Ready)) → AllByRecursion (Agrees test) lanes → AllByRecursion (Agrees test) (change_first (goes_into one) (λ lane. lane ++ one ∷ []) lanes)
joined_agree test kept one [] agree = tt
joined_agree test kept one (lane ∷ lanes) agree = by (goes_into one lane) refl (joined_agree test kept one lanes agree.1)
  where
    by : (b : Bool) → goes_into one lane ≡ b → AllByRecursion (Agrees test) (change_first (goes_into one) (λ lane. lane ++ one ∷ []) lanes) → AllByRecursion (Agrees test) (change_first (goes_into one) (λ lane. lane ++ one ∷ []) (lane ∷ lanes))
    by true e rest = rw e ((agrees_more test kept one lane e agree.0).0, agree.1)
    by false e rest = rw e (agree.0, rest)

begun_agree : (test : Ready → Bool) (one : Ready) (lanes : List (List Ready)) → AllByRecursion (Agrees test) lanes → AllByRecursion (Agrees test) (lanes ++ (one ∷ []) ∷ [])
begun_agree test one [] agree = (by (test one), tt)
  where
    by : (b : Bool) → b || false ≡ b
    by true = refl
    by false = refl
begun_agree test one (lane ∷ lanes) agree = (agree.0, begun_agree test one lanes agree.1)

with_agree : (test : Ready → Bool) → KeptBeside test → (lanes : List (List Ready)) (one : Ready) → AllByRecursion (Agrees test) lanes → AllByRecursion (Agrees test) (with_callback lanes one)
with_agree test kept lanes one agree = by (list_any (goes_into one) lanes) refl
  where
    by : (b : Bool) → list_any (goes_into one) lanes ≡ b → AllByRecursion (Agrees test) (with_callback lanes one)
    by true e = rw e (joined_agree test kept one lanes agree)
    by false e = rw e (begun_agree test one lanes agree)

-- ---- the lanes whose callbacks pass the test

abbrev passing : (Ready → Bool) → List (List Ready) → List (List Ready)
passing test lanes = filter (λ lane. list_any test lane) lanes

-- a callback that doesn't pass it changes no such lane
joined_apart : (test : Ready → Bool) → KeptBeside test → (one : Ready) → test one ≡ false → (lanes : List (List Ready)) → AllByRecursion (Agrees test) lanes → passing test (change_first (goes_into one) (λ lane. lane ++ one ∷ []) lanes) ≡ passing test lanes
joined_apart test kept one fails [] agree = refl
joined_apart test kept one fails (lane ∷ lanes) agree = by (goes_into one lane) refl lane agree.0 refl (joined_apart test kept one fails lanes agree.1)
  where
    fails_too : (lane : List Ready) → goes_into one lane ≡ true → Agrees test lane → list_any test lane ≡ false
    fails_too [] goes agrees = absurd agrees
    fails_too (first ∷ lane) goes agrees = agrees ∙ sym (kept one first goes) ∙ fails

    by : (b : Bool) → goes_into one lane ≡ b → (here : List Ready) → Agrees test here → here ≡ lane → passing test (change_first (goes_into one) (λ lane. lane ++ one ∷ []) lanes) ≡ passing test lanes →
        passing test (change_first (goes_into one) (λ lane. lane ++ one ∷ []) (lane ∷ lanes)) ≡ passing test (lane ∷ lanes)
    by true e here agrees is rest =
        let none : list_any test lane ≡ false = fails_too lane e agree.0 in
        rw (e, (agrees_more test kept one lane e agree.0).1 ∙ none, none) refl
    by false e here agrees is rest = rw e (again (list_any test lane))
      where
        again : (b : Bool) → cond b (lane ∷ passing test (change_first (goes_into one) (λ lane. lane ++ one ∷ []) lanes)) (passing test (change_first (goes_into one) (λ lane. lane ++ one ∷ []) lanes)) ≡ cond b (lane ∷ passing test lanes) (passing test lanes)
        again true = ap (λ (others : List (List Ready)). lane ∷ others) rest
        again false = rest

begun_apart : (test : Ready → Bool) (one : Ready) → test one ≡ false → (lanes : List (List Ready)) → passing test (lanes ++ (one ∷ []) ∷ []) ≡ passing test lanes
begun_apart test one fails [] = rw fails refl
begun_apart test one fails (lane ∷ lanes) = by (list_any test lane) (begun_apart test one fails lanes)
  where
    by : (b : Bool) → passing test (lanes ++ (one ∷ []) ∷ []) ≡ passing test lanes → cond b (lane ∷ passing test (lanes ++ (one ∷ []) ∷ [])) (passing test (lanes ++ (one ∷ []) ∷ [])) ≡ cond b (lane ∷ passing test lanes) (passing test lanes)
    by true rest = ap (λ (others : List (List Ready)). lane ∷ others) rest
    by false rest = rest

with_apart : (test : Ready → Bool) → KeptBeside test → (one : Ready) → test one ≡ false → (lanes : List (List Ready)) → AllByRecursion (Agrees test) lanes → passing test (with_callback lanes one) ≡ passing test lanes
with_apart test kept one fails lanes agree = by (list_any (goes_into one) lanes) refl
  where
    by : (b : Bool) → list_any (goes_into one) lanes ≡ b → passing test (with_callback lanes one) ≡ passing test lanes
    by true e = rw e (joined_apart test kept one fails lanes agree)
    by false e = rw e (begun_apart test one fails lanes)

-- one that passes it begins a lane behind all others
begun_passing : (test : Ready → Bool) (one : Ready) → test one ≡ true → (lanes : List (List Ready)) → passing test (lanes ++ (one ∷ []) ∷ []) ≡ passing test lanes ++ (one ∷ []) ∷ []
begun_passing test one passes [] = rw passes refl
begun_passing test one passes (lane ∷ lanes) = by (list_any test lane) (begun_passing test one passes lanes)
  where
    by : (b : Bool) → passing test (lanes ++ (one ∷ []) ∷ []) ≡ passing test lanes ++ (one ∷ []) ∷ [] → cond b (lane ∷ passing test (lanes ++ (one ∷ []) ∷ [])) (passing test (lanes ++ (one ∷ []) ∷ [])) ≡ cond b (lane ∷ passing test lanes) (passing test lanes) ++ (one ∷ []) ∷ []
    by true rest = ap (λ (others : List (List Ready)). lane ∷ others) rest
    by false rest = rest

-- ---- mutually exclusive groups

turned : (a b : ℕ) → a == b ≡ b == a
turned a b = by (a == b) (b == a) refl refl
  where
    by : (s t : Bool) → a == b ≡ s → b == a ≡ t → s ≡ t
    by true true e f = refl
    by true false e f = absurd (true≢false (sym (eq-eqb b a (sym (eqb-true a b e))) ∙ f))
    by false true e f = absurd (true≢false (sym (eq-eqb a b (sym (eqb-true b a f))) ∙ e))
    by false false e f = refl

kept_group : (group : GroupNo) → KeptBeside (is_of_exclusive group)
kept_group group one other beside =
    let both = and_parts (one.exclusive && other.exclusive) (one.group == other.group) beside in
    let each = and_parts one.exclusive other.exclusive both.0 in
    (λ i. (each.0 ∙ sym each.1) i && (eqb-true one.group other.group both.1 i == group))

-- a callback of the group goes into the lanes that have one of it
goes_where : (group : GroupNo) (one : Ready) → is_of_exclusive group one ≡ true → (lane : List Ready) → Agrees (is_of_exclusive group) lane → goes_into one lane ≡ list_any (is_of_exclusive group) lane
goes_where group one passes [] agrees = absurd agrees
goes_where group one passes (first ∷ lane) agrees =
    let parts = and_parts one.exclusive (one.group == group) passes in
    let same : one.group == first.group ≡ first.group == group = ap (λ (g : ℕ). g == first.group) (eqb-true one.group group parts.1) ∙ turned group first.group in
    (λ i. parts.0 i && first.exclusive && same i) ∙ sym agrees

abbrev head_or : List Ready → List (List Ready) → List Ready
head_or none [] = none
head_or none (lane ∷ lanes) = lane

abbrev tail_of : List (List Ready) → List (List Ready)
tail_of [] = []
tail_of (lane ∷ lanes) = lanes

abbrev is_begun : List (List Ready) → Bool
is_begun [] = false
is_begun (lane ∷ lanes) = true

-- what goes into the group's lane is added to it
joined_there : (group : GroupNo) (one : Ready) → is_of_exclusive group one ≡ true → (some : List Ready) (lanes : List (List Ready)) → AllByRecursion (Agrees (is_of_exclusive group)) lanes →
    passing (is_of_exclusive group) lanes ≡ as_lane some → list_any (goes_into one) lanes ≡ true → passing (is_of_exclusive group) (change_first (goes_into one) (λ lane. lane ++ one ∷ []) lanes) ≡ as_lane (some ++ one ∷ [])
joined_there group one passes some [] agree are there = absurd (true≢false (sym there))
joined_there group one passes some (lane ∷ lanes) agree are there =
    by (goes_into one lane) refl some are (λ all is more. joined_there group one passes all lanes agree.1 is more)
  where
    here : list_any (is_of_exclusive group) lane ≡ goes_into one lane
    here = sym (goes_where group one passes lane agree.0)

    by : (b : Bool) → goes_into one lane ≡ b → (all : List Ready) → passing (is_of_exclusive group) (lane ∷ lanes) ≡ as_lane all →
        ((all : List Ready) → passing (is_of_exclusive group) lanes ≡ as_lane all → list_any (goes_into one) lanes ≡ true → passing (is_of_exclusive group) (change_first (goes_into one) (λ lane. lane ++ one ∷ []) lanes) ≡ as_lane (all ++ one ∷ [])) →
        passing (is_of_exclusive group) (change_first (goes_into one) (λ lane. lane ++ one ∷ []) (lane ∷ lanes)) ≡ as_lane (all ++ one ∷ [])
    by true e [] are rest =
        let first : lane ∷ passing (is_of_exclusive group) lanes ≡ [] = rw (here ∙ e) at are in
        absurd (true≢false (ap (λ (some : List (List Ready)). is_begun some) first))
    by true e (x ∷ all) are rest =
        let first : lane ∷ passing (is_of_exclusive group) lanes ≡ (x ∷ all) ∷ [] = rw (here ∙ e) at are in
        let is : lane ≡ x ∷ all = ap (λ (some : List (List Ready)). head_or [] some) first in
        let none : passing (is_of_exclusive group) lanes ≡ [] = ap (λ (some : List (List Ready)). tail_of some) first in
        rw (e, (agrees_more (is_of_exclusive group) (kept_group group) one lane e agree.0).1 ∙ here ∙ e) (λ i. (is i ++ one ∷ []) ∷ none i)
    by false e all are rest =
        let behind : passing (is_of_exclusive group) lanes ≡ as_lane all = rw (here ∙ e) at are in
        let more : list_any (goes_into one) lanes ≡ true = rw e at there in
        rw (e, here ∙ e) (rest all behind more)

-- where no lane takes it, the group has none yet
none_there : (group : GroupNo) (one : Ready) → is_of_exclusive group one ≡ true → (lanes : List (List Ready)) → AllByRecursion (Agrees (is_of_exclusive group)) lanes → list_any (goes_into one) lanes ≡ false → passing (is_of_exclusive group) lanes ≡ []
none_there group one passes [] agree none = refl
none_there group one passes (lane ∷ lanes) agree none = by (goes_into one lane) refl (none_there group one passes lanes agree.1)
  where
    by : (b : Bool) → goes_into one lane ≡ b → (list_any (goes_into one) lanes ≡ false → passing (is_of_exclusive group) lanes ≡ []) → passing (is_of_exclusive group) (lane ∷ lanes) ≡ []
    by true e rest = let some : true ≡ false = rw e at none in absurd (true≢false some)
    by false e rest = let more : list_any (goes_into one) lanes ≡ false = rw e at none in rw (sym (goes_where group one passes lane agree.0) ∙ e) (rest more)

none_of : (some : List Ready) → as_lane some ≡ [] → some ≡ []
none_of [] is = refl
none_of (one ∷ some) is = absurd (true≢false (ap (λ (lanes : List (List Ready)). is_begun lanes) is))

-- the group's lane with one more callback
group_with : (group : GroupNo) (lanes : List (List Ready)) (some : List Ready) (one : Ready) → AllByRecursion (Agrees (is_of_exclusive group)) lanes → passing (is_of_exclusive group) lanes ≡ as_lane some →
    passing (is_of_exclusive group) (with_callback lanes one) ≡ as_lane (some ++ filter (is_of_exclusive group) (one ∷ []))
group_with group lanes some one agree are = by (is_of_exclusive group one) (list_any (goes_into one) lanes) refl refl
  where
    nothing : (list : List Ready) → list ++ [] ≡ list
    nothing [] = refl
    nothing (first ∷ list) = ap (λ (rest : List Ready). first ∷ rest) (nothing list)

    by : (b c : Bool) → is_of_exclusive group one ≡ b → list_any (goes_into one) lanes ≡ c → passing (is_of_exclusive group) (with_callback lanes one) ≡ as_lane (some ++ filter (is_of_exclusive group) (one ∷ []))
    by true true e f = rw (e, f) (joined_there group one e some lanes agree are f)
    by true false e f =
        let none : passing (is_of_exclusive group) lanes ≡ [] = none_there group one e lanes agree f in
        let empty : some ≡ [] = none_of some (sym are ∙ none) in
        rw (e, f, empty) (begun_passing (is_of_exclusive group) one e lanes ∙ ap (λ (others : List (List Ready)). others ++ (one ∷ []) ∷ []) none)
    by false c e f = rw e (with_apart (is_of_exclusive group) (kept_group group) one e lanes agree ∙ are ∙ ap as_lane (sym (nothing some)))

joined_list : (some more : List Ready) (one : Ready) → (some ++ one ∷ []) ++ more ≡ some ++ one ∷ more
joined_list [] more one = refl
joined_list (first ∷ some) more one = ap (λ (rest : List Ready). first ∷ rest) (joined_list some more one)

group_added : (group : GroupNo) (list : List Ready) (lanes : List (List Ready)) (some : List Ready) → AllByRecursion (Agrees (is_of_exclusive group)) lanes → passing (is_of_exclusive group) lanes ≡ as_lane some →
    passing (is_of_exclusive group) (fold with_callback lanes list) ≡ as_lane (some ++ filter (is_of_exclusive group) list)
group_added group [] lanes some agree are = are ∙ ap as_lane (sym (nothing some))
  where
    nothing : (list : List Ready) → list ++ [] ≡ list
    nothing [] = refl
    nothing (first ∷ list) = ap (λ (rest : List Ready). first ∷ rest) (nothing list)
group_added group (one ∷ list) lanes some agree are =
    group_added group list (with_callback lanes one) (some ++ filter (is_of_exclusive group) (one ∷ [])) (with_agree (is_of_exclusive group) (kept_group group) lanes one agree) (group_with group lanes some one agree are)
    ∙ ap as_lane (by (is_of_exclusive group one))
  where
    nothing : (list : List Ready) → list ++ [] ≡ list
    nothing [] = refl
    nothing (first ∷ list) = ap (λ (rest : List Ready). first ∷ rest) (nothing list)

    by : (b : Bool) → (some ++ cond b (one ∷ []) []) ++ filter (is_of_exclusive group) list ≡ some ++ cond b (one ∷ filter (is_of_exclusive group) list) (filter (is_of_exclusive group) list)
    by true = joined_list some (filter (is_of_exclusive group) list) one
    by false = ap (λ (front : List Ready). front ++ filter (is_of_exclusive group) list) (nothing some)

-- the callbacks of a mutually exclusive group are one lane
pub one_lane : (list : List Ready) (group : GroupNo) → filter (has_exclusive group) (lanes_of list) ≡ as_lane (filter (is_of_exclusive group) list)
one_lane list group = group_added group list [] [] tt refl

-- ---- reentrant groups

kept_reentrant : KeptBeside (λ one. not one.exclusive)
kept_reentrant one other beside =
    let each = and_parts one.exclusive other.exclusive (and_parts (one.exclusive && other.exclusive) (one.group == other.group) beside).0 in
    (λ i. not ((each.0 ∙ sym each.1) i))

-- a callback of a reentrant group goes into no lane
goes_nowhere : (one : Ready) → one.exclusive ≡ false → (lanes : List (List Ready)) → list_any (goes_into one) lanes ≡ false
goes_nowhere one alone [] = refl
goes_nowhere one alone ([] ∷ lanes) = goes_nowhere one alone lanes
goes_nowhere one alone ((first ∷ lane) ∷ lanes) = rw alone (goes_nowhere one alone lanes)

reentrant_with : (lanes : List (List Ready)) (one : Ready) → AllByRecursion (Agrees (λ some. not some.exclusive)) lanes →
    passing (λ some. not some.exclusive) (with_callback lanes one) ≡ passing (λ some. not some.exclusive) lanes ++ map (λ some. some ∷ []) (filter (λ some. not some.exclusive) (one ∷ []))
reentrant_with lanes one agree = by one.exclusive refl
  where
    nothing : (list : List (List Ready)) → list ++ [] ≡ list
    nothing [] = refl
    nothing (first ∷ list) = ap (λ (rest : List (List Ready)). first ∷ rest) (nothing list)

    by : (b : Bool) → one.exclusive ≡ b → passing (λ some. not some.exclusive) (with_callback lanes one) ≡ passing (λ some. not some.exclusive) lanes ++ map (λ some. some ∷ []) (filter (λ some. not some.exclusive) (one ∷ []))
    by true e =
        with_apart (λ some. not some.exclusive) kept_reentrant one (ap not e) lanes agree ∙ sym (nothing (passing (λ some. not some.exclusive) lanes))
        ∙ ap (λ (b : Bool). passing (λ some. not some.exclusive) lanes ++ map (λ some. some ∷ []) (cond b (one ∷ []) [])) (sym (ap not e))
    by false e = rw (goes_nowhere one e lanes)
        (begun_passing (λ some. not some.exclusive) one (ap not e) lanes
        ∙ ap (λ (b : Bool). passing (λ some. not some.exclusive) lanes ++ map (λ some. some ∷ []) (cond b (one ∷ []) [])) (sym (ap not e)))

reentrant_added : (list : List Ready) (lanes : List (List Ready)) → AllByRecursion (Agrees (λ some. not some.exclusive)) lanes →
    passing (λ some. not some.exclusive) (fold with_callback lanes list) ≡ passing (λ some. not some.exclusive) lanes ++ map (λ some. some ∷ []) (filter (λ some. not some.exclusive) list)
reentrant_added [] lanes agree = sym (nothing (passing (λ some. not some.exclusive) lanes))
  where
    nothing : (list : List (List Ready)) → list ++ [] ≡ list
    nothing [] = refl
    nothing (first ∷ list) = ap (λ (rest : List (List Ready)). first ∷ rest) (nothing list)
reentrant_added (one ∷ list) lanes agree =
    reentrant_added list (with_callback lanes one) (with_agree (λ some. not some.exclusive) kept_reentrant lanes one agree)
    ∙ ap (λ (front : List (List Ready)). front ++ map (λ some. some ∷ []) (filter (λ some. not some.exclusive) list)) (reentrant_with lanes one agree)
    ∙ by one.exclusive (passing (λ some. not some.exclusive) lanes)
  where
    behind : List (List Ready)
    behind = map (λ some. some ∷ []) (filter (λ some. not some.exclusive) list)

    by : (b : Bool) (front : List (List Ready)) → (front ++ map (λ some. some ∷ []) (cond (not b) (one ∷ []) [])) ++ behind ≡ front ++ map (λ some. some ∷ []) (cond (not b) (one ∷ filter (λ some. not some.exclusive) list) (filter (λ some. not some.exclusive) list))
    by b [] = again b
      where
        again : (b : Bool) → map (λ some. some ∷ []) (cond (not b) (one ∷ []) []) ++ behind ≡ map (λ some. some ∷ []) (cond (not b) (one ∷ filter (λ some. not some.exclusive) list) (filter (λ some. not some.exclusive) list))
        again true = refl
        again false = refl
    by b (lane ∷ front) = ap (λ (others : List (List Ready)). lane ∷ others) (by b front)

-- each callback of a reentrant group is a lane by itself
pub own_lanes : (list : List Ready) → filter (λ lane. list_any (λ one. not one.exclusive) lane) (lanes_of list) ≡ map (λ one. one ∷ []) (filter (λ one. not one.exclusive) list)
own_lanes list = reentrant_added list [] tt
