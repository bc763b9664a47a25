-- Steps of the loops over the goals of a table, and over the decisions of a cancel handler.
use Rattle.std.proofs.Common.{◌≡◌, ◌≢◌, ℕ, zero, suc, ◌+◌, ◌<◌, ◌≤◌, ◌==◌, List, [], ◌∷◌, ◌++◌, map, length, take, drop, get_or, Bool, true, false, not, cond, if◌then◌else◌, Option, None, Some, is_some, IfSome, IfNone, slice_get, slice_set, refl, ap, sym, subst, ◌∙◌, arith, append_assoc, add-one, drop-cons, remove}
use Rattle.std.specs.List.{filter, find, list_any}
use Rattle.std.proofs.lemmas.Bool.{eqb-true, eqb-false}
use Rattle.exec_goal.specs.inner.Places.{IsFirst}
use Rattle.exec_msg.specs.Lists.{drop_first}
use Rattle.exec_goal.specs.inner.Held.{record_of, records_of}
use Rattle.exec_goal.specs.Info.{info_of}
use Rattle.exec_goal.specs.Table.{GoalRecord}
use Rattle.exec_goal.specs.declared.held.GoalEntry.{GoalEntry}
use Rattle.exec_goal.specs.declared.info.GoalInfo.{GoalInfo}
use Rattle.std.proofs.lemmas.List.Folds.{list_any_at}
use Rattle.std.proofs.lemmas.List.{length-map, take_all, take_more, take_more_set}
use Rattle.std.proofs.lemmas.Option.{get_or_from_slice_get, slice_get-map, slice_get_within}
use Rattle.std.specs.Option.{option_map}
use Rattle.indexmap.specs.IndexMap.{set_value_at}
use Rattle.exec_goal.specs.Cancel.{CancelRequest, Decided, is_moved, moved, table_after, code_unmoved, code_of}
use Rattle.exec_goal.proofs.Filtering.{none-filter}
use Rattle.exec_msg.specs.declared.goal.ReturnCode.TheVariants as code

-- ---- lists of which a test keeps some elements

kept_by : {A B : Type 0} (test : Bool) (f : A → B) (x : A) (done : List B) (rest : List A) → test ≡ true → (done ++ f x ∷ []) ++ map f rest ≡ done ++ map f (cond test (x ∷ rest) rest)
kept_by true f x done rest is = append_assoc done (f x ∷ []) (map f rest)
kept_by false f x done rest is = absurd cc

passed_by : {A B : Type 0} (test : Bool) (f : A → B) (x : A) (done : List B) (rest : List A) → test ≡ false → done ++ map f rest ≡ done ++ map f (cond test (x ∷ rest) rest)
passed_by true f x done rest is = absurd cc
passed_by false f x done rest is = refl

-- an element that passes is kept
pub next_kept : {A B : Type 0} (test : A → Bool) (f : A → B) (xs : List A) (i : ℕ) (d : A) (done : List B) → i < length xs → test (get_or xs i d) ≡ true →
    (done ++ f (get_or xs i d) ∷ []) ++ map f (filter test (drop (i + 1) xs)) ≡ done ++ map f (filter test (drop i xs))
next_kept {A} test f xs i d done within is =
    rw add-one (kept_by (test (get_or xs i d)) f (get_or xs i d) done (filter test (drop (suc i) xs)) is ∙ ap (λ (rest : List A). done ++ map f (filter test rest)) (sym (drop-cons xs i d within)))

-- and one that doesn't is passed over
pub next_passed : {A B : Type 0} (test : A → Bool) (f : A → B) (xs : List A) (i : ℕ) (d : A) (done : List B) → i < length xs → test (get_or xs i d) ≡ false →
    done ++ map f (filter test (drop (i + 1) xs)) ≡ done ++ map f (filter test (drop i xs))
next_passed {A} test f xs i d done within is =
    rw add-one (passed_by (test (get_or xs i d)) f (get_or xs i d) done (filter test (drop (suc i) xs)) is ∙ ap (λ (rest : List A). done ++ map f (filter test rest)) (sym (drop-cons xs i d within)))

-- ---- lists whose elements are changed one after another

-- a list whose first elements are changed
abbrev pub mapped_upto : {A : Type 0} → (A → A) → ℕ → List A → List A
mapped_upto f zero xs = xs
mapped_upto f (suc i) [] = []
mapped_upto f (suc i) (x ∷ xs) = f x ∷ mapped_upto f i xs

pub length-mapped_upto : {A : Type 0} (f : A → A) (i : ℕ) (xs : List A) → length (mapped_upto f i xs) ≡ length xs
length-mapped_upto f zero xs = refl
length-mapped_upto f (suc i) [] = refl
length-mapped_upto f (suc i) (x ∷ xs) = ap suc (length-mapped_upto f i xs)

-- one more element is changed
pub next_mapped : {A : Type 0} (f : A → A) (i : ℕ) (xs : List A) (d : A) → i < length xs → slice_set (mapped_upto f i xs) i (f (get_or (mapped_upto f i xs) i d)) ≡ mapped_upto f (suc i) xs
next_mapped f i [] d within = absurd (omega (arith, within))
next_mapped f zero (x ∷ xs) d within = refl
next_mapped f (suc i) (x ∷ xs) d within = ap (λ rest. f x ∷ rest) (next_mapped f i xs d (omega (arith, within)))

-- all elements are changed
pub all_mapped : {A : Type 0} (f : A → A) (i : ℕ) (xs : List A) → length xs ≤ i → mapped_upto f i xs ≡ map f xs
all_mapped f zero [] all = refl
all_mapped f zero (x ∷ xs) all = absurd (omega (arith, all))
all_mapped f (suc i) [] all = refl
all_mapped f (suc i) (x ∷ xs) all = ap (λ rest. f x ∷ rest) (all_mapped f i xs (omega (arith, all)))

-- ---- lists without the first element that passes a test

first_kept : {A : Type 0} (b : Bool) (x : A) (rest others : List A) → b ≡ true → rest ≡ (if b then rest else x ∷ others)
first_kept true x rest others is = refl
first_kept false x rest others is = absurd cc

later_kept : {A : Type 0} (b : Bool) (x : A) (rest others : List A) → b ≡ false → x ∷ others ≡ (if b then rest else x ∷ others)
later_kept true x rest others is = absurd cc
later_kept false x rest others is = refl

next_first : {A : Type 0} (test : A → Bool) (x : A) (xs : List A) (i : ℕ) → IsFirst test (x ∷ xs) (suc i) → IsFirst test xs i
next_first test x xs i first = record {
  within = omega (arith, first.within);
  passes = λ d. first.passes d;
  before = λ k d below. first.before (suc k) d (omega (arith, below));
}

-- a list from which the first element that passes is taken
pub removed-first : {A : Type 0} (test : A → Bool) (xs : List A) (i : ℕ) → IsFirst test xs i → remove xs i ≡ drop_first test xs
removed-first test [] i first = absurd (omega (arith, first.within))
removed-first test (x ∷ xs) zero first = first_kept (test x) x xs (drop_first test xs) (first.passes x)
removed-first test (x ∷ xs) (suc i) first = ap (λ rest. x ∷ rest) (removed-first test xs i (next_first test x xs i first)) ∙ later_kept (test x) x xs (drop_first test xs) (first.before 0 x (omega arith))

found_here : {A : Type 0} (b : Bool) (x : A) (rest : List A) → b ≡ true → Some x ≡ slice_get (cond b (x ∷ rest) rest) 0
found_here true x rest is = refl
found_here false x rest is = absurd cc

found_later : {A : Type 0} (b : Bool) (x : A) (rest : List A) → b ≡ false → slice_get rest 0 ≡ slice_get (cond b (x ∷ rest) rest) 0
found_later true x rest is = absurd cc
found_later false x rest is = refl

-- it is the first of those that pass
pub found-first : {A : Type 0} (test : A → Bool) (xs : List A) (i : ℕ) → IsFirst test xs i → slice_get xs i ≡ slice_get (filter test xs) 0
found-first test [] i first = absurd (omega (arith, first.within))
found-first test (x ∷ xs) zero first = found_here (test x) x (filter test xs) (first.passes x)
found-first test (x ∷ xs) (suc i) first = found-first test xs i (next_first test x xs i first) ∙ found_later (test x) x (filter test xs) (first.before 0 x (omega arith))

first_by : {A : Type 0} (b : Bool) (x : A) (found : Option A) (rest : List A) → found ≡ slice_get rest 0 → cond b (Some x) found ≡ slice_get (cond b (x ∷ rest) rest) 0
first_by true x found rest same = refl
first_by false x found rest same = same

-- what is found is the first of those that pass
pub find-filter : {A : Type 0} (test : A → Bool) (xs : List A) → find test xs ≡ slice_get (filter test xs) 0
find-filter test [] = refl
find-filter test (x ∷ xs) = first_by (test x) x (find test xs) (filter test xs) (find-filter test xs)

filter_by : {A : Type 0} (test : A → Bool) (b : Bool) (x : A) (xs others : List A) → test x ≡ b → filter test others ≡ drop 1 (filter test xs) → filter test (if b then xs else x ∷ others) ≡ drop 1 (cond b (x ∷ filter test xs) (filter test xs))
filter_by test true x xs others is induction = refl
filter_by test false x xs others is induction = rw is induction

-- the others that pass stay
pub filter-drop_first : {A : Type 0} (test : A → Bool) (xs : List A) → filter test (drop_first test xs) ≡ drop 1 (filter test xs)
filter-drop_first test [] = refl
filter-drop_first test (x ∷ xs) = filter_by test (test x) x xs (drop_first test xs) refl (filter-drop_first test xs)

others_by : {A : Type 0} (test : A → Bool) (b : Bool) (x : A) (xs others : List A) → test x ≡ b → filter (λ x. not (test x)) others ≡ filter (λ x. not (test x)) xs →
    filter (λ x. not (test x)) (if b then xs else x ∷ others) ≡ cond (not b) (x ∷ filter (λ x. not (test x)) xs) (filter (λ x. not (test x)) xs)
others_by test true x xs others is induction = refl
others_by test false x xs others is induction = rw is (ap (λ rest. x ∷ rest) induction)

-- those that don't pass stay
pub others-drop_first : {A : Type 0} (test : A → Bool) (xs : List A) → filter (λ x. not (test x)) (drop_first test xs) ≡ filter (λ x. not (test x)) xs
others-drop_first test [] = refl
others-drop_first test (x ∷ xs) = others_by test (test x) x xs (drop_first test xs) refl (others-drop_first test xs)

none_by : {A : Type 0} (b : Bool) (x : A) (kept xs others : List A) → cond b (x ∷ kept) kept ≡ [] → (kept ≡ [] → others ≡ xs) → (if b then xs else x ∷ others) ≡ x ∷ xs
none_by true x kept xs others none induction = absurd cc
none_by false x kept xs others none induction = ap (λ rest. x ∷ rest) (induction none)

-- where none passes the list stays
pub drop_first-none : {A : Type 0} (test : A → Bool) (xs : List A) → filter test xs ≡ [] → drop_first test xs ≡ xs
drop_first-none test [] none = refl
drop_first-none test (x ∷ xs) none = none_by (test x) x (filter test xs) xs (drop_first test xs) none (drop_first-none test xs)

-- whether an element passes, where the place of the first that does is known
pub any-first : {A : Type 0} (test : A → Bool) (xs : List A) (first : Option ℕ) → IfSome first (λ i. IsFirst test xs i) → IfNone first (filter test xs ≡ []) → is_some first ≡ list_any test xs
any-first test xs None found none = sym (none-filter test xs none)
any-first test [] (Some i) found none = absurd (omega (arith, found.within))
any-first test (x ∷ xs) (Some i) found none = sym (list_any_at test (x ∷ xs) i x found.within (found.passes x))

-- ---- what is read by a place

-- a goal that is told of at a place
pub told-at : (goals : List GoalRecord) (i : ℕ) (info : GoalInfo) → slice_get (map info_of goals) i ≡ Some info → (goal : GoalRecord) × (info ≡ info_of goal) × (get_or goals i goal ≡ goal)
told-at [] i info is = absurd cc
told-at (goal ∷ goals) zero info is = (goal, (cc), refl)
told-at (goal ∷ goals) (suc i) info is = told-at goals i info is

-- the record of an entry at a place
pub record-at : (entries : List (ℕ × GoalEntry)) (goals : List GoalRecord) (i : ℕ) (entry : ℕ × GoalEntry) → records_of entries ≡ goals → slice_get entries i ≡ Some entry → (d : GoalRecord) → get_or goals i d ≡ record_of entry
record-at entries goals i entry are is d =
    get_or_from_slice_get goals i (record_of entry) d (ap (λ (goals : List GoalRecord). slice_get goals i) (sym are) ∙ slice_get-map record_of entries i ∙ ap (option_map record_of) is)

-- a change of an entry's value by its place
pub records-set_value_at : (entries : List (ℕ × GoalEntry)) (i : ℕ) (entry : ℕ × GoalEntry) (held : GoalEntry) → slice_get entries i ≡ Some entry →
    records_of (set_value_at entries i held) ≡ slice_set (records_of entries) i (record_of (entry.0, held))
records-set_value_at [] i entry held is = absurd cc
records-set_value_at (first ∷ entries) zero entry held is =
    let same : first ≡ entry = cc in
    ap (λ (entry : ℕ × GoalEntry). record_of (entry.0, held) ∷ records_of entries) same
records-set_value_at (first ∷ entries) (suc i) entry held is = ap (λ goals. record_of first ∷ goals) (records-set_value_at entries i entry held is)

-- ---- the code of an answer

-- a list of which nothing is made is empty
pub empty-map : {A B : Type 0} (f : A → B) (xs : List A) → (length (map f xs) == 0) ≡ true → xs ≡ []
empty-map f [] is = refl
empty-map f (x ∷ xs) is = absurd (omega (arith, eqb-true (suc (length (map f xs))) 0 is))

pub nonempty-map : {A B : Type 0} (f : A → B) (xs : List A) → (length (map f xs) == 0) ≡ false → xs ≢ []
nonempty-map f [] is none = cc
nonempty-map f (x ∷ xs) is none = cc

-- where no goal moves the code is that of an answer that moves none
pub code-unmoved : (request : CancelRequest) (decisions : List Decided) (goals : List GoalRecord) → moved decisions goals ≡ [] → code_unmoved request decisions goals ≡ code_of request decisions goals
code-unmoved request decisions goals none = by (list_any (is_moved decisions) goals) (none-filter (is_moved decisions) goals none)
  where
    by : (b : Bool) → b ≡ false → code_unmoved request decisions goals ≡ (if b then code.None else code_unmoved request decisions goals)
    by true is = absurd cc
    by false is = refl

-- the table stays as it is then
pub table-unmoved : (decisions : List Decided) (goals : List GoalRecord) → moved decisions goals ≡ [] → table_after decisions goals ≡ goals
table-unmoved decisions [] none = refl
table-unmoved decisions (goal ∷ goals) none = by (is_moved decisions goal) refl none (table-unmoved decisions goals)
  where
    by : (b : Bool) → is_moved decisions goal ≡ b → cond b (goal ∷ moved decisions goals) (moved decisions goals) ≡ [] → (moved decisions goals ≡ [] → table_after decisions goals ≡ goals) → table_after decisions (goal ∷ goals) ≡ goal ∷ goals
    by true is none others = absurd cc
    by false is none others = rw is (ap (λ (after : List GoalRecord). goal ∷ after) (others none))

-- ---- what stands behind the others

pub last-there : {A : Type 0} (xs : List A) (x : A) → slice_get (xs ++ x ∷ []) (length xs) ≡ Some x
last-there [] x = refl
last-there (first ∷ xs) x = last-there xs x

pub set-last : {A : Type 0} (xs : List A) (old new : A) → slice_set (xs ++ old ∷ []) (length xs) new ≡ xs ++ new ∷ []
set-last [] old new = refl
set-last (first ∷ xs) old new = ap (λ rest. first ∷ rest) (set-last xs old new)

-- ---- a walk over all elements

-- one more is known of
pub known-next : {A : Type 0} (P : A → Type 0) (xs : List A) (i : ℕ) → ((d : A) → P (get_or xs i d)) → ((k : ℕ) (d : A) → k < i → P (get_or xs k d)) → (k : ℕ) (d : A) → k < i + 1 → P (get_or xs k d)
known-next P xs i here others k d below = by (k == i) refl
  where
    by : (b : Bool) → (k == i) ≡ b → P (get_or xs k d)
    by true is = subst (λ (place : ℕ). P (get_or xs place d)) (sym (eqb-true k i is)) (here d)
    by false is = others k d (omega (arith, below, eqb-false k i is))

-- ---- what a test keeps of a list that is made of another

kept_of : {A B : Type 0} (f : A → B) (b : Bool) (x : A) (xs : List A) (ys : List B) → map f xs ≡ ys → map f (cond b (x ∷ xs) xs) ≡ cond b (f x ∷ ys) ys
kept_of f true x xs ys same = ap (λ ys. f x ∷ ys) same
kept_of f false x xs ys same = same

pub map-kept : {A B : Type 0} (f : A → B) (test : B → Bool) (xs : List A) → map f (filter (λ x. test (f x)) xs) ≡ filter test (map f xs)
map-kept f test [] = refl
map-kept f test (x ∷ xs) = kept_of f (test (f x)) x (filter (λ x. test (f x)) xs) (filter test (map f xs)) (map-kept f test xs)

-- ---- a list that is written over another, one element after another

-- one more is written
pub written-next : {A : Type 0} (all ys : List A) (i : ℕ) (y : A) → slice_get all i ≡ Some y → i < length ys → take i ys ≡ take i all → take (i + 1) (slice_set ys i y) ≡ take (i + 1) all
written-next all ys i y there within written =
    take_more_set ys i y within
    ∙ (λ j. written j ++ sym (get_or_from_slice_get all i y y there) j ∷ [])
    ∙ sym (take_more all i y (slice_get_within all i y there))

-- all are written
pub written-all : {A : Type 0} (all ys : List A) (n i : ℕ) → n ≡ length all → length all ≤ i → i ≤ n → take i ys ≡ take i all → take n ys ≡ all
written-all all ys n i long above below written =
    let same : n ≡ i = omega (arith, long, above, below) in
    ap (λ (k : ℕ). take k ys) same ∙ written ∙ take_all i all (omega arith)

-- what is known of the goal of an entry
pub info-at : (entries : List (ℕ × GoalEntry)) (i : ℕ) (entry : ℕ × GoalEntry) (info : GoalInfo) → slice_get entries i ≡ Some entry → info ≡ info_of (record_of entry) → slice_get (map info_of (records_of entries)) i ≡ Some info
info-at entries i entry info there is = slice_get-map info_of (records_of entries) i ∙ ap (option_map info_of) (slice_get-map record_of entries i ∙ ap (option_map record_of) there) ∙ ap Some (sym is)

pub length-infos : (entries : List (ℕ × GoalEntry)) → length (map info_of (records_of entries)) ≡ length entries
length-infos entries = length-map (records_of entries) info_of ∙ length-map entries record_of
