-- What a tally knows spares a walk: from where on goals wait or have ended, and from when on one has.
use Rattle.std.proofs.Common.{◌≡◌, ℕ, zero, suc, ◌+◌, ◌≤◌, ◌<◌, ◌&&◌, List, [], ◌∷◌, length, Bool, true, false, cond, nat_le, Option, None, Some, get_or, refl, ap, sym, subst, arith, add-one}
use Rattle.std.specs.List.{find, AllByRecursion}
use Rattle.std.proofs.lemmas.Bool.{leb-false, lt-leb}
use Rattle.exec_goal.proofs.Looping.{known-next}
use Rattle.exec_goal.specs.State.{is_accepted, is_terminal}
use Rattle.exec_goal.specs.Table.{GoalRecord, is_expired, expired}
use Rattle.exec_goal.specs.declared.state.State.{State}
use Rattle.exec_goal.specs.inner.Tally.{first_with_goal, may_expire, EndsFrom, NoneBefore}
use Rattle.exec_goal.proofs.Tallying.{ends-here, ends-weaker}

-- ---- goals that wait

-- one more goal that doesn't
pub before-next : (test : State → Bool) (place : ℕ) (goals : List GoalRecord) → place < length goals → ((d : GoalRecord) → test (get_or goals place d).state ≡ false) → NoneBefore test place goals → NoneBefore test (place + 1) goals
before-next test place goals within idle waiting = rw add-one (next place goals within idle waiting)
  where
    next : (place : ℕ) (goals : List GoalRecord) → place < length goals → ((d : GoalRecord) → test (get_or goals place d).state ≡ false) → NoneBefore test place goals → NoneBefore test (suc place) goals
    next place [] within idle waiting = absurd (omega (arith, within))
    next zero (goal ∷ goals) within idle waiting = (idle goal, tt)
    next (suc place) (goal ∷ goals) within idle waiting = (waiting.0, next place goals (omega (arith, within)) idle waiting.1)

wait_by : (b : Bool) (goal : GoalRecord) (found next : Option GoalRecord) → b ≡ false → found ≡ next → cond b (Some goal) found ≡ next
wait_by true goal found next is same = absurd cc
wait_by false goal found next is same = same

-- the first goal that waits, where it is known where it stands
pub waiting-found : (place : ℕ) (goals : List GoalRecord) (d : GoalRecord) → place < length goals → is_accepted (get_or goals place d).state ≡ true → NoneBefore is_accepted place goals → find (λ goal. is_accepted goal.state) goals ≡ Some (get_or goals place d)
waiting-found place [] d within is waiting = absurd (omega (arith, within))
waiting-found zero (goal ∷ goals) d within is waiting = ap (λ (b : Bool). cond b (Some goal) (find (λ goal. is_accepted goal.state) goals)) is
waiting-found (suc place) (goal ∷ goals) d within is waiting =
    wait_by (is_accepted goal.state) goal (find (λ goal. is_accepted goal.state) goals) (Some (get_or goals place d)) waiting.0 (waiting-found place goals d (omega (arith, within)) is waiting.1)

-- where none does
pub waiting-none : (place : ℕ) (goals : List GoalRecord) → length goals ≤ place → NoneBefore is_accepted place goals → find (λ goal. is_accepted goal.state) goals ≡ None
waiting-none place [] all waiting = refl
waiting-none zero (goal ∷ goals) all waiting = absurd (omega (arith, all))
waiting-none (suc place) (goal ∷ goals) all waiting = wait_by (is_accepted goal.state) goal (find (λ goal. is_accepted goal.state) goals) None waiting.0 (waiting-none place goals (omega (arith, all)) waiting.1)

-- ---- none can have expired

unexpired_by : (b : Bool) (goal : GoalRecord) (kept : List GoalRecord) → b ≡ false → kept ≡ [] → cond b (goal ∷ kept) kept ≡ []
unexpired_by true goal kept is none = absurd cc
unexpired_by false goal kept is none = none

not_both : (b c : Bool) → (b ≡ true → c ≡ false) → (b && c) ≡ false
not_both true c is = is refl
not_both false c is = refl

later_end : (first ended timeout moment : ℕ) → nat_le (first + timeout) moment ≡ false → first ≤ ended → nat_le (ended + timeout) moment ≡ false
later_end first ended timeout moment is below = lt-leb (ended + timeout) moment (omega (arith, leb-false (first + timeout) moment is, below))

-- where the first end is too late, or no goal has ended
pub none-expired : (first : Option ℕ) (moment timeout : ℕ) (goals : List GoalRecord) → may_expire moment timeout first ≡ false → AllByRecursion (EndsFrom first) goals → expired moment (Some timeout) goals ≡ []
none-expired first moment timeout [] is ends = refl
none-expired None moment timeout (goal ∷ goals) is ends =
    unexpired_by (is_expired moment (Some timeout) goal) goal (expired moment (Some timeout) goals)
    (not_both (is_terminal goal.state) (nat_le (goal.ended + timeout) moment) (λ ended. absurd cc)) (none-expired None moment timeout goals is ends.1)
none-expired (Some first) moment timeout (goal ∷ goals) is ends =
    unexpired_by (is_expired moment (Some timeout) goal) goal (expired moment (Some timeout) goals)
    (not_both (is_terminal goal.state) (nat_le (goal.ended + timeout) moment) (λ ended. later_end first goal.ended timeout moment is (ends.0 ended)))
    (none-expired (Some first) moment timeout goals is ends.1)

-- a goal that hasn't ended hasn't expired, and ends after each moment
pub unexpired-idle : (moment timeout : ℕ) (goal : GoalRecord) → is_terminal goal.state ≡ false → is_expired moment (Some timeout) goal ≡ false
unexpired-idle moment timeout goal is = ap (λ (b : Bool). b && nat_le (goal.ended + timeout) moment) is

pub ends-idle : (first : Option ℕ) (goal : GoalRecord) → is_terminal goal.state ≡ false → EndsFrom first goal
ends-idle None goal is = is
ends-idle (Some first) goal is = λ ended. absurd cc

-- ---- the first end is looked up

-- one more goal is looked at
pub next-ends : (goals : List GoalRecord) (i : ℕ) (first next : Option ℕ) → ((d : GoalRecord) → next ≡ first_with_goal (get_or goals i d) first) →
    ((k : ℕ) (d : GoalRecord) → k < i → EndsFrom first (get_or goals k d)) → (k : ℕ) (d : GoalRecord) → k < i + 1 → EndsFrom next (get_or goals k d)
next-ends goals i first next is walked =
    known-next (EndsFrom next) goals i
    (λ d. subst (λ next. EndsFrom next (get_or goals i d)) (sym (is d)) (ends-here (is_terminal (get_or goals i d).state) first (get_or goals i d) refl))
    (λ k d below. subst (λ next. EndsFrom next (get_or goals k d)) (sym (is d)) (ends-weaker (is_terminal (get_or goals i d).state) (get_or goals i d).ended first (get_or goals k d) (walked k d below)))

-- all were looked at
pub all-ends : (first : Option ℕ) (goals : List GoalRecord) → ((k : ℕ) (d : GoalRecord) → k < length goals → EndsFrom first (get_or goals k d)) → AllByRecursion (EndsFrom first) goals
all-ends first [] ends = tt
all-ends first (goal ∷ goals) ends = (ends 0 goal (omega arith), all-ends first goals (λ k d within. ends (suc k) d (omega (arith, within))))

-- ---- goals before a place

-- what is known of goals before a place
pub before-idle : (test : State → Bool) (place : ℕ) (goals : List GoalRecord) → NoneBefore test place goals → (k : ℕ) (d : GoalRecord) → k < place → test (get_or goals k d).state ≡ false
before-idle test zero goals none k d below = absurd (omega (arith, below))
before-idle test (suc place) [] none k d below = absurd none
before-idle test (suc place) (goal ∷ goals) none zero d below = none.0
before-idle test (suc place) (goal ∷ goals) none (suc k) d below = before-idle test place goals none.1 k d (omega (arith, below))
