-- Each step between a caller and its worker keeps the rule.
use Rattle.std.proofs.Common.{◌≡◌, ℕ, zero, suc, List, [], ◌∷◌, sym, refl, ap, subst, arith}
use Rattle.std.specs.Prelude.{◌==◌, ◌++◌, Option, None, Some, slice_index, slice_set}
use mathlib.Core.Option.{none, some, some-injective, some-ne-none}
use prog.Atomic.{either}
use lib.ListN.{get_elem?}
use Rattle.atomic_table.specs.Table.{Act, Allows, Splits, State, Valid, carried_after, gives, keeps, opening, step, stepped, takes}
use Rattle.exec_pool.specs.Job.{IsRunOf, MayRun}
use Rattle.exec_pool.specs.Pair.{IsFair, PairRule, Stage, View, alone, begun, caller, closed, idle, opened, opener, posted, ran, standing, taken, views_of, worker}
use Rattle.exec_pool.specs.Plays.{Mine, answered_so, begun_so, closed_so, collected_so, posted_so, taken_back_so, taken_so}
use Rattle.exec_pool.specs.declared.job.Job.{Job}

-- ---- which seat is which

-- views of one number are alike
abbrev number : View → ℕ
number opener = 0
number alone = 1
number (caller None) = 2
number (caller (Some job)) = 3
number (worker None) = 4
number (worker (Some job)) = 5

alike : {v w : View} → some v ≡ some w → number v ≡ number w
alike {v} {w} is = ap number (some-injective v w is)

first_alone : (v w : View) (id : ℕ) → get_elem? (v ∷ []) id ≡ some w → id ≡ 0
first_alone v w zero at = refl
first_alone v w (suc id) at = absurd (some-ne-none w (sym at))

-- whose seat comes first, and whose second
caller_first : (out job at_work : Option Job) (id : ℕ) → get_elem? (caller out ∷ worker at_work ∷ []) id ≡ some (caller job) → id ≡ 0
caller_first out job at_work zero at = refl
caller_first out None None (suc zero) at = let no : 4 ≡ 2 = alike at in absurd (omega (arith, no))
caller_first out None (Some x) (suc zero) at = let no : 5 ≡ 2 = alike at in absurd (omega (arith, no))
caller_first out (Some job) None (suc zero) at = let no : 4 ≡ 3 = alike at in absurd (omega (arith, no))
caller_first out (Some job) (Some x) (suc zero) at = let no : 5 ≡ 3 = alike at in absurd (omega (arith, no))
caller_first out job at_work (suc (suc id)) at = absurd (some-ne-none (caller job) (sym at))

worker_second : (out job at_work : Option Job) (id : ℕ) → get_elem? (caller out ∷ worker at_work ∷ []) id ≡ some (worker job) → id ≡ 1
worker_second None None at_work zero at = let no : 2 ≡ 4 = alike at in absurd (omega (arith, no))
worker_second None (Some x) at_work zero at = let no : 2 ≡ 5 = alike at in absurd (omega (arith, no))
worker_second (Some job) None at_work zero at = let no : 3 ≡ 4 = alike at in absurd (omega (arith, no))
worker_second (Some job) (Some x) at_work zero at = let no : 3 ≡ 5 = alike at in absurd (omega (arith, no))
worker_second out job at_work (suc zero) at = refl
worker_second out job at_work (suc (suc id)) at = absurd (some-ne-none (worker job) (sym at))

caller_at : (stage : Stage) (job : Option Job) (id : ℕ) → get_elem? (views_of stage) id ≡ some (caller job) → id ≡ 0
caller_at opened job id at = first_alone opener (caller job) id at
caller_at begun job id at = first_alone alone (caller job) id at
caller_at idle job id at = caller_first None job None id at
caller_at closed job id at = caller_first None job None id at
caller_at (posted x) job id at = caller_first (Some x) job None id at
caller_at (taken x) job id at = caller_first (Some x) job (Some x) id at
caller_at (ran x y) job id at = caller_first (Some x) job None id at

not_alone : (v : View) (job : Option Job) (id : ℕ) → get_elem? (v ∷ []) id ≡ some (worker job) → number v ≡ number (worker job)
not_alone v job zero at = alike at
not_alone v job (suc id) at = absurd (some-ne-none (worker job) (sym at))

worker_at : (stage : Stage) (job : Option Job) (id : ℕ) → get_elem? (views_of stage) id ≡ some (worker job) → id ≡ 1
worker_at opened None id at = let no : 0 ≡ 4 = not_alone opener None id at in absurd (omega (arith, no))
worker_at opened (Some x) id at = let no : 0 ≡ 5 = not_alone opener (Some x) id at in absurd (omega (arith, no))
worker_at begun None id at = let no : 1 ≡ 4 = not_alone alone None id at in absurd (omega (arith, no))
worker_at begun (Some x) id at = let no : 1 ≡ 5 = not_alone alone (Some x) id at in absurd (omega (arith, no))
worker_at idle job id at = worker_second None job None id at
worker_at closed job id at = worker_second None job None id at
worker_at (posted x) job id at = worker_second (Some x) job None id at
worker_at (taken x) job id at = worker_second (Some x) job (Some x) id at
worker_at (ran x y) job id at = worker_second (Some x) job None id at

-- ---- steps at a stage

-- what a step must give: the word becomes f of what it was
abbrev Goes : (ℕ → ℕ) → ℕ → Mine → (ℕ → Mine → Type 0) → State (Option Job) View → Type 0
Goes f id me so s =
    (w : View) × (a : Act (Option Job)) × Valid s.homes me.1 a × PairRule (stepped s 0 (f (slice_index s.words 0)) id me.1 w a)
    × so (slice_index s.words 0) (w, carried_after me.1 a)

allowed : (f : ℕ → ℕ) (slots place id : ℕ) (me : Mine) (so : ℕ → Mine → Type 0)
    → ((stage : Stage) → get_elem? (views_of stage) id ≡ some me.0 → id ≡ place)
    → ((stage : Stage) → IsFair stage → get_elem? (views_of stage) place ≡ some me.0 → Goes f place me so (standing stage)) → Allows PairRule slots id me 0 f so
allowed f slots place id me so only each s rule homes at small =
    subst (λ (t : State (Option Job) View). get_elem? t.views id ≡ some me.0 → Goes f id me so t) (sym rule.2) here at
  where
    here : get_elem? (views_of rule.0) id ≡ some me.0 → Goes f id me so (standing rule.0)
    here at =
        let is = only rule.0 at in
        subst (λ (k : ℕ). Goes f k me so (standing rule.0)) (sym is) (each rule.0 rule.1 (subst (λ (k : ℕ). get_elem? (views_of rule.0) k ≡ some me.0) is at))

pub opens : PairRule (opening (5 ∷ []) (None ∷ []) opener)
opens = (opened, tt, refl)

pub begins : (slots id : ℕ) → Allows PairRule slots id (opener, []) 0 (λ _. 0) (begun_so (step slots 0 0 0 none) (opener, []))
begins slots id = allowed (λ _. 0) slots 0 id (opener, []) (begun_so (step slots 0 0 0 none) (opener, [])) only each
  where
    not_two : (c w : Option Job) (id : ℕ) → get_elem? (caller c ∷ worker w ∷ []) id ≡ some opener → ⊥
    not_two None w zero at = let no : 2 ≡ 0 = alike at in omega (arith, no)
    not_two (Some x) w zero at = let no : 3 ≡ 0 = alike at in omega (arith, no)
    not_two c None (suc zero) at = let no : 4 ≡ 0 = alike at in omega (arith, no)
    not_two c (Some x) (suc zero) at = let no : 5 ≡ 0 = alike at in omega (arith, no)
    not_two c w (suc (suc id)) at = some-ne-none opener (sym at)

    only : (stage : Stage) → get_elem? (views_of stage) id ≡ some opener → id ≡ 0
    only opened at = first_alone opener opener id at
    only begun at = first_alone alone opener id at
    only idle at = absurd (not_two None None id at)
    only closed at = absurd (not_two None None id at)
    only (posted x) at = absurd (not_two (Some x) None id at)
    only (taken x) at = absurd (not_two (Some x) (Some x) id at)
    only (ran x y) at = absurd (not_two (Some x) None id at)

    each : (stage : Stage) → IsFair stage → get_elem? (views_of stage) 0 ≡ some opener → Goes (λ _. 0) 0 (opener, []) (begun_so (step slots 0 0 0 none) (opener, [])) (standing stage)
    each opened fair at = (alone, takes 0 None, refl, (begun, tt, refl), refl)
    each begun fair at = let no : 1 ≡ 0 = alike at in absurd (omega (arith, no))
    each idle fair at = let no : 2 ≡ 0 = alike at in absurd (omega (arith, no))
    each closed fair at = let no : 2 ≡ 0 = alike at in absurd (omega (arith, no))
    each (posted x) fair at = let no : 3 ≡ 0 = alike at in absurd (omega (arith, no))
    each (taken x) fair at = let no : 3 ≡ 0 = alike at in absurd (omega (arith, no))
    each (ran x y) fair at = let no : 3 ≡ 0 = alike at in absurd (omega (arith, no))

pub posts : (slots id : ℕ) (job : Job) → MayRun job → Allows PairRule slots id (caller None, (0, Some job) ∷ []) 0 (λ _. 1) (λ _. posted_so (step slots 0 1 0 none) (caller None, (0, Some job) ∷ []) 1)
posts slots id job may = allowed (λ _. 1) slots 0 id (caller None, (0, Some job) ∷ []) (λ _. posted_so (step slots 0 1 0 none) (caller None, (0, Some job) ∷ []) 1) (λ stage at. caller_at stage None id at) each
  where
    each : (stage : Stage) → IsFair stage → get_elem? (views_of stage) 0 ≡ some (caller None)
        → Goes (λ _. 1) 0 (caller None, (0, Some job) ∷ []) (λ _. posted_so (step slots 0 1 0 none) (caller None, (0, Some job) ∷ []) 1) (standing stage)
    each opened fair at = let no : 0 ≡ 2 = alike at in absurd (omega (arith, no))
    each begun fair at = let no : 1 ≡ 2 = alike at in absurd (omega (arith, no))
    each idle fair at = (caller (Some job), gives, tt, (posted job, may, refl), refl)
    each closed fair at = (caller (Some job), gives, tt, (posted job, may, refl), refl)
    each (posted x) fair at = let no : 3 ≡ 2 = alike at in absurd (omega (arith, no))
    each (taken x) fair at = let no : 3 ≡ 2 = alike at in absurd (omega (arith, no))
    each (ran x y) fair at = let no : 3 ≡ 2 = alike at in absurd (omega (arith, no))

pub closes : (slots id : ℕ) (carried : List (ℕ × Option Job)) → Allows PairRule slots id (caller None, carried) 0 (λ _. 4) (λ _. closed_so (step slots 0 4 0 none) (caller None, carried) 4)
closes slots id carried = allowed (λ _. 4) slots 0 id (caller None, carried) (λ _. closed_so (step slots 0 4 0 none) (caller None, carried) 4) (λ stage at. caller_at stage None id at) each
  where
    each : (stage : Stage) → IsFair stage → get_elem? (views_of stage) 0 ≡ some (caller None)
        → Goes (λ _. 4) 0 (caller None, carried) (λ _. closed_so (step slots 0 4 0 none) (caller None, carried) 4) (standing stage)
    each opened fair at = let no : 0 ≡ 2 = alike at in absurd (omega (arith, no))
    each begun fair at = let no : 1 ≡ 2 = alike at in absurd (omega (arith, no))
    each idle fair at = (caller None, keeps, tt, (closed, tt, refl), refl)
    each closed fair at = (caller None, keeps, tt, (closed, tt, refl), refl)
    each (posted x) fair at = let no : 3 ≡ 2 = alike at in absurd (omega (arith, no))
    each (taken x) fair at = let no : 3 ≡ 2 = alike at in absurd (omega (arith, no))
    each (ran x y) fair at = let no : 3 ≡ 2 = alike at in absurd (omega (arith, no))

pub takes_back : (slots id : ℕ) (out : Job) → Allows PairRule slots id (caller (Some out), []) 0 (λ n. either (n == 1) 0 n) (taken_back_so (step slots 0 1 0 none) (caller (Some out), []))
takes_back slots id out = allowed (λ n. either (n == 1) 0 n) slots 0 id (caller (Some out), []) (taken_back_so (step slots 0 1 0 none) (caller (Some out), [])) (λ stage at. caller_at stage (Some out) id at) each
  where
    each : (stage : Stage) → IsFair stage → get_elem? (views_of stage) 0 ≡ some (caller (Some out))
        → Goes (λ n. either (n == 1) 0 n) 0 (caller (Some out), []) (taken_back_so (step slots 0 1 0 none) (caller (Some out), [])) (standing stage)
    each opened fair at = let no : 0 ≡ 3 = alike at in absurd (omega (arith, no))
    each begun fair at = let no : 1 ≡ 3 = alike at in absurd (omega (arith, no))
    each idle fair at = let no : 2 ≡ 3 = alike at in absurd (omega (arith, no))
    each closed fair at = let no : 2 ≡ 3 = alike at in absurd (omega (arith, no))
    each (posted x) fair at = (caller None, takes 0 (Some x), refl, (idle, tt, refl), (λ _. (x, sym (some-injective _ _ at), fair, refl), λ gap. absurd (gap refl)))
    each (taken x) fair at =
        (caller (Some x), keeps, tt, (taken x, fair, refl), (λ one. absurd (omega (arith, one)), λ _. ap (λ (v : View). (v, [])) (some-injective _ _ at)))
    each (ran x y) fair at =
        (caller (Some x), keeps, tt, (ran x y, fair, refl), (λ one. absurd (omega (arith, one)), λ _. ap (λ (v : View). (v, [])) (some-injective _ _ at)))

pub collects : (slots id : ℕ) (out : Job) → Allows PairRule slots id (caller (Some out), []) 0 (λ n. either (n == 3) 0 n) (collected_so (step slots 0 3 0 none) (caller (Some out), []))
collects slots id out = allowed (λ n. either (n == 3) 0 n) slots 0 id (caller (Some out), []) (collected_so (step slots 0 3 0 none) (caller (Some out), [])) (λ stage at. caller_at stage (Some out) id at) each
  where
    each : (stage : Stage) → IsFair stage → get_elem? (views_of stage) 0 ≡ some (caller (Some out))
        → Goes (λ n. either (n == 3) 0 n) 0 (caller (Some out), []) (collected_so (step slots 0 3 0 none) (caller (Some out), [])) (standing stage)
    each opened fair at = let no : 0 ≡ 3 = alike at in absurd (omega (arith, no))
    each begun fair at = let no : 1 ≡ 3 = alike at in absurd (omega (arith, no))
    each idle fair at = let no : 2 ≡ 3 = alike at in absurd (omega (arith, no))
    each closed fair at = let no : 2 ≡ 3 = alike at in absurd (omega (arith, no))
    each (posted x) fair at =
        (caller (Some x), keeps, tt, (posted x, fair, refl), (λ three. absurd (omega (arith, three)), λ _. ap (λ (v : View). (v, [])) (some-injective _ _ at)))
    each (taken x) fair at =
        (caller (Some x), keeps, tt, (taken x, fair, refl), (λ three. absurd (omega (arith, three)), λ _. ap (λ (v : View). (v, [])) (some-injective _ _ at)))
    each (ran x y) fair at = (caller None, takes 0 (Some y), refl, (idle, tt, refl), (λ _. (x, y, sym (some-injective _ _ at), fair, refl), λ gap. absurd (gap refl)))

pub takes_job : (slots id : ℕ) → Allows PairRule slots id (worker None, []) 0 (λ n. either (n == 1) 2 n) (taken_so (step slots 0 1 2 none) (worker None, []))
takes_job slots id = allowed (λ n. either (n == 1) 2 n) slots 1 id (worker None, []) (taken_so (step slots 0 1 2 none) (worker None, [])) (λ stage at. worker_at stage None id at) each
  where
    each : (stage : Stage) → IsFair stage → get_elem? (views_of stage) 1 ≡ some (worker None)
        → Goes (λ n. either (n == 1) 2 n) 1 (worker None, []) (taken_so (step slots 0 1 2 none) (worker None, [])) (standing stage)
    each opened fair at = absurd (some-ne-none (worker None) (sym at))
    each begun fair at = absurd (some-ne-none (worker None) (sym at))
    each idle fair at = (worker None, keeps, tt, (idle, tt, refl), (λ one. absurd (omega (arith, one)), λ _. refl))
    each closed fair at = (worker None, keeps, tt, (closed, tt, refl), (λ one. absurd (omega (arith, one)), λ _. refl))
    each (posted x) fair at = (worker (Some x), takes 0 (Some x), refl, (taken x, fair, refl), (λ _. (x, fair, refl), λ gap. absurd (gap refl)))
    each (taken x) fair at = let no : 5 ≡ 4 = alike at in absurd (omega (arith, no))
    each (ran x y) fair at = (worker None, keeps, tt, (ran x y, fair, refl), (λ one. absurd (omega (arith, one)), λ _. refl))

pub answers : (slots id : ℕ) (first job : Job) → IsRunOf first job → Allows PairRule slots id (worker (Some first), (0, Some job) ∷ []) 0 (λ _. 3) (λ _. answered_so (step slots 0 3 0 none) (worker (Some first), (0, Some job) ∷ []) 3)
answers slots id first job run = allowed (λ _. 3) slots 1 id (worker (Some first), (0, Some job) ∷ []) (λ _. answered_so (step slots 0 3 0 none) (worker (Some first), (0, Some job) ∷ []) 3) (λ stage at. worker_at stage (Some first) id at) each
  where
    same : (x : Job) → some (worker (Some x)) ≡ some (worker (Some first)) → x ≡ first
    same x is = ap of_worker (some-injective _ _ is)
      where
        of_worker : View → Job
        of_worker (worker (Some y)) = y
        of_worker _ = first

    each : (stage : Stage) → IsFair stage → get_elem? (views_of stage) 1 ≡ some (worker (Some first))
        → Goes (λ _. 3) 1 (worker (Some first), (0, Some job) ∷ []) (λ _. answered_so (step slots 0 3 0 none) (worker (Some first), (0, Some job) ∷ []) 3) (standing stage)
    each opened fair at = absurd (some-ne-none (worker (Some first)) (sym at))
    each begun fair at = absurd (some-ne-none (worker (Some first)) (sym at))
    each idle fair at = let no : 4 ≡ 5 = alike at in absurd (omega (arith, no))
    each closed fair at = let no : 4 ≡ 5 = alike at in absurd (omega (arith, no))
    each (posted x) fair at = let no : 4 ≡ 5 = alike at in absurd (omega (arith, no))
    each (taken x) fair at = (worker None, gives, tt, (ran x job, subst (λ (y : Job). IsRunOf y job) (sym (same x at)) run, refl), refl)
    each (ran x y) fair at = let no : 4 ≡ 5 = alike at in absurd (omega (arith, no))

abbrev split_at : ℕ → State (Option Job) View → State (Option Job) View
split_at id s = record { words = s.words; homes = s.homes; views = slice_set s.views id (caller None) ++ worker None ∷ [] }

pub hires : (id : ℕ) → Splits PairRule id alone (caller None) (worker None)
hires id s rule at = subst (λ (t : State (Option Job) View). get_elem? t.views id ≡ some alone → PairRule (split_at id t)) (sym rule.2) (here rule.0 id) at
  where
    not_two : (c w : Option Job) (id : ℕ) → get_elem? (caller c ∷ worker w ∷ []) id ≡ some alone → ⊥
    not_two None w zero at = let no : 2 ≡ 1 = alike at in omega (arith, no)
    not_two (Some x) w zero at = let no : 3 ≡ 1 = alike at in omega (arith, no)
    not_two c None (suc zero) at = let no : 4 ≡ 1 = alike at in omega (arith, no)
    not_two c (Some x) (suc zero) at = let no : 5 ≡ 1 = alike at in omega (arith, no)
    not_two c w (suc (suc id)) at = some-ne-none alone (sym at)

    here : (stage : Stage) (id : ℕ) → get_elem? (views_of stage) id ≡ some alone → PairRule (split_at id (standing stage))
    here opened zero at = let no : 0 ≡ 1 = alike at in absurd (omega (arith, no))
    here opened (suc id) at = absurd (some-ne-none alone (sym at))
    here begun zero at = (idle, tt, refl)
    here begun (suc id) at = absurd (some-ne-none alone (sym at))
    here idle id at = absurd (not_two None None id at)
    here closed id at = absurd (not_two None None id at)
    here (posted x) id at = absurd (not_two (Some x) None id at)
    here (taken x) id at = absurd (not_two (Some x) (Some x) id at)
    here (ran x y) id at = absurd (not_two (Some x) None id at)
