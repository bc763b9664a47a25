-- What each atomic step between a caller and its worker tells the seat that makes it.
use Rattle.std.specs.Prelude.{◌≡◌, ◌≢◌, ℕ, List, [], ◌∷◌, Option, None, Some}
use Rattle.atomic_table.specs.Table.{Me, Step, rest}
use Rattle.exec_pool.specs.Job.{IsRunOf, MayRun}
use Rattle.exec_pool.specs.Pair.{View, alone, caller, worker}
use Rattle.exec_pool.specs.declared.job.Job.{Job}
use Rattle.exec_pool.specs.declared.rule.TheConstants.{POSTED, RAN}

abbrev pub Mine : Type 0
Mine = Me (Option Job) View

-- what is in the slot that a seat has
abbrev pub in_hand : List (ℕ × Option Job) → Option Job
in_hand [] = None
in_hand ((slot, job) ∷ others) = job

abbrev pub begun_so : Step (Option Job) → Mine → ℕ → Mine → Type 0
begun_so step before word after = after ≡ (alone, (0, None) ∷ [])

abbrev pub posted_so : Step (Option Job) → Mine → ℕ → Mine → Type 0
posted_so step before word after = after ≡ (caller (in_hand before.1), rest before.1)

-- the worker has the job that the caller posted, if there was one, and it may run
abbrev pub taken_so : Step (Option Job) → Mine → ℕ → Mine → Type 0
taken_so step before word after =
    (word ≡ POSTED → (job : Job) × MayRun job × (after ≡ (worker (Some job), (0, Some job) ∷ []))) × (word ≢ POSTED → after ≡ before)

abbrev pub answered_so : Step (Option Job) → Mine → ℕ → Mine → Type 0
answered_so step before word after = after ≡ (worker None, rest before.1)

-- the caller has its job back, and it ran, if it ran
abbrev pub collected_so : Step (Option Job) → Mine → ℕ → Mine → Type 0
collected_so step before word after =
    (word ≡ RAN → (first : Job) × (job : Job) × (before.0 ≡ caller (Some first)) × IsRunOf first job × (after ≡ (caller None, (0, Some job) ∷ [])))
    × (word ≢ RAN → after ≡ before)

-- the caller has its job back as it was, if no worker took it, and it may run still
abbrev pub taken_back_so : Step (Option Job) → Mine → ℕ → Mine → Type 0
taken_back_so step before word after =
    (word ≡ POSTED → (job : Job) × (before.0 ≡ caller (Some job)) × MayRun job × (after ≡ (caller None, (0, Some job) ∷ [])))
    × (word ≢ POSTED → after ≡ before)

abbrev pub closed_so : Step (Option Job) → Mine → ℕ → Mine → Type 0
closed_so step before word after = after ≡ before
