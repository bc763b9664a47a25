-- What a caller and its worker know, and how it hangs together with the word and the slot between them.
use Rattle.std.specs.Prelude.{◌≡◌, ⊤, ℕ, List, [], ◌∷◌, Option, None, Some}
use mathlib.Core.Option.{some, none}
use mathlib.Core.Option as place
use Rattle.atomic_table.specs.Table.{Me, State}
use Rattle.atomic_table.specs.Seated.{TableId}
use Rattle.exec_pool.specs.Job.{IsRunOf, MayRun}
use Rattle.exec_pool.specs.declared.handoff.Found.{Found}
use Rattle.exec_pool.specs.declared.handoff.Found.TheVariants as found
use Rattle.exec_pool.specs.declared.job.Job.{Job}
use Rattle.exec_pool.specs.declared.rule.TheConstants.{CLOSED, IDLE, OPENED, POSTED, RAN, TAKEN}

-- what a seat knows: that there is no other, with the slot at home or with itself; as the caller, which job it has posted and not
-- got back; as the worker, which job it has taken and not answered
pub data View : Type 0 where
  opener : View
  alone : View
  caller : Option Job → View
  worker : Option Job → View

-- where a job is. One that ran stands beside what it was when it was posted
pub data Stage : Type 0 where
  opened : Stage
  begun : Stage
  idle : Stage
  closed : Stage
  posted : Job → Stage
  taken : Job → Stage
  ran : Job → Job → Stage

abbrev pub word_of : Stage → ℕ
word_of opened = OPENED
word_of begun = IDLE
word_of idle = IDLE
word_of closed = CLOSED
word_of (posted job) = POSTED
word_of (taken job) = TAKEN
word_of (ran first job) = RAN

-- what is in the slot: none while a seat has it
abbrev pub home_of : Stage → place.Option (Option Job)
home_of opened = some None
home_of begun = none
home_of idle = none
home_of closed = none
home_of (posted job) = some (Some job)
home_of (taken job) = none
home_of (ran first job) = some (Some job)

abbrev pub views_of : Stage → List View
views_of opened = opener ∷ []
views_of begun = alone ∷ []
views_of idle = caller None ∷ worker None ∷ []
views_of closed = caller None ∷ worker None ∷ []
views_of (posted job) = caller (Some job) ∷ worker None ∷ []
views_of (taken job) = caller (Some job) ∷ worker (Some job) ∷ []
views_of (ran first job) = caller (Some first) ∷ worker None ∷ []

abbrev pub standing : Stage → State (Option Job) View
standing stage = record { words = word_of stage ∷ []; homes = home_of stage ∷ []; views = views_of stage }

-- a job may run, and one that is said to have run has run
abbrev pub IsFair : Stage → Type 0
IsFair (posted job) = MayRun job
IsFair (taken job) = MayRun job
IsFair (ran first job) = IsRunOf first job
IsFair _ = ⊤

-- the rule
abbrev pub PairRule : State (Option Job) View → Type 0
PairRule s = (stage : Stage) × IsFair stage × (s ≡ standing stage)

-- the job that a seat has out
abbrev pub job_of : View → Option Job
job_of (caller job) = job
job_of (worker job) = job
job_of _ = None

-- what is in the slot that a caller has, if it has it
abbrev pub caller_slots : Option Job → List (ℕ × Option Job)
caller_slots None = (0, None) ∷ []
caller_slots (Some job) = []

-- a seat of a table is the caller's. It has the slot, which is empty, unless a job is out
pub record IsCaller (table of : TableId) (me : Me (Option Job) View) : Type 0 where
  pub same : of ≡ table
  pub words : table.words ≡ 1
  pub slots : table.slots ≡ 1
  pub knows : me ≡ (caller (job_of me.0), caller_slots (job_of me.0))

-- what is in the slot that a worker has, if it has it
abbrev pub worker_slots : Option Job → List (ℕ × Option Job)
worker_slots None = []
worker_slots (Some job) = (0, None) ∷ []

pub record IsWorker (table of : TableId) (me : Me (Option Job) View) : Type 0 where
  pub same : of ≡ table
  pub words : table.words ≡ 1
  pub slots : table.slots ≡ 1
  pub knows : me ≡ (worker (job_of me.0), worker_slots (job_of me.0))

-- a job is the one that was out, and it ran
abbrev pub CameBack : Option Job → Job → Type 0
CameBack out job = (first : Job) × (out ≡ Some first) × IsRunOf first job

-- a job is out
abbrev pub IsOut : Option Job → Type 0
IsOut out = (first : Job) × (out ≡ Some first)

-- the job that a worker has after it found this
abbrev pub found_out : Found → Option Job
found_out (found.Job job) = Some job
found_out found.Nothing = None
found_out found.Closed = None
