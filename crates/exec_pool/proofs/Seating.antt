-- What a seat has between two calls and between two steps.
use Rattle.std.proofs.Common.{◌≡◌, [], ◌∷◌, refl, sym, ap, subst, ◌∙◌}
use Rattle.std.specs.Prelude.{Option, None, Some, IfSome, unwrap_or}
use Rattle.atomic_table.specs.Seated.{TableId}
use Rattle.atomic_table.specs.Table.{rest}
use Rattle.exec_pool.specs.Job.{IsRunOf, MayRun}
use Rattle.exec_pool.specs.Pair.{CameBack, IsCaller, IsWorker, View, caller, caller_slots, job_of, worker, worker_slots}
use Rattle.exec_pool.specs.Plays.{Mine, in_hand}
use Rattle.exec_pool.specs.declared.job.Job.{Job}

pub caller_has : (table of : TableId) (me : Mine) (out : Option Job) → IsCaller table of me → job_of me.0 ≡ out → me ≡ (caller out, caller_slots out)
caller_has table of me out is knows = is.knows ∙ ap (λ (job : Option Job). (caller job, caller_slots job)) knows

pub worker_has : (table of : TableId) (me : Mine) (out : Option Job) → IsWorker table of me → job_of me.0 ≡ out → me ≡ (worker out, worker_slots out)
worker_has table of me out is knows = is.knows ∙ ap (λ (job : Option Job). (worker job, worker_slots job)) knows

-- another job was put into the slot that a seat has
pub filled : (before after : Mine) (v : View) (x y : Option Job) → before ≡ (v, (0, x) ∷ []) → after ≡ (before.0, (0, y) ∷ rest before.1) → after ≡ (v, (0, y) ∷ [])
filled before after v x y was is = is ∙ ap (λ (me : Mine). (me.0, (0, y) ∷ rest me.1)) was

-- the slot that a seat has
pub in_slot : (me : Mine) (v : View) (x : Option Job) → me ≡ (v, (0, x) ∷ []) → (y : Option Job) × (me.1 ≡ (0, y) ∷ rest me.1)
in_slot me v x is = (x, ap (λ (m : Mine). m.1) is ∙ ap (λ (m : Mine). (0, x) ∷ rest m.1) (sym is))

-- the job that is then taken out of it is the one that ran
pub came_back : (view : View) (me : Mine) (first job : Job) (taken out : Option Job) → job_of view ≡ out → view ≡ caller (Some first) → IsRunOf first job → me ≡ (caller None, (0, Some job) ∷ [])
    → me.1 ≡ (0, taken) ∷ rest me.1 → IfSome taken (CameBack out)
came_back view me first job taken out knows posted run is has =
    let same : taken ≡ Some job = ap in_hand (sym has ∙ ap (λ (m : Mine). m.1) is) in
    subst (λ (some : Option Job). IfSome some (CameBack out)) (sym same) (first, sym knows ∙ ap job_of posted, run)

-- a job that no worker has begun is as it was
pub runs_as_it_was : (job : Job) → MayRun job → IsRunOf job job
runs_as_it_was job may = record {
  may = may;
  stream = refl;
  share = record { pass = record { opening = refl; passes = refl; start = refl; stop = refl; holds = may.at.holds }; parts = refl };
}

-- a job that is taken out of the slot may run
pub found_may : (me : Mine) (view : View) (first job : Job) (taken : Option Job) → MayRun first → me ≡ (view, (0, Some first) ∷ []) → me.1 ≡ (0, taken) ∷ rest me.1 → taken ≡ Some job → MayRun job
found_may me view first job taken may is has found =
    subst (λ (some : Option Job). MayRun (unwrap_or some first)) (sym (ap in_hand (sym has ∙ ap (λ (m : Mine). m.1) is)) ∙ found) may
