-- Jobs whose shares follow one another.
use Rattle.std.proofs.Common.{◌≡◌, ℕ, ◌+◌, ◌<◌, List, [], ◌∷◌, ◌++◌, length, slice_index_or, refl, sym, ap, subst, ◌∙◌, arith, zero, suc}
use Rattle.std.specs.Prelude.{Option, None, Some, unwrap_or}
use Rattle.std.specs.Arc.{arc_value}
use Rattle.exec_pool.specs.Job.{IsRunOf, MayRun}
use Rattle.exec_pool.specs.Pair.{CameBack}
use Rattle.exec_pool.specs.declared.job.Job.{Job}
use Rattle.exec_pool.specs.inner.Shares.{Follow, IsNext, Share, all_joined, joined, share_of, share_with}
use Rattle.exec_stream.specs.Streams.{KeepsShare}
use Rattle.exec_stream.specs.declared.streaming.Runner.{Runner}
use Rattle.exec_stream.specs.declared.streaming.StreamedRound.{StreamedRound}

-- ---- one job more

pub joined_more : (share : Share) (jobs : List Job) (job : Job) → all_joined share (jobs ++ job ∷ []) ≡ joined (all_joined share jobs) (share_of job)
joined_more share [] job = refl
joined_more share (one ∷ jobs) job = joined_more (joined share (share_of one)) jobs job

pub follow_more : (share : Share) (jobs : List Job) (job : Job) → Follow share jobs → IsNext (all_joined share jobs) (share_of job) → Follow share (jobs ++ job ∷ [])
follow_more share [] job follow next = (next, tt)
follow_more share (one ∷ jobs) job follow next = (follow.0, follow_more (joined share (share_of one)) jobs job follow.1 next)

-- ---- one job fewer

pub follow_front : (share : Share) (jobs : List Job) (job : Job) → Follow share (jobs ++ job ∷ []) → Follow share jobs × IsNext (all_joined share jobs) (share_of job)
follow_front share [] job follow = (tt, follow.0)
follow_front share (one ∷ jobs) job follow = let others = follow_front (joined share (share_of one)) jobs job follow.1 in ((follow.0, others.0), others.1)

-- ---- shares

pub joined_twice : (a b c : Share) → joined (joined a b) c ≡ joined a (joined b c)
joined_twice a b c = let same : (a.parts + b.parts) + c.parts ≡ a.parts + (b.parts + c.parts) = omega arith in ap (λ (n : ℕ). record a { stop = c.stop; parts = n }) same

-- a job that ran has the share that it had
pub run_share : (first job : Job) → IsRunOf first job → share_of job ≡ share_of first
run_share first job run = λ i. record {
  stream = run.stream i;
  opening = run.share.pass.opening i;
  passes = run.share.pass.passes i;
  start = run.share.pass.start i;
  stop = run.share.pass.stop i;
  parts = run.share.parts i;
}

-- ---- callers

-- a job that came back is the one that was posted
pub posted_ran : (out : Option Job) (posted job : Job) → out ≡ Some posted → CameBack out job → IsRunOf posted job
posted_ran out posted job is back = subst (λ (first : Job). IsRunOf first job) (ap (λ (some : Option Job). unwrap_or some posted) (sym back.1 ∙ is)) back.2

-- callers of whom none has a job out
abbrev pub AreIdle : List (Option Job) → Type 0
AreIdle callers = (place : ℕ) → place < length callers → slice_index_or callers place None ≡ None

pub last_idle : (front : List (Option Job)) (caller : Option Job) → AreIdle (front ++ caller ∷ []) → caller ≡ None
last_idle [] caller idle = idle 0 (omega arith)
last_idle (x ∷ front) caller idle = last_idle front caller (λ place within. idle (suc place) (omega (arith, within)))

pub front_idle : (front : List (Option Job)) (caller : Option Job) → AreIdle (front ++ caller ∷ []) → AreIdle front
front_idle [] caller idle place within = absurd (omega (arith, within))
front_idle (x ∷ front) caller idle zero within = idle 0 (omega arith)
front_idle (x ∷ front) caller idle (suc place) within = front_idle front caller (λ p inside. idle (suc p) (omega (arith, inside))) place (omega (arith, within))

-- the last one went and came back
pub callers_again : (callers front now after : List (Option Job)) (caller back : Option Job) → callers ≡ front ++ caller ∷ [] → AreIdle callers → now ≡ front → back ≡ None → after ≡ now ++ back ∷ []
    → after ≡ callers
callers_again callers front now after caller back are idle same home is =
    is ∙ (λ i. same i ++ home i ∷ []) ∙ ap (λ (one : Option Job). front ++ one ∷ []) (sym (last_idle front caller (subst AreIdle are idle))) ∙ sym are

-- ---- jobs that became one

-- the first ones became one, and the last one is joined to it
pub record AreOne (share : Share) (jobs : List Job) (one : Job) : Type 0 where
  pub next : IsNext share (share_of one)
  pub same : joined share (share_of one) ≡ all_joined share jobs

pub one_is : (share : Share) (job one : Job) → Follow share (job ∷ []) → IsRunOf job one → AreOne share (job ∷ []) one
one_is share job one follow run = let same = run_share job one run in record {
  next = subst (IsNext share) (sym same) follow.0;
  same = ap (joined share) same;
}

pub last_follows : (share : Share) (jobs : List Job) (job first last : Job) → AreOne share jobs first → IsNext (all_joined share jobs) (share_of job) → IsRunOf job last → IsNext (share_of first) (share_of last)
last_follows share jobs job first last one next run =
    let so : IsNext (joined share (share_of first)) (share_of last) = subst (λ (two : Share × Share). IsNext two.0 two.1) (λ i. (sym one.same i, sym (run_share job last run) i)) next in record {
      stream = so.stream ∙ sym one.next.stream;
      opening = so.opening ∙ sym one.next.opening;
      passes = so.passes ∙ sym one.next.passes;
      start = so.start;
    }

pub one_more : (share : Share) (jobs : List Job) (job first last one : Job) → AreOne share jobs first → IsRunOf job last → share_of one ≡ joined (share_of first) (share_of last) → AreOne share (jobs ++ job ∷ []) one
one_more share jobs job first last one before run is = record {
  next = subst (IsNext share) (sym is) (record { stream = before.next.stream; opening = before.next.opening; passes = before.next.passes; start = before.next.start });
  same =
      ap (joined share) is
      ∙ sym (joined_twice share (share_of first) (share_of last))
      ∙ (λ i. joined (before.same i) (run_share job last run i))
      ∙ sym (joined_more share jobs job);
}

-- ---- a runner that is split and becomes one again

-- the empty share at the beginning of a runner's
abbrev pub before_all : StreamedRound → Runner → Share
before_all stream runner = record (share_with stream runner) { stop = runner.pass.view.start; parts = 0 }

pub begins_all : (stream : StreamedRound) (runner : Runner) → IsNext (before_all stream runner) (share_with stream runner)
begins_all stream runner = record { stream = refl; opening = refl; passes = refl; start = refl }

-- ---- a list of jobs that is run

-- a job more is listed
pub listed_more : (share : Share) (jobs after : List Job) (stream : StreamedRound) (job : Job) → after ≡ jobs ++ job ∷ [] → arc_value job.stream ≡ stream → Follow share jobs →
    IsNext (all_joined share jobs) (share_with stream job.runner) → Follow share after × (all_joined share after ≡ joined (all_joined share jobs) (share_with stream job.runner))
listed_more share jobs after stream job is of follow next =
    let of_job : share_of job ≡ share_with stream job.runner = ap (λ (s : StreamedRound). share_with s job.runner) of in (
      subst (Follow share) (sym is) (follow_more share jobs job follow (subst (IsNext (all_joined share jobs)) (sym of_job) next)),
      ap (all_joined share) is ∙ joined_more share jobs job ∙ ap (joined (all_joined share jobs)) of_job,
    )

-- the first ones follow a share where all do
pub front_follows : (share : Share) (jobs front : List Job) (job : Job) → jobs ≡ front ++ job ∷ [] → Follow share jobs → Follow share front × IsNext (all_joined share front) (share_of job)
front_follows share jobs front job is follow = follow_front share front job (subst (Follow share) is follow)

pub front_is_one : (share : Share) (front : List Job) (first : Job) → Follow share front → ((s : Share) → Follow s front → IsNext s (share_of first)) →
    ((s : Share) → Follow s front → joined s (share_of first) ≡ all_joined s front) → AreOne share front first
front_is_one share front first follow next same = record { next = next share follow; same = same share follow }

-- the last one follows what became of the others
pub last_is_next : (share : Share) (jobs front : List Job) (job first last : Job) → jobs ≡ front ++ job ∷ [] → Follow share jobs → ((s : Share) → Follow s front → IsNext s (share_of first)) →
    ((s : Share) → Follow s front → joined s (share_of first) ≡ all_joined s front) → IsRunOf job last → IsNext (share_of first) (share_of last)
last_is_next share jobs front job first last is follow next same run =
    let before = front_follows share jobs front job is follow in
    last_follows share front job first last (front_is_one share front first before.0 next same) before.1 run

-- and all became one
pub all_are_one : (share : Share) (jobs front : List Job) (job first last one : Job) → jobs ≡ front ++ job ∷ [] → Follow share jobs → ((s : Share) → Follow s front → IsNext s (share_of first)) →
    ((s : Share) → Follow s front → joined s (share_of first) ≡ all_joined s front) → IsRunOf job last → share_of one ≡ joined (share_of first) (share_of last) → AreOne share jobs one
all_are_one share jobs front job first last one is follow next same run so =
    let before = front_follows share jobs front job is follow in
    subst (λ (all : List Job). AreOne share all one) (sym is) (one_more share front job first last one (front_is_one share front first before.0 next same) run so)

-- ---- a runner that is split, and becomes one again

pub begins_list : (stream : StreamedRound) (runner : Runner) (none : List Job) → none ≡ [] →
    Follow (before_all stream runner) none × IsNext (all_joined (before_all stream runner) none) (share_with stream runner)
begins_list stream runner none is =
    subst (λ (jobs : List Job). Follow (before_all stream runner) jobs × IsNext (all_joined (before_all stream runner) jobs) (share_with stream runner)) (sym is) (tt, begins_all stream runner)

pub whole_again : (stream : StreamedRound) (runner : Runner) (none jobs : List Job) (one : Job) → none ≡ [] → MayRun one → AreOne (before_all stream runner) jobs one →
    all_joined (before_all stream runner) jobs ≡ joined (all_joined (before_all stream runner) none) (share_with stream runner) → KeepsShare runner one.runner
whole_again stream runner none jobs one is may are listed =
    let same : joined (before_all stream runner) (share_of one) ≡ joined (before_all stream runner) (share_with stream runner) =
    are.same ∙ listed ∙ ap (λ (some : List Job). joined (all_joined (before_all stream runner) some) (share_with stream runner)) is in
    let parts : 0 + one.runner.sender.hand.parts ≡ 0 + runner.sender.hand.parts = ap (λ (share : Share). share.parts) same in record {
      pass = record {
        opening = are.next.opening;
        passes = are.next.passes;
        start = are.next.start;
        stop = ap (λ (share : Share). share.stop) same;
        holds = may.at.holds;
      };
      parts = omega (arith, parts);
    }
