-- The shares of a round that jobs have, one after another.
use Rattle.std.specs.Prelude.{◌≡◌, ⊤, ℕ, ◌+◌, List, [], ◌∷◌}
use Rattle.std.specs.Arc.{arc_value}
use Rattle.std.specs.List.{fold}
use Rattle.exec_lane.specs.Lane.{Lane}
use Rattle.exec_pool.specs.declared.job.Job.{Job}
use Rattle.exec_stream.specs.declared.streaming.StreamedRound.{StreamedRound}
use Rattle.exec_stream.specs.declared.streaming.Runner.{Runner}

-- the round, its lanes as they were opened, how many passes it has, which of their numbers are in the share, from the first up to,
-- not including, the last, and how many parts of the queue
pub record Share : Type 0 where
  pub stream : StreamedRound
  pub opening : List Lane
  pub passes : ℕ
  pub start : ℕ
  pub stop : ℕ
  pub parts : ℕ

-- the share that a runner has
abbrev pub share_with : StreamedRound → Runner → Share
share_with stream runner = record {
  stream = stream;
  opening = runner.pass.view.opening;
  passes = runner.pass.view.passes;
  start = runner.pass.view.start;
  stop = runner.pass.view.stop;
  parts = runner.sender.hand.parts;
}

abbrev pub share_of : Job → Share
share_of job = share_with (arc_value job.stream) job.runner

-- a share is of the same round as another, and begins at its end
pub record IsNext (share next : Share) : Type 0 where
  pub stream : next.stream ≡ share.stream
  pub opening : next.opening ≡ share.opening
  pub passes : next.passes ≡ share.passes
  pub start : next.start ≡ share.stop

-- a share and the next one as one
abbrev pub joined : Share → Share → Share
joined share next = record share { stop = next.stop; parts = share.parts + next.parts }

-- a share and those of jobs as one
abbrev pub all_joined : Share → List Job → Share
all_joined share jobs = fold (λ before job. joined before (share_of job)) share jobs

-- the shares of jobs follow a share, each on the one before it
abbrev pub Follow : Share → List Job → Type 0
Follow share [] = ⊤
Follow share (job ∷ jobs) = IsNext share (share_of job) × Follow (joined share (share_of job)) jobs
