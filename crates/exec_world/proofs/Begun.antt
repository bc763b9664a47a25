-- A world in which a round begins, and after its snapshot, or after all of it, as it is kept.
use Rattle.std.proofs.Common.{◌≡◌, ℕ, suc, ◌+◌, ◌-◌, ◌==◌, Bool, true, false, cond, List, length, arith, ◌∙◌}
use Rattle.exec_rules.specs.Calls.{WorldData, after_round, after_snapshot, moment_of, ready_in, state_at}
use Rattle.exec_rules.specs.Ready.{take_inputs}
use Rattle.exec_rules.specs.Transcript.{snapshot_and_run}
use Rattle.exec_rules.specs.World.{WorldState}
use Rattle.exec_rules.specs.declared.ready.Ready.{Ready}
use Rattle.exec_world.specs.inner.Rounds.{rounds_in}

rounds_done : (number rounds left : ℕ) → number ≡ rounds + 1 → rounds_in number left ≡ cond (left == 0) (suc rounds) rounds
rounds_done number rounds left next = by (left == 0)
  where
    by : (b : Bool) → cond b number (number - 1) ≡ cond b (suc rounds) rounds
    by true = omega (arith, next)
    by false = omega (arith, next)

pub snapshot_kept : (world : WorldData) (number : ℕ) (list : List Ready) (state : WorldState) → number ≡ world.rounds + 1 → list ≡ ready_in number world → state ≡ take_inputs (moment_of number world.plan) (state_at number world)
    → record { plan = world.plan; state = state; rounds = rounds_in number (length list); uncommitted = length list; failed = world.failed } ≡ after_snapshot number world
snapshot_kept world number list state next listed taken =
    (λ i. record { plan = world.plan; state = taken i; rounds = rounds_done number world.rounds (length list) next i; uncommitted = length list; failed = world.failed })
    ∙ (λ i. record { plan = world.plan; state = take_inputs (moment_of number world.plan) (state_at number world); rounds = cond (length (listed i) == 0) (suc world.rounds) world.rounds; uncommitted = length (listed i); failed = world.failed })

pub round_kept : (world : WorldData) (number : ℕ) (state : WorldState) → number ≡ world.rounds + 1 → state ≡ snapshot_and_run (moment_of number world.plan) (state_at number world)
    → record { plan = world.plan; state = state; rounds = rounds_in number 0; uncommitted = 0; failed = world.failed } ≡ after_round number world
round_kept world number state next ran =
    (λ i. record { plan = world.plan; state = ran i; rounds = rounds_done number world.rounds 0 next i; uncommitted = 0; failed = world.failed })
