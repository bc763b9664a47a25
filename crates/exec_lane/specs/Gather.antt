-- What lanes bring home.
use Rattle.std.specs.Prelude.{List, [], ◌∷◌, map, IsPermutation, IsSortedByKey}
use Rattle.std.specs.Ordering.{nat_cmp}
use Rattle.exec_lane.specs.Lane.{Lane, LaneCallback, LeftByCallback, state_of}
use Rattle.exec_lane.specs.declared.outcome.Outcome.{Outcome}
use Rattle.exec_script.specs.declared.effects.Effects.{Effects}
use Rattle.exec_rules.specs.declared.ready.Ready.{Ready}

-- a ready callback that ran, with what it did
pub record Ran : Type 0 where
  pub ready : Ready
  pub effects : Effects

-- the callbacks that ran, each with what it did
abbrev pub ran_each : List LaneCallback → List LeftByCallback → List Ran
ran_each (entry ∷ entries) (did ∷ done) = record { ready = entry.ready; effects = did.effects } ∷ ran_each entries done
ran_each _ _ = []

-- the callbacks of a lane that ran
abbrev pub ran_in : Lane → List Ran
ran_in lane = ran_each lane.entries (state_of lane).left

-- what a callback that ran did, and what those of a lane that ran did, in their order
abbrev pub outcome_of : Ran → Outcome
outcome_of ran = record { position = ran.ready.position; effects = ran.effects }

abbrev pub outcomes_in : Lane → List Outcome
outcomes_in lane = map outcome_of (ran_in lane)

-- callbacks each of which did this
abbrev pub all_ran : List Ready → List Effects → List Ran
all_ran (one ∷ list) (effects ∷ others) = record { ready = one; effects = effects } ∷ all_ran list others
all_ran _ _ = []

-- these are the callbacks that ran, in ready order
pub record AreGathered (ran all : List Ran) : Type 0 where
  pub same : IsPermutation ran all
  pub ordered : IsSortedByKey (λ one. one.ready.position) nat_cmp all
