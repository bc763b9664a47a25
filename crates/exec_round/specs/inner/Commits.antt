-- What is committed one after another.
use Rattle.std.specs.Prelude.{◌≡◌, ⊤, ℕ, suc, List, [], ◌∷◌}
use Rattle.std.specs.List.{fold}
use Rattle.exec_lane.specs.Gather.{Ran}
use Rattle.exec_rules.specs.Calls.{WorldData, after_commit}
use Rattle.exec_rules.specs.Run.{commit}
use Rattle.exec_rules.specs.World.{WorldState}

-- a world after callbacks that ran are committed
abbrev pub after_commits : List Ran → WorldData → WorldData
after_commits all world = fold (λ before one. after_commit one.ready one.effects before) world all

-- and its state
abbrev pub committed : List Ran → WorldState → WorldState
committed all state = fold (λ before one. commit one.ready one.effects before) state all

-- numbers rise by one from here
abbrev pub RiseFrom : ℕ → List ℕ → Type 0
RiseFrom first [] = ⊤
RiseFrom first (n ∷ ns) = (n ≡ first) × RiseFrom (suc first) ns
