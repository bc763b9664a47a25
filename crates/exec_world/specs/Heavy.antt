-- A round that has run where its work is light.
use Rattle.std.specs.Prelude.{◌≡◌, ℕ, Option, None, Some}
use Rattle.exec_rules.specs.Calls.{AreHome, HaveVariables, WorldData, after_round, after_snapshot, ready_in}
use Rattle.exec_world.specs.declared.weighing.Heavy.{Heavy}

-- the world after a round whose work is light; of another round these are the callbacks, and the world is that after the snapshot
abbrev pub IsBegun : ℕ → Option Heavy → WorldData → WorldData → Type 0
IsBegun round None before after = after ≡ after_round round before
IsBegun round (Some heavy) before after =
    (heavy.list.items ≡ ready_in round before) × (after ≡ after_snapshot round before)
    × AreHome heavy.list.items after.state × HaveVariables heavy.list.items after.state
