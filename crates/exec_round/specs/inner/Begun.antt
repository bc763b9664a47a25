-- A round that begins.
use Rattle.std.specs.Prelude.{◌≡◌, ℕ, ◌<◌, List, length, Option, None, Some}
use Rattle.exec_rules.specs.Calls.{AreHome, HaveVariables, WorldData, after_round, after_snapshot, ready_in}
use Rattle.exec_rules.specs.declared.ready.Ready.{Ready}
use Rattle.exec_world.specs.declared.weighing.Heavy.{Heavy}

-- these are the callbacks of a round, one at least, and the world is that after the snapshot
pub record IsListed (round : ℕ) (list : List Ready) (before after : WorldData) : Type 0 where
  pub ready : list ≡ ready_in round before
  pub taken : after ≡ after_snapshot round before
  pub home : AreHome list after.state
  pub groups : HaveVariables list after.state
  pub some : 0 < length list

-- the world after a round that has run; another round has these callbacks
abbrev pub HasBegun : ℕ → Option Heavy → WorldData → WorldData → Type 0
HasBegun round None before after = after ≡ after_round round before
HasBegun round (Some heavy) before after = IsListed round heavy.list.items before after
