use Rattle.std.proofs.Common.{◌≡◌, take}
use Rattle.exec_rules.specs.Give.{give_all}
use Rattle.exec_world.proofs.state.WorldBody.give_all.Given as goal

-- the effects so far are given
abbrev pub invariant-loop-effect : goal.invariant-loop-effect
invariant-loop-effect g l = l.self ≡ give_all l.one (take l.effect-index l.effects) l.initial.self
