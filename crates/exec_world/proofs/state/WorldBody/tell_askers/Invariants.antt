use Rattle.std.proofs.Common.{◌≡◌, ◌-◌, length, drop}
use Rattle.std.specs.List.{fold}
use Rattle.exec_goal.specs.Calls.{askers_in}
use Rattle.exec_rules.specs.Close.{tell}
use Rattle.exec_rules.specs.World.{goals_at}
use Rattle.exec_world.proofs.state.WorldBody.tell_askers.Given as goal

-- telling those that are left, from here, is telling all, from the start
abbrev pub invariant-loop-client : goal.invariant-loop-client
invariant-loop-client g l = record {
  servers : l.self.servers ≡ l.initial.self.servers;
  left : fold (λ before client. tell l.server l.id l.status l.value client before) l.self (drop l.index (askers_in l.id (goals_at l.server l.initial.self)))
      ≡ fold (λ before client. tell l.server l.id l.status l.value client before) l.initial.self (askers_in l.id (goals_at l.server l.initial.self));
}

abbrev pub decreases-loop-client : goal.decreases-loop-client
decreases-loop-client g l = length (askers_in l.id (goals_at l.server l.initial.self)) - l.index
