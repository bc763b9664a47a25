use Rattle.std.proofs.Common.{◌≡◌, ◌≤◌, length}
use Rattle.exec_world.proofs.Wired.{followed}
use Rattle.exec_world.specs.inner.Parts.{new_entities}
use Rattle.exec_world.proofs.first_world.Entities.of.Given as goal

-- no more action clients than numbers, and the entities so far are followed by those of the numbers that are left
abbrev pub invariant-loop-number : goal.invariant-loop-number
invariant-loop-number l = record {
  few : length l.entities.action_clients ≤ l.number;
  listed : followed l.graph l.number l.entities ≡ new_entities l.graph;
}
