use Rattle.std.proofs.Common.{◌≡◌, drop}
use Rattle.exec_rules.specs.inner.Listing.{listed_behind}
use Rattle.exec_world.specs.inner.Snapshots.{fronts_at}
use Rattle.exec_world.proofs.fronts.Fronts.list_all.Given as goal

-- what is left to list, from here, makes the list that all places make from the start
abbrev pub invariant-loop-place : goal.invariant-loop-place
invariant-loop-place l =
    listed_behind l.list (fronts_at l.fn.self.moment l.fn.self.servers.now l.fn.queues (drop l.place-index l.places)) ≡ listed_behind l.fn.list (fronts_at l.fn.self.moment l.fn.self.servers.now l.fn.queues l.places)
