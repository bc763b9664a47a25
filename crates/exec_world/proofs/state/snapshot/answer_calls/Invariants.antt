use Rattle.std.proofs.Common.{◌≡◌, drop}
use Rattle.exec_world.specs.inner.Snapshots.{replies_at}
use Rattle.exec_world.proofs.state.snapshot.answer_calls.Given as goal

-- what is left to answer, from here, makes the clients that all places make from the start
abbrev pub invariant-loop-place : goal.invariant-loop-place
invariant-loop-place l = replies_at l.queues l.clients (drop l.place-index l.places) ≡ replies_at l.queues l.fn.clients l.places
