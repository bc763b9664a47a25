use Rattle.std.proofs.Common.{◌≡◌, take}
use Rattle.std.specs.List.{fold}
use Rattle.exec_rules.specs.Ready.{arrival_for}
use Rattle.exec_world.specs.inner.Arrivals.{with_arrived}
use Rattle.exec_world.proofs.state.WorldBody.note_arrivals.Given as goal

-- the callbacks so far are noted
abbrev pub invariant-loop-one : goal.invariant-loop-one
invariant-loop-one g l =
    l.arrivals.items ≡ fold (λ so_far one. with_arrived so_far (arrival_for one.ready.entity one.ready.cause l.fn.self)) l.fn.arrivals.items (take l.one-index l.list)
