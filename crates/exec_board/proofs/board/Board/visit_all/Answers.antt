use Rattle.std.proofs.Common.{◌∙◌, arith}
use Rattle.exec_board.proofs.Sweeping.{on_err_any, leaves_some, sized_before, swept_on, swept_worked, turning_next}
use Rattle.exec_board.proofs.board.Board.visit_all.Goals as goal

pub returns-in_err-claimed-clause-swept : goal.returns-in_err-claimed-clause-swept
returns-in_err-claimed-clause-swept g c =
    let so = c.loop-lane.invariant.0 in
    on_err_any c.from_residual.result
    (swept_on c.args.quantum c.args.pass.now.view c.loop-lane.pass.view c.visit.new.pass.view so.swept
    (swept_worked c.loop-lane.lane c.args.quantum c.loop-lane.pass.view c.visit.new.pass.view so.swept.holds c.in_err-claimed.ensures.visited.work))

pub returns-in_err-claimed-clause-memory : goal.returns-in_err-claimed-clause-memory
returns-in_err-claimed-clause-memory g c =
    let under = c.loop-lane-test.true in
    let lanes = c.lanes.ensures.value in
    on_err_any c.from_residual.result
    (leaves_some c.loop-lane.lane c.args.quantum c.args.self.now c.loop-lane.pass.view c.visit.new.pass.view (omega (arith, under, lanes)) c.in_err-claimed.ensures.sized c.in_err-claimed.ensures.visited)

pub loop-lane-preserved : goal.loop-lane-preserved
loop-lane-preserved g c =
    let so = c.loop-lane.invariant in
    let under = c.loop-lane-test.true in
    let lanes = c.lanes.ensures.value in (
      turning_next c.args.self.now c.loop-lane.lane c.args.quantum c.loop-lane.claimed c.in_ok-claimed.field-0 c.args.pass.now.view c.loop-lane.pass.view c.visit.new.pass.view (omega (arith, under, lanes)) c.in_ok-claimed.ensures.sized so.0 c.in_ok-claimed.ensures.visited,
      c.in_ok-claimed.ensures.board ∙ so.1,
      omega (arith, under, lanes),
      λ _. sized_before c.args.self.now c.args.quantum c.args.pass.now.view c.loop-lane.pass.view so.0.swept c.in_ok-claimed.ensures.sized,
    )
