use Rattle.std.proofs.Common.{◌∙◌}
use Rattle.exec_board.proofs.Sweeping.{got_on_on, swept_on}
use Rattle.exec_board.proofs.board.Board.sweep.Goals as goal

pub returns-in_err-visit_all-clause-swept : goal.returns-in_err-visit_all-clause-swept
returns-in_err-visit_all-clause-swept g c = swept_on c.args.quantum c.args.pass.now.view c.loop.pass.view c.visit_all.new.pass.view c.loop.invariant.0 c.in_err-visit_all.ensures.swept

pub loop-preserved : goal.loop-preserved
loop-preserved g c = (swept_on c.args.quantum c.args.pass.now.view c.loop.pass.view c.visit_all.new.pass.view c.loop.invariant.0 c.in_ok-visit_all.ensures.turned.swept, got_on_on c.args.pass.now.view c.loop.pass.view c.visit_all.new.pass.view c.loop.invariant.1 c.in_ok-visit_all.ensures.turned.got_on, c.in_ok-visit_all.ensures.board ∙ c.loop.invariant.2)

pub returns-clause-swept : goal.returns-clause-swept
returns-clause-swept g c = swept_on c.args.quantum c.args.pass.now.view c.loop.pass.view c.visit_all.new.pass.view c.loop.invariant.0 c.in_ok-visit_all.ensures.turned.swept
