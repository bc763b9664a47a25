use Rattle.std.proofs.Common.{ap, sym, ◌∙◌}
use Rattle.exec_round.proofs.Openings.{are_finished, run_openings}
use Rattle.exec_round.specs.inner.Running.{are_done}
use Rattle.exec_round.proofs.forking.fork_lanes.Goals as goal

pub returns : goal.returns
returns g c =
    are_finished c.args.lanes.items c.in_ok-ran.ran.items (run_openings c.args.lanes.items c.in_ok-ran.ran.items c.in_ok-ran.ensures)
    (ap are_done (sym c.as_slice.ensures.value) ∙ sym c.are_finished.ensures ∙ c.if-not-are_finished.false)
