use Rattle.std.proofs.Common.{List, ap, sym, ◌∙◌}
use Rattle.std.proofs.lemmas.Result.{on_ok_weaker}
use Rattle.exec_lane.proofs.Joining.{begins, joins}
use Rattle.exec_lane.specs.Lane.{LaneCallback, entry_in}
use Rattle.exec_lane.specs.inner.Buffered.{callback_at}
use Rattle.exec_lane.proofs.cut.Cut.push.Goals as goal

pub returns-in-Some-clause-cut : goal.returns-in-Some-clause-cut
returns-in-Some-clause-cut g c =
    on_ok_weaker c.join.result (λ done. done ∙ ap (λ (lanes : List (List LaneCallback)). record c.args.self.now { lanes = lanes })
    (joins (entry_in c.args.world.now.state (callback_at c.args.self.now.list c.args.place)) c.args.self.now.lanes c.in-Some.lane (sym c.lane_for.ensures ∙ c.in-Some.is))) c.join.ensures.cut

pub returns-in-None-clause-cut : goal.returns-in-None-clause-cut
returns-in-None-clause-cut g c =
    on_ok_weaker c.begin.result (λ done. done ∙ ap (λ (lanes : List (List LaneCallback)). record c.args.self.now { lanes = lanes })
    (begins (entry_in c.args.world.now.state (callback_at c.args.self.now.list c.args.place)) c.args.self.now.lanes (sym c.lane_for.ensures ∙ c.in-None.is))) c.begin.ensures.cut
