use Rattle.std.proofs.Common.{◌≡◌, ◌++◌, List, ap, subst, sym, ◌∙◌, IsPermutation}
use Rattle.std.specs.List.{flat_map}
use Rattle.exec_lane.specs.Gather.{outcomes_in}
use Rattle.exec_lane.specs.declared.outcome.Outcome.{Outcome}
use Rattle.exec_stream.proofs.Collected.{all_collected, all_ran}
use Rattle.exec_stream.specs.Sending.{CollectorView}
use Rattle.exec_stream.proofs.streaming.StreamedRound.close.Goals as goal

pub returns-clause-sent : goal.returns-clause-sent
returns-clause-sent g c =
    let runner = c.args.runner in
    let came = c.in_ok-came.came.items in
    let put : c.join.new.self.hand.put ≡ runner.sender.hand.put = ap (λ (collector : CollectorView). collector.hand.put) c.join.ensures ∙ (λ i. c.requires.put i ++ (c.into_parts-hand.ensures.pass.2 i).put) in
    subst (λ (sent : List Outcome). IsPermutation (flat_map outcomes_in c.in_ok-boxes.boxes.items) sent)
    (sym (c.of.ensures ∙ ap (λ (kept : List Outcome). came ++ kept) c.into_parts-hand.ensures.kept))
    (all_collected runner.pass.view c.in_ok-boxes.boxes.items runner.sender.hand.put runner.sender.kept came
    c.requires.sent.all
    (subst (λ (outcomes : List Outcome). IsPermutation outcomes came) put c.in_ok-came.ensures)
    (all_ran runner.pass.view c.in_ok-boxes.boxes.items c.outcomes_stay_as_a_lane_goes_on.ensures.each c.requires.unrun c.in_ok-boxes.ensures.closed (c.in_ok-boxes.ensures.finished c.requires.seen)))
