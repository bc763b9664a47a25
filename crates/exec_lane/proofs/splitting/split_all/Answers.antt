use Rattle.std.proofs.Common.{ap, map}
use Rattle.std.proofs.lemmas.Result.{IfOk-weaker}
use Rattle.std.specs.Arc.{arc_value}
use Rattle.exec_lane.proofs.Taken.{split_so}
use Rattle.exec_lane.specs.inner.Buffered.{entries_in}
use Rattle.exec_lane.specs.inner.Cuts.{CutState}
use Rattle.exec_lane.proofs.splitting.split_all.Goals as goal

pub returns-clause-lanes : goal.returns-clause-lanes
returns-clause-lanes g c =
    IfOk-weaker c.open_all.result _ _ (λ lanes opens. split_so c.args.list.items c.args.world.now c.cut.new.world c.in_ok-cut.cut.lanes (map (λ lane. entries_in (arc_value c.into_parts-list.result.0).items lane.value) c.into_parts-list.result.1.items) lanes.items
    c.requires (ap (λ (cut : CutState). cut.lanes) c.in_ok-cut.ensures.cut) c.in_ok-cut.ensures.out c.into_parts-list.ensures.lanes opens) c.open_all.ensures.lanes
