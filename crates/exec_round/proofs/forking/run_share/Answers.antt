use Rattle.std.proofs.Common.{◌≡◌, length, ap, sym, ◌∙◌, arith}
use Rattle.std.proofs.Math.Seq.{map-set_same}
use Rattle.std.proofs.lemmas.List.{length-map}
use Rattle.exec_round.proofs.Openings.{all_run, runs_next}
use Rattle.exec_round.specs.inner.Running.{opening_of, openings_of}
use Rattle.exec_round.proofs.forking.run_share.Goals as goal

pub loop-lane-preserved : goal.loop-lane-preserved
loop-lane-preserved g c =
    let long : length c.loop-lane.lane-items ≡ length c.deref_mut-lane-items.result.now = sym (length-map c.loop-lane.lane-items opening_of) ∙ ap length c.loop-lane.invariant.0 ∙ length-map c.deref_mut-lane-items.result.now opening_of in (
      map-set_same opening_of c.loop-lane.lane-items c.loop-lane.lane-index c.run_lane.new.lane c.lane-item.result c.run_lane.ensures.opening
          ∙ c.loop-lane.invariant.0,
      runs_next c.loop-lane.lane-items c.loop-lane.lane-index c.run_lane.new.lane (omega (arith, long, c.loop-lane-test.true)) c.loop-lane.invariant.1 c.run_lane.ensures.run,
    )

pub returns : goal.returns
returns g c =
    let whole = c.deref_mut-lane-items.ensures.value in
    all_run c.args.lanes.now.items c.loop-lane.lane-items c.args.lanes.now.len c.loop-lane.lane-index c.args.lanes.now.ok.0 (c.loop-lane.invariant.0 ∙ ap openings_of whole) (omega (arith, c.loop-lane-test.false, ap length whole)) c.loop-lane.invariant.1
