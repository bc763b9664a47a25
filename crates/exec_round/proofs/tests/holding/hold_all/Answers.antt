use Rattle.std.proofs.Common.{◌≤◌, ◌∙◌, sym, ap, subst}
use Rattle.exec_lane.specs.Lane.{Lane}
use Rattle.exec_round.proofs.HeldLanes.{given_back, kept, may_release, one, passed_over, released_lane_of}
use Rattle.exec_round.proofs.tests.holding.hold_all.Goals as goal
use Rattle.exec_round.proofs.tests.holding.hold_all.Goals.{in-Ok+in-Ok-push_front, in-Ok+in-Err-push_front, in-Err}

pub loop-lane-preserved : goal.loop-lane-preserved
loop-lane-preserved c =
    let has = c.loop-lane.invariant.0 in
    let here = c.loop-lane.invariant.1 in
    elim c.match-claim.branch [
      | in-Ok+in-Ok-push_front w ↦ rw (w.pass-is, w.claims-is, w.in-Ok-push_front.ensures.items) (
        kept c.args.pass.now c.loop-lane.pass.view c.loop-lane.lane c.loop-lane.claims.items has w.in-Ok.claim (w.in-Ok.ensures.claim.0 ∙ sym c.requires.board) w.in-Ok.ensures.claim.1
            c.claim.new.pass.view w.in-Ok.ensures.held,
        w.in-Ok.ensures.board ∙ here,
      )
      | in-Ok+in-Err-push_front w ↦ rw (w.pass-is, w.claims-is, w.in-Err-push_front.ensures.items) (
        given_back c.args.pass.now c.loop-lane.pass.view c.loop-lane.lane c.loop-lane.claims.items has w.in-Ok.claim (w.in-Ok.ensures.claim.0 ∙ sym c.requires.board) w.in-Ok.ensures.claim.1
            c.claim.new.pass.view w.in-Ok.ensures.held w.in-Err-push_front.refused.value w.in-Err-push_front.ensures.value_returned w.release.new.pass.view w.release.ensures.released,
        w.release.ensures.board ∙ w.in-Ok.ensures.board ∙ here,
      )
      | in-Err w ↦ rw (w.pass-is, w.claims-is)
          (passed_over c.args.pass.now c.loop-lane.pass.view c.loop-lane.lane c.loop-lane.claims.items has c.loop-lane.lane _ c.claim.new.pass.view w.in-Err.ensures.refused, w.in-Err.ensures.board ∙ here)
    ]

pub release-requires-in-Some-clause-board : goal.release-requires-in-Some-clause-board
release-requires-in-Some-clause-board c =
    (c.loop-claim.invariant.1 ∙ c.requires.board, (one c.args.pass.now c.loop-claim.pass.view c.loop-claim.invariant.0.0 c.loop-claim.claims.items c.take.new.claims.items c.in-Some.claim c.loop-claim.invariant.0.1 c.in-Some.ensures.taken).same ∙ c.requires.board)

pub release-requires-in-Some-clause-claim : goal.release-requires-in-Some-clause-claim
release-requires-in-Some-clause-claim c =
    may_release c.args.pass.now c.loop-claim.pass.view c.loop-claim.invariant.0.0 c.loop-claim.claims.items c.take.new.claims.items c.in-Some.claim c.loop-claim.invariant.0.1 c.in-Some.ensures.taken
    c.run_some.new.lane (record { variables = c.run_some.ensures.lane.0 ∙ ap (λ (lane : Lane). lane.variables) c.work.ensures.value; entries = c.run_some.ensures.lane.1 ∙ ap (λ (lane : Lane). lane.entries) c.work.ensures.value })
    (subst (λ (lane : Lane). lane.done ≤ c.run_some.new.lane.done) c.work.ensures.value c.run_some.ensures.on)

pub loop-claim-preserved : goal.loop-claim-preserved
loop-claim-preserved c = (
  (
    c.loop-claim.invariant.0.0,
    released_lane_of c.args.pass.now c.loop-claim.pass.view c.loop-claim.invariant.0.0 c.loop-claim.claims.items c.take.new.claims.items c.in-Some.claim c.loop-claim.invariant.0.1 c.in-Some.ensures.taken
        c.run_some.new.lane (record { variables = c.run_some.ensures.lane.0 ∙ ap (λ (lane : Lane). lane.variables) c.work.ensures.value; entries = c.run_some.ensures.lane.1 ∙ ap (λ (lane : Lane). lane.entries) c.work.ensures.value })
        (subst (λ (lane : Lane). lane.done ≤ c.run_some.new.lane.done) c.work.ensures.value c.run_some.ensures.on) c.release-in-Some.new.pass.view c.release-in-Some.ensures.released,
  ),
  c.release-in-Some.ensures.board ∙ c.loop-claim.invariant.1,
)
