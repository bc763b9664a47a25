use Rattle.std.proofs.Common.{◌<◌, ap, is_err, length, subst, sym}
use Rattle.exec_lane.specs.Lane.{Lane}
use Rattle.exec_board.proofs.Sweeping.{visit_got_on, visit_may_release, visit_stopped, visited_err}
use Rattle.exec_board.proofs.board.Board.visit.Goals as goal

pub run_some-ended-requires-clause-unfinished : goal.run_some-ended-requires-clause-unfinished
run_some-ended-requires-clause-unfinished g c = λ κs outlives. subst (λ (box : Lane). box.done < length box.entries) (sym c.work.ensures.value) c.in-Ok.ensures.claim.1.work.unfinished

pub release-requires-clause-claim : goal.release-requires-clause-claim
release-requires-clause-claim g c =
    visit_may_release c.args.lane c.args.quantum c.args.pass.now.view c.claim.new.pass.view c.claim.new.pass.view c.in-Ok.claim c.work.result.now c.run_some-ended.new.lane c.run_some-ended.result c.in-Ok.ensures.claim.1 c.in-Ok.ensures.held c.work.ensures.value c.run_some-ended.ensures

pub returns-in_err-ended-clause-visited : goal.returns-in_err-ended-clause-visited
returns-in_err-ended-clause-visited g c =
    let stopped = visit_stopped c.args.lane c.args.quantum c.args.pass.now.view c.claim.new.pass.view c.release.new.pass.view c.in-Ok.claim c.work.result.now c.run_some-ended.new.lane c.run_some-ended.result c.in-Ok.ensures.claim.1 c.in-Ok.ensures.held c.work.ensures.value c.run_some-ended.ensures c.release.ensures.released (ap is_err c.in_err-ended.was) in
    visited_err c.args.lane c.args.quantum c.args.pass.now.view c.release.new.pass.view c.from_residual.result c.from_residual.ensures.0 stopped

pub returns-clause-visited : goal.returns-clause-visited
returns-clause-visited g c =
    visit_got_on c.args.lane c.args.quantum c.args.pass.now.view c.claim.new.pass.view c.release.new.pass.view c.in-Ok.claim c.work.result.now c.run_some-ended.new.lane c.run_some-ended.result c.in-Ok.ensures.claim.1 c.in-Ok.ensures.held c.work.ensures.value c.run_some-ended.ensures c.release.ensures.released c.in_ok-ended.was
