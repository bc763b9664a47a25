use Rattle.exec_stream.proofs.GoingOn.{visited}
use Rattle.exec_stream.proofs.streaming.Runner.visit.Goals as goal

pub returns-clause-sent : goal.returns-clause-sent
returns-clause-sent g c =
    visited c.args.self.now (record { pass = c.release.new.pass; sender = c.run_some-ended.new.sender }) c.in-Ok.claim c.args.lane c.work.result.now c.run_some-ended.new.lane c.claim.new.pass.view
    c.requires.sent c.in-Ok.ensures.claim.1 c.in-Ok.ensures.held c.work.ensures.value c.in_ok-ended.ensures.lane c.in_ok-ended.ensures.sent c.release.ensures.released
    (c.a_claim_may_be_released.ensures.released c.args.self.now.pass.view c.args.lane c.in-Ok.claim.start c.run_some-ended.new.lane.done)
