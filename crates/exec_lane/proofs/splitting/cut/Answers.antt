use Rattle.std.proofs.Common.{◌≡◌, ◌<◌, List, length, vec_len, ap, ◌∙◌, arith}
use Rattle.exec_lane.proofs.Taken.{cuts_next}
use Rattle.exec_lane.specs.Lane.{entry_in, without_task}
use Rattle.exec_lane.specs.inner.Buffered.{callback_at}
use Rattle.exec_lane.specs.inner.Cuts.{CutState, with_entry}
use Rattle.exec_rules.specs.Calls.{WorldData}
use Rattle.exec_rules.specs.declared.ready.Ready.{Ready}
use Rattle.exec_lane.proofs.splitting.cut.Goals as goal

pub loop-place-preserved : goal.loop-place-preserved
loop-place-preserved g c =
    let so = c.loop-place.invariant in
    let list = c.args.list.items in
    let place = c.loop-place.place in
    let world : WorldData = c.loop-place.world in
    let counted : vec_len c.args.list ≡ length list = c.args.list.ok.0 in
    let count = c.len-count.ensures in
    let before = c.loop-place-test.true in
    let within : place < length list = omega (arith, counted, count, before) in
    let next = cuts_next c.loop-place.cut.lanes c.push.new.self.lanes place world c.push.new.world list c.args.world.now within so.1
    (ap (λ (cut : CutState). cut.lanes) c.in_ok-push.ensures.cut ∙ ap (λ (some : List Ready). with_entry c.loop-place.cut.lanes (entry_in world.state (callback_at some place))) so.0)
    (c.in_ok-push.ensures.out ∙ ap (λ (some : List Ready). record world { state = without_task (callback_at some place).entity (callback_at some place).cause world.state }) so.0) in
    (ap (λ (cut : CutState). cut.list) c.in_ok-push.ensures.cut ∙ so.0, next)
