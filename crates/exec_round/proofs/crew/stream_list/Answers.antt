use Rattle.std.proofs.Common.{List, length, refl, sym, subst}
use Rattle.std.specs.List.{flat_map}
use Rattle.std.proofs.lemmas.Result.{on_ok_weaker}
use Rattle.exec_lane.specs.Gather.{ran_in}
use Rattle.exec_lane.specs.Lane.{AreFinished, Lane}
use Rattle.exec_round.proofs.Rounding.{all_held, all_left, listed_is}
use Rattle.exec_round.proofs.Sends.{none_ran, order_is, sent_is}
use Rattle.exec_stream.specs.Streams.{AreUnrun}
use Rattle.exec_round.proofs.crew.stream_list.Goals as goal

pub stream_lanes-requires-clause-unrun : goal.stream_lanes-requires-clause-unrun
stream_lanes-requires-clause-unrun g c = λ κs within. subst AreUnrun (sym c.in_ok-lanes.ensures.lanes) (none_ran c.args.list.items c.args.world.now.state)

pub commit_sent-requires-clause-left : goal.commit_sent-requires-clause-left
commit_sent-requires-clause-left g c =
    let listed = c.requires.2 in
    let finished = subst (λ (lanes : List Lane). AreFinished lanes c.in_ok-ran.ran.items) c.in_ok-lanes.ensures.lanes c.in_ok-ran.ensures.finished in
    all_left c.requires.0 c.requires.1 c.args.world.now c.split.new.world c.gather.new.world c.args.list.items c.in_ok-ran.ran.items c.in_ok-all.all (length c.in_ok-all.all)
    listed.ready listed.taken c.in_ok-lanes.ensures.out c.in_ok-all.ensures.home c.in_ok-all.ensures.gathered
    (c.lanes_come_home_as_one_thread_leaves_them.ensures.ran c.args.list.items c.args.world.now.state c.in_ok-ran.ran.items listed.home listed.groups finished)
    refl

pub commit_sent-requires-clause-order : goal.commit_sent-requires-clause-order
commit_sent-requires-clause-order g c =
    let listed = c.requires.2 in
    let finished = subst (λ (lanes : List Lane). AreFinished lanes c.in_ok-ran.ran.items) c.in_ok-lanes.ensures.lanes c.in_ok-ran.ensures.finished in
    order_is c.requires.0 c.requires.1 c.args.list.items c.args.world.now.state (flat_map ran_in c.in_ok-ran.ran.items) c.in_ok-all.all listed.ready c.in_ok-all.ensures.gathered
    (c.lanes_come_home_as_one_thread_leaves_them.ensures.ran c.args.list.items c.args.world.now.state c.in_ok-ran.ran.items listed.home listed.groups finished)

pub commit_sent-requires-clause-sent : goal.commit_sent-requires-clause-sent
commit_sent-requires-clause-sent g c = sent_is c.in_ok-ran.ran.items c.in_ok-all.all c.in_ok-ran.sent c.in_ok-all.ensures.gathered c.in_ok-ran.ensures.sent

pub returns : goal.returns
returns g c =
    on_ok_weaker c.commit_sent.result (λ committed round before listed.
    let finished = subst (λ (lanes : List Lane). AreFinished lanes c.in_ok-ran.ran.items) c.in_ok-lanes.ensures.lanes c.in_ok-ran.ensures.finished in
    listed_is round before c.args.world.now c.split.new.world c.gather.new.world c.commit_sent.new.world c.args.list.items c.in_ok-ran.ran.items c.in_ok-all.all
    listed c.in_ok-lanes.ensures.out c.in_ok-all.ensures.home c.in_ok-all.ensures.gathered committed
    (c.lanes_come_home_as_one_thread_leaves_them.ensures.home c.args.list.items c.args.world.now.state c.in_ok-ran.ran.items listed.home listed.groups finished)
    (c.lanes_come_home_as_one_thread_leaves_them.ensures.ran c.args.list.items c.args.world.now.state c.in_ok-ran.ran.items listed.home listed.groups finished)
    (c.callbacks_may_be_committed_behind.ensures c.args.list.items c.args.world.now.state (all_held c.args.list.items c.args.world.now.state listed.home.home))) c.commit_sent.ensures
