use Rattle.std.proofs.Common.{List, length, refl, subst}
use Rattle.std.proofs.lemmas.Result.{on_ok_weaker}
use Rattle.exec_lane.specs.Lane.{AreFinished, Lane}
use Rattle.exec_round.proofs.Rounding.{all_held, all_left, listed_is}
use Rattle.exec_round.proofs.rounds.run_list.Goals as goal

pub commit_each-requires : goal.commit_each-requires
commit_each-requires g c =
    let listed = c.requires.2 in
    let finished = subst (λ (lanes : List Lane). AreFinished lanes c.in_ok-ran.ran.items) c.in_ok-lanes.ensures.lanes c.in_ok-ran.ensures in
    all_left c.requires.0 c.requires.1 c.args.world.now c.split.new.world c.gather.new.world c.args.list.items c.in_ok-ran.ran.items c.in_ok-all.all (length c.in_ok-all.all)
    listed.ready listed.taken c.in_ok-lanes.ensures.out c.in_ok-all.ensures.home c.in_ok-all.ensures.gathered
    (c.lanes_come_home_as_one_thread_leaves_them.ensures.ran c.args.list.items c.args.world.now.state c.in_ok-ran.ran.items listed.home listed.groups finished)
    refl

pub returns : goal.returns
returns g c =
    on_ok_weaker c.commit_each.result (λ committed round before listed.
    let finished = subst (λ (lanes : List Lane). AreFinished lanes c.in_ok-ran.ran.items) c.in_ok-lanes.ensures.lanes c.in_ok-ran.ensures in
    listed_is round before c.args.world.now c.split.new.world c.gather.new.world c.commit_each.new.world c.args.list.items c.in_ok-ran.ran.items c.in_ok-all.all
    listed c.in_ok-lanes.ensures.out c.in_ok-all.ensures.home c.in_ok-all.ensures.gathered committed
    (c.lanes_come_home_as_one_thread_leaves_them.ensures.home c.args.list.items c.args.world.now.state c.in_ok-ran.ran.items listed.home listed.groups finished)
    (c.lanes_come_home_as_one_thread_leaves_them.ensures.ran c.args.list.items c.args.world.now.state c.in_ok-ran.ran.items listed.home listed.groups finished)
    (c.callbacks_may_be_committed_behind.ensures c.args.list.items c.args.world.now.state (all_held c.args.list.items c.args.world.now.state listed.home.home))) c.commit_each.ensures
