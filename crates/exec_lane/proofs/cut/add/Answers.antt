use Rattle.std.proofs.Common.{◌≡◌}
use Rattle.std.proofs.lemmas.List.{get_or_read}
use Rattle.std.proofs.lemmas.Result.{on_ok_weaker}
use Rattle.exec_lane.proofs.Added.{due_added, took_added, woke_added}
use Rattle.exec_lane.specs.inner.Buffered.{callback_at, no_callback}
use Rattle.exec_rules.specs.World.{work_of}
use Rattle.exec_lane.proofs.cut.add.Goals as goal

pub returns-in-Woke-clause-lane : goal.returns-in-Woke-clause-lane
returns-in-Woke-clause-lane g c =
    let here : c.index-list-place.result ≡ callback_at c.args.list.now c.args.place = get_or_read c.args.list.now c.args.place _ c.requires.there c.index-list-place.is no_callback in
    on_ok_weaker c.add_poll.result (λ is. (woke_added c.args.list.now c.args.place c.args.world.now.state c.args.lane.now c.add_poll.new.self c.index-list-place.result c.in-Woke.id c.in-Woke.value c.in-Woke.canceling (work_of c.take_task-task.result)
    c.requires.unrun c.requires.there here c.in-Woke.is c.take_task-task.ensures.task is).entries) c.add_poll.ensures.added

pub returns-in-Woke-clause-unrun : goal.returns-in-Woke-clause-unrun
returns-in-Woke-clause-unrun g c =
    let here : c.index-list-place.result ≡ callback_at c.args.list.now c.args.place = get_or_read c.args.list.now c.args.place _ c.requires.there c.index-list-place.is no_callback in
    on_ok_weaker c.add_poll.result (λ is. (woke_added c.args.list.now c.args.place c.args.world.now.state c.args.lane.now c.add_poll.new.self c.index-list-place.result c.in-Woke.id c.in-Woke.value c.in-Woke.canceling (work_of c.take_task-task.result)
    c.requires.unrun c.requires.there here c.in-Woke.is c.take_task-task.ensures.task is).unrun) c.add_poll.ensures.added

pub returns-in-Took-clause-lane : goal.returns-in-Took-clause-lane
returns-in-Took-clause-lane g c =
    let here : c.index-list-place.result ≡ callback_at c.args.list.now c.args.place = get_or_read c.args.list.now c.args.place _ c.requires.there c.index-list-place.is no_callback in
    on_ok_weaker c.add.result (λ is. (took_added c.args.list.now c.args.place c.args.world.now.state c.args.lane.now c.add.new.self c.index-list-place.result _ c.requires.unrun c.requires.there here c.in-Took.is is).entries) c.add.ensures.added

pub returns-in-Took-clause-unrun : goal.returns-in-Took-clause-unrun
returns-in-Took-clause-unrun g c =
    let here : c.index-list-place.result ≡ callback_at c.args.list.now c.args.place = get_or_read c.args.list.now c.args.place _ c.requires.there c.index-list-place.is no_callback in
    on_ok_weaker c.add.result (λ is. (took_added c.args.list.now c.args.place c.args.world.now.state c.args.lane.now c.add.new.self c.index-list-place.result _ c.requires.unrun c.requires.there here c.in-Took.is is).unrun) c.add.ensures.added

pub returns-in-Due-clause-lane : goal.returns-in-Due-clause-lane
returns-in-Due-clause-lane g c =
    let here : c.index-list-place.result ≡ callback_at c.args.list.now c.args.place = get_or_read c.args.list.now c.args.place _ c.requires.there c.index-list-place.is no_callback in
    on_ok_weaker c.add-in-Due.result (λ is. (due_added c.args.list.now c.args.place c.args.world.now.state c.args.lane.now c.add-in-Due.new.self c.index-list-place.result c.requires.unrun c.requires.there here c.in-Due.is is).entries) c.add-in-Due.ensures.added

pub returns-in-Due-clause-unrun : goal.returns-in-Due-clause-unrun
returns-in-Due-clause-unrun g c =
    let here : c.index-list-place.result ≡ callback_at c.args.list.now c.args.place = get_or_read c.args.list.now c.args.place _ c.requires.there c.index-list-place.is no_callback in
    on_ok_weaker c.add-in-Due.result (λ is. (due_added c.args.list.now c.args.place c.args.world.now.state c.args.lane.now c.add-in-Due.new.self c.index-list-place.result c.requires.unrun c.requires.there here c.in-Due.is is).unrun) c.add-in-Due.ensures.added
