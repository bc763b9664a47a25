use Rattle.std.proofs.Common.{◌≡◌, length, rules}
use Rattle.exec_world.proofs.Snapshots.{none_to_answer}
use Rattle.exec_world.proofs.state.snapshot.answer_calls.Goals as goal

pub returns-then-is_empty : goal.returns-then-is_empty
returns-then-is_empty c =
    let none : length c.as_slice.result.now ≡ 0 = search rules in
    none_to_answer c.args.queues.now c.args.clients.now c.as_slice.result.now c.args.places.now c.as_slice.ensures none
