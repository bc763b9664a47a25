use Rattle.std.proofs.Common.{◌≤◌, ℕ, subst, sym}
use Rattle.exec_lane.proofs.Cutting.{lanes_have_all}
use Rattle.exec_lane.proofs.laws.lanes_share_no_queue.Goals as goal
use Rattle.exec_rules.specs.Ready.{is_callback_of, ready_list}
use Rattle.exec_rules.specs.Transcript.{at_snapshot, first_world, rounds}

pub returns : goal.returns
returns c = λ plan number moments next moment entity of other.
    subst (λ (count : ℕ). count ≤ 1)
    (sym (lanes_have_all (ready_list moment (at_snapshot plan next moment (rounds plan number moments (first_world plan)))) (is_callback_of entity of)))
    (c.an_entity_has_one_callback_of_a_kind.ensures plan number moments next moment entity of other)
