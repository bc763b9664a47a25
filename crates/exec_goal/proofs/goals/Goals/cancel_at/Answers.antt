use Rattle.std.proofs.Common.{ℕ, ◌∙◌, sym, ap, List, Bool, slice_set}
use Rattle.exec_goal.proofs.Looping.{record-at, records-set_value_at}
use Rattle.exec_goal.specs.inner.Ids.{is_among}
use Rattle.exec_goal.specs.Cancel.{after_answer_by}
use Rattle.exec_goal.specs.inner.Held.{record_of, records_of}
use Rattle.exec_goal.specs.Info.{info_of}
use Rattle.exec_goal.specs.State.{is_accepted}
use Rattle.exec_goal.specs.Table.{GoalRecord}
use Rattle.exec_goal.specs.declared.held.GoalEntry.{GoalEntry}
use Rattle.exec_goal.proofs.Tallying.{answered-executed, answered-info, tallied-fits, counted-at, told-within, tallied-at}
use Rattle.exec_goal.proofs.goals.Goals.cancel_at.Goals as goal

pub returns : goal.returns
returns c = λ d.
    let at = c.pair_mut-goal.ensures.value in
    let entry : ℕ × GoalEntry = (c.pair_mut-goal.result.0.now, c.pair_mut-goal.result.1.now) in
    let after = record_of (entry.0, c.cancel_where.new.self) in
    records-set_value_at c.self.inside.held.entries c.args.index entry c.cancel_where.new.self at
    ∙ ap (λ (goals : List GoalRecord). slice_set goals c.args.index after) c.self.view_is
    ∙ ap (λ (goal : GoalRecord). slice_set c.args.self.now c.args.index goal)
    (c.cancel_where.ensures entry.0 ∙ ap (λ (accepted : Bool). after_answer_by (λ _. accepted) (record_of entry)) c.has-is_accepted.ensures
    ∙ ap (after_answer_by (is_among c.args.accepted.now)) (sym (record-at c.self.inside.held.entries c.args.self.now c.args.index entry c.self.view_is at d)))

pub count_move-requires-clause-counted : goal.count_move-requires-clause-counted
count_move-requires-clause-counted c =
    let entry : ℕ × GoalEntry = (c.pair_mut-goal.result.0.now, c.pair_mut-goal.result.1.now) in
    counted-at c.self.inside.held.entries c.args.index entry c.pair_mut-goal.ensures.value c.self.inside.tally c.self.invariant

pub count_move-requires-clause-fits : goal.count_move-requires-clause-fits
count_move-requires-clause-fits c = tallied-fits c.self.inside.tally (records_of c.self.inside.held.entries) c.self.invariant

pub count_move-requires-clause-told : goal.count_move-requires-clause-told
count_move-requires-clause-told c =
    let entry : ℕ × GoalEntry = (c.pair_mut-goal.result.0.now, c.pair_mut-goal.result.1.now) in
    told-within c.self.inside.held.entries c.args.index entry c.pair_mut-goal.ensures.value c.self.inside.tally c.self.invariant

pub invariant_of-self : goal.invariant_of-self
invariant_of-self c =
    let entry : ℕ × GoalEntry = (c.pair_mut-goal.result.0.now, c.pair_mut-goal.result.1.now) in
    tallied-at c.self.inside.held.entries c.args.index entry c.pair_mut-goal.ensures.value c.cancel_where.new.self c.self.inside.tally c.count_move.new.self
    (λ executed. ap (λ (goal : GoalRecord). is_accepted goal.state) (c.cancel_where.ensures entry.0) ∙ answered-executed c.has-is_accepted.result (record_of entry) executed) c.count_move.ensures.ended c.count_move.ensures.counts c.count_move.ensures.tells
    (ap info_of (c.cancel_where.ensures entry.0) ∙ answered-info c.has-is_accepted.result (record_of entry) ∙ ap (λ (goal : GoalRecord). record (info_of (record_of entry)) { state = goal.state }) (sym (c.cancel_where.ensures entry.0))) c.self.invariant
