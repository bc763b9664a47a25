use Rattle.std.proofs.Common.{filter, ap, ◌∙◌}
use Rattle.exec_queue.proofs.Filled.{in_part}
use Rattle.exec_queue.proofs.Parts.{all_before, none_behind}
use Rattle.exec_queue.specs.inner.Queues.{is_in_part_at}
use Rattle.exec_queue.proofs.queue.filled.leave_part.Goals as goal

pub returns-then-has_late : goal.returns-then-has_late
returns-then-has_late c =
    c.keep_part.ensures
    ∙ ap (filter (λ place. is_in_part_at c.args.before_polls c.args.entries.now place)) c.requires.filled
    ∙ in_part c.args.before_polls c.args.entries.now

pub returns-then-not-before_polls : goal.returns-then-not-before_polls
returns-then-not-before_polls c = c.clear.ensures.items ∙ none_behind c.args.before_polls c.args.entries.now c.if-not-before_polls.true (c.requires.late c.if-has_late.false)

pub returns-else-not-before_polls : goal.returns-else-not-before_polls
returns-else-not-before_polls c = c.requires.filled ∙ all_before c.args.before_polls c.args.entries.now c.if-not-before_polls.false (c.requires.late c.if-has_late.false)
