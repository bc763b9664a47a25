use Rattle.std.proofs.Common.{inr, length, ap, ◌∙◌}
use Rattle.exec_plan.specs.Schedule.{schedule_fits}
use Rattle.exec_doc.proofs.Ready.{declared_is, within_is, by_graph}
use Rattle.exec_doc.proofs.Refusing.{undeclared}
use Rattle.exec_doc.proofs.document.refusal_by.Goals as goal

pub returns-then-not-are_declared : goal.returns-then-not-are_declared
returns-then-not-are_declared c = λ document version graph moments feed fault.
    inr (undeclared document version (declared_is document _ _ _ _ graph feed c.are_declared.ensures c.if-not-are_declared.true))

pub returns : goal.returns
returns c = λ document version graph moments feed fault.
    by_graph document _ _ _ version (declared_is document _ _ _ _ graph feed c.are_declared.ensures c.if-not-are_declared.false)
    (c.schedule_fits.ensures ∙ ap (schedule_fits c.args.moments.now (length c.args.feed.now)) c.greatest_stamp.ensures ∙ within_is document _ _ moments feed)
    c.code_of.ensures.memory c.code_of.ensures.code fault
