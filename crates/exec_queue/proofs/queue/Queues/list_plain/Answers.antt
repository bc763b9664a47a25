use Rattle.std.proofs.Common.{slice_get, sym, ap, ◌∙◌}
use Rattle.std.proofs.lemmas.Result.{IfOk-weaker}
use Rattle.std.specs.Option.{option_copied}
use Rattle.exec_queue.proofs.PlainFronts.{nothing_listed, front_listed}
use Rattle.exec_queue.proofs.queue.Queues.list_plain.Goals as goal

pub returns-in-None-clause-listed : goal.returns-in-None-clause-listed
returns-in-None-clause-listed c is goals =
    nothing_listed c.args.moment goals (slice_get c.args.self.now c.args.place) c.args.list.now (sym c.at.ensures ∙ ap option_copied c.in-None.is)

pub returns-in-Some-clause-listed : goal.returns-in-Some-clause-listed
returns-in-Some-clause-listed c =
    IfOk-weaker c.list_plain.result _ _
    (λ done told is goals. front_listed c.args.moment goals (slice_get c.args.self.now c.args.place) c.in-Some.queue.now c.args.list.now c.list_plain.new.list
    (sym c.at.ensures ∙ ap option_copied c.in-Some.is) (told is (goals c.in-Some.queue.now.handler)))
    c.list_plain.ensures.listed
