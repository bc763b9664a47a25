use Rattle.std.proofs.Common.{refl, rules}
use Rattle.exec_program.specs.Program.{AreGoodWords}
use Rattle.exec_serve.proofs.Served.{served_by}
use Rattle.exec_serve.proofs.serving.serve_all.Goals as goal

pub returns : goal.returns
returns g c =
    let lawful = rw c.deref.ensures.value at (c.from_words.ensures.lawful.0 (rw c.in_ok-settings.ensures.ok_part refl)) in
    let good : AreGoodWords c.args.words = rw c.in_ok-words.was lawful in
    served_by
    c.args.words
    (record { before = c.args.input.now.remaining; after = c.answer_each.new.input.remaining; failed = c.answer_each.new.input.failed })
    (record { before = c.args.output.now.sink.contents; after = c.answer_each.new.output.sink.contents; failed = c.answer_each.new.output.sink.failed })
    c.answer_each.new.output.flushed
    c.answer_each.result
    good
    (search rules)
    c.answer_each.ensures
