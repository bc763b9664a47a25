use Rattle.std.proofs.Common.{sym, ◌∙◌}
use Rattle.exec_script.proofs.Decoding.{next_decoded}
use Rattle.exec_script.proofs.spelling.decode.Goals as goal

pub loop-words-preserved : goal.loop-words-preserved
loop-words-preserved g c =
    rw c.in_ok-push.ensures.items
    (sym (next_decoded (g.S.Scope.names c.args.scope.now) g.W.Spelling.words c.args.spelled.now c.loop-words.words-index c.words-item.result c.loop-words.script.items c.in_ok-instr.instr c.loop-words-test.true c.words-item.is (sym c.in_ok-instr.ensures))
    ∙ c.loop-words.invariant)
