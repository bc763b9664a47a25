use Rattle.std.proofs.Common.{rules}
use Rattle.exec_script.specs.Spelling.{word_of}
use Rattle.exec_script.proofs.Spelt.{set_is, set_decoded}
use Rattle.exec_script.proofs.spelled.SpelledInstr.set.Goals as goal

pub invariant_of-result : goal.invariant_of-result
invariant_of-result c = set_decoded c.args.destination.now c.args.operation.now (word_of c.args.left) (word_of c.args.right) c.in_ok-set.set (search rules)

pub returns-clause-words : goal.returns-clause-words
returns-clause-words c = set_is c.args.destination.now c.args.operation.now (word_of c.args.left) (word_of c.args.right) c.in_ok-set.set (search rules)
