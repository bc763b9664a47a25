use Rattle.exec_doc.specs.Refusals.{document_value}
use Rattle.exec_doc.proofs.Least.{least, none_holds}
use Rattle.exec_doc.proofs.laws.the_least_code_counts.Goals as goal

pub returns-clause-holds : goal.returns-clause-holds
returns-clause-holds c = λ bytes code refused. (least (document_value bytes) code refused).1

pub returns-clause-least : goal.returns-clause-least
returns-clause-least c = λ bytes code refused. (least (document_value bytes) code refused).0

pub returns-clause-none : goal.returns-clause-none
returns-clause-none c = λ bytes code accepted. none_holds (document_value bytes) code accepted
