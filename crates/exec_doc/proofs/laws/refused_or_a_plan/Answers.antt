use Rattle.exec_doc.specs.Refusals.{document_value}
use Rattle.exec_doc.proofs.Planned.{planned}
use Rattle.exec_doc.proofs.laws.refused_or_a_plan.Goals as goal

pub returns-clause-plan : goal.returns-clause-plan
returns-clause-plan c = λ bytes accepted. planned c.drafts_without_faults_have_lawful_graphs.ensures.graph (document_value bytes) accepted
