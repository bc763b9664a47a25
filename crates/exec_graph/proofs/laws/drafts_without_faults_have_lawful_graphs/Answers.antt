use Rattle.exec_graph.proofs.Complete.{has_graph}
use Rattle.exec_graph.proofs.Lawful.{graph_lawful}
use Rattle.exec_graph.proofs.laws.drafts_without_faults_have_lawful_graphs.Goals as goal

pub returns-clause-graph : goal.returns-clause-graph
returns-clause-graph c = λ draft faultless. has_graph draft faultless

pub returns-clause-lawful : goal.returns-clause-lawful
returns-clause-lawful c = λ draft made faultless is. graph_lawful draft made faultless is
