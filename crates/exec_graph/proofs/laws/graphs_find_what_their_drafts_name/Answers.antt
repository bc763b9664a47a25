use Rattle.exec_graph.proofs.Found.{finds}
use Rattle.exec_graph.proofs.laws.graphs_find_what_their_drafts_name.Goals as goal

pub returns-clause-topic : goal.returns-clause-topic
returns-clause-topic c = λ draft made name is. (finds draft made is).topic name

pub returns-clause-server : goal.returns-clause-server
returns-clause-server c = λ draft made name is. (finds draft made is).server name
