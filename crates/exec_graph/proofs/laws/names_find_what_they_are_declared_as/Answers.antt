use Rattle.exec_graph.proofs.Resolving.{topic_found, server_found}
use Rattle.exec_graph.proofs.laws.names_find_what_they_are_declared_as.Goals as goal

pub returns-clause-topic : goal.returns-clause-topic
returns-clause-topic c = λ draft made name number is found. topic_found draft made name number is found

pub returns-clause-server : goal.returns-clause-server
returns-clause-server c = λ draft made name number is found. server_found draft made name number is found
