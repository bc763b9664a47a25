use Rattle.std.proofs.Common.{bytes_eq}
use Rattle.exec_plan.specs.Graph.{is_topic, is_server}
use Rattle.exec_plan.proofs.FoundThere.{found_there}
use Rattle.exec_plan.proofs.laws.what_is_found_stands_at_its_number.Goals as goal

pub returns-clause-topic : goal.returns-clause-topic
returns-clause-topic c = λ made name number found. found_there (λ entity. is_topic entity.is) (λ entity. bytes_eq entity.name name) made.entities number found

pub returns-clause-server : goal.returns-clause-server
returns-clause-server c = λ made name number found. found_there (λ entity. is_server entity.is) (λ entity. bytes_eq entity.name name) made.entities number found
