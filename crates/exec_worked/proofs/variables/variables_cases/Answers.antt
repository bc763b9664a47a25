use Rattle.std.proofs.Common.{refl}
use Rattle.exec_worked.proofs.OnLiterals.{transcript_on_literals}
use Rattle.exec_worked.proofs.variables.variables_cases.Goals as goal

pub returns-clause-a_topic_of_that_name : goal.returns-clause-a_topic_of_that_name
unfolding transcript_on_literals
returns-clause-a_topic_of_that_name c = refl

pub returns-clause-and_moments_that_go_back : goal.returns-clause-and_moments_that_go_back
unfolding transcript_on_literals
returns-clause-and_moments_that_go_back c = refl

pub returns-clause-in_on_goal : goal.returns-clause-in_on_goal
unfolding transcript_on_literals
returns-clause-in_on_goal c = refl

pub returns-clause-of_two_groups : goal.returns-clause-of_two_groups
unfolding transcript_on_literals
returns-clause-of_two_groups c = refl

pub returns-clause-of_two_nodes : goal.returns-clause-of_two_nodes
unfolding transcript_on_literals
returns-clause-of_two_nodes c = refl

pub returns-clause-read_in_a_reentrant_group : goal.returns-clause-read_in_a_reentrant_group
unfolding transcript_on_literals
returns-clause-read_in_a_reentrant_group c = refl

pub returns-clause-written_in_a_reentrant_group : goal.returns-clause-written_in_a_reentrant_group
unfolding transcript_on_literals
returns-clause-written_in_a_reentrant_group c = refl
