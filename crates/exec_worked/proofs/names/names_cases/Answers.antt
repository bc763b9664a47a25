use Rattle.std.proofs.Common.{refl}
use Rattle.exec_worked.proofs.OnLiterals.{transcript_on_literals}
use Rattle.exec_worked.proofs.names.names_cases.Goals as goal

pub returns-clause-a_fed_action_that_is_a_topic : goal.returns-clause-a_fed_action_that_is_a_topic
unfolding transcript_on_literals
returns-clause-a_fed_action_that_is_a_topic c = refl

pub returns-clause-a_fed_topic_that_nobody_declares : goal.returns-clause-a_fed_topic_that_nobody_declares
unfolding transcript_on_literals
returns-clause-a_fed_topic_that_nobody_declares c = refl

pub returns-clause-a_group_of_another_node : goal.returns-clause-a_group_of_another_node
unfolding transcript_on_literals
returns-clause-a_group_of_another_node c = refl

pub returns-clause-a_group_of_each_of_two_nodes : goal.returns-clause-a_group_of_each_of_two_nodes
unfolding transcript_on_literals
returns-clause-a_group_of_each_of_two_nodes c = refl

pub returns-clause-a_service_of_a_later_node : goal.returns-clause-a_service_of_a_later_node
unfolding transcript_on_literals
returns-clause-a_service_of_a_later_node c = refl

pub returns-clause-a_topic_and_a_timer : goal.returns-clause-a_topic_and_a_timer
unfolding transcript_on_literals
returns-clause-a_topic_and_a_timer c = refl

pub returns-clause-a_topic_that_nobody_declares : goal.returns-clause-a_topic_that_nobody_declares
unfolding transcript_on_literals
returns-clause-a_topic_that_nobody_declares c = refl

pub returns-clause-a_topic_twice : goal.returns-clause-a_topic_twice
unfolding transcript_on_literals
returns-clause-a_topic_twice c = refl

pub returns-clause-an_action_as_a_service : goal.returns-clause-an_action_as_a_service
unfolding transcript_on_literals
returns-clause-an_action_as_a_service c = refl

pub returns-clause-beyond_ascii : goal.returns-clause-beyond_ascii
unfolding transcript_on_literals
returns-clause-beyond_ascii c = refl

pub returns-clause-empty : goal.returns-clause-empty
unfolding transcript_on_literals
returns-clause-empty c = refl

pub returns-clause-empty_and_a_moment_that_is_too_late : goal.returns-clause-empty_and_a_moment_that_is_too_late
unfolding transcript_on_literals
returns-clause-empty_and_a_moment_that_is_too_late c = refl

pub returns-clause-far_beyond_the_limit_and_one_twice : goal.returns-clause-far_beyond_the_limit_and_one_twice
unfolding transcript_on_literals
returns-clause-far_beyond_the_limit_and_one_twice c = refl

pub returns-clause-node_named_as_its_timer : goal.returns-clause-node_named_as_its_timer
unfolding transcript_on_literals
returns-clause-node_named_as_its_timer c = refl

pub returns-clause-of_64_characters : goal.returns-clause-of_64_characters
unfolding transcript_on_literals
returns-clause-of_64_characters c = refl

pub returns-clause-of_65_characters : goal.returns-clause-of_65_characters
unfolding transcript_on_literals
returns-clause-of_65_characters c = refl

pub returns-clause-of_a_topic_a_node_and_a_group_alike : goal.returns-clause-of_a_topic_a_node_and_a_group_alike
unfolding transcript_on_literals
returns-clause-of_a_topic_a_node_and_a_group_alike c = refl

pub returns-clause-of_two_nodes : goal.returns-clause-of_two_nodes
unfolding transcript_on_literals
returns-clause-of_two_nodes c = refl

pub returns-clause-of_two_timers : goal.returns-clause-of_two_timers
unfolding transcript_on_literals
returns-clause-of_two_timers c = refl

pub returns-clause-that_are_empty : goal.returns-clause-that_are_empty
unfolding transcript_on_literals
returns-clause-that_are_empty c = refl

pub returns-clause-two_groups_of_a_node : goal.returns-clause-two_groups_of_a_node
unfolding transcript_on_literals
returns-clause-two_groups_of_a_node c = refl

pub returns-clause-two_timers_in_two_nodes : goal.returns-clause-two_timers_in_two_nodes
unfolding transcript_on_literals
returns-clause-two_timers_in_two_nodes c = refl

pub returns-clause-unknown_group : goal.returns-clause-unknown_group
unfolding transcript_on_literals
returns-clause-unknown_group c = refl

pub returns-clause-with_a_hyphen : goal.returns-clause-with_a_hyphen
unfolding transcript_on_literals
returns-clause-with_a_hyphen c = refl

pub returns-clause-with_a_line_feed_at_the_end : goal.returns-clause-with_a_line_feed_at_the_end
unfolding transcript_on_literals
returns-clause-with_a_line_feed_at_the_end c = refl

pub returns-clause-with_every_sign : goal.returns-clause-with_every_sign
unfolding transcript_on_literals
returns-clause-with_every_sign c = refl

pub returns-clause-with_space : goal.returns-clause-with_space
unfolding transcript_on_literals
returns-clause-with_space c = refl
