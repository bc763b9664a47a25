use Rattle.std.proofs.Common.{refl}
use Rattle.exec_worked.proofs.OnLiterals.{transcript_on_literals}
use Rattle.exec_worked.proofs.shape.shape_cases.Goals as goal

pub returns-clause-a_fraction_in_an_instruction : goal.returns-clause-a_fraction_in_an_instruction
unfolding transcript_on_literals
returns-clause-a_fraction_in_an_instruction c = refl

pub returns-clause-a_goal_request_without_an_action : goal.returns-clause-a_goal_request_without_an_action
unfolding transcript_on_literals
returns-clause-a_goal_request_without_an_action c = refl

pub returns-clause-a_kind_of_group_that_is_none : goal.returns-clause-a_kind_of_group_that_is_none
unfolding transcript_on_literals
returns-clause-a_kind_of_group_that_is_none c = refl

pub returns-clause-a_list : goal.returns-clause-a_list
unfolding transcript_on_literals
returns-clause-a_list c = refl

pub returns-clause-a_message_without_a_value : goal.returns-clause-a_message_without_a_value
unfolding transcript_on_literals
returns-clause-a_message_without_a_value c = refl

pub returns-clause-a_moment_below_0 : goal.returns-clause-a_moment_below_0
unfolding transcript_on_literals
returns-clause-a_moment_below_0 c = refl

pub returns-clause-a_moment_beyond_64_bits : goal.returns-clause-a_moment_beyond_64_bits
unfolding transcript_on_literals
returns-clause-a_moment_beyond_64_bits c = refl

pub returns-clause-a_moment_of_minus_0 : goal.returns-clause-a_moment_of_minus_0
unfolding transcript_on_literals
returns-clause-a_moment_of_minus_0 c = refl

pub returns-clause-a_moment_of_null_and_version_3 : goal.returns-clause-a_moment_of_null_and_version_3
unfolding transcript_on_literals
returns-clause-a_moment_of_null_and_version_3 c = refl

pub returns-clause-a_node_without_a_name : goal.returns-clause-a_node_without_a_name
unfolding transcript_on_literals
returns-clause-a_node_without_a_name c = refl

pub returns-clause-a_timer_without_a_period : goal.returns-clause-a_timer_without_a_period
unfolding transcript_on_literals
returns-clause-a_timer_without_a_period c = refl

pub returns-clause-a_topic_that_is_a_number : goal.returns-clause-a_topic_that_is_a_number
unfolding transcript_on_literals
returns-clause-a_topic_that_is_a_number c = refl

pub returns-clause-a_value_beyond_64_bits : goal.returns-clause-a_value_beyond_64_bits
unfolding transcript_on_literals
returns-clause-a_value_beyond_64_bits c = refl

pub returns-clause-a_version_in_quotes : goal.returns-clause-a_version_in_quotes
unfolding transcript_on_literals
returns-clause-a_version_in_quotes c = refl

pub returns-clause-a_version_with_a_fraction : goal.returns-clause-a_version_with_a_fraction
unfolding transcript_on_literals
returns-clause-a_version_with_a_fraction c = refl

pub returns-clause-an_entry_of_a_topic_and_a_goal_of_null : goal.returns-clause-an_entry_of_a_topic_and_a_goal_of_null
unfolding transcript_on_literals
returns-clause-an_entry_of_a_topic_and_a_goal_of_null c = refl

pub returns-clause-an_entry_of_a_topic_of_null : goal.returns-clause-an_entry_of_a_topic_of_null
unfolding transcript_on_literals
returns-clause-an_entry_of_a_topic_of_null c = refl

pub returns-clause-an_entry_of_two_forms : goal.returns-clause-an_entry_of_two_forms
unfolding transcript_on_literals
returns-clause-an_entry_of_two_forms c = refl

pub returns-clause-an_entry_that_feeds_nothing : goal.returns-clause-an_entry_that_feeds_nothing
unfolding transcript_on_literals
returns-clause-an_entry_that_feeds_nothing c = refl

pub returns-clause-an_instruction_that_is_a_text : goal.returns-clause-an_instruction_that_is_a_text
unfolding transcript_on_literals
returns-clause-an_instruction_that_is_a_text c = refl

pub returns-clause-boolean_in_an_instruction : goal.returns-clause-boolean_in_an_instruction
unfolding transcript_on_literals
returns-clause-boolean_in_an_instruction c = refl

pub returns-clause-empty_lists_and_unknown_fields : goal.returns-clause-empty_lists_and_unknown_fields
unfolding transcript_on_literals
returns-clause-empty_lists_and_unknown_fields c = refl

pub returns-clause-feed_entry_as_number : goal.returns-clause-feed_entry_as_number
unfolding transcript_on_literals
returns-clause-feed_entry_as_number c = refl

pub returns-clause-feed_null : goal.returns-clause-feed_null
unfolding transcript_on_literals
returns-clause-feed_null c = refl

pub returns-clause-group_of_another_kind : goal.returns-clause-group_of_another_kind
unfolding transcript_on_literals
returns-clause-group_of_another_kind c = refl

pub returns-clause-groups_null : goal.returns-clause-groups_null
unfolding transcript_on_literals
returns-clause-groups_null c = refl

pub returns-clause-ignored_fields : goal.returns-clause-ignored_fields
unfolding transcript_on_literals
returns-clause-ignored_fields c = refl

pub returns-clause-instruction_as_number : goal.returns-clause-instruction_as_number
unfolding transcript_on_literals
returns-clause-instruction_as_number c = refl

pub returns-clause-instruction_null : goal.returns-clause-instruction_null
unfolding transcript_on_literals
returns-clause-instruction_null c = refl

pub returns-clause-minus_0_as_the_version : goal.returns-clause-minus_0_as_the_version
unfolding transcript_on_literals
returns-clause-minus_0_as_the_version c = refl

pub returns-clause-moment_as_text : goal.returns-clause-moment_as_text
unfolding transcript_on_literals
returns-clause-moment_as_text c = refl

pub returns-clause-moment_null : goal.returns-clause-moment_null
unfolding transcript_on_literals
returns-clause-moment_null c = refl

pub returns-clause-moment_with_fraction : goal.returns-clause-moment_with_fraction
unfolding transcript_on_literals
returns-clause-moment_with_fraction c = refl

pub returns-clause-moments_as_object : goal.returns-clause-moments_as_object
unfolding transcript_on_literals
returns-clause-moments_as_object c = refl

pub returns-clause-moments_null : goal.returns-clause-moments_null
unfolding transcript_on_literals
returns-clause-moments_null c = refl

pub returns-clause-node_as_number : goal.returns-clause-node_as_number
unfolding transcript_on_literals
returns-clause-node_as_number c = refl

pub returns-clause-node_name_as_number : goal.returns-clause-node_name_as_number
unfolding transcript_on_literals
returns-clause-node_name_as_number c = refl

pub returns-clause-node_name_null : goal.returns-clause-node_name_null
unfolding transcript_on_literals
returns-clause-node_name_null c = refl

pub returns-clause-nodes_as_object : goal.returns-clause-nodes_as_object
unfolding transcript_on_literals
returns-clause-nodes_as_object c = refl

pub returns-clause-nodes_null : goal.returns-clause-nodes_null
unfolding transcript_on_literals
returns-clause-nodes_null c = refl

pub returns-clause-null : goal.returns-clause-null
unfolding transcript_on_literals
returns-clause-null c = refl

pub returns-clause-null_beside_a_topic : goal.returns-clause-null_beside_a_topic
unfolding transcript_on_literals
returns-clause-null_beside_a_topic c = refl

pub returns-clause-null_for_a_group : goal.returns-clause-null_for_a_group
unfolding transcript_on_literals
returns-clause-null_for_a_group c = refl

pub returns-clause-null_for_a_script : goal.returns-clause-null_for_a_script
unfolding transcript_on_literals
returns-clause-null_for_a_script c = refl

pub returns-clause-null_for_topics : goal.returns-clause-null_for_topics
unfolding transcript_on_literals
returns-clause-null_for_topics c = refl

pub returns-clause-null_in_an_instruction : goal.returns-clause-null_in_an_instruction
unfolding transcript_on_literals
returns-clause-null_in_an_instruction c = refl

pub returns-clause-number : goal.returns-clause-number
unfolding transcript_on_literals
returns-clause-number c = refl

pub returns-clause-one_of_each_object : goal.returns-clause-one_of_each_object
unfolding transcript_on_literals
returns-clause-one_of_each_object c = refl

pub returns-clause-period_as_text : goal.returns-clause-period_as_text
unfolding transcript_on_literals
returns-clause-period_as_text c = refl

pub returns-clause-period_below_0 : goal.returns-clause-period_below_0
unfolding transcript_on_literals
returns-clause-period_below_0 c = refl

pub returns-clause-period_beyond_64_bits : goal.returns-clause-period_beyond_64_bits
unfolding transcript_on_literals
returns-clause-period_beyond_64_bits c = refl

pub returns-clause-period_null : goal.returns-clause-period_null
unfolding transcript_on_literals
returns-clause-period_null c = refl

pub returns-clause-period_with_fraction : goal.returns-clause-period_with_fraction
unfolding transcript_on_literals
returns-clause-period_with_fraction c = refl

pub returns-clause-script_as_object : goal.returns-clause-script_as_object
unfolding transcript_on_literals
returns-clause-script_as_object c = refl

pub returns-clause-text : goal.returns-clause-text
unfolding transcript_on_literals
returns-clause-text c = refl

pub returns-clause-timer_as_number : goal.returns-clause-timer_as_number
unfolding transcript_on_literals
returns-clause-timer_as_number c = refl

pub returns-clause-timer_without_name : goal.returns-clause-timer_without_name
unfolding transcript_on_literals
returns-clause-timer_without_name c = refl

pub returns-clause-timer_without_name_and_period : goal.returns-clause-timer_without_name_and_period
unfolding transcript_on_literals
returns-clause-timer_without_name_and_period c = refl

pub returns-clause-timers_as_object : goal.returns-clause-timers_as_object
unfolding transcript_on_literals
returns-clause-timers_as_object c = refl

pub returns-clause-timers_null : goal.returns-clause-timers_null
unfolding transcript_on_literals
returns-clause-timers_null c = refl

pub returns-clause-unknown_fields_of_all_objects : goal.returns-clause-unknown_fields_of_all_objects
unfolding transcript_on_literals
returns-clause-unknown_fields_of_all_objects c = refl

pub returns-clause-version_as_list : goal.returns-clause-version_as_list
unfolding transcript_on_literals
returns-clause-version_as_list c = refl

pub returns-clause-version_below_0 : goal.returns-clause-version_below_0
unfolding transcript_on_literals
returns-clause-version_below_0 c = refl

pub returns-clause-version_null : goal.returns-clause-version_null
unfolding transcript_on_literals
returns-clause-version_null c = refl

pub returns-clause-without_version : goal.returns-clause-without_version
unfolding transcript_on_literals
returns-clause-without_version c = refl
