use Rattle.std.proofs.Common.{refl}
use Rattle.exec_worked.proofs.OnLiterals.{transcript_on_literals}
use Rattle.exec_worked.proofs.scripts.scripts_cases.Goals as goal

pub returns-clause-a_client_of_another_node : goal.returns-clause-a_client_of_another_node
unfolding transcript_on_literals
returns-clause-a_client_of_another_node c = refl

pub returns-clause-a_destination_that_is_read_only : goal.returns-clause-a_destination_that_is_read_only
unfolding transcript_on_literals
returns-clause-a_destination_that_is_read_only c = refl

pub returns-clause-a_fault_behind_a_group_variable : goal.returns-clause-a_fault_behind_a_group_variable
unfolding transcript_on_literals
returns-clause-a_fault_behind_a_group_variable c = refl

pub returns-clause-a_form_of_cancel_that_is_none : goal.returns-clause-a_form_of_cancel_that_is_none
unfolding transcript_on_literals
returns-clause-a_form_of_cancel_that_is_none c = refl

pub returns-clause-a_number_for_a_word : goal.returns-clause-a_number_for_a_word
unfolding transcript_on_literals
returns-clause-a_number_for_a_word c = refl

pub returns-clause-a_register_8 : goal.returns-clause-a_register_8
unfolding transcript_on_literals
returns-clause-a_register_8 c = refl

pub returns-clause-a_reply_of_a_timer : goal.returns-clause-a_reply_of_a_timer
unfolding transcript_on_literals
returns-clause-a_reply_of_a_timer c = refl

pub returns-clause-a_skip_beyond_the_end : goal.returns-clause-a_skip_beyond_the_end
unfolding transcript_on_literals
returns-clause-a_skip_beyond_the_end c = refl

pub returns-clause-a_skip_by_0 : goal.returns-clause-a_skip_by_0
unfolding transcript_on_literals
returns-clause-a_skip_by_0 c = refl

pub returns-clause-a_skip_by_a_register : goal.returns-clause-a_skip_by_a_register
unfolding transcript_on_literals
returns-clause-a_skip_by_a_register c = refl

pub returns-clause-a_skip_to_the_end : goal.returns-clause-a_skip_to_the_end
unfolding transcript_on_literals
returns-clause-a_skip_to_the_end c = refl

pub returns-clause-a_topic_that_is_not_there : goal.returns-clause-a_topic_that_is_not_there
unfolding transcript_on_literals
returns-clause-a_topic_that_is_not_there c = refl

pub returns-clause-a_word_in_capitals : goal.returns-clause-a_word_in_capitals
unfolding transcript_on_literals
returns-clause-a_word_in_capitals c = refl

pub returns-clause-a_yield_of_a_timer : goal.returns-clause-a_yield_of_a_timer
unfolding transcript_on_literals
returns-clause-a_yield_of_a_timer c = refl

pub returns-clause-an_empty_instruction : goal.returns-clause-an_empty_instruction
unfolding transcript_on_literals
returns-clause-an_empty_instruction c = refl

pub returns-clause-an_operation_that_is_none : goal.returns-clause-an_operation_that_is_none
unfolding transcript_on_literals
returns-clause-an_operation_that_is_none c = refl

pub returns-clause-comparisons : goal.returns-clause-comparisons
unfolding transcript_on_literals
returns-clause-comparisons c = refl

pub returns-clause-decide_in_a_goal : goal.returns-clause-decide_in_a_goal
unfolding transcript_on_literals
returns-clause-decide_in_a_goal c = refl

pub returns-clause-execute_of_another_node : goal.returns-clause-execute_of_another_node
unfolding transcript_on_literals
returns-clause-execute_of_another_node c = refl

pub returns-clause-pub_to_a_timer : goal.returns-clause-pub_to_a_timer
unfolding transcript_on_literals
returns-clause-pub_to_a_timer c = refl

pub returns-clause-pub_to_an_unknown_topic : goal.returns-clause-pub_to_an_unknown_topic
unfolding transcript_on_literals
returns-clause-pub_to_an_unknown_topic c = refl

pub returns-clause-results_at_the_edges : goal.returns-clause-results_at_the_edges
unfolding transcript_on_literals
returns-clause-results_at_the_edges c = refl

pub returns-clause-set_of_in : goal.returns-clause-set_of_in
unfolding transcript_on_literals
returns-clause-set_of_in c = refl

pub returns-clause-skip_beyond_the_end : goal.returns-clause-skip_beyond_the_end
unfolding transcript_on_literals
returns-clause-skip_beyond_the_end c = refl

pub returns-clause-skips : goal.returns-clause-skips
unfolding transcript_on_literals
returns-clause-skips c = refl

pub returns-clause-too_few_items : goal.returns-clause-too_few_items
unfolding transcript_on_literals
returns-clause-too_few_items c = refl

pub returns-clause-too_many_items : goal.returns-clause-too_many_items
unfolding transcript_on_literals
returns-clause-too_many_items c = refl

pub returns-clause-unknown_operation : goal.returns-clause-unknown_operation
unfolding transcript_on_literals
returns-clause-unknown_operation c = refl

pub returns-clause-unknown_word : goal.returns-clause-unknown_word
unfolding transcript_on_literals
returns-clause-unknown_word c = refl
