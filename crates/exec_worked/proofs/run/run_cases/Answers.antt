use Rattle.std.proofs.Common.{refl}
use Rattle.exec_worked.proofs.OnLiterals.{transcript_on_literals}
use Rattle.exec_worked.proofs.run.run_cases.Goals as goal

pub returns-clause-a_call_and_its_reply : goal.returns-clause-a_call_and_its_reply
unfolding transcript_on_literals
returns-clause-a_call_and_its_reply c = refl

pub returns-clause-a_message_is_taken_a_round_later : goal.returns-clause-a_message_is_taken_a_round_later
unfolding transcript_on_literals
returns-clause-a_message_is_taken_a_round_later c = refl

pub returns-clause-a_service_without_a_script : goal.returns-clause-a_service_without_a_script
unfolding transcript_on_literals
returns-clause-a_service_without_a_script c = refl

pub returns-clause-action_client : goal.returns-clause-action_client
unfolding transcript_on_literals
returns-clause-action_client c = refl

pub returns-clause-cancel_by_identifier_or_stamp : goal.returns-clause-cancel_by_identifier_or_stamp
unfolding transcript_on_literals
returns-clause-cancel_by_identifier_or_stamp c = refl

pub returns-clause-cancel_handler_that_reads_the_state : goal.returns-clause-cancel_handler_that_reads_the_state
unfolding transcript_on_literals
returns-clause-cancel_handler_that_reads_the_state c = refl

pub returns-clause-cancel_of_a_goal_that_ended : goal.returns-clause-cancel_of_a_goal_that_ended
unfolding transcript_on_literals
returns-clause-cancel_of_a_goal_that_ended c = refl

pub returns-clause-cancel_of_a_goal_that_is_canceling : goal.returns-clause-cancel_of_a_goal_that_is_canceling
unfolding transcript_on_literals
returns-clause-cancel_of_a_goal_that_is_canceling c = refl

pub returns-clause-cancel_of_all_goals : goal.returns-clause-cancel_of_all_goals
unfolding transcript_on_literals
returns-clause-cancel_of_all_goals c = refl

pub returns-clause-cancel_of_an_unknown_goal : goal.returns-clause-cancel_of_an_unknown_goal
unfolding transcript_on_literals
returns-clause-cancel_of_an_unknown_goal c = refl

pub returns-clause-cancel_requests_beyond_a_depth_of_1 : goal.returns-clause-cancel_requests_beyond_a_depth_of_1
unfolding transcript_on_literals
returns-clause-cancel_requests_beyond_a_depth_of_1 c = refl

pub returns-clause-cancel_requests_of_each_form : goal.returns-clause-cancel_requests_of_each_form
unfolding transcript_on_literals
returns-clause-cancel_requests_of_each_form c = refl

pub returns-clause-cancel_that_is_rejected : goal.returns-clause-cancel_that_is_rejected
unfolding transcript_on_literals
returns-clause-cancel_that_is_rejected c = refl

pub returns-clause-cancel_that_meets_a_success : goal.returns-clause-cancel_that_meets_a_success
unfolding transcript_on_literals
returns-clause-cancel_that_meets_a_success c = refl

pub returns-clause-cancel_up_to_a_stamp : goal.returns-clause-cancel_up_to_a_stamp
unfolding transcript_on_literals
returns-clause-cancel_up_to_a_stamp c = refl

pub returns-clause-cancel_up_to_a_stamp_that_is_rejected : goal.returns-clause-cancel_up_to_a_stamp_that_is_rejected
unfolding transcript_on_literals
returns-clause-cancel_up_to_a_stamp_that_is_rejected c = refl

pub returns-clause-canceled_that_nobody_asked_for : goal.returns-clause-canceled_that_nobody_asked_for
unfolding transcript_on_literals
returns-clause-canceled_that_nobody_asked_for c = refl

pub returns-clause-client : goal.returns-clause-client
unfolding transcript_on_literals
returns-clause-client c = refl

pub returns-clause-client_that_cancels_its_goals : goal.returns-clause-client_that_cancels_its_goals
unfolding transcript_on_literals
returns-clause-client_that_cancels_its_goals c = refl

pub returns-clause-deferred_goal_that_is_executed : goal.returns-clause-deferred_goal_that_is_executed
unfolding transcript_on_literals
returns-clause-deferred_goal_that_is_executed c = refl

pub returns-clause-eleven_messages_without_a_depth : goal.returns-clause-eleven_messages_without_a_depth
unfolding transcript_on_literals
returns-clause-eleven_messages_without_a_depth c = refl

pub returns-clause-expiry_before_what_is_fed : goal.returns-clause-expiry_before_what_is_fed
unfolding transcript_on_literals
returns-clause-expiry_before_what_is_fed c = refl

pub returns-clause-feedback_and_a_result : goal.returns-clause-feedback_and_a_result
unfolding transcript_on_literals
returns-clause-feedback_and_a_result c = refl

pub returns-clause-feedback_beyond_a_depth_of_1 : goal.returns-clause-feedback_beyond_a_depth_of_1
unfolding transcript_on_literals
returns-clause-feedback_beyond_a_depth_of_1 c = refl

pub returns-clause-four_groups_of_two_timers : goal.returns-clause-four_groups_of_two_timers
unfolding transcript_on_literals
returns-clause-four_groups_of_two_timers c = refl

pub returns-clause-goal_requests_beyond_a_depth_of_1 : goal.returns-clause-goal_requests_beyond_a_depth_of_1
unfolding transcript_on_literals
returns-clause-goal_requests_beyond_a_depth_of_1 c = refl

pub returns-clause-goal_that_ends_as_canceled : goal.returns-clause-goal_that_ends_as_canceled
unfolding transcript_on_literals
returns-clause-goal_that_ends_as_canceled c = refl

pub returns-clause-goal_that_its_handler_rejects : goal.returns-clause-goal_that_its_handler_rejects
unfolding transcript_on_literals
returns-clause-goal_that_its_handler_rejects c = refl

pub returns-clause-goals_that_expire_together : goal.returns-clause-goals_that_expire_together
unfolding transcript_on_literals
returns-clause-goals_that_expire_together c = refl

pub returns-clause-groups_of_both_kinds : goal.returns-clause-groups_of_both_kinds
unfolding transcript_on_literals
returns-clause-groups_of_both_kinds c = refl

pub returns-clause-identifier_that_is_accepted_anew : goal.returns-clause-identifier_that_is_accepted_anew
unfolding transcript_on_literals
returns-clause-identifier_that_is_accepted_anew c = refl

pub returns-clause-identifier_that_is_held : goal.returns-clause-identifier_that_is_held
unfolding transcript_on_literals
returns-clause-identifier_that_is_held c = refl

pub returns-clause-lanes_of_three_groups : goal.returns-clause-lanes_of_three_groups
unfolding transcript_on_literals
returns-clause-lanes_of_three_groups c = refl

pub returns-clause-many_goals_that_expire_together : goal.returns-clause-many_goals_that_expire_together
unfolding transcript_on_literals
returns-clause-many_goals_that_expire_together c = refl

pub returns-clause-result_that_expires_before_it_is_asked_for : goal.returns-clause-result_that_expires_before_it_is_asked_for
unfolding transcript_on_literals
returns-clause-result_that_expires_before_it_is_asked_for c = refl

pub returns-clause-result_that_is_told_before_it_expires : goal.returns-clause-result_that_is_told_before_it_expires
unfolding transcript_on_literals
returns-clause-result_that_is_told_before_it_expires c = refl

pub returns-clause-results_beyond_a_depth_of_1 : goal.returns-clause-results_beyond_a_depth_of_1
unfolding transcript_on_literals
returns-clause-results_beyond_a_depth_of_1 c = refl

pub returns-clause-server : goal.returns-clause-server
unfolding transcript_on_literals
returns-clause-server c = refl

pub returns-clause-service : goal.returns-clause-service
unfolding transcript_on_literals
returns-clause-service c = refl

pub returns-clause-sixty_five_polls_in_a_round : goal.returns-clause-sixty_five_polls_in_a_round
unfolding transcript_on_literals
returns-clause-sixty_five_polls_in_a_round c = refl

pub returns-clause-subscription : goal.returns-clause-subscription
unfolding transcript_on_literals
returns-clause-subscription c = refl

pub returns-clause-three_exclusive_groups : goal.returns-clause-three_exclusive_groups
unfolding transcript_on_literals
returns-clause-three_exclusive_groups c = refl

pub returns-clause-three_messages_into_a_depth_of_2 : goal.returns-clause-three_messages_into_a_depth_of_2
unfolding transcript_on_literals
returns-clause-three_messages_into_a_depth_of_2 c = refl

pub returns-clause-timers_at_their_times : goal.returns-clause-timers_at_their_times
unfolding transcript_on_literals
returns-clause-timers_at_their_times c = refl

pub returns-clause-topic : goal.returns-clause-topic
unfolding transcript_on_literals
returns-clause-topic c = refl

pub returns-clause-two_calls_into_a_depth_of_1 : goal.returns-clause-two_calls_into_a_depth_of_1
unfolding transcript_on_literals
returns-clause-two_calls_into_a_depth_of_1 c = refl

pub returns-clause-two_clients_of_a_server : goal.returns-clause-two_clients_of_a_server
unfolding transcript_on_literals
returns-clause-two_clients_of_a_server c = refl

pub returns-clause-two_exclusive_groups : goal.returns-clause-two_exclusive_groups
unfolding transcript_on_literals
returns-clause-two_exclusive_groups c = refl

pub returns-clause-wait_that_a_cancel_ends : goal.returns-clause-wait_that_a_cancel_ends
unfolding transcript_on_literals
returns-clause-wait_that_a_cancel_ends c = refl

pub returns-clause-yield_at_moments_alike : goal.returns-clause-yield_at_moments_alike
unfolding transcript_on_literals
returns-clause-yield_at_moments_alike c = refl
