use Rattle.std.proofs.Common.{refl}
use Rattle.exec_worked.proofs.OnLiterals.{transcript_on_literals}
use Rattle.exec_worked.proofs.arrival.arrival_cases.Goals as goal

pub returns-clause-before_its_version : goal.returns-clause-before_its_version
unfolding transcript_on_literals
returns-clause-before_its_version c = refl

pub returns-clause-in_version_1 : goal.returns-clause-in_version_1
unfolding transcript_on_literals
returns-clause-in_version_1 c = refl

pub returns-clause-of_a_cancel_after_a_poll_that_waits : goal.returns-clause-of_a_cancel_after_a_poll_that_waits
unfolding transcript_on_literals
returns-clause-of_a_cancel_after_a_poll_that_waits c = refl

pub returns-clause-of_a_cancel_after_a_success : goal.returns-clause-of_a_cancel_after_a_success
unfolding transcript_on_literals
returns-clause-of_a_cancel_after_a_success c = refl

pub returns-clause-of_a_cancel_by_a_stamp_after_a_success : goal.returns-clause-of_a_cancel_by_a_stamp_after_a_success
unfolding transcript_on_literals
returns-clause-of_a_cancel_by_a_stamp_after_a_success c = refl

pub returns-clause-of_a_cancel_of_another_goal_after_a_success : goal.returns-clause-of_a_cancel_of_another_goal_after_a_success
unfolding transcript_on_literals
returns-clause-of_a_cancel_of_another_goal_after_a_success c = refl

pub returns-clause-of_a_cancel_of_two_goals_of_which_one_ends : goal.returns-clause-of_a_cancel_of_two_goals_of_which_one_ends
unfolding transcript_on_literals
returns-clause-of_a_cancel_of_two_goals_of_which_one_ends c = refl

pub returns-clause-of_a_cancel_that_is_refused_after_a_success : goal.returns-clause-of_a_cancel_that_is_refused_after_a_success
unfolding transcript_on_literals
returns-clause-of_a_cancel_that_is_refused_after_a_success c = refl

pub returns-clause-of_a_cancel_that_waited_before_a_poll : goal.returns-clause-of_a_cancel_that_waited_before_a_poll
unfolding transcript_on_literals
returns-clause-of_a_cancel_that_waited_before_a_poll c = refl

pub returns-clause-of_a_canceled_goal_before_a_message : goal.returns-clause-of_a_canceled_goal_before_a_message
unfolding transcript_on_literals
returns-clause-of_a_canceled_goal_before_a_message c = refl

pub returns-clause-of_a_deferred_goal_before_a_message : goal.returns-clause-of_a_deferred_goal_before_a_message
unfolding transcript_on_literals
returns-clause-of_a_deferred_goal_before_a_message c = refl

pub returns-clause-of_a_message_at_two_nodes : goal.returns-clause-of_a_message_at_two_nodes
unfolding transcript_on_literals
returns-clause-of_a_message_at_two_nodes c = refl

pub returns-clause-of_a_message_that_displaces_another : goal.returns-clause-of_a_message_that_displaces_another
unfolding transcript_on_literals
returns-clause-of_a_message_that_displaces_another c = refl

pub returns-clause-of_a_poll_after_a_message : goal.returns-clause-of_a_poll_after_a_message
unfolding transcript_on_literals
returns-clause-of_a_poll_after_a_message c = refl

pub returns-clause-of_all_kinds : goal.returns-clause-of_all_kinds
unfolding transcript_on_literals
returns-clause-of_all_kinds c = refl

pub returns-clause-of_feedback_before_the_next_poll : goal.returns-clause-of_feedback_before_the_next_poll
unfolding transcript_on_literals
returns-clause-of_feedback_before_the_next_poll c = refl

pub returns-clause-of_messages_that_waited : goal.returns-clause-of_messages_that_waited
unfolding transcript_on_literals
returns-clause-of_messages_that_waited c = refl

pub returns-clause-of_two_messages : goal.returns-clause-of_two_messages
unfolding transcript_on_literals
returns-clause-of_two_messages c = refl
