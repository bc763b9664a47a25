use Rattle.std.proofs.Common.{refl}
use Rattle.exec_worked.proofs.OnLiterals.{transcript_on_literals}
use Rattle.exec_worked.proofs.ids.ids_cases.Goals as goal

pub returns-clause-ids_32_digits_in_braces : goal.returns-clause-ids_32_digits_in_braces
unfolding transcript_on_literals
returns-clause-ids_32_digits_in_braces c = refl

pub returns-clause-a_cancel_of_zeros : goal.returns-clause-a_cancel_of_zeros
unfolding transcript_on_literals
returns-clause-a_cancel_of_zeros c = refl

pub returns-clause-a_goal_of_zeros : goal.returns-clause-a_goal_of_zeros
unfolding transcript_on_literals
returns-clause-a_goal_of_zeros c = refl

pub returns-clause-a_goal_of_zeros_behind_the_prefix : goal.returns-clause-a_goal_of_zeros_behind_the_prefix
unfolding transcript_on_literals
returns-clause-a_goal_of_zeros_behind_the_prefix c = refl

pub returns-clause-a_goal_of_zeros_in_braces : goal.returns-clause-a_goal_of_zeros_in_braces
unfolding transcript_on_literals
returns-clause-a_goal_of_zeros_in_braces c = refl

pub returns-clause-a_hyphen_in_another_place : goal.returns-clause-a_hyphen_in_another_place
unfolding transcript_on_literals
returns-clause-a_hyphen_in_another_place c = refl

pub returns-clause-a_prefix_before_32_digits : goal.returns-clause-a_prefix_before_32_digits
unfolding transcript_on_literals
returns-clause-a_prefix_before_32_digits c = refl

pub returns-clause-a_text_that_is_none : goal.returns-clause-a_text_that_is_none
unfolding transcript_on_literals
returns-clause-a_text_that_is_none c = refl

pub returns-clause-an_empty_text : goal.returns-clause-an_empty_text
unfolding transcript_on_literals
returns-clause-an_empty_text c = refl

pub returns-clause-behind_the_prefix : goal.returns-clause-behind_the_prefix
unfolding transcript_on_literals
returns-clause-behind_the_prefix c = refl

pub returns-clause-in_braces : goal.returns-clause-in_braces
unfolding transcript_on_literals
returns-clause-in_braces c = refl

pub returns-clause-of_32_digits : goal.returns-clause-of_32_digits
unfolding transcript_on_literals
returns-clause-of_32_digits c = refl

pub returns-clause-of_zeros : goal.returns-clause-of_zeros
unfolding transcript_on_literals
returns-clause-of_zeros c = refl
