use Rattle.std.proofs.Common.{refl}
use Rattle.exec_worked.proofs.OnLiterals.{transcript_on_literals}
use Rattle.exec_worked.proofs.order.order_cases.Goals as goal

pub returns-clause-age : goal.returns-clause-age
unfolding transcript_on_literals
returns-clause-age c = refl

pub returns-clause-and_moments_that_go_back : goal.returns-clause-and_moments_that_go_back
unfolding transcript_on_literals
returns-clause-and_moments_that_go_back c = refl

pub returns-clause-by_kind_of_a_cancel_that_meets_a_success : goal.returns-clause-by_kind_of_a_cancel_that_meets_a_success
unfolding transcript_on_literals
returns-clause-by_kind_of_a_cancel_that_meets_a_success c = refl

pub returns-clause-by_kind_of_two_messages : goal.returns-clause-by_kind_of_two_messages
unfolding transcript_on_literals
returns-clause-by_kind_of_two_messages c = refl

pub returns-clause-in_a_list : goal.returns-clause-in_a_list
unfolding transcript_on_literals
returns-clause-in_a_list c = refl

pub returns-clause-in_capitals : goal.returns-clause-in_capitals
unfolding transcript_on_literals
returns-clause-in_capitals c = refl

pub returns-clause-of_a_node : goal.returns-clause-of_a_node
unfolding transcript_on_literals
returns-clause-of_a_node c = refl

pub returns-clause-of_a_number : goal.returns-clause-of_a_number
unfolding transcript_on_literals
returns-clause-of_a_number c = refl

pub returns-clause-of_null : goal.returns-clause-of_null
unfolding transcript_on_literals
returns-clause-of_null c = refl

pub returns-clause-of_the_last_of_two_versions : goal.returns-clause-of_the_last_of_two_versions
unfolding transcript_on_literals
returns-clause-of_the_last_of_two_versions c = refl

pub returns-clause-of_version_1 : goal.returns-clause-of_version_1
unfolding transcript_on_literals
returns-clause-of_version_1 c = refl

pub returns-clause-of_version_3 : goal.returns-clause-of_version_3
unfolding transcript_on_literals
returns-clause-of_version_3 c = refl

pub returns-clause-that_is_right_the_last_time : goal.returns-clause-that_is_right_the_last_time
unfolding transcript_on_literals
returns-clause-that_is_right_the_last_time c = refl

pub returns-clause-that_is_wrong_the_last_time : goal.returns-clause-that_is_wrong_the_last_time
unfolding transcript_on_literals
returns-clause-that_is_wrong_the_last_time c = refl

pub returns-clause-without_a_version : goal.returns-clause-without_a_version
unfolding transcript_on_literals
returns-clause-without_a_version c = refl
