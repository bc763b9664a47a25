use Rattle.std.proofs.Common.{refl}
use Rattle.exec_worked.proofs.OnLiterals.{transcript_on_literals}
use Rattle.exec_worked.proofs.examples.examples_cases.Goals as goal

pub returns-clause-action : goal.returns-clause-action
unfolding transcript_on_literals
returns-clause-action c = refl

pub returns-clause-cancel : goal.returns-clause-cancel
unfolding transcript_on_literals
returns-clause-cancel c = refl

pub returns-clause-cancel_after_success : goal.returns-clause-cancel_after_success
unfolding transcript_on_literals
returns-clause-cancel_after_success c = refl

pub returns-clause-cancel_and_success : goal.returns-clause-cancel_and_success
unfolding transcript_on_literals
returns-clause-cancel_and_success c = refl

pub returns-clause-cancel_by_identifier : goal.returns-clause-cancel_by_identifier
unfolding transcript_on_literals
returns-clause-cancel_by_identifier c = refl

pub returns-clause-cancel_by_stamp : goal.returns-clause-cancel_by_stamp
unfolding transcript_on_literals
returns-clause-cancel_by_stamp c = refl

pub returns-clause-cancel_while_waiting : goal.returns-clause-cancel_while_waiting
unfolding transcript_on_literals
returns-clause-cancel_while_waiting c = refl

pub returns-clause-deferred : goal.returns-clause-deferred
unfolding transcript_on_literals
returns-clause-deferred c = refl

pub returns-clause-empty : goal.returns-clause-empty
unfolding transcript_on_literals
returns-clause-empty c = refl

pub returns-clause-groups : goal.returns-clause-groups
unfolding transcript_on_literals
returns-clause-groups c = refl

pub returns-clause-keep_last : goal.returns-clause-keep_last
unfolding transcript_on_literals
returns-clause-keep_last c = refl

pub returns-clause-navigation : goal.returns-clause-navigation
unfolding transcript_on_literals
returns-clause-navigation c = refl

pub returns-clause-repeated_moment : goal.returns-clause-repeated_moment
unfolding transcript_on_literals
returns-clause-repeated_moment c = refl

pub returns-clause-result_expires : goal.returns-clause-result_expires
unfolding transcript_on_literals
returns-clause-result_expires c = refl

pub returns-clause-robot : goal.returns-clause-robot
unfolding transcript_on_literals
returns-clause-robot c = refl

pub returns-clause-service : goal.returns-clause-service
unfolding transcript_on_literals
returns-clause-service c = refl

pub returns-clause-stop_by_arrival : goal.returns-clause-stop_by_arrival
unfolding transcript_on_literals
returns-clause-stop_by_arrival c = refl

pub returns-clause-stop_by_kind : goal.returns-clause-stop_by_kind
unfolding transcript_on_literals
returns-clause-stop_by_kind c = refl

pub returns-clause-timer : goal.returns-clause-timer
unfolding transcript_on_literals
returns-clause-timer c = refl

pub returns-clause-topic : goal.returns-clause-topic
unfolding transcript_on_literals
returns-clause-topic c = refl

pub returns-clause-topic_chain : goal.returns-clause-topic_chain
unfolding transcript_on_literals
returns-clause-topic_chain c = refl

pub returns-clause-two_clients : goal.returns-clause-two_clients
unfolding transcript_on_literals
returns-clause-two_clients c = refl

pub returns-clause-two_timers : goal.returns-clause-two_timers
unfolding transcript_on_literals
returns-clause-two_timers c = refl

pub returns-clause-warehouse : goal.returns-clause-warehouse
unfolding transcript_on_literals
returns-clause-warehouse c = refl

pub returns-clause-wrapping : goal.returns-clause-wrapping
unfolding transcript_on_literals
returns-clause-wrapping c = refl
