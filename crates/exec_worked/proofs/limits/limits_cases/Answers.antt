use Rattle.std.proofs.Common.{refl}
use Rattle.exec_worked.proofs.OnLiterals.{transcript_on_literals}
use Rattle.exec_worked.proofs.limits.limits_cases.Goals as goal

pub returns-clause-limits_256_groups : goal.returns-clause-limits_256_groups
unfolding transcript_on_literals
returns-clause-limits_256_groups c = refl

pub returns-clause-limits_256_instructions : goal.returns-clause-limits_256_instructions
unfolding transcript_on_literals
returns-clause-limits_256_instructions c = refl

pub returns-clause-limits_256_topics : goal.returns-clause-limits_256_topics
unfolding transcript_on_literals
returns-clause-limits_256_topics c = refl

pub returns-clause-limits_257_empty_instructions : goal.returns-clause-limits_257_empty_instructions
unfolding transcript_on_literals
returns-clause-limits_257_empty_instructions c = refl

pub returns-clause-limits_257_groups : goal.returns-clause-limits_257_groups
unfolding transcript_on_literals
returns-clause-limits_257_groups c = refl

pub returns-clause-limits_257_instructions : goal.returns-clause-limits_257_instructions
unfolding transcript_on_literals
returns-clause-limits_257_instructions c = refl

pub returns-clause-limits_257_topics : goal.returns-clause-limits_257_topics
unfolding transcript_on_literals
returns-clause-limits_257_topics c = refl

pub returns-clause-limits_512_timers : goal.returns-clause-limits_512_timers
unfolding transcript_on_literals
returns-clause-limits_512_timers c = refl

pub returns-clause-limits_513_timers : goal.returns-clause-limits_513_timers
unfolding transcript_on_literals
returns-clause-limits_513_timers c = refl

pub returns-clause-limits_513_timers_of_27_nodes : goal.returns-clause-limits_513_timers_of_27_nodes
unfolding transcript_on_literals
returns-clause-limits_513_timers_of_27_nodes c = refl

pub returns-clause-limits_64_nodes : goal.returns-clause-limits_64_nodes
unfolding transcript_on_literals
returns-clause-limits_64_nodes c = refl

pub returns-clause-limits_64_nodes_of_8_timers : goal.returns-clause-limits_64_nodes_of_8_timers
unfolding transcript_on_literals
returns-clause-limits_64_nodes_of_8_timers c = refl

pub returns-clause-limits_65_nodes : goal.returns-clause-limits_65_nodes
unfolding transcript_on_literals
returns-clause-limits_65_nodes c = refl

pub returns-clause-a_depth_of_0 : goal.returns-clause-a_depth_of_0
unfolding transcript_on_literals
returns-clause-a_depth_of_0 c = refl

pub returns-clause-a_depth_of_1024 : goal.returns-clause-a_depth_of_1024
unfolding transcript_on_literals
returns-clause-a_depth_of_1024 c = refl

pub returns-clause-a_depth_of_1025 : goal.returns-clause-a_depth_of_1025
unfolding transcript_on_literals
returns-clause-a_depth_of_1025 c = refl

pub returns-clause-a_moment_that_is_too_late : goal.returns-clause-a_moment_that_is_too_late
unfolding transcript_on_literals
returns-clause-a_moment_that_is_too_late c = refl

pub returns-clause-a_period_of_0 : goal.returns-clause-a_period_of_0
unfolding transcript_on_literals
returns-clause-a_period_of_0 c = refl

pub returns-clause-a_period_of_0_and_an_unknown_topic : goal.returns-clause-a_period_of_0_and_an_unknown_topic
unfolding transcript_on_literals
returns-clause-a_period_of_0_and_an_unknown_topic c = refl

pub returns-clause-a_stamp_that_is_too_late : goal.returns-clause-a_stamp_that_is_too_late
unfolding transcript_on_literals
returns-clause-a_stamp_that_is_too_late c = refl

pub returns-clause-a_timeout_that_is_too_long : goal.returns-clause-a_timeout_that_is_too_long
unfolding transcript_on_literals
returns-clause-a_timeout_that_is_too_long c = refl

pub returns-clause-greatest_moment : goal.returns-clause-greatest_moment
unfolding transcript_on_literals
returns-clause-greatest_moment c = refl

pub returns-clause-greatest_period : goal.returns-clause-greatest_period
unfolding transcript_on_literals
returns-clause-greatest_period c = refl

pub returns-clause-one_tick_beyond_the_greatest_period : goal.returns-clause-one_tick_beyond_the_greatest_period
unfolding transcript_on_literals
returns-clause-one_tick_beyond_the_greatest_period c = refl

pub returns-clause-the_greatest_period : goal.returns-clause-the_greatest_period
unfolding transcript_on_literals
returns-clause-the_greatest_period c = refl

pub returns-clause-the_latest_stamp : goal.returns-clause-the_latest_stamp
unfolding transcript_on_literals
returns-clause-the_latest_stamp c = refl

pub returns-clause-the_longest_timeout : goal.returns-clause-the_longest_timeout
unfolding transcript_on_literals
returns-clause-the_longest_timeout c = refl
