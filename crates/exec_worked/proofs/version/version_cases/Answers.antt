use Rattle.std.proofs.Common.{refl}
use Rattle.exec_worked.proofs.OnLiterals.{transcript_on_literals}
use Rattle.exec_worked.proofs.version.version_cases.Goals as goal

pub returns-clause-version_0 : goal.returns-clause-version_0
unfolding transcript_on_literals
returns-clause-version_0 c = refl

pub returns-clause-version_2 : goal.returns-clause-version_2
unfolding transcript_on_literals
returns-clause-version_2 c = refl

pub returns-clause-version_2_and_moments_that_go_back : goal.returns-clause-version_2_and_moments_that_go_back
unfolding transcript_on_literals
returns-clause-version_2_and_moments_that_go_back c = refl

pub returns-clause-version_2_without_an_order : goal.returns-clause-version_2_without_an_order
unfolding transcript_on_literals
returns-clause-version_2_without_an_order c = refl

pub returns-clause-version_3 : goal.returns-clause-version_3
unfolding transcript_on_literals
returns-clause-version_3 c = refl

pub returns-clause-version_3_and_a_topic_twice : goal.returns-clause-version_3_and_a_topic_twice
unfolding transcript_on_literals
returns-clause-version_3_and_a_topic_twice c = refl

pub returns-clause-version_3_and_moments_that_go_back : goal.returns-clause-version_3_and_moments_that_go_back
unfolding transcript_on_literals
returns-clause-version_3_and_moments_that_go_back c = refl

pub returns-clause-written_twice : goal.returns-clause-written_twice
unfolding transcript_on_literals
returns-clause-written_twice c = refl
