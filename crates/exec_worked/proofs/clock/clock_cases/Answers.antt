use Rattle.std.proofs.Common.{refl}
use Rattle.exec_worked.proofs.OnLiterals.{transcript_on_literals}
use Rattle.exec_worked.proofs.clock.clock_cases.Goals as goal

pub returns-clause-a_moment_that_goes_back : goal.returns-clause-a_moment_that_goes_back
unfolding transcript_on_literals
returns-clause-a_moment_that_goes_back c = refl

pub returns-clause-a_round_0 : goal.returns-clause-a_round_0
unfolding transcript_on_literals
returns-clause-a_round_0 c = refl

pub returns-clause-a_round_beyond_the_moments : goal.returns-clause-a_round_beyond_the_moments
unfolding transcript_on_literals
returns-clause-a_round_beyond_the_moments c = refl

pub returns-clause-and_no_identifier : goal.returns-clause-and_no_identifier
unfolding transcript_on_literals
returns-clause-and_no_identifier c = refl

pub returns-clause-feed_beyond_the_rounds : goal.returns-clause-feed_beyond_the_rounds
unfolding transcript_on_literals
returns-clause-feed_beyond_the_rounds c = refl

pub returns-clause-moments_alike : goal.returns-clause-moments_alike
unfolding transcript_on_literals
returns-clause-moments_alike c = refl

pub returns-clause-the_greatest_round : goal.returns-clause-the_greatest_round
unfolding transcript_on_literals
returns-clause-the_greatest_round c = refl
