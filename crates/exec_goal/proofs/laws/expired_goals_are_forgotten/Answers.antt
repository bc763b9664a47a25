use Rattle.std.proofs.Common.{◌≡◌, ℕ, ◌+◌, true, false, nat_le, not, Option, None, Some}
use Rattle.std.proofs.lemmas.Bool.{and_parts, not-true}
use Rattle.std.proofs.lemmas.List.Elements.{filter_passes, All-weaker}
use Rattle.exec_goal.specs.State.{is_terminal}
use Rattle.exec_goal.specs.Table.{GoalRecord, is_expired, expired, unexpired}
use Rattle.exec_goal.proofs.laws.expired_goals_are_forgotten.Goals as goal

expired_ended : (moment : ℕ) (timeout : Option ℕ) (held : GoalRecord) → is_expired moment timeout held ≡ true → is_terminal held.state ≡ true
expired_ended moment None held is = absurd cc
expired_ended moment (Some timeout) held is = (and_parts (is_terminal held.state) (nat_le (held.ended + timeout) moment) is).0

pub returns : goal.returns
returns c = record {
  forgotten = λ moment timeout goals. filter_passes (is_expired moment timeout) goals;
  ended = λ moment timeout goals.
      All-weaker (λ held. is_expired moment timeout held ≡ true) (λ held. is_terminal held.state ≡ true) (expired_ended moment timeout)
      (expired moment timeout goals) (filter_passes (is_expired moment timeout) goals);
  kept = λ moment timeout goals.
      All-weaker (λ held. not (is_expired moment timeout held) ≡ true) (λ held. is_expired moment timeout held ≡ false) (λ held is. not-true (is_expired moment timeout held) is)
      (unexpired moment timeout goals) (filter_passes (λ held. not (is_expired moment timeout held)) goals);
}
