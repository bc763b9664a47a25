-- What a cancel handler decides of candidates.
use Rattle.std.proofs.Common.{◌≡◌, List, [], ◌∷◌, ◌++◌, length, map, take, drop, refl, sym, ap, ◌∙◌, append_assoc}
use Rattle.std.specs.List.{fold}
use Rattle.std.proofs.lemmas.List.{append-nil}
use Rattle.std.proofs.Math.Seq.{take-append_seam, drop-append_seam}
use Rattle.exec_goal.specs.Cancel.{Decided, decided_goal}
use Rattle.exec_goal.specs.declared.info.GoalInfo.{GoalInfo}
use Rattle.exec_script.specs.Script.{called, cancel_decided}
use Rattle.exec_script.specs.declared.effects.Effect.{Effect}
use Rattle.exec_rules.specs.Callback.{CancelHandling, handle_cancel, instructions_of, candidate_input}
use Rattle.exec_msg.specs.Numbers.{GoalId}
use Rattle.exec_rules.specs.declared.ready.Ready.{Ready}

module _ {S : Type 0} (put : Effect → S → S) (one : Ready) where
  -- the decision that the handler makes of a candidate
  abbrev made_of : CancelHandling S → GoalInfo → Decided
  made_of handling candidate =
      (candidate.id, cancel_decided (called put (instructions_of one.script) handling.variables (candidate_input one.moment candidate) handling.given).reply_or_decision)

  -- those that it makes of candidates
  abbrev made : CancelHandling S → List GoalInfo → List Decided
  made handling [] = []
  made handling (candidate ∷ candidates) = made_of handling candidate ∷ made (handle_cancel put one handling candidate) candidates

  all_made : (handling : CancelHandling S) (candidates : List GoalInfo) → (fold (handle_cancel put one) handling candidates).decisions ≡ handling.decisions ++ made handling candidates
  all_made handling [] = sym (append-nil handling.decisions)
  all_made handling (candidate ∷ candidates) =
      all_made (handle_cancel put one handling candidate) candidates
      ∙ append_assoc handling.decisions (made_of handling candidate ∷ []) (made (handle_cancel put one handling candidate) candidates)

  made_ids : (handling : CancelHandling S) (candidates : List GoalInfo) → map decided_goal (made handling candidates) ≡ map (λ candidate. candidate.id) candidates
  made_ids handling [] = refl
  made_ids handling (candidate ∷ candidates) = ap (λ (ids : List GoalId). candidate.id ∷ ids) (made_ids (handle_cancel put one handling candidate) candidates)

  pub decisions_before : (handling : CancelHandling S) (candidates : List GoalInfo) → take (length handling.decisions) (fold (handle_cancel put one) handling candidates).decisions ≡ handling.decisions
  decisions_before handling candidates =
      ap (λ (all : List Decided). take (length handling.decisions) all) (all_made handling candidates)
      ∙ take-append_seam handling.decisions (made handling candidates)

  decisions_behind : (handling : CancelHandling S) (candidates : List GoalInfo) → drop (length handling.decisions) (fold (handle_cancel put one) handling candidates).decisions ≡ made handling candidates
  decisions_behind handling candidates =
      ap (λ (all : List Decided). drop (length handling.decisions) all) (all_made handling candidates)
      ∙ drop-append_seam handling.decisions (made handling candidates)

  pub decided_ids : (handling : CancelHandling S) (candidates : List GoalInfo) → map decided_goal (drop (length handling.decisions) (fold (handle_cancel put one) handling candidates).decisions) ≡ map (λ candidate. candidate.id) candidates
  decided_ids handling candidates =
      ap (λ (some : List Decided). map decided_goal some) (decisions_behind handling candidates)
      ∙ made_ids handling candidates
