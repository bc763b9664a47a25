-- What was sent on.
use Rattle.std.proofs.Common.{◌≡◌, ◌∷◌, [], ◌++◌, List, sym, ap, subst, IsPermutation}
use Rattle.exec_lane.specs.declared.outcome.Outcome.{Outcome}
use Rattle.exec_stream.proofs.Balances.{behind}
use Rattle.exec_stream.specs.Outcomes.{Hand, having_put}
use Rattle.exec_stream.specs.Sending.{HasSent, SenderView, sent_by}

-- an outcome was put
pub has_put : (outcome : Outcome) (before after : SenderView) → after.queue ≡ before.queue → after.hand ≡ having_put outcome before.hand → after.kept ≡ before.kept → HasSent (outcome ∷ []) before after
has_put outcome before after same put kept = record {
  stays = record { queue = same; parts = ap (λ (hand : Hand). hand.parts) put; took = ap (λ (hand : Hand). hand.took) put };
  all = subst (λ (sent : List Outcome). IsPermutation (sent_by before ++ outcome ∷ []) sent) (λ i. (sym put i).put ++ sym kept i) (behind before.hand.put before.kept (outcome ∷ []));
}
