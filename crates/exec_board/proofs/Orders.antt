-- What a seat owns of its slots, in another order.
use Rattle.std.proofs.Common.{ℕ, zero, suc, ◌<◌, List, [], ◌∷◌}
use Rattle.atomic_table.proofs.Names.{Fml, ‵, ◌$◌, ◌∵◌, !, qed, by, move, use1, RattleType, Coded}
use Rattle.atomic_table.specs.Seated.{TableId, age, carried, fact, mine, names, place, seen, tracked}
use seplogic.Ra.Ura.{Ura}
use base.Logic.{ent, id⊢}
use base.Share.{three_quarters}
use types.Logic.{Logic, sem}
use types.Kit.{done, frame}
use Rattle.exec_board.specs.inner.Order.{brought, in_front}

module _ {M : Type 1} {𝓤 : Ura M} (𝓛 : Logic 𝓤) (R : RattleType) {V : Type 0} (cv : Coded V) (z : TableId) where
  abbrev out : List (ℕ × R.Denot) → Fml
  out = carried (age z) R (place z) (names z) z.slots

  abbrev slot : ℕ × R.Denot → Fml
  slot x = tracked (age z) R (place z) (names z) x.0 x.1

  front : (x : ℕ × R.Denot) (xs : List (ℕ × R.Denot)) → ent 𝓤 (sem 𝓛 (out (x ∷ xs))) (sem 𝓛 (out (in_front x xs)))
  front x [] = id⊢ 𝓤 _
  front x (y ∷ ys) = qed 𝓛 (‵ (fact (x.0 < z.slots)) ∷ ‵ (slot x) ∷ ‵ (fact (y.0 < z.slots)) ∷ ‵ (slot y) ∷ ‵ (out ys) ∷ []) ∵ move ! (2 ∷ 3 ∷ 0 ∷ 1 ∷ 4 ∷ []) $ done !

  orders : (n : ℕ) (xs : List (ℕ × R.Denot)) → ent 𝓤 (sem 𝓛 (out xs)) (sem 𝓛 (out (brought n xs)))
  orders n [] = id⊢ 𝓤 _
  orders zero (x ∷ xs) = id⊢ 𝓤 _
  orders (suc n) (x ∷ xs) =
      qed 𝓛 (‵ (fact (x.0 < z.slots)) ∷ ‵ (slot x) ∷ ‵ (out xs) ∷ []) ∵ move ! (2 ∷ []) $ use1 𝓛 (‵ (out (brought n xs))) (orders n xs) $ move ! (1 ∷ 2 ∷ 0 ∷ []) $ by ! (front x (brought n xs))

  -- a seat owns as much when one of its slots has come to the front
  pub brings : (id : ℕ) (v : V) (n : ℕ) (xs : List (ℕ × R.Denot)) → ent 𝓤 (sem 𝓛 (mine R cv.code z id (v, xs))) (sem 𝓛 (mine R cv.code z id (v, brought n xs)))
  brings id v n xs = qed 𝓛 (‵ (seen cv.code z.views_name id three_quarters v) ∷ ‵ (out xs) ∷ []) ∵ frame ! $ by ! (orders n xs)
