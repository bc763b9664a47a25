-- A pass that holds several lanes, each once.
use Rattle.std.proofs.Common.{◌≡◌, ◌≢◌, ℕ, ◌+◌, ◌<◌, ◌≤◌, ◌⊎◌, inl, inr, List, [], ◌∷◌, ◌++◌, map, refl, sym, ap, subst, ◌∙◌, arith}
use Rattle.std.specs.Prelude.{⊤, Some}
use Rattle.exec_lane.specs.Lane.{Lane}
use Rattle.exec_lane.specs.Opening.{IsLaneOf, opened_lane}
use Rattle.exec_board.specs.Board.{ClaimView, IsClaimOf, MayRelease, PassView}
use Rattle.exec_board.proofs.Holding.{start_else, start_here, without_else, without_here}
use Rattle.exec_board.specs.Seats.{Hold, SeatView, holding, refused, released_lane, start_of, without}

abbrev pub hold_of : ClaimView → Hold
hold_of claim = record { lane = claim.lane; start = claim.start }

-- claims of lanes before this one that a pass made, the last lane first, each with its lane's box
abbrev pub AreClaims : PassView → ℕ → List ClaimView → Type 0
AreClaims pass bound [] = ⊤
AreClaims pass bound (claim ∷ claims) =
    (claim.board ≡ pass.board) × (claim.lane < bound) × IsLaneOf (opened_lane pass.view.opening claim.lane) claim.work × (claim.start ≤ claim.work.done) × AreClaims pass claim.lane claims

-- a pass kept its opening and its share, and holds what it claimed
pub record HoldsClaims (before : PassView) (bound : ℕ) (claims : List ClaimView) (view : SeatView) : Type 0 where
  pub opening : view.opening ≡ before.view.opening
  pub passes : view.passes ≡ before.view.passes
  pub start : view.start ≡ before.view.start
  pub stop : view.stop ≡ before.view.stop
  pub holds : view.holds ≡ map hold_of claims
  pub made : AreClaims before bound claims

-- ---- one hold among others

more : (pass : PassView) (bound beyond : ℕ) (claims : List ClaimView) → bound ≤ beyond → AreClaims pass bound claims → AreClaims pass beyond claims
more pass bound beyond [] le are = tt
more pass bound beyond (claim ∷ claims) le are = let low = are.1 in (are.0, omega (arith, low, le), are.2, are.3, are.4)

-- a claim among others: it may be released, and the others stay
pub record Taken (pass : PassView) (bound : ℕ) (holds : List Hold) (claim : ClaimView) (others : List ClaimView) : Type 0 where
  pub same : claim.board ≡ pass.board
  pub below : claim.lane < bound
  pub work : IsLaneOf (opened_lane pass.view.opening claim.lane) claim.work
  pub count : claim.start ≤ claim.work.done
  pub held : start_of claim.lane holds ≡ Some claim.start
  pub rest : without claim.lane holds ≡ map hold_of others
  pub claims : AreClaims pass bound others

first : (pass : PassView) (bound : ℕ) (claim : ClaimView) (others : List ClaimView) → AreClaims pass bound (claim ∷ others) → Taken pass bound (map hold_of (claim ∷ others)) claim others
first pass bound claim others are = let low = are.1 in record {
  same = are.0;
  below = are.1;
  work = are.2;
  count = are.3;
  held = start_here (hold_of claim) (map hold_of others) claim.lane refl;
  rest = without_here (hold_of claim) (map hold_of others) claim.lane refl;
  claims = more pass claim.lane bound others (omega (arith, low)) are.4;
}

last : (pass : PassView) (bound : ℕ) (claim : ClaimView) (others : List ClaimView) → AreClaims pass bound (others ++ claim ∷ []) → Taken pass bound (map hold_of (others ++ claim ∷ [])) claim others
last pass bound claim [] are = first pass bound claim [] are
last pass bound claim (other ∷ others) are =
    let taken = last pass other.lane claim others are.4 in
    let low = are.1 in
    let lower = taken.below in
    let apart : other.lane ≢ claim.lane = λ same. omega (arith, lower, same) in
    record {
      same = taken.same;
      below = omega (arith, low, lower);
      work = taken.work;
      count = taken.count;
      held = start_else (hold_of other) (map hold_of (others ++ claim ∷ [])) claim.lane apart ∙ taken.held;
      rest = without_else (hold_of other) (map hold_of (others ++ claim ∷ [])) claim.lane apart ∙ ap (λ (holds : List Hold). hold_of other ∷ holds) taken.rest;
      claims = (are.0, are.1, are.2, are.3, taken.claims);
    }

-- ---- what a refusal, a claim and a release leave

module _ (before : PassView) (view : SeatView) (bound : ℕ) (claims : List ClaimView) (has : HoldsClaims before bound claims view) where
  pub passed_over : (lane word : ℕ) (after : SeatView) → after ≡ refused lane word view → HoldsClaims before (bound + 1) claims after
  passed_over lane word after is = subst (HoldsClaims before (bound + 1) claims) (sym is) (record {
    opening = has.opening;
    passes = has.passes;
    start = has.start;
    stop = has.stop;
    holds = has.holds;
    made = more before bound (bound + 1) claims (omega arith) has.made;
  })

  module _ (claim : ClaimView) (same : claim.board ≡ before.board) (of : IsClaimOf view bound claim) where
    won : HoldsClaims before (bound + 1) (claim ∷ claims) (holding bound claim.start view)
    won = record {
      opening = has.opening;
      passes = has.passes;
      start = has.start;
      stop = has.stop;
      holds = λ i. record { lane = sym of.lane i; start = claim.start } ∷ has.holds i;
      made = let lane_is = of.lane in let start_is = of.start in (
        same,
        omega (arith, lane_is),
        subst (λ (opening : List Lane). IsLaneOf (opened_lane opening claim.lane) claim.work) has.opening (subst (λ (n : ℕ). IsLaneOf (opened_lane view.opening n) claim.work) (sym of.lane) of.work.same),
        omega (arith, start_is),
        subst (λ (n : ℕ). AreClaims before n claims) (sym of.lane) has.made,
      );
    }

    pub kept : (after : SeatView) → after ≡ holding bound claim.start view → HoldsClaims before (bound + 1) (claim ∷ claims) after
    kept after is = subst (HoldsClaims before (bound + 1) (claim ∷ claims)) (sym is) won

-- a claim was taken, and its caller left it so
module _ (before : PassView) (view : SeatView) (bound : ℕ) (claims others : List ClaimView) (claim : ClaimView) (has : HoldsClaims before bound claims view)
    (taken : (claims ≡ claim ∷ others) ⊎ (claims ≡ others ++ claim ∷ [])) where
  pub one : Taken before bound view.holds claim others
  one = elim taken [
    | inl is ↦ at (claim ∷ others) is (first before bound claim others (subst (AreClaims before bound) is has.made))
    | inr is ↦ at (others ++ claim ∷ []) is (last before bound claim others (subst (AreClaims before bound) is has.made))
  ]
    where
      at : (all : List ClaimView) → claims ≡ all → Taken before bound (map hold_of all) claim others → Taken before bound view.holds claim others
      at all is = subst (λ (holds : List Hold). Taken before bound holds claim others) (sym (has.holds ∙ ap (map hold_of) is))

  module _ (work : Lane) (of : IsLaneOf claim.work work) (on : claim.work.done ≤ work.done) where
    -- it may be released
    pub may_release : MayRelease view (record claim { work = work })
    may_release = let low = one.count in record {
      held = one.held;
      work = subst (λ (opening : List Lane). IsLaneOf (opened_lane opening claim.lane) work) (sym has.opening) (record { variables = of.variables ∙ one.work.variables; entries = of.entries ∙ one.work.entries });
      count = omega (arith, low, on);
    }

    -- and then the others are held
    pub released_lane_of : (after : SeatView) → after ≡ released_lane claim.lane work.done view → HoldsClaims before bound others after
    released_lane_of after is = subst (HoldsClaims before bound others) (sym is) (record {
      opening = has.opening;
      passes = has.passes;
      start = has.start;
      stop = has.stop;
      holds = one.rest;
      made = one.claims;
    })

-- a claim that was won was given back at once
pub given_back : (before : PassView) (view : SeatView) (bound : ℕ) (claims : List ClaimView) (has : HoldsClaims before bound claims view) (claim : ClaimView) → claim.board ≡ before.board
    → IsClaimOf view bound claim → (won_ : SeatView) → won_ ≡ holding bound claim.start view → (back : ClaimView) → back ≡ claim → (after : SeatView) → after ≡ released_lane back.lane back.work.done won_
    → HoldsClaims before (bound + 1) claims after
given_back before view bound claims has claim same of won_ holds back is after releases =
    released_lane_of before (holding bound claim.start view) (bound + 1) (claim ∷ claims) claims claim (won before view bound claims has claim same of) (inl refl) claim.work
    (record { variables = refl; entries = refl }) (omega arith) after (releases ∙ (λ i. released_lane (is i).lane (is i).work.done (holds i)))
