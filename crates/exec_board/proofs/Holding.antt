-- The lanes that a pass holds, and their slots in its seat.
use Rattle.std.proofs.Common.{◌≡◌, ◌≢◌, ℕ, suc, ◌+◌, ◌<◌, ◌≤◌, Bool, cond, eq-eqb, ne_eqb, List, [], ◌∷◌, length-set, sym, refl, ap, subst, ◌∙◌, arith}
use Rattle.std.specs.Prelude.{Option, Some, None, unwrap_or}
use mathlib.Core.Logic.{dite}
use native.Mathlib.Decide.{dec_le, ℕ_discrete}
use Rattle.atomic_table.specs.Seated.{TableId}
use Rattle.atomic_table.specs.Table.{Me, rest}
use Rattle.exec_lane.specs.Lane.{Lane}
use Rattle.exec_board.specs.Board.{IsSeated, held_slot, held_slots}
use Rattle.exec_board.specs.Plays.{done_in}
use Rattle.exec_board.specs.Rule.{AreHeld, is_same, tally}
use Rattle.exec_board.specs.Seats.{Hold, Holds, SeatView, released_lane, start_of, without}
use Rattle.exec_board.specs.inner.Order.{brought, in_front, place_of}

pub differ : (a b : ℕ) → a ≢ b → is_same a b ≡ 0
differ a b apart = dite (dec_le a b) (λ le. omega (arith, le, less le)) (λ more. omega (arith, more))
  where
    less : a ≤ b → a < b
    less le = dite (dec_le b a) (λ ge. absurd (apart (omega (arith, le, ge)))) (λ more. omega (arith, more))

-- ---- the first hold of a lane, and the others

pub start_here : (hold : Hold) (holds : List Hold) (lane : ℕ) → hold.lane ≡ lane → start_of lane (hold ∷ holds) ≡ Some hold.start
start_here hold holds lane same = ap (λ (b : Bool). cond b (Some hold.start) (start_of lane holds)) (eq-eqb hold.lane lane same)

pub start_else : (hold : Hold) (holds : List Hold) (lane : ℕ) → hold.lane ≢ lane → start_of lane (hold ∷ holds) ≡ start_of lane holds
start_else hold holds lane apart = ap (λ (b : Bool). cond b (Some hold.start) (start_of lane holds)) (ne_eqb hold.lane lane apart)

pub without_here : (hold : Hold) (holds : List Hold) (lane : ℕ) → hold.lane ≡ lane → without lane (hold ∷ holds) ≡ holds
without_here hold holds lane same = ap (λ (b : Bool). cond b holds (hold ∷ without lane holds)) (eq-eqb hold.lane lane same)

pub without_else : (hold : Hold) (holds : List Hold) (lane : ℕ) → hold.lane ≢ lane → without lane (hold ∷ holds) ≡ hold ∷ without lane holds
without_else hold holds lane apart = ap (λ (b : Bool). cond b holds (hold ∷ without lane holds)) (ne_eqb hold.lane lane apart)

-- a held lane is one of the board, held from its count
pub hold_is : (lanes : ℕ) (count : ℕ → ℕ) (holds : List Hold) (lane start : ℕ) → start_of lane holds ≡ Some start → AreHeld lanes count holds → (lane < lanes) × (start ≡ count lane)
hold_is lanes count [] lane start is so = absurd (cc)
hold_is lanes count (hold ∷ holds) lane start is so = dite (ℕ_discrete hold.lane lane)
    (λ same. (subst (λ (l : ℕ). l < lanes) same so.0, sym (ap (λ (found : Option ℕ). unwrap_or found 0) (sym (start_here hold holds lane same) ∙ is)) ∙ so.1 ∙ ap count same))
    (λ apart. hold_is lanes count holds lane start (sym (start_else hold holds lane apart) ∙ is) so.2)

pub held_without : (lanes : ℕ) (count : ℕ → ℕ) (holds : List Hold) (lane : ℕ) → AreHeld lanes count holds → AreHeld lanes count (without lane holds)
held_without lanes count [] lane so = so
held_without lanes count (hold ∷ holds) lane so = dite (ℕ_discrete hold.lane lane)
    (λ same. subst (AreHeld lanes count) (sym (without_here hold holds lane same)) so.2)
    (λ apart. subst (AreHeld lanes count) (sym (without_else hold holds lane apart)) (so.0, so.1, held_without lanes count holds lane so.2))

-- a hold less of its lane
pub one_less : (holds : List Hold) (lane start : ℕ) → start_of lane holds ≡ Some start → tally (λ (hold : Hold). is_same hold.lane lane) (without lane holds) + 1 ≡ tally (λ (hold : Hold). is_same hold.lane lane) holds
one_less [] lane start is = absurd (cc)
one_less (hold ∷ holds) lane start is = dite (ℕ_discrete hold.lane lane)
    (λ same. let rest_is = ap (λ (hs : List Hold). tally (λ (h : Hold). is_same h.lane lane) hs) (without_here hold holds lane same) in omega (arith, rest_is, same))
    (λ apart.
    let rest_is = ap (λ (hs : List Hold). tally (λ (h : Hold). is_same h.lane lane) hs) (without_else hold holds lane apart) in
    let rest = one_less holds lane start (sym (start_else hold holds lane apart) ∙ is) in
    omega (arith, rest_is, rest))

-- and as many of each other lane
pub as_many_else : (holds : List Hold) (lane other : ℕ) → other ≢ lane → tally (λ (hold : Hold). is_same hold.lane other) (without lane holds) ≡ tally (λ (hold : Hold). is_same hold.lane other) holds
as_many_else [] lane other apart = refl
as_many_else (hold ∷ holds) lane other apart = dite (ℕ_discrete hold.lane lane)
    (λ same.
    let rest_is = ap (λ (hs : List Hold). tally (λ (h : Hold). is_same h.lane other) hs) (without_here hold holds lane same) in
    let none = differ hold.lane other (λ is. apart (sym is ∙ same)) in
    omega (arith, rest_is, none))
    (λ away.
    let rest_is = ap (λ (hs : List Hold). tally (λ (h : Hold). is_same h.lane other) hs) (without_else hold holds lane away) in
    let rest = as_many_else holds lane other apart in
    omega (arith, rest_is, rest))

-- ---- the slots of a seat

-- the slot of a held lane, brought to the front
pub brought_slot : (holds : List Hold) (lane start : ℕ) → start_of lane holds ≡ Some start → brought (place_of lane (held_slots holds)) (held_slots holds) ≡ (lane, None) ∷ held_slots (without lane holds)
brought_slot [] lane start is = absurd (cc)
brought_slot (hold ∷ holds) lane start is = dite (ℕ_discrete hold.lane lane)
    (λ same.
    ap (λ (b : Bool). brought (cond b 0 (suc (place_of lane (held_slots holds)))) (held_slots (hold ∷ holds))) (eq-eqb hold.lane lane same)
    ∙ (λ i. (same i, None) ∷ held_slots (sym (without_here hold holds lane same) i)))
    (λ apart.
    ap (λ (b : Bool). brought (cond b 0 (suc (place_of lane (held_slots holds)))) (held_slots (hold ∷ holds))) (ne_eqb hold.lane lane apart)
    ∙ ap (λ (xs : List (ℕ × Option Lane)). in_front (held_slot hold) xs) (brought_slot holds lane start (sym (start_else hold holds lane apart) ∙ is))
    ∙ (λ i. (lane, None) ∷ held_slots (sym (without_else hold holds lane apart) i)))

-- ---- a release, move by move

module _ (lane start : ℕ) (before brought_ : Me (Option Lane) SeatView) (holds : Holds before.0 lane start) (slots : before.1 ≡ held_slots before.0.holds)
    (brings : brought_ ≡ (before.0, brought (place_of lane before.1) before.1)) where
  front : brought_.1 ≡ (lane, None) ∷ held_slots (without lane before.0.holds)
  front = ap (λ (me : Me (Option Lane) SeatView). me.1) brings ∙ ap (λ (xs : List (ℕ × Option Lane)). brought (place_of lane xs) xs) slots ∙ brought_slot before.0.holds lane start holds

  -- the slot is there to be filled
  pub fillable : (x : Option Lane) × (brought_.1 ≡ (lane, x) ∷ rest brought_.1)
  fillable = (None, front ∙ ap (λ (xs : List (ℕ × Option Lane)). (lane, None) ∷ rest xs) (sym front))

  module _ (work : Lane) (filled : Me (Option Lane) SeatView) (fills : filled ≡ (brought_.0, (lane, Some work) ∷ rest brought_.1)) where
    -- it was filled
    pub filled_is : filled ≡ (before.0, (lane, Some work) ∷ held_slots (without lane before.0.holds))
    filled_is = fills ∙ (λ i. ((brings i).0, (lane, Some work) ∷ rest (front i)))

    -- and went home
    pub home_is : (after : Me (Option Lane) SeatView) → after ≡ (released_lane lane (done_in filled.1) filled.0, rest filled.1) → after ≡ (released_lane lane work.done before.0, held_slots (without lane before.0.holds))
    home_is after releases = releases ∙ ap (λ (me : Me (Option Lane) SeatView). (released_lane lane (done_in me.1) me.0, rest me.1)) filled_is

-- a seat after a release
pub seated_on : (board : TableId) (before after : Me (Option Lane) SeatView) (lane n start stop : ℕ) → IsSeated board before.0 before.1 start stop
    → after ≡ (released_lane lane n before.0, held_slots (without lane before.0.holds)) → IsSeated board after.0 after.1 start stop
seated_on board before after lane n start stop seated is = subst (λ (me : Me (Option Lane) SeatView). IsSeated board me.0 me.1 start stop) (sym is) (record {
  start_is = seated.start_is;
  stop_is = seated.stop_is;
  some_share = seated.some_share;
  slots_are = refl;
  as_many = seated.as_many;
  sized = length-set before.0.seen lane n ∙ seated.sized;
})
