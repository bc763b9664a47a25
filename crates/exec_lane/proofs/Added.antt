-- One more callback of a lane that is cut.
use Rattle.std.proofs.Common.{◌≡◌, ℕ, ℤ, zero, suc, ◌+◌, ◌<◌, Bool, List, [], ◌∷◌, ◌++◌, append-nil, get_or, length, slice_set, Option, Some, refl, sym, ap, subst, ◌∙◌, arith}
use Rattle.std.specs.List.{AllByRecursion}
use Rattle.std.proofs.lemmas.List.{length-append, map-append}
use Rattle.exec_msg.specs.Numbers.{GoalId}
use Rattle.exec_lane.specs.Lane.{LaneCallback, entry_in}
use Rattle.exec_lane.specs.inner.Buffered.{ArePlacesOf, callback_at, callbacks_at, entries_in, entries_with}
use Rattle.exec_lane.specs.inner.Cuts.{IsUnrun, lane_with, polls_by, polls_in}
use Rattle.exec_rules.specs.Run.{work_for}
use Rattle.exec_rules.specs.World.{GoalWork, WorldState, work_at}
use Rattle.exec_rules.specs.declared.item.Item.{Item}
use Rattle.exec_rules.specs.declared.ready.Cause.{Cause}
use Rattle.exec_rules.specs.declared.ready.Cause.TheVariants as cause
use Rattle.exec_rules.specs.declared.ready.Ready.{Ready}
use Rattle.exec_world.specs.inner.Buffers.{BufferState, polled_work, unpolled_works}

pub record IsFirstOf (of : Cause) (works extra : List (Option GoalWork)) (count : ℕ) : Type 0 where
  pub work : polled_work of (works ++ extra) ≡ polled_work of works
  pub others : unpolled_works of (works ++ extra) ≡ unpolled_works of works ++ extra
  pub many : length (unpolled_works of works) ≡ count

-- a work that is added comes after the others
first_of : (of : Cause) (works extra : List (Option GoalWork)) (count : ℕ) → length works ≡ polls_by of + count → IsFirstOf of works extra count
first_of cause.Due works extra count many = record { work = refl; others = refl; many = omega (arith, many) }
first_of (cause.Took item) works extra count many = record { work = refl; others = refl; many = omega (arith, many) }
first_of (cause.Woke id value canceling) [] extra count many = absurd (omega (arith, many))
first_of (cause.Woke id value canceling) (work ∷ works) extra count many = record { work = refl; others = refl; many = omega (arith, many) }

more_entries : (list : List Ready) (works extra : List (Option GoalWork)) (one : Ready) → length works ≡ polls_in list →
    entries_with (list ++ one ∷ []) (works ++ extra) ≡ entries_with list works ++ record { ready = one; work = polled_work one.cause extra } ∷ []
more_entries [] [] extra one many = refl
more_entries [] (work ∷ works) extra one many = absurd (omega (arith, many))
more_entries (first ∷ list) works extra one many =
    let is = first_of first.cause works extra (polls_in list) many in
    (λ i. record { ready = first; work = is.work i } ∷ entries_with (list ++ one ∷ []) (is.others i))
    ∙ ap (λ (others : List LaneCallback). record { ready = first; work = polled_work first.cause works } ∷ others) (more_entries list (unpolled_works first.cause works) extra one is.many)

more_polls : (list : List Ready) (one : Ready) → polls_in (list ++ one ∷ []) ≡ polls_in list + polls_by one.cause
more_polls [] one = omega arith
more_polls (first ∷ list) one = let rest = more_polls list one in omega (arith, rest)

more_places : (list : List Ready) (places : List ℕ) (place : ℕ) → ArePlacesOf list places → place < length list → ArePlacesOf list (places ++ place ∷ [])
more_places list [] place all there = (there, tt)
more_places list (first ∷ places) place all there = (all.0, more_places list places place all.1 there)

-- a callback that is added to a buffer, with the work of the goal that it polls
pub record IsAdded (list : List Ready) (place : ℕ) (world : WorldState) (before after : BufferState) : Type 0 where
  pub entries : entries_in list after ≡ lane_with (entry_in world (callback_at list place)) (entries_in list before)
  pub unrun : IsUnrun list after

pub added : (list : List Ready) (place : ℕ) (world : WorldState) (before after : BufferState) (extra : List (Option GoalWork)) → IsUnrun list before → place < length list →
    after ≡ record before { places = before.places ++ place ∷ []; waiting = before.waiting ++ extra } →
    polled_work (callback_at list place).cause extra ≡ work_for (callback_at list place).entity (callback_at list place).cause world →
    length extra ≡ polls_by (callback_at list place).cause →
    IsAdded list place world before after
added list place world before after extra unrun there is work many =
    let one = callback_at list place in
    let callbacks : callbacks_at list (before.places ++ place ∷ []) ≡ callbacks_at list before.places ++ one ∷ [] = map-append (callback_at list) before.places (place ∷ []) in
    let works = length-append before.waiting extra in
    let polls = more_polls (callbacks_at list before.places) one in
    let enough = unrun.works in
    subst (IsAdded list place world before) (sym is) (record {
      entries = ap (λ (some : List Ready). entries_with some (before.waiting ++ extra)) callbacks
          ∙ more_entries (callbacks_at list before.places) before.waiting extra one unrun.works
          ∙ ap (λ (work : Option GoalWork). entries_in list before ++ record { ready = one; work = work } ∷ []) work;
      unrun = record {
        places = more_places list before.places place unrun.places there;
        works = (let all : length (before.waiting ++ extra) ≡ polls_in (callbacks_at list before.places ++ one ∷ []) = omega (arith, works, polls, enough, many) in all)
            ∙ ap polls_in (sym callbacks);
        polled = unrun.polled;
        did = unrun.did;
      };
    })

-- the same of one that polls no goal
pub added_alone : (list : List Ready) (place : ℕ) (world : WorldState) (before after : BufferState) → IsUnrun list before → place < length list →
    after ≡ record before { places = before.places ++ place ∷ [] } →
    polled_work (callback_at list place).cause [] ≡ work_for (callback_at list place).entity (callback_at list place).cause world →
    0 ≡ polls_by (callback_at list place).cause →
    IsAdded list place world before after
added_alone list place world before after unrun there is =
    added list place world before after [] unrun there (is ∙ ap (λ (works : List (Option GoalWork)). record before { places = before.places ++ place ∷ []; waiting = works }) (sym (append-nil before.waiting)))

-- ---- by its cause

pub woke_added : (list : List Ready) (place : ℕ) (world : WorldState) (before after : BufferState) (one : Ready) (id : GoalId) (value : ℤ) (canceling : Bool) (work : GoalWork) → IsUnrun list before → place < length list →
    one ≡ callback_at list place → one.cause ≡ cause.Woke id value canceling → Some work ≡ work_at one.entity id world →
    after ≡ record before { places = before.places ++ place ∷ []; waiting = before.waiting ++ Some work ∷ [] } → IsAdded list place world before after
woke_added list place world before after one id value canceling work unrun there here woke task is =
    let of : (callback_at list place).cause ≡ cause.Woke id value canceling = ap (λ (some : Ready). some.cause) (sym here) ∙ woke in
    added list place world before after (Some work ∷ []) unrun there is
    (ap (λ (some : Cause). polled_work some (Some work ∷ [])) of ∙ task ∙ ap (λ (some : Ready). work_at some.entity id world) here ∙ (λ i. work_for (callback_at list place).entity (sym of i) world))
    (sym (ap polls_by of))

pub due_added : (list : List Ready) (place : ℕ) (world : WorldState) (before after : BufferState) (one : Ready) → IsUnrun list before → place < length list →
    one ≡ callback_at list place → one.cause ≡ cause.Due → after ≡ record before { places = before.places ++ place ∷ [] } → IsAdded list place world before after
due_added list place world before after one unrun there here due is =
    let of : (callback_at list place).cause ≡ cause.Due = ap (λ (some : Ready). some.cause) (sym here) ∙ due in
    added_alone list place world before after unrun there is
    ((λ i. polled_work (of i) []) ∙ (λ i. work_for (callback_at list place).entity (sym of i) world)) (sym (ap polls_by of))

pub took_added : (list : List Ready) (place : ℕ) (world : WorldState) (before after : BufferState) (one : Ready) (item : Item) → IsUnrun list before → place < length list →
    one ≡ callback_at list place → one.cause ≡ cause.Took item → after ≡ record before { places = before.places ++ place ∷ [] } → IsAdded list place world before after
took_added list place world before after one item unrun there here took is =
    let of : (callback_at list place).cause ≡ cause.Took item = ap (λ (some : Ready). some.cause) (sym here) ∙ took in
    added_alone list place world before after unrun there is
    ((λ i. polled_work (of i) []) ∙ (λ i. work_for (callback_at list place).entity (sym of i) world)) (sym (ap polls_by of))

-- ---- all lanes

module _ {A : Type 0} (P : A → Type 0) where
  pub all_at : (xs : List A) (i : ℕ) (x : A) → AllByRecursion P xs → i < length xs → x ≡ get_or xs i x → P x
  all_at [] i x all within is = absurd (omega (arith, within))
  all_at (y ∷ xs) zero x all within is = subst P (sym is) all.0
  all_at (y ∷ xs) (suc i) x all within is = all_at xs i x all.1 (omega (arith, within)) is

  pub all_set : (xs : List A) (i : ℕ) (y : A) → AllByRecursion P xs → P y → AllByRecursion P (slice_set xs i y)
  all_set [] i y all this = tt
  all_set (x ∷ xs) zero y all this = (this, all.1)
  all_set (x ∷ xs) (suc i) y all this = (all.0, all_set xs i y all.1 this)

  pub all_push : (xs new : List A) (y : A) → new ≡ xs ++ y ∷ [] → AllByRecursion P xs → P y → AllByRecursion P new
  all_push xs new y is all this = subst (AllByRecursion P) (sym is) (each xs all)
    where
      each : (xs : List A) → AllByRecursion P xs → AllByRecursion P (xs ++ y ∷ [])
      each [] all = (this, tt)
      each (x ∷ xs) all = (all.0, each xs all.1)
