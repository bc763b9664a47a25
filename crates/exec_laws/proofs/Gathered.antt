-- What the callbacks of a ready list give, gathered: where at most one of them gives something, it is given as the queues stand,
-- whatever the order.
use Rattle.std.proofs.Common.{◌≡◌, ◌≢◌, ℕ, suc, Bool, true, false, List, [], ◌∷◌, ◌++◌, refl, sym, ap, ◌∙◌}
use Rattle.std.specs.List.{AllByRecursion, flat_map}
use Rattle.std.proofs.lemmas.Grind.{flat_map-append}
use Rattle.std.proofs.lemmas.List.{append-nil}
use Rattle.exec_msg.specs.Numbers.{EntityNo, Moment}
use Rattle.exec_msg.specs.declared.kind.Kind.{Kind}
use Rattle.exec_msg.specs.declared.kind.Kind.TheVariants as kind
use Rattle.exec_plan.specs.Graph.{GraphData}
use Rattle.exec_rules.proofs.OfKinds.{AreOfTheirKinds}
use Rattle.exec_rules.proofs.Pairs.{all_flat, all_weaker, pairs_weaker}
use Rattle.exec_rules.proofs.ReadyLists.{Apart, IsOf, due_of, is_callback, poll_of, ready_apart}
use Rattle.exec_rules.proofs.Sorting.{Commute, flat_sorted, none_commutes}
use Rattle.exec_rules.proofs.Wiring.{IsWired}
use Rattle.exec_rules.specs.Ready.{all_ready, due_ready, is_callback_of, kind_of, placed_from, poll_ready, queue_ready, rank_under, ready_list}
use Rattle.exec_rules.specs.Sorting.{sorted_by}
use Rattle.exec_rules.specs.World.{WorldState}
use Rattle.exec_rules.specs.declared.ready.Ready.{Ready}

pub flat_none : {A B : Type 0} (f : A → List B) (all : List A) → AllByRecursion (λ one. f one ≡ []) all → flat_map f all ≡ []
flat_none f [] p = refl
flat_none f (one ∷ all) p = rw p.0 (flat_none f all p.1)

-- what gives nothing adds nothing
pub flat_more : {A B : Type 0} (f : A → List B) (all more : List A) → AllByRecursion (λ one. f one ≡ []) more → flat_map f (all ++ more) ≡ flat_map f all
flat_more {A} {B} f all more none = flat_map-append f all more ∙ ap (λ (rest : List B). flat_map f all ++ rest) (flat_none f more none) ∙ append-nil (flat_map f all)

pub flat_twice : {A B C : Type 0} (g : B → List C) (f : A → List B) (all : List A) → flat_map g (flat_map f all) ≡ flat_map (λ one. flat_map g (f one)) all
flat_twice g f [] = refl
flat_twice {A} {B} {C} g f (one ∷ all) = flat_map-append g (f one) (flat_map f all) ∙ ap (λ (rest : List C). flat_map g (f one) ++ rest) (flat_twice g f all)

-- ---- a ready list

-- what the callbacks of one entity and kind alone give
pub record IsAlone {B : Type 0} (f : Ready → List B) (entity : EntityNo) (of : Kind) : Type 0 where
  pub placed : (position : ℕ) (one : Ready) → f (record one { position = position }) ≡ f one
  pub others : (one : Ready) → is_callback_of entity of one ≡ false → f one ≡ []
  pub no_timer : kind.Timer ≢ of
  pub no_poll : kind.Poll ≢ of

flat_placed : {B : Type 0} (f : Ready → List B) → ((position : ℕ) (one : Ready) → f (record one { position = position }) ≡ f one) → (position : ℕ) (list : List Ready) → flat_map f (placed_from position list) ≡ flat_map f list
flat_placed f placed position [] = refl
flat_placed {B} f placed position (one ∷ list) =
    ap (λ (first : List B). first ++ flat_map f (placed_from (suc position) list)) (placed position one) ∙ ap (λ (more : List B). f one ++ more) (flat_placed f placed (suc position) list)

none_of_kind : {B : Type 0} (f : Ready → List B) (entity : EntityNo) (of at : Kind) → IsAlone f entity of → at ≢ of → (one : Ready) → kind_of one.cause ≡ at → f one ≡ []
none_of_kind f entity of at alone differs one is = by (is_callback_of entity of one) refl
  where
    by : (b : Bool) → is_callback_of entity of one ≡ b → f one ≡ []
    by true e = absurd (differs (sym is ∙ (is_callback entity of one e).0))
    by false e = alone.others one e

apart_commute : {B : Type 0} (f : Ready → List B) (entity : EntityNo) (of : Kind) → IsAlone f entity of → (one other : Ready) → Apart of one other → Commute f one other
apart_commute f entity of alone one other apart = by (is_callback_of entity of one) (is_callback_of entity of other) refl refl
  where
    by : (b c : Bool) → is_callback_of entity of one ≡ b → is_callback_of entity of other ≡ c → Commute f one other
    by true true e g =
        let a = is_callback entity of one e in
        let b = is_callback entity of other g in
        absurd (apart a.0 b.0 (b.1 ∙ sym a.1))
    by true false e g = sym (none_commutes f other one (alone.others other g))
    by false c e g = none_commutes f one other (alone.others one e)

-- as at most one callback is of an entity and a kind, its place in the list doesn't matter
pub list_gathered : {B : Type 0} (f : Ready → List B) (entity : EntityNo) (of : Kind) → IsAlone f entity of → (graph : GraphData) (moment : Moment) (world : WorldState) → IsWired graph world → AreOfTheirKinds world →
    flat_map f (ready_list moment world) ≡ flat_map (λ queue. flat_map f (queue_ready moment world queue)) world.queues
list_gathered {B} f entity of alone graph moment world wires kinds =
    let timers : List Ready = flat_map (due_ready moment) world.timers in
    let took : List Ready = flat_map (queue_ready moment world) world.queues in
    let polls : List Ready = flat_map (poll_ready moment) world.servers in
    let no_timers : flat_map f timers ≡ [] =
    flat_none f timers (all_flat (λ one. f one ≡ []) (due_ready moment) (λ entry. all_weaker (IsOf entry.handler.entity kind.Timer) (λ one. f one ≡ []) (λ one is. none_of_kind f entity of kind.Timer alone alone.no_timer one is.0) _ (due_of moment entry)) world.timers) in
    let no_polls : AllByRecursion (λ one. f one ≡ []) polls =
    all_flat (λ one. f one ≡ []) (poll_ready moment) (λ entry. all_weaker (IsOf entry.handler.entity kind.Poll) (λ one. f one ≡ []) (λ one is. none_of_kind f entity of kind.Poll alone alone.no_poll one is.0) _ (poll_of moment entry)) world.servers in
    flat_placed f alone.placed 1 (sorted_by (rank_under world.order world) (all_ready moment world))
    ∙ flat_sorted f (rank_under world.order world) (all_ready moment world)
    (pairs_weaker (Apart of) (Commute f) (apart_commute f entity of alone) (all_ready moment world) (ready_apart of (λ e. alone.no_poll (sym e)) graph moment world wires kinds))
    ∙ flat_more f (timers ++ took) polls no_polls ∙ flat_map-append f timers took ∙ ap (λ (first : List B). first ++ flat_map f took) no_timers ∙ flat_twice f (queue_ready moment world) world.queues
