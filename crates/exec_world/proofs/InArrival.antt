-- Callbacks that are run by the numbers of their arrivals, from wherever they are listed, run as the ready list does.
use Rattle.std.proofs.Common.{◌≡◌, ℕ, zero, suc, ◌+◌, ◌-◌, ◌<◌, ◌≤◌, get_or, Option, Bool, true, false, if◌then◌else◌, nat_le, List, [], ◌∷◌, ◌++◌, length, map, take, drop, slice_get, Some, refl, sym, subst, ap, ◌∙◌, arith, append_assoc, length-append}
use Rattle.std.specs.List.{AllZip, filter, flat_map, fold}
use Rattle.std.specs.Option.{option_map_or}
use Rattle.std.proofs.lemmas.List.Sums.{fold_more}
use Rattle.std.proofs.lemmas.Option.{slice_get_past}
use Rattle.exec_plan.proofs.Positions.{slice_get-behind}
use Rattle.std.proofs.lemmas.List.{append-nil, drop-map, length-map, map-append, take-append-drop, take-map}
use Rattle.exec_msg.specs.Numbers.{EntityNo, Moment}
use Rattle.exec_plan.specs.Graph.{GraphData}
use Rattle.exec_plan.specs.declared.order.Order.{Order}
use Rattle.exec_plan.specs.declared.order.Order.TheVariants as order
use Rattle.exec_rules.proofs.PolledAlike.{parts_alike, placed_alike, poll_alike, runs_alike}
use Rattle.exec_rules.specs.Ready.{arrival_for, is_goal_awake, placed_from, poll_ready, queue_taken, rank_under, ready_for, woken}
use Rattle.exec_rules.specs.Run.{run}
use Rattle.exec_rules.specs.Sorting.{inserted_by, sorted_by}
use Rattle.exec_rules.specs.Transcript.{run_all}
use Rattle.exec_rules.specs.World.{ClientEntry, ServerEntry, TimerEntry, WorldState, HeldGoal}
use Rattle.exec_rules.specs.declared.ready.AwakeGoal.{AwakeGoal}
use Rattle.exec_rules.specs.declared.ready.Cause.{Cause}
use Rattle.exec_rules.specs.declared.ready.Cause.TheVariants as cause
use Rattle.exec_rules.specs.declared.ready.Ready.{Ready}
use Rattle.exec_rules.specs.inner.Awake.{awake_goals, goal_awake, poll_at}
use Rattle.exec_rules.specs.declared.listed.Listed.{Listed}
use Rattle.exec_rules.specs.inner.ByKind.{ready_before, ready_behind, taken_in_parts}
use Rattle.exec_rules.specs.inner.Listing.{with_script_of}
use Rattle.exec_world.proofs.PlanScripts.{scripts_before, scripts_behind}
use Rattle.exec_world.specs.declared.arrived.Arrived.{Arrived}
use Rattle.exec_world.specs.inner.Arrivals.{AreListed, arrived_in, run_arrived, run_at, run_listed, with_arrived}
use Rattle.exec_world.specs.inner.Snapshots.{HaveScriptsOf, IsListed, listed_in, listed_under, ready_in_parts, round_in}

-- arrivals that are listed by their numbers are listed as any order asks
pub listed_so : (under : Order) (world : WorldState) (all : List Ready) (arrivals : List Arrived) → AreListed order.Arrival world all arrivals → AreListed under world all arrivals
listed_so order.Kind world all arrivals listed = tt
listed_so order.Arrival world all arrivals listed = listed

-- timers and clients don't matter for numbers of arrivals
pub arrival_same : (entity : EntityNo) (why : Cause) (world : WorldState) (timers : List TimerEntry) (clients : List ClientEntry) → arrival_for entity why (record world { timers = timers; clients = clients }) ≡ arrival_for entity why world
arrival_same entity cause.Due world timers clients = refl
arrival_same entity (cause.Took taken) world timers clients = refl
arrival_same entity (cause.Woke id value canceling) world timers clients = refl

-- ---- two lists of one length, by each two of one place

-- both sorted, where each two have one rank
module _ {A B : Type 0} (R : A → B → Type 0) (rank : A → ℕ) (other : B → ℕ) (same : (x : A) (y : B) → R x y → rank x ≡ other y) where
  zip_inserted : (x : A) (y : B) (xs : List A) (ys : List B) → R x y → AllZip R xs ys → AllZip R (inserted_by rank x xs) (inserted_by other y ys)
  zip_inserted x y [] [] r p = (r, tt)
  zip_inserted x y [] (v ∷ ys) r p = absurd p
  zip_inserted x y (u ∷ xs) [] r p = absurd p
  zip_inserted x y (u ∷ xs) (v ∷ ys) r p =
      subst (λ (b : Bool). AllZip R (inserted_by rank x (u ∷ xs)) (if b then y ∷ v ∷ ys else v ∷ inserted_by other y ys)) (λ i. nat_le (same x y r i) (same u v p.0 i))
      (by (nat_le (rank x) (rank u)) (zip_inserted x y xs ys r p.1))
    where
      by : (b : Bool) → AllZip R (inserted_by rank x xs) (inserted_by other y ys) → AllZip R (if b then x ∷ u ∷ xs else u ∷ inserted_by rank x xs) (if b then y ∷ v ∷ ys else v ∷ inserted_by other y ys)
      by true rest = (r, p)
      by false rest = (p.0, rest)

  pub zip_sorted : (xs : List A) (ys : List B) → AllZip R xs ys → AllZip R (sorted_by rank xs) (sorted_by other ys)
  zip_sorted [] [] p = tt
  zip_sorted [] (v ∷ ys) p = absurd p
  zip_sorted (u ∷ xs) [] p = absurd p
  zip_sorted (u ∷ xs) (v ∷ ys) p = zip_inserted u v (sorted_by rank xs) (sorted_by other ys) p.0 (zip_sorted xs ys p.1)

pub zip_append : {A B : Type 0} (R : A → B → Type 0) (xs zs : List A) (ys ws : List B) → AllZip R xs ys → AllZip R zs ws → AllZip R (xs ++ zs) (ys ++ ws)
zip_append R [] zs [] ws p q = q
zip_append R [] zs (v ∷ ys) ws p q = absurd p
zip_append R (u ∷ xs) zs [] ws p q = absurd p
zip_append R (u ∷ xs) zs (v ∷ ys) ws p q = (p.0, zip_append R xs zs ys ws p.1 q)

-- ---- the callback at a place, as a list of one

-- one of the list
module _ (world : WorldState) where
  alone : (list more : List Ready) (place : ℕ) → place < length list → run_all (take 1 (drop place list)) world ≡ run_at (list ++ more) world place
  alone [] more place within = absurd (omega (arith, within))
  alone (one ∷ list) more zero within = refl
  alone (one ∷ list) more (suc place) within = alone list more place (omega (arith, within))

  runs_listed : (list more all : List Ready) (place : ℕ) → list ++ more ≡ all → place < length list → run_all (take ((place + 1) - place) (drop place list)) world ≡ run_at all world place
  runs_listed list more all place are within =
      let single : (place + 1) - place ≡ 1 = omega arith in
      ap (λ (n : ℕ). run_all (take n (drop place list)) world) single
      ∙ alone list more place within
      ∙ ap (λ (some : List Ready). run_at some world place) are

  -- the same of what makes callbacks
  pub runs_scripted : {A : Type 0} (f : A → Ready) (list : List A) (more all : List Ready) (place : ℕ) → map f list ++ more ≡ all → place < length list → run_all (map f (take ((place + 1) - place) (drop place list))) world ≡ run_at all world place
  runs_scripted f list more all place are within =
      let count : length (map f list) ≡ length list = length-map list f in
      ap (λ (some : List Ready). run_all some world) (sym (take-map f ((place + 1) - place) (drop place list)) ∙ ap (take ((place + 1) - place)) (sym (drop-map f place list)))
      ∙ runs_listed (map f list) more all place are (omega (arith, count, within))

  -- the poll of a goal after it
  polled : (moment : Moment) (goals : List AwakeGoal) (at : ℕ) → at < length goals → run_all (map (poll_at moment) (take 1 (drop at goals))) world ≡ run_at (map (poll_at moment) goals) world at
  polled moment [] at within = absurd (omega (arith, within))
  polled moment (goal ∷ goals) zero within = refl
  polled moment (goal ∷ goals) (suc at) within = polled moment goals at (omega (arith, within))

  pub polls_listed : (list all : List Ready) (moment : Moment) (goals : List AwakeGoal) (place at : ℕ) → list ++ map (poll_at moment) goals ≡ all → length list ≤ place → at ≡ place - length list → at < length goals
      → run_all (map (poll_at moment) (take ((at + 1) - at) (drop at goals))) world ≡ run_at all world place
  polls_listed list all moment goals place at are after is within =
      let single : (at + 1) - at ≡ 1 = omega arith in
      let there : length list + at ≡ place = omega (arith, after, is) in
      ap (λ (n : ℕ). run_all (map (poll_at moment) (take n (drop at goals))) world) single
      ∙ polled moment goals at within
      ∙ ap (λ (found : Option Ready). option_map_or (λ (some : Ready). run some world) found world) (sym (slice_get-behind list (map (poll_at moment) goals) at))
      ∙ ap (run_at (list ++ map (poll_at moment) goals) world) there
      ∙ ap (λ (some : List Ready). run_at some world place) are

  -- nothing beyond both
  pub none_listed : (list all : List Ready) (moment : Moment) (goals : List AwakeGoal) (place at : ℕ) → list ++ map (poll_at moment) goals ≡ all → length list ≤ place → at ≡ place - length list → length goals ≤ at → world ≡ run_at all world place
  none_listed list all moment goals place at are after is beyond =
      let both : length (list ++ map (poll_at moment) goals) ≡ length list + length (map (poll_at moment) goals) = length-append list (map (poll_at moment) goals) in
      sym (ap (λ (some : List Ready). run_at some world place) (sym are)
      ∙ ap (λ (found : Option Ready). option_map_or (λ (some : Ready). run some world) found world)
      (slice_get_past (list ++ map (poll_at moment) goals) place (omega (arith, both, length-map goals (poll_at moment), after, is, beyond))))

-- nothing arrived, as which an arrival is read beyond the last one
abbrev pub no_arrival : Arrived
no_arrival = record { number = 0; place = 0 }

-- the callback of one arrival more
pub ran_next : (all : List Ready) (now before after : WorldState) (arrivals : List Arrived) (i : ℕ) → after ≡ run_at all before (get_or arrivals i no_arrival).place → before ≡ run_arrived all now (take i arrivals) → i < length arrivals
    → after ≡ run_arrived all now (take (i + 1) arrivals)
ran_next all now before after arrivals i ran so_far within =
    ran
    ∙ ap (λ (world : WorldState). run_at all world (get_or arrivals i no_arrival).place) so_far
    ∙ sym (fold_more (λ (world : WorldState) (arrived : Arrived). run_at all world arrived.place) now arrivals i no_arrival within)

module _ (rank : Ready → ℕ) where
  -- ---- callbacks that run alike

  -- callbacks of one rank that run alike
  abbrev Alike : Ready → Ready → Type 0
  Alike one other = (rank one ≡ rank other) × ((world : WorldState) → run one world ≡ run other world)

  placed_zip : ((position : ℕ) (one : Ready) → rank (record one { position = position }) ≡ rank one) → (position : ℕ) (list : List Ready) → AllZip Alike (placed_from position list) list
  placed_zip same position [] = tt
  placed_zip same position (one ∷ list) = ((same position one, runs_alike position one), placed_zip same (suc position) list)

  -- ---- callbacks at the places of arrivals

  -- the arrivals of a list whose first has this place
  abbrev pub arrived_from : ℕ → List Ready → List Arrived
  arrived_from place [] = []
  arrived_from place (one ∷ list) = record { number = rank one; place = place } ∷ arrived_from (suc place) list

  pub arrived_is : (so_far : List Arrived) (list : List Ready) → fold (λ arrivals one. with_arrived arrivals (rank one)) so_far list ≡ so_far ++ arrived_from (length so_far) list
  arrived_is so_far [] = sym (append-nil so_far)
  arrived_is so_far (one ∷ list) =
      let next : Arrived = record { number = rank one; place = length so_far } in
      let more : length (so_far ++ next ∷ []) ≡ length so_far + 1 = length-append so_far (next ∷ []) in
      arrived_is (so_far ++ next ∷ []) list
      ∙ append_assoc so_far (next ∷ []) (arrived_from (length (so_far ++ next ∷ [])) list)
      ∙ ap (λ (place : ℕ). so_far ++ (next ∷ arrived_from place list)) (omega (arith, more))

  module _ (all : List Ready) where
    -- an arrival of a callback's rank, at whose place one stands that runs alike
    abbrev RunsAs : Arrived → Ready → Type 0
    RunsAs arrived one = (arrived.number ≡ rank one) × ((world : WorldState) → run_at all world arrived.place ≡ run one world)

    zip_from : (place : ℕ) (rest parts : List Ready) → ((k : ℕ) → slice_get all (place + k) ≡ slice_get rest k) → AllZip Alike rest parts → AllZip RunsAs (arrived_from place rest) parts
    zip_from place [] [] reads p = tt
    zip_from place [] (one ∷ parts) reads p = absurd p
    zip_from place (one ∷ rest) [] reads p = absurd p
    zip_from place (one ∷ rest) (other ∷ parts) reads p =
        let here : place ≡ place + 0 = omega arith in
        let there : slice_get all place ≡ Some one = ap (slice_get all) here ∙ reads 0 in (
          (p.0.0, λ world. ap (λ (found : _). option_map_or (λ (some : Ready). run some world) found world) there ∙ p.0.1 world),
          zip_from (suc place) rest parts (λ k. let next : suc place + k ≡ place + suc k = omega arith in ap (slice_get all) next ∙ reads (suc k)) p.1,
        )

    zip_run : (arrivals : List Arrived) (list : List Ready) → AllZip RunsAs arrivals list → (world : WorldState) → run_arrived all world arrivals ≡ run_all list world
    zip_run [] [] p world = refl
    zip_run [] (one ∷ list) p world = absurd p
    zip_run (arrived ∷ arrivals) [] p world = absurd p
    zip_run (arrived ∷ arrivals) (one ∷ list) p world = ap (λ (after : WorldState). run_arrived all after arrivals) (p.0.1 world) ∙ zip_run arrivals list p.1 (run one world)

    pub sorted_run : (parts : List Ready) → AllZip Alike all parts → (world : WorldState) → run_arrived all world (sorted_by (λ one. one.number) (arrived_from 0 all)) ≡ run_all (sorted_by rank parts) world
    sorted_run parts p world =
        zip_run (sorted_by (λ one. one.number) (arrived_from 0 all)) (sorted_by rank parts)
        (zip_sorted RunsAs (λ one. one.number) rank (λ arrived one q. q.0) (arrived_from 0 all) parts (zip_from 0 all parts (λ k. let same : 0 + k ≡ k = omega arith in ap (slice_get all) same) p)) world

-- ---- what a snapshot listed

module _ (moment : Moment) (world : WorldState) where
  abbrev number_of : Ready → ℕ
  number_of = rank_under order.Arrival world

  goals_zip : (entry : ServerEntry) (held : List HeldGoal) → AllZip (Alike number_of) (map (poll_at moment) (flat_map (goal_awake moment entry.handler) held))
      (map (λ held. ready_for moment entry.handler (woken held.goal) [] (Some entry.handler.script)) (filter (is_goal_awake moment) held))
  goals_zip entry [] = tt
  goals_zip entry (one ∷ held) = by (is_goal_awake moment one) refl (goals_zip entry held)
    where
      by : (b : Bool) → is_goal_awake moment one ≡ b
          → AllZip (Alike number_of) (map (poll_at moment) (flat_map (goal_awake moment entry.handler) held)) (map (λ held. ready_for moment entry.handler (woken held.goal) [] (Some entry.handler.script)) (filter (is_goal_awake moment) held))
          → AllZip (Alike number_of) (map (poll_at moment) (flat_map (goal_awake moment entry.handler) (one ∷ held))) (map (λ held. ready_for moment entry.handler (woken held.goal) [] (Some entry.handler.script)) (filter (is_goal_awake moment) (one ∷ held)))
      by true is rest = rw is ((refl, λ before. sym (poll_alike moment entry one.goal before)), rest)
      by false is rest = rw is rest

  polls_zip : (servers : List ServerEntry) → AllZip (Alike number_of) (map (poll_at moment) (flat_map (awake_goals moment) servers)) (flat_map (poll_ready moment) servers)
  polls_zip [] = tt
  polls_zip (entry ∷ servers) =
      subst (λ (list : List Ready). AllZip (Alike number_of) list (flat_map (poll_ready moment) (entry ∷ servers))) (sym (map-append (poll_at moment) (awake_goals moment entry) (flat_map (awake_goals moment) servers)))
      (zip_append (Alike number_of) (map (poll_at moment) (awake_goals moment entry)) (map (poll_at moment) (flat_map (awake_goals moment) servers)) (poll_ready moment entry) (flat_map (poll_ready moment) servers) (goals_zip entry entry.held) (polls_zip servers))

  parts_zip : (list : List Ready) (goals : List AwakeGoal) (split position : ℕ) → take split list ≡ placed_from 1 (ready_before moment world) → drop split list ≡ placed_from position (ready_behind moment world)
      → goals ≡ flat_map (awake_goals moment) world.servers → AllZip (Alike number_of) (list ++ map (poll_at moment) goals) (ready_in_parts moment world)
  parts_zip list goals split position first last awake =
      zip_append (Alike number_of) list (map (poll_at moment) goals) (ready_before moment world ++ ready_behind moment world) (flat_map (poll_ready moment) world.servers)
      (subst (λ (both : List Ready). AllZip (Alike number_of) both (ready_before moment world ++ ready_behind moment world)) (sym (λ i. first i ++ last i) ∙ take-append-drop split list)
      (zip_append (Alike number_of) (placed_from 1 (ready_before moment world)) (placed_from position (ready_behind moment world)) (ready_before moment world) (ready_behind moment world)
      (placed_zip number_of (λ place one. refl) 1 (ready_before moment world)) (placed_zip number_of (λ place one. refl) position (ready_behind moment world))))
      (subst (λ (some : List AwakeGoal). AllZip (Alike number_of) (map (poll_at moment) some) (flat_map (poll_ready moment) world.servers)) (sym awake) (polls_zip world.servers))

  -- callbacks run by the numbers of their arrivals, which a world told that has other timers and clients
  pub ran_by_number : {counted : WorldState} (timers : List TimerEntry) (clients : List ClientEntry) (now : WorldState) (list : List Ready) (goals : List AwakeGoal) (split position : ℕ) (arrivals sorted : List Arrived)
      → take split list ≡ placed_from 1 (ready_before moment world) → drop split list ≡ placed_from position (ready_behind moment world) → goals ≡ flat_map (awake_goals moment) world.servers
      → counted ≡ record world { timers = timers; clients = clients } → arrivals ≡ arrived_in counted (list ++ map (poll_at moment) goals) → sorted ≡ sorted_by (λ one. one.number) arrivals
      → run_arrived (list ++ map (poll_at moment) goals) now sorted ≡ run_all (placed_from 1 (sorted_by number_of (ready_in_parts moment world))) now
  ran_by_number {counted} timers clients now list goals split position arrivals sorted first last awake later noted is_sorted =
      let all : List Ready = list ++ map (poll_at moment) goals in
      let same : rank_under order.Arrival counted ≡ number_of = (λ i one. (ap (λ (held : WorldState). rank_under order.Arrival held one) later ∙ arrival_same one.entity one.cause world timers clients) i) in
      ap (run_arrived all now) (is_sorted ∙ ap (sorted_by (λ (one : Arrived). one.number)) (noted ∙ (λ i. fold (λ arrivals one. with_arrived arrivals (same i one)) [] all) ∙ arrived_is number_of [] all))
      ∙ sorted_run number_of all (ready_in_parts moment world) (parts_zip list goals split position first last awake) now
      ∙ sym (placed_alike 1 (sorted_by number_of (ready_in_parts moment world)) now)

-- ---- what a snapshot listed

-- it runs as the ready list does, under either order, which a world told that has other timers and clients
ran_in_order : (moment : Moment) (world : WorldState) (under : Order) {counted : WorldState} (timers : List TimerEntry) (clients : List ClientEntry) (now : WorldState)
    (list : List Ready) (goals : List AwakeGoal) (before : ℕ) (arrivals : List Arrived)
    → take before list ≡ placed_from 1 (ready_before moment world) → drop before list ≡ placed_from (before + 1) (ready_behind moment world) → goals ≡ flat_map (awake_goals moment) world.servers
    → counted ≡ record world { timers = timers; clients = clients } → AreListed under counted (list ++ map (poll_at moment) goals) arrivals
    → run_listed under before list (map (poll_at moment) goals) arrivals now ≡ run_all (listed_under under moment world) now
ran_in_order moment world order.Kind timers clients now list goals before arrivals first last awake later listed =
    ap (λ (some : List AwakeGoal). run_all (drop before list) (run_all (map (poll_at moment) some) (run_all (take before list) now))) awake
    ∙ parts_alike moment world now list before (before + 1) first last
ran_in_order moment world order.Arrival {counted} timers clients now list goals before arrivals first last awake later listed =
    ran_by_number moment world timers clients now list goals before (before + 1) (arrived_in counted (list ++ map (poll_at moment) goals)) arrivals first last awake later refl listed

-- and so it does under the order of the world
pub ran_listed : (moment : Moment) (world counted now after : WorldState) (timers : List TimerEntry) (clients : List ClientEntry) (list some : List Ready) (goals others : List AwakeGoal)
    (before : ℕ) (arrivals : List Arrived)
    → take before list ≡ placed_from 1 (ready_before moment world) → drop before list ≡ placed_from (before + 1) (ready_behind moment world) → goals ≡ flat_map (awake_goals moment) world.servers
    → counted ≡ record world { timers = timers; clients = clients } → now ≡ taken_in_parts moment world
    → AreListed counted.order counted (list ++ map (poll_at moment) goals) arrivals → some ≡ list → others ≡ goals
    → after ≡ run_listed now.order before some (map (poll_at moment) others) arrivals now → after ≡ run_all (listed_in moment world) now
ran_listed moment world counted now after timers clients list some goals others before arrivals first last awake later taken listed some_is others_is is =
    is
    ∙ (λ i. run_listed (taken i).order before (some_is i) (map (poll_at moment) (others_is i)) arrivals now)
    ∙ ran_in_order moment world world.order timers clients now list goals before arrivals first last awake later
    (subst (λ (under : Order). AreListed under counted (list ++ map (poll_at moment) goals) arrivals) (ap (λ (held : WorldState). held.order) later) listed)

-- ---- callbacks whose scripts are a graph's

module _ (graph : GraphData) (moment : Moment) where
  abbrev scripted_list : List Listed → List Ready
  scripted_list list = map (with_script_of graph) list

  -- what ran part by part
  pub ran_parts : (before : ℕ) (list : List Listed) (goals : List AwakeGoal) (arrivals : List Arrived) (now after : WorldState) → now.order ≡ order.Kind
      → after ≡ run_all (scripted_list (drop before list)) (run_all (map (poll_at moment) goals) (run_all (scripted_list (take before list)) now))
      → after ≡ run_listed now.order before (scripted_list list) (map (poll_at moment) goals) arrivals now
  ran_parts before list goals arrivals now after is_kind ran =
      ran
      ∙ (λ i. run_all (sym (drop-map (with_script_of graph) before list) i) (run_all (map (poll_at moment) goals) (run_all (sym (take-map (with_script_of graph) before list) i) now)))
      ∙ ap (λ (under : Order). run_listed under before (scripted_list list) (map (poll_at moment) goals) arrivals now) (sym is_kind)

  -- what ran by the numbers of arrivals
  pub ran_sorted : (before : ℕ) (list : List Listed) (goals : List AwakeGoal) (arrivals : List Arrived) (now after : WorldState) → now.order ≡ order.Arrival
      → after ≡ run_arrived (scripted_list list ++ map (poll_at moment) goals) now arrivals
      → after ≡ run_listed now.order before (scripted_list list) (map (poll_at moment) goals) arrivals now
  ran_sorted before list goals arrivals now after is_arrival ran =
      ran ∙ ap (λ (under : Order). run_listed under before (scripted_list list) (map (poll_at moment) goals) arrivals now) (sym is_arrival)

  -- what a snapshot listed runs as the ready list does
  pub ran_scripted : (world counted now after : WorldState) (list some : List Listed) (goals others : List AwakeGoal) (before : ℕ) (arrivals : List Arrived)
      → HaveScriptsOf graph world → IsListed moment world before counted list goals → now ≡ record counted { queues = map queue_taken counted.queues }
      → ((of : GraphData) → AreListed counted.order counted (map (with_script_of of) list ++ map (poll_at moment) goals) arrivals) → some ≡ list → others ≡ goals
      → after ≡ run_listed now.order before (scripted_list some) (map (poll_at moment) others) arrivals now → after ≡ round_in moment world
  ran_scripted world counted now after list some goals others before arrivals have p taken listed some_is others_is is =
      let inputs : now ≡ taken_in_parts moment world = taken ∙ ap (λ (held : WorldState). record held { queues = map queue_taken held.queues }) p.taken in
      ran_listed moment world counted now after _ _ (scripted_list list) (scripted_list some) goals others before arrivals
      (take-map (with_script_of graph) before list ∙ ap scripted_list p.first ∙ scripts_before graph moment world have)
      (drop-map (with_script_of graph) before list ∙ ap scripted_list p.last ∙ scripts_behind graph moment world have (before + 1))
      p.awake p.taken inputs (listed graph) (ap scripted_list some_is) others_is is
      ∙ ap (run_all (listed_in moment world)) inputs
