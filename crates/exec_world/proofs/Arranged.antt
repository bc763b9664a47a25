-- The ready list that is handed out is that of the definition.
use Rattle.std.proofs.Common.{◌≡◌, ℕ, zero, suc, ◌+◌, ◌-◌, ◌<◌, ◌≤◌, List, [], ◌∷◌, ◌++◌, length, get_or, take, drop, map, slice_get, Some, refl, sym, ap, subst, ◌∙◌, arith, append_assoc, length-append}
use Rattle.std.proofs.lemmas.List.{append-nil, length-map, map_more}
use Rattle.std.proofs.lemmas.Option.{slice_get_past}
use Rattle.std.specs.List.{AllZip, flat_map}
use Rattle.std.specs.Option.{option_to_list}
use Rattle.exec_entity.proofs.Polls.{added_next}
use Rattle.exec_msg.specs.Numbers.{Moment}
use Rattle.exec_plan.proofs.Positions.{slice_get-behind}
use Rattle.exec_plan.specs.Graph.{GraphData}
use Rattle.exec_plan.specs.declared.order.Order.{Order}
use Rattle.exec_plan.specs.declared.order.Order.TheVariants as order
use Rattle.exec_rules.proofs.Listing.{placed_length, placed_more}
use Rattle.exec_rules.specs.Ready.{placed_from, poll_ready, rank_under}
use Rattle.exec_rules.specs.Sorting.{sorted_by}
use Rattle.exec_rules.specs.World.{WorldState}
use Rattle.exec_rules.specs.declared.ready.Ready.{Ready}
use Rattle.exec_rules.specs.declared.ready.AwakeGoal.{AwakeGoal}
use Rattle.exec_rules.specs.inner.Awake.{poll_at}
use Rattle.exec_rules.specs.inner.ByKind.{ready_before, ready_behind}
use Rattle.exec_rules.specs.declared.listed.Listed.{Listed}
use Rattle.exec_rules.specs.inner.Listing.{positioned, with_script_of}
use Rattle.exec_world.proofs.InArrival.{arrival_same, arrived_from, arrived_is, no_arrival, zip_append, zip_sorted}
use Rattle.exec_world.proofs.PlanScripts.{scripts_before, scripts_behind, scripts_of_polls, scripts_whole}
use Rattle.exec_world.specs.declared.arrived.Arrived.{Arrived}
use Rattle.exec_world.specs.inner.Arrivals.{AreListed, callback_at, callbacks_at}
use Rattle.exec_world.specs.inner.Snapshots.{HaveScriptsOf, IsListed, in_parts, listed_in, listed_under, placed_behind, scripted_poll, with_polls}

-- ---- callbacks behind others

-- places that are given anew
placed_anew : (position before : ℕ) (list more : List Ready) → placed_from position (placed_from before list ++ more) ≡ placed_from position (list ++ more)
placed_anew position before [] more = refl
placed_anew position before (one ∷ list) more = ap (λ (rest : List Ready). record one { position = position } ∷ rest) (placed_anew (suc position) (suc before) list more)

placed_again : (position before : ℕ) (some list : List Ready) → placed_from position (some ++ placed_from before list) ≡ placed_from position (some ++ list)
placed_again position before (one ∷ some) list = ap (λ (rest : List Ready). record one { position = position } ∷ rest) (placed_again (suc position) before some list)
placed_again position before [] [] = refl
placed_again position before [] (one ∷ list) = ap (λ (rest : List Ready). record one { position = position } ∷ rest) (placed_again (suc position) (suc before) [] list)

-- behind what is behind
pub behind_more : (list some more : List Ready) → placed_behind (placed_behind list some) more ≡ placed_behind list (some ++ more)
behind_more list some more =
    let first : List Ready = placed_from (length list + 1) some in
    append_assoc list first (placed_from (length (placed_behind list some) + 1) more)
    ∙ ap (λ (n : ℕ). list ++ (first ++ placed_from n more))
    (let whole : length (placed_behind list some) ≡ length list + length first = length-append list first in
    let part : length first ≡ length some = placed_length (length list + 1) some in
    omega (arith, whole, part))
    ∙ ap (λ (rest : List Ready). list ++ rest) (sym (placed_more (length list + 1) some more))

-- one more of those that are made of a list
pub behind_next : {A : Type 0} (f : A → Ready) (all : List A) (i : ℕ) (one : A) (list now : List Ready) → i < length all → one ≡ get_or all i one → now ≡ placed_behind list (map f (take i all))
    → now ++ positioned (length now + 1) (f one) ∷ [] ≡ placed_behind list (map f (take (i + 1) all))
behind_next f all i one list now within reads so_far =
    ap (λ (before : List Ready). placed_behind before (f one ∷ [])) so_far
    ∙ behind_more list (map f (take i all)) (f one ∷ [])
    ∙ ap (λ (next : _). placed_behind list (map f (take i all) ++ f next ∷ [])) reads
    ∙ ap (placed_behind list) (sym (map_more f all i one within))

-- the first of what is listed, polls, and the others, one behind the other
pub parts_behind : (graph : GraphData) (moment : Moment) (before : ℕ) (some list : List Listed) (awake goals : List AwakeGoal) {start first second whole : List Ready} → some ≡ list → awake ≡ goals
    → start ≡ [] → first ≡ placed_behind start (map (with_script_of graph) (take before some)) → second ≡ placed_behind first (map (scripted_poll graph moment) awake)
    → whole ≡ placed_behind second (map (with_script_of graph) (drop before some)) → whole ≡ in_parts graph moment before list goals
parts_behind graph moment before some list awake goals is_list are_goals begins is_first is_second is_whole =
    let front : List Ready = map (with_script_of graph) (take before list) in
    let polls : List Ready = map (scripted_poll graph moment) goals in
    let back : List Ready = map (with_script_of graph) (drop before list) in
    is_whole
    ∙ (λ i. placed_behind (is_second i) (map (with_script_of graph) (drop before (is_list i))))
    ∙ (λ i. placed_behind (placed_behind (is_first i) (map (scripted_poll graph moment) (are_goals i))) back)
    ∙ (λ i. placed_behind (placed_behind (placed_behind (begins i) (map (with_script_of graph) (take before (is_list i)))) polls) back)
    ∙ ap (λ (so_far : List Ready). placed_behind so_far back) (behind_more [] front polls)
    ∙ behind_more [] (front ++ polls) back

-- ---- callbacks at places

-- one callback of those that are made of a list
one_there : {A : Type 0} (f : A → Ready) (list : List A) (more : List Ready) (place : ℕ) → place < length list → map f (take 1 (drop place list)) ≡ callback_at (map f list ++ more) place
one_there f [] more place within = absurd (omega (arith, within))
one_there f (one ∷ list) more zero within = refl
one_there f (one ∷ list) more (suc place) within = one_there f list more place (omega (arith, within))

pub listed_there : {A : Type 0} (f : A → Ready) (list : List A) (more : List Ready) (place : ℕ) → place < length list → map f (take ((place + 1) - place) (drop place list)) ≡ callback_at (map f list ++ more) place
listed_there f list more place within =
    let single : (place + 1) - place ≡ 1 = omega arith in
    ap (λ (n : ℕ). map f (take n (drop place list))) single ∙ one_there f list more place within

module _ {A B : Type 0} (f : A → Ready) (g : B → Ready) (list : List A) (more : List B) (place at : ℕ) (is : at ≡ place - length list) (after : length list ≤ place) where
  -- a place behind the list
  pub behind_there : at < length more → map g (take ((at + 1) - at) (drop at more)) ≡ callback_at (map f list ++ map g more) place
  behind_there within =
      let there : length (map f list) + at ≡ place = omega (arith, length-map list f, is, after) in
      listed_there g more [] at within
      ∙ ap (λ (some : List Ready). callback_at some at) (append-nil (map g more))
      ∙ ap option_to_list (sym (slice_get-behind (map f list) (map g more) at))
      ∙ ap (callback_at (map f list ++ map g more)) there

  -- nothing is beyond both
  pub none_there : length more ≤ at → [] ≡ callback_at (map f list ++ map g more) place
  none_there beyond =
      let both : length (map f list ++ map g more) ≡ length (map f list) + length (map g more) = length-append (map f list) (map g more) in
      sym (ap option_to_list (slice_get_past (map f list ++ map g more) place (omega (arith, both, length-map list f, length-map more g, is, after, beyond))))

-- the callbacks at the places of one arrival more
pub next_there : (all : List Ready) (arrivals : List Arrived) (i : ℕ) (now after : List Ready) → i < length arrivals → now ≡ placed_from 1 (callbacks_at all (take i arrivals))
    → after ≡ placed_behind now (callback_at all (get_or arrivals i no_arrival).place) → after ≡ placed_from 1 (callbacks_at all (take (i + 1) arrivals))
next_there all arrivals i now after within so_far is =
    let next : List Ready = callback_at all (get_or arrivals i no_arrival).place in
    is
    ∙ ap (λ (list : List Ready). placed_behind list next) so_far
    ∙ behind_more [] (callbacks_at all (take i arrivals)) next
    ∙ ap (placed_from 1) (added_next (λ (arrived : Arrived). callback_at all arrived.place) [] arrivals i no_arrival within)

module _ (rank : Ready → ℕ) where
  -- an arrival with the rank of a callback, at whose place that is
  abbrev IsAt : List Ready → Arrived → Ready → Type 0
  IsAt all arrived one = (arrived.number ≡ rank one) × (slice_get all arrived.place ≡ Some one)

  all_at : (all : List Ready) (place : ℕ) (rest : List Ready) → ((k : ℕ) → slice_get all (place + k) ≡ slice_get rest k) → AllZip (IsAt all) (arrived_from rank place rest) rest
  all_at all place [] reads = tt
  all_at all place (one ∷ rest) reads =
      let here : place ≡ place + 0 = omega arith in (
        (refl, ap (slice_get all) here ∙ reads 0),
        all_at all (suc place) rest (λ k. let next : suc place + k ≡ place + suc k = omega arith in ap (slice_get all) next ∙ reads (suc k)),
      )

  picked : (all : List Ready) (arrivals : List Arrived) (list : List Ready) → AllZip (IsAt all) arrivals list → callbacks_at all arrivals ≡ list
  picked all [] [] p = refl
  picked all [] (one ∷ list) p = absurd p
  picked all (arrived ∷ arrivals) [] p = absurd p
  picked all (arrived ∷ arrivals) (one ∷ list) p = λ i. option_to_list (p.0.1 i) ++ picked all arrivals list p.1 i

  -- those at the places of the arrivals, the earliest first, are sorted by rank
  picked_sorted : (all : List Ready) → callbacks_at all (sorted_by (λ one. one.number) (arrived_from rank 0 all)) ≡ sorted_by rank all
  picked_sorted all =
      picked all (sorted_by (λ one. one.number) (arrived_from rank 0 all)) (sorted_by rank all)
      (zip_sorted (IsAt all) (λ one. one.number) rank (λ arrived one is. is.0) (arrived_from rank 0 all) all (all_at all 0 all (λ k. let same : 0 + k ≡ k = omega arith in ap (slice_get all) same)))

  -- callbacks of one rank that differ in their places at most
  abbrev AreSame : Ready → Ready → Type 0
  AreSame one other = (rank one ≡ rank other) × (positioned 0 one ≡ positioned 0 other)

  placed_same : (position : ℕ) (some list : List Ready) → AllZip AreSame some list → placed_from position some ≡ placed_from position list
  placed_same position [] [] p = refl
  placed_same position [] (one ∷ list) p = absurd p
  placed_same position (one ∷ some) [] p = absurd p
  placed_same position (one ∷ some) (other ∷ list) p = λ i. positioned position (p.0.1 i) ∷ placed_same (suc position) some list p.1 i

  same_placed : ((position : ℕ) (one : Ready) → rank (positioned position one) ≡ rank one) → (position : ℕ) (list : List Ready) → AllZip AreSame (placed_from position list) list
  same_placed same position [] = tt
  same_placed same position (one ∷ list) = ((same position one, refl), same_placed same (suc position) list)

  same_all : (list : List Ready) → AllZip AreSame list list
  same_all [] = tt
  same_all (one ∷ list) = ((refl, refl), same_all list)

  -- so places that they had don't matter to the sort
  placed_sorted : ((position : ℕ) (one : Ready) → rank (positioned position one) ≡ rank one) → (list more : List Ready)
      → placed_from 1 (sorted_by rank (placed_from 1 list ++ more)) ≡ placed_from 1 (sorted_by rank (list ++ more))
  placed_sorted same list more =
      placed_same 1 (sorted_by rank (placed_from 1 list ++ more)) (sorted_by rank (list ++ more))
      (zip_sorted AreSame rank rank (λ one other is. is.0) (placed_from 1 list ++ more) (list ++ more) (zip_append AreSame (placed_from 1 list) more list more (same_placed same 1 list) (same_all more)))

-- polls have the same arrivals without their scripts
same_arrivals : (world : WorldState) (graph : GraphData) (moment : Moment) (goals : List AwakeGoal) (list : List Ready) (place : ℕ)
    → arrived_from (rank_under order.Arrival world) place (list ++ map (poll_at moment) goals) ≡ arrived_from (rank_under order.Arrival world) place (list ++ map (scripted_poll graph moment) goals)
same_arrivals world graph moment goals (one ∷ list) place = ap (λ (rest : List Arrived). record { number = rank_under order.Arrival world one; place = place } ∷ rest) (same_arrivals world graph moment goals list (suc place))
same_arrivals world graph moment [] [] place = refl
same_arrivals world graph moment (goal ∷ goals) [] place =
    ap (λ (rest : List Arrived). record { number = rank_under order.Arrival world (poll_at moment goal); place = place } ∷ rest) (same_arrivals world graph moment goals [] (suc place))

-- ---- the whole list

module _ (graph : GraphData) (moment : Moment) (world : WorldState) (before : ℕ) (now : WorldState) (list : List Listed) (goals : List AwakeGoal) (have : HaveScriptsOf graph world)
    (p : IsListed moment world before now list goals) where
  polls : map (scripted_poll graph moment) goals ≡ flat_map (poll_ready moment) world.servers
  polls = ap (map (scripted_poll graph moment)) p.awake ∙ scripts_of_polls graph moment world have

  same_order : now.order ≡ world.order
  same_order = ap (λ (held : WorldState). held.order) p.taken

  -- part by part
  pub handed_by_kind : now.order ≡ order.Kind → in_parts graph moment before list goals ≡ listed_in moment world
  handed_by_kind is =
      let first : map (with_script_of graph) (take before list) ≡ placed_from 1 (ready_before moment world) = ap (map (with_script_of graph)) p.first ∙ scripts_before graph moment world have in
      let last : map (with_script_of graph) (drop before list) ≡ placed_from (before + 1) (ready_behind moment world) = ap (map (with_script_of graph)) p.last ∙ scripts_behind graph moment world have (before + 1) in
      let middle : List Ready = flat_map (poll_ready moment) world.servers in
      (λ i. placed_from 1 (first i ++ polls i ++ last i))
      ∙ placed_again 1 (before + 1) (placed_from 1 (ready_before moment world) ++ middle) (ready_behind moment world)
      ∙ ap (placed_from 1) (append_assoc (placed_from 1 (ready_before moment world)) middle (ready_behind moment world))
      ∙ placed_anew 1 1 (ready_before moment world) (middle ++ ready_behind moment world)
      ∙ ap (placed_from 1) (sym (append_assoc (ready_before moment world) middle (ready_behind moment world)))
      ∙ ap (λ (under : Order). listed_under under moment world) (sym is ∙ same_order)

  -- by the numbers of arrivals
  pub handed_by_arrival : (arrivals : List Arrived) → now.order ≡ order.Arrival → AreListed now.order now (map (with_script_of graph) list ++ map (poll_at moment) goals) arrivals
      → placed_from 1 (callbacks_at (with_polls graph moment list goals) arrivals) ≡ listed_in moment world
  handed_by_arrival arrivals is listed =
      let rank : Ready → ℕ = rank_under order.Arrival now in
      let all : List Ready = with_polls graph moment list goals in
      let bare : List Ready = map (with_script_of graph) list ++ map (poll_at moment) goals in
      let parts : List Ready = ready_before moment world ++ ready_behind moment world in
      let first : map (with_script_of graph) list ≡ placed_from 1 parts = ap (map (with_script_of graph)) p.whole ∙ scripts_whole graph moment world have in
      let same : rank ≡ rank_under order.Arrival world = (λ i one. (ap (λ (held : WorldState). rank_under order.Arrival held one) p.taken ∙ arrival_same one.entity one.cause world _ _) i) in
      ap (λ (some : List Arrived). placed_from 1 (callbacks_at all some))
      (subst (λ (under : Order). AreListed under now bare arrivals) is listed ∙ ap (sorted_by (λ (one : Arrived). one.number)) (arrived_is rank [] bare ∙ same_arrivals now graph moment goals (map (with_script_of graph) list) 0))
      ∙ ap (placed_from 1) (picked_sorted rank all)
      ∙ (λ i. placed_from 1 (sorted_by (same i) (first i ++ polls i)))
      ∙ placed_sorted (rank_under order.Arrival world) (λ position one. refl) parts (flat_map (poll_ready moment) world.servers)
      ∙ ap (λ (under : Order). listed_under under moment world) (sym is ∙ same_order)
