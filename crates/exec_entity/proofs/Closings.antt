-- What closes a callback, and what the loops of a round come to.
use Rattle.std.proofs.Common.{◌≡◌, inr, ℕ, ℤ, zero, suc, ◌+◌, ◌<◌, ◌≤◌, ◌&&◌, ◌==◌, List, [], ◌∷◌, ◌++◌, length, map, take, drop, get_or, Bool, true, false, cond, if◌then◌else◌, Option, None, Some, find, slice_get, slice_set, refl, sym, ap, subst, ◌∙◌, add-one, append_assoc, arith}
use Rattle.std.specs.List.{flat_map, fold}
use Rattle.std.specs.Option.{option_map, unwrap_or}
use Rattle.std.proofs.lemmas.Bool.{eqb-true}
use Rattle.std.proofs.lemmas.List.{append-nil, drop_all, flat_map_more, length-map, map_more, take_all, take_more}
use Rattle.exec_goal.specs.Cancel.{CancelRequest, Decided, moved, table_after, code_of}
use Rattle.exec_goal.specs.Calls.{askers_of, askers_in, end_state, moved_to, where_terminal}
use Rattle.exec_goal.specs.State.{after, is_terminal, status_of}
use Rattle.exec_goal.specs.Table.{GoalRecord, has_id, after_end}
use Rattle.exec_goal.specs.declared.state.State.{State}
use Rattle.exec_msg.specs.Numbers.{EntityNo, GoalId, Moment}
use Rattle.exec_msg.specs.declared.goal.Event.{Event}
use Rattle.exec_msg.specs.declared.goal.GoalStatus.{GoalStatus}
use Rattle.exec_msg.specs.declared.goal.GoalStatus.TheVariants as status
use Rattle.exec_msg.specs.declared.goal.ReturnCode.{ReturnCode}
use Rattle.exec_msg.specs.declared.line.Line.{Line}
use Rattle.exec_msg.specs.declared.line.Line.TheVariants as line
use Rattle.exec_msg.specs.Lists.{change_first}
use Rattle.exec_entity.proofs.FoundEntries.{found_number}
use Rattle.exec_rules.proofs.Identifiers.{changing, goals_here}
use Rattle.exec_rules.proofs.Keeping.{ids_changed}
use Rattle.exec_rules.specs.Close.{ask_where, respond, moved_lines, answer_cancel, cancel, tell, tell_end, with_ended, end_in, end}
use Rattle.exec_rules.specs.World.{WorldState, ServerEntry, ActionClientEntry, is_server_at, with_goals, add_line, add_lines, push, push_any, goals_at, action_client_at, goals_in}
use Rattle.exec_rules.specs.declared.item.Item.TheVariants as item
use Rattle.exec_entity.specs.inner.Numbered.{FindsByNumber}
use Rattle.exec_msg.specs.Places.{first_place}

-- ---- lists

-- what is read at a place stands there, before what is left behind it
from_place : {A : Type 0} (xs : List A) (i : ℕ) (x : A) → Some x ≡ slice_get xs i → drop i xs ≡ x ∷ drop (i + 1) xs
from_place {A} xs i x at = rw add-one (from xs i at)
  where
    from : (xs : List A) (i : ℕ) → Some x ≡ slice_get xs i → drop i xs ≡ x ∷ drop (suc i) xs
    from [] i at = absurd cc
    from (y ∷ xs) zero at =
        let same : y ≡ x = cc in
        ap (λ one. one ∷ xs) same
    from (y ∷ xs) (suc i) at = from xs i at

-- where nothing is read nothing is left
behind_all : {A : Type 0} (xs : List A) (i : ℕ) → None ≡ slice_get xs i → drop i xs ≡ []
behind_all [] zero none = refl
behind_all [] (suc i) none = refl
behind_all (x ∷ xs) zero none = absurd cc
behind_all (x ∷ xs) (suc i) none = behind_all xs i none

-- what is left to do from a place on is done to what stands there, and then from the next place on
pub left_next : {A B : Type 0} (step : B → A → B) (xs : List A) (i : ℕ) (x : A) → Some x ≡ slice_get xs i → (before after whole : B) → after ≡ step before x →
    fold step before (drop i xs) ≡ whole → fold step after (drop (i + 1) xs) ≡ whole
left_next step xs i x at before after whole does left =
    ap (λ one. fold step one (drop (i + 1) xs)) does ∙ ap (fold step before) (sym (from_place xs i x at)) ∙ left

-- and where nothing stands all is done
pub left_none : {A B : Type 0} (step : B → A → B) (xs : List A) (i : ℕ) → None ≡ slice_get xs i → (now whole : B) → fold step now (drop i xs) ≡ whole → now ≡ whole
left_none step xs i none now whole left = ap (fold step now) (sym (behind_all xs i none)) ∙ left

-- lines of one element more
pub lines_more : {A : Type 0} (f : A → List Line) (lines : List Line) (xs : List A) (i : ℕ) (x : A) → i < length xs → x ≡ get_or xs i x →
    (lines ++ flat_map f (take i xs)) ++ f x ≡ lines ++ flat_map f (take (i + 1) xs)
lines_more f lines xs i x within reads =
    flat_map_more f lines (take i xs) x
    ∙ ap (λ one. lines ++ flat_map f (take i xs ++ one ∷ [])) reads
    ∙ ap (λ all. lines ++ flat_map f all) (sym (take_more xs i x within))

-- a line of one element more
pub line_more : {A : Type 0} (f : A → Line) (lines : List Line) (xs : List A) (i : ℕ) (x : A) → i < length xs → x ≡ get_or xs i x →
    (lines ++ map f (take i xs)) ++ f x ∷ [] ≡ lines ++ map f (take (i + 1) xs)
line_more f lines xs i x within reads =
    append_assoc lines (map f (take i xs)) (f x ∷ [])
    ∙ ap (λ one. lines ++ (map f (take i xs) ++ f one ∷ [])) reads
    ∙ ap (λ all. lines ++ all) (sym (map_more f xs i x within))

-- an element that keeps what is read of it
pub mapped_set : {A B : Type 0} (f : A → B) (xs : List A) (i : ℕ) (x after : A) → x ≡ get_or xs i x → f after ≡ f x → map f (slice_set xs i after) ≡ map f xs
mapped_set f [] i x after reads keeps = refl
mapped_set f (y ∷ xs) zero x after reads keeps = ap (λ one. one ∷ map f xs) (keeps ∙ ap f reads)
mapped_set f (y ∷ xs) (suc i) x after reads keeps = ap (λ others. f y ∷ others) (mapped_set f xs i x after reads keeps)

-- what is written back over a whole list, whose length stays
pub mapped_back : {A B : Type 0} (f : A → B) (before read written : List A) (len : ℕ) → map f written ≡ map f read → read ≡ before → length read ≡ len → map f (take len (written ++ drop (length written) before)) ≡ map f before
mapped_back f before read written len same reads lasts =
    let long : length written ≡ length read = sym (length-map written f) ∙ ap length same ∙ length-map read f in
    let short : length before ≤ length written = let as_read : length read ≡ length before = ap length reads in omega (arith, long, as_read) in
    let all : length written ≤ len = omega (arith, long, lasts) in
    let only : written ++ drop (length written) before ≡ written = ap (λ left. written ++ left) (drop_all (length written) before short) ∙ append-nil written in
    ap (λ whole. map f (take len whole)) only ∙ ap (map f) (take_all len written all) ∙ same ∙ ap (map f) reads

-- ---- servers found by their numbers

place_of_number : (number : ℕ) (servers : List ServerEntry) → first_place (λ server. server.handler.entity == number) servers ≡ first_place (λ one. one == number) (map (λ server. server.handler.entity) servers)
place_of_number number [] = refl
place_of_number number (server ∷ servers) = ap (λ place. if server.handler.entity == number then Some zero else option_map suc place) (place_of_number number servers)

-- servers of the same numbers are found alike
pub finds_alike : (places : List (Option ℕ)) (before left : List ServerEntry) → map (λ server. server.handler.entity) left ≡ map (λ server. server.handler.entity) before →
    FindsByNumber (λ (server : ServerEntry). server.handler.entity) places before → FindsByNumber (λ (server : ServerEntry). server.handler.entity) places left
finds_alike places before left same finds = λ number. finds number ∙ place_of_number number before ∙ ap (first_place (λ one. one == number)) (sym same) ∙ sym (place_of_number number left)

-- ---- responses

responds_by : (client server : EntityNo) (id : GoalId) (accepted : Bool) (world : WorldState) (entry : ActionClientEntry) → entry.entity ≡ client → server ≡ entry.server → accepted ≡ true → entry.asks ≡ true →
    push server (item.Ask id client) (add_line (line.Ask client id) world) ≡ respond (Some entry) id accepted world
responds_by client server id accepted world entry named at is asks =
    (λ i. push (at i) (item.Ask id (sym named i)) (add_line (line.Ask (sym named i) id) world)) ∙ (λ i. ask_where (sym is i && sym asks i) entry id world)

-- an action client that asks for results asks for that of a goal that was accepted
pub responds : (client server : EntityNo) (id : GoalId) (accepted : Bool) (world : WorldState) (entry : ActionClientEntry) → action_client_at client world ≡ Some entry → server ≡ entry.server → accepted ≡ true → entry.asks ≡ true →
    push server (item.Ask id client) (add_line (line.Ask client id) world) ≡ respond (action_client_at client world) id accepted world
responds client server id accepted world entry found at is asks =
    responds_by client server id accepted world entry (found_number (λ (one : ActionClientEntry). one.entity) client world.action_clients entry found) at is asks ∙ ap (λ found. respond found id accepted world) (sym found)

-- ---- cancel requests

mapped_twice : {A B C : Type 0} (f : B → C) (g : A → B) (xs : List A) → map f (map g xs) ≡ map (λ x. f (g x)) xs
mapped_twice f g [] = refl
mapped_twice f g (x ∷ xs) = ap (λ others. f (g x) ∷ others) (mapped_twice f g xs)

-- a request is answered with a code and the number of goals that move, once each has its line
answers_cancel : (server : EntityNo) (client : Option EntityNo) (given : ReturnCode) (goals : List GoalRecord) (world : WorldState) (returned : ReturnCode) → returned ≡ given →
    (ids : List GoalId) → ids ≡ map (λ goal. goal.id) goals → (count : ℕ) → count ≡ length ids →
    push_any client (item.Code returned count) (add_line (line.Code server returned count) (add_lines (map (λ id. line.State server id status.Canceling) ids) world)) ≡ answer_cancel server client given goals world
answers_cancel server client given goals world returned same ids are count counts =
    let many : count ≡ length goals = counts ∙ ap (λ (all : List GoalId). length all) are ∙ length-map goals (λ goal. goal.id) in
    let lines : (world.lines ++ map (λ id. line.State server id status.Canceling) (map (λ (goal : GoalRecord). goal.id) goals)) ++ line.Code server given (length goals) ∷ []
    ≡ world.lines ++ (moved_lines server goals ++ line.Code server given (length goals) ∷ []) =
    ap (λ said. (world.lines ++ said) ++ line.Code server given (length goals) ∷ []) (mapped_twice (λ id. line.State server id status.Canceling) (λ (goal : GoalRecord). goal.id) goals)
    ∙ append_assoc world.lines (moved_lines server goals) (line.Code server given (length goals) ∷ []) in
    (λ i. push_any client (item.Code (same i) (many i)) (add_line (line.Code server (same i) (many i)) (add_lines (map (λ id. line.State server id status.Canceling) (are i)) world)))
    ∙ ap (λ (said : List Line). push_any client (item.Code given (length goals)) (record world { lines = said })) lines

-- the same of what was decided on a request's candidates, behind each step
pub cancels : (server : EntityNo) (request : CancelRequest) (client : Option EntityNo) (decisions : List Decided) (before now : WorldState) → before ≡ now →
    (servers : List ServerEntry) → servers ≡ change_first (is_server_at server) (with_goals (table_after decisions)) before.servers →
    (returned : ReturnCode) → returned ≡ code_of request decisions (goals_in server before.servers) →
    (ids : List GoalId) → ids ≡ map (λ goal. goal.id) (moved decisions (goals_in server before.servers)) → (count : ℕ) → count ≡ length ids →
    (told : WorldState) → told ≡ add_lines (map (λ id. line.State server id status.Canceling) ids) (record before { servers = servers }) →
    (coded : WorldState) → coded ≡ add_line (line.Code server returned count) told →
    push_any client (item.Code returned count) coded ≡ cancel server request client decisions now
cancels server request client decisions before now same servers table returned code ids are count counts told tells coded codes =
    ap (λ (world : WorldState). push_any client (item.Code returned count) world) (codes ∙ ap (λ (world : WorldState). add_line (line.Code server returned count) world) tells)
    ∙ answers_cancel server client (code_of request decisions (goals_in server before.servers)) (moved decisions (goals_in server before.servers)) (record before { servers = servers }) returned code ids are count counts
    ∙ (λ i. answer_cancel server client (code_of request decisions (goals_in server before.servers)) (moved decisions (goals_in server before.servers)) (record before { servers = table i }))
    ∙ (λ i. cancel server request client decisions (same i))

-- ---- goals that end

module _ (id : GoalId) (value : ℤ) (reached : State) where
  -- a goal is found that ended in a state with a result
  data Ends : Option GoalRecord → Type 0 where
    ends : (goal : GoalRecord) → goal.id ≡ id → goal.state ≡ reached → goal.result ≡ value → Ends (Some goal)

  reached_by : (next : Option State) (before : State) → Some reached ≡ where_terminal next → unwrap_or next before ≡ reached
  reached_by None before is = absurd cc
  reached_by (Some one) before is = by (is_terminal one) is
    where
      by : (b : Bool) → Some reached ≡ cond b (Some one) None → one ≡ reached
      by true is = cc
      by false is = absurd cc

  module _ (event : Event) (moment : Moment) where
    ended_by : (b : Bool) (goal : GoalRecord) (goals : List GoalRecord) → (goal.id == id) ≡ b → Some reached ≡ where_terminal (moved_to event (option_map (λ goal. goal.state) (cond b (Some goal) (find (has_id id) goals)))) →
        (Some reached ≡ end_state id event goals → Ends (find (has_id id) (change_first (has_id id) (after_end event value moment) goals))) →
        Ends (find (has_id id) (if b then after_end event value moment goal ∷ goals else goal ∷ change_first (has_id id) (after_end event value moment) goals))
    ended_by true goal goals is leads others = rw is (ends (after_end event value moment goal) (eqb-true goal.id id is) (reached_by (after goal.state event) goal.state leads) refl)
    ended_by false goal goals is leads others = rw is (others leads)

    -- the goal that an event ends stands in the table after it
    ended_in : (goals : List GoalRecord) → Some reached ≡ end_state id event goals → Ends (find (has_id id) (change_first (has_id id) (after_end event value moment) goals))
    ended_in [] leads = absurd cc
    ended_in (goal ∷ goals) leads = ended_by (goal.id == id) goal goals refl leads (ended_in goals)

  -- telling of it is telling its askers what it ended with
  told_ends : (server : EntityNo) (world : WorldState) (found : Option GoalRecord) → Ends found →
      fold (λ before client. tell server id (status_of reached) value client before) (add_line (line.State server id (status_of reached)) world) (askers_of found) ≡ tell_end server found world
  told_ends server world None held = elim held [ ]
  told_ends server world (Some goal) (ends _ named state result) =
      λ i. fold (λ before client. tell server (sym named i) (status_of (sym state i)) (sym result i) client before) (add_line (line.State server (sym named i) (status_of (sym state i))) world) goal.askers

-- the world in which an event ended a goal, its askers told
ended_world : (server : EntityNo) (id : GoalId) (event : Event) (value : ℤ) (moment : Moment) (reached : State) (world : WorldState) → Some reached ≡ end_state id event (goals_at server world) →
    fold (λ before client. tell server id (status_of reached) value client before) (add_line (line.State server id (status_of reached)) (with_ended server id event value moment world))
    (askers_in id (goals_at server (with_ended server id event value moment world))) ≡ end server id event value moment world
ended_world server id event value moment reached world leads =
    let there = goals_here (changing (change_first (has_id id) (after_end event value moment)) (ids_changed id (after_end event value moment) (λ goal. refl))) server world.servers (inr refl) in
    let ended : Ends id value reached (find (has_id id) (goals_at server (with_ended server id event value moment world))) =
    subst (λ (goals : List GoalRecord). Ends id value reached (find (has_id id) goals)) (sym there) (ended_in id value reached event moment (goals_at server world) leads) in
    told_ends id value reached server (with_ended server id event value moment world) (find (has_id id) (goals_at server (with_ended server id event value moment world))) ended
    ∙ ap (λ found. end_in found server id event value moment world) leads

-- the same where it is known which world and which status these are
pub ended_told : (server : EntityNo) (id : GoalId) (event : Event) (value : ℤ) (moment : Moment) (before now : WorldState) → before ≡ now →
    (servers : List ServerEntry) → servers ≡ change_first (is_server_at server) (with_goals (change_first (has_id id) (after_end event value moment))) before.servers →
    (reached : State) → Some reached ≡ end_state id event (goals_in server before.servers) → (told : GoalStatus) → told ≡ status_of reached →
    fold (λ before client. tell server id told value client before) (add_line (line.State server id told) (record before { servers = servers })) (askers_in id (goals_in server servers)) ≡ end server id event value moment now
ended_told server id event value moment before now same servers table reached leads told is =
    (λ i. fold (λ before client. tell server id (is i) value client before) (add_line (line.State server id (is i)) (record before { servers = table i })) (askers_in id (goals_in server (table i))))
    ∙ ended_world server id event value moment reached before leads
    ∙ ap (λ (world : WorldState). end server id event value moment world) same
