-- How many wait for the results of goals, and what changes that.
use Rattle.std.proofs.Common.{◌≡◌, ℕ, ℤ, ◌+◌, ◌≤◌, Bool, true, false, not, if◌then◌else◌, map, List, [], ◌∷◌, ◌++◌, length, Some, refl, arith, ap}
use Rattle.std.specs.List.{filter, find}
use Rattle.std.specs.Option.{option_map_or}
use Rattle.std.proofs.lemmas.List.{length_push}
use Rattle.exec_goal.specs.Calls.{askers_of, end_state, where_terminal}
use Rattle.exec_goal.specs.Cancel.{Decided, is_moved, table_after}
use Rattle.exec_goal.specs.State.{after, is_terminal}
use Rattle.exec_goal.specs.Table.{GoalRecord, accepted_state, after_end, asked_by, has_id, is_expired, moved_by, new_goal}
use Rattle.exec_goal.specs.declared.state.State.{State}
use Rattle.exec_goal.specs.declared.state.State.TheVariants as state
use Rattle.exec_msg.specs.Lists.{change_first}
use Rattle.exec_msg.specs.Numbers.{EntityNo, GoalId, Moment}
use Rattle.exec_msg.specs.declared.goal.Acceptance.{Acceptance}
use Rattle.exec_msg.specs.declared.goal.Event.{Event}
use Rattle.exec_msg.specs.declared.goal.Event.TheVariants as event
use Rattle.exec_rules.specs.Transcript.{server_expired}
use Rattle.exec_rules.specs.World.{ServerEntry, is_server_at, records_of, with_goals}
use Rattle.exec_rules.proofs.Records.{records_filtered}
use Rattle.exec_rules.proofs.Identifiers.{changing, Makes}
use Rattle.exec_rules.proofs.Keeping.{ids_changed}

-- ---- those who wait for results

-- how many of these wait for the result of a goal in a state: none once it has ended
abbrev wait_in : State → ℕ → ℕ
wait_in reached many = if is_terminal reached then 0 else many

-- how many wait for the results of goals
abbrev pub waiting_for_all : List GoalRecord → ℕ
waiting_for_all [] = 0
waiting_for_all (goal ∷ goals) = wait_in goal.state (length goal.askers) + waiting_for_all goals

-- how many wait for the results of servers' goals
abbrev pub waiting_at : List ServerEntry → ℕ
waiting_at [] = 0
waiting_at (entry ∷ servers) = waiting_for_all (records_of entry.held) + waiting_at servers

waits_most : (reached : State) (many : ℕ) → wait_in reached many ≤ many
waits_most reached many = by (is_terminal reached)
  where
    by : (b : Bool) → (if b then 0 else many) ≤ many
    by true = omega arith
    by false = omega arith

-- an event leaves no more of them
pub waits_moved : (does : Event) (before : State) (many : ℕ) → wait_in (moved_by does before) many ≤ wait_in before many
waits_moved does state.Accepted many = waits_most (moved_by does state.Accepted) many
waits_moved does state.Executing many = waits_most (moved_by does state.Executing) many
waits_moved does state.Canceling many = waits_most (moved_by does state.Canceling) many
waits_moved does state.Succeeded many = omega arith
waits_moved does state.Canceled many = omega arith
waits_moved does state.Aborted many = omega arith

-- and one that ends the goal leaves none
waits_ended : (does : Event) (before reached : State) (many : ℕ) → where_terminal (after before does) ≡ Some reached → wait_in (moved_by does before) many + many ≤ wait_in before many
waits_ended event.Execute state.Accepted reached many leads = absurd cc
waits_ended event.CancelGoal state.Accepted reached many leads = absurd cc
waits_ended event.Succeed state.Accepted reached many leads = absurd cc
waits_ended event.Abort state.Accepted reached many leads = absurd cc
waits_ended event.Canceled state.Accepted reached many leads = absurd cc
waits_ended event.Execute state.Executing reached many leads = absurd cc
waits_ended event.CancelGoal state.Executing reached many leads = absurd cc
waits_ended event.Succeed state.Executing reached many leads = omega arith
waits_ended event.Abort state.Executing reached many leads = omega arith
waits_ended event.Canceled state.Executing reached many leads = absurd cc
waits_ended event.Execute state.Canceling reached many leads = absurd cc
waits_ended event.CancelGoal state.Canceling reached many leads = absurd cc
waits_ended event.Succeed state.Canceling reached many leads = omega arith
waits_ended event.Abort state.Canceling reached many leads = omega arith
waits_ended event.Canceled state.Canceling reached many leads = omega arith
waits_ended does state.Succeeded reached many leads = absurd cc
waits_ended does state.Canceled reached many leads = absurd cc
waits_ended does state.Aborted reached many leads = absurd cc

abbrev waits : GoalRecord → ℕ
waits goal = wait_in goal.state (length goal.askers)

-- ---- goals that change

pub goals_changed : (test : GoalRecord → Bool) (change : GoalRecord → GoalRecord) (more : ℕ) → ((goal : GoalRecord) → waits (change goal) ≤ waits goal + more) → (goals : List GoalRecord) → waiting_for_all (change_first test change goals) ≤ waiting_for_all goals + more
goals_changed test change more few [] = omega arith
goals_changed test change more few (goal ∷ goals) = by (test goal) (goals_changed test change more few goals)
  where
    by : (b : Bool) → waiting_for_all (change_first test change goals) ≤ waiting_for_all goals + more → waiting_for_all (if b then change goal ∷ goals else goal ∷ change_first test change goals) ≤ waits goal + waiting_for_all goals + more
    by true rest = omega (arith, few goal)
    by false rest = omega (arith, rest)

pub asked_more : (client : EntityNo) (goal : GoalRecord) → waits (asked_by client goal) ≤ waits goal + 1
asked_more client goal = by (is_terminal goal.state)
  where
    by : (b : Bool) → (if b then 0 else length (goal.askers ++ client ∷ [])) ≤ (if b then 0 else length goal.askers) + 1
    by true = omega arith
    by false = omega (arith, length_push goal.askers client)

pub answered_less : (decisions : List Decided) (goals : List GoalRecord) → waiting_for_all (table_after decisions goals) ≤ waiting_for_all goals
answered_less decisions [] = omega arith
answered_less decisions (goal ∷ goals) = by (is_moved decisions goal) refl (answered_less decisions goals)
  where
    by : (b : Bool) → is_moved decisions goal ≡ b → waiting_for_all (table_after decisions goals) ≤ waiting_for_all goals → waiting_for_all (table_after decisions (goal ∷ goals)) ≤ waiting_for_all (goal ∷ goals)
    by true e rest = rw e (omega (arith, rest, waits_moved event.CancelGoal goal.state (length goal.askers)))
    by false e rest = rw e (omega (arith, rest))

pub accepted_none : (goals : List GoalRecord) (id : GoalId) (value : ℤ) (moment : Moment) (how : Acceptance) → waiting_for_all (goals ++ new_goal id value moment how ∷ []) ≤ waiting_for_all goals
accepted_none [] id value moment how = omega (arith, waits_most (accepted_state how) 0)
accepted_none (goal ∷ goals) id value moment how = omega (arith, accepted_none goals id value moment how)

kept_less : (test : GoalRecord → Bool) (goals : List GoalRecord) → waiting_for_all (filter test goals) ≤ waiting_for_all goals
kept_less test [] = omega arith
kept_less test (goal ∷ goals) = by (test goal) refl (kept_less test goals)
  where
    by : (b : Bool) → test goal ≡ b → waiting_for_all (filter test goals) ≤ waiting_for_all goals → waiting_for_all (filter test (goal ∷ goals)) ≤ waiting_for_all (goal ∷ goals)
    by true e rest = rw e (omega (arith, rest))
    by false e rest = rw e (omega (arith, rest))

-- a goal that ends is waited for no more by those that are told
ended_less : (id : GoalId) (does : Event) (value : ℤ) (moment : Moment) (reached : State) (goals : List GoalRecord) → end_state id does goals ≡ Some reached →
    waiting_for_all (change_first (has_id id) (after_end does value moment) goals) + length (askers_of (find (has_id id) (change_first (has_id id) (after_end does value moment) goals))) ≤ waiting_for_all goals
ended_less id does value moment reached [] leads = absurd cc
ended_less id does value moment reached (goal ∷ goals) leads = by (has_id id goal) refl (ended_less id does value moment reached goals)
  where
    by : (b : Bool) → has_id id goal ≡ b →
        (end_state id does goals ≡ Some reached → waiting_for_all (change_first (has_id id) (after_end does value moment) goals) + length (askers_of (find (has_id id) (change_first (has_id id) (after_end does value moment) goals))) ≤ waiting_for_all goals) →
        waiting_for_all (change_first (has_id id) (after_end does value moment) (goal ∷ goals)) + length (askers_of (find (has_id id) (change_first (has_id id) (after_end does value moment) (goal ∷ goals)))) ≤ waiting_for_all (goal ∷ goals)
    by true e rest =
        let here : where_terminal (after goal.state does) ≡ Some reached = rw e at leads in
        let few = waits_ended does goal.state reached (length goal.askers) here in
        rw (e, e) (omega (arith, few))
    by false e rest =
        let there : end_state id does goals ≡ Some reached = rw e at leads in
        let few = rest there in
        rw (e, e) (omega (arith, few))

-- ---- servers that change

pub servers_changed : {change : ServerEntry → ServerEntry} {goals : List GoalRecord → List GoalRecord} → Makes change goals → (test : ServerEntry → Bool) (more : ℕ) → ((some : List GoalRecord) → waiting_for_all (goals some) ≤ waiting_for_all some + more) → (servers : List ServerEntry) → waiting_at (change_first test change servers) ≤ waiting_at servers + more
servers_changed m test more few [] = omega arith
servers_changed {change} {goals} m test more few (entry ∷ servers) = by (test entry) (servers_changed m test more few servers)
  where
    by : (b : Bool) → waiting_at (change_first test change servers) ≤ waiting_at servers + more → waiting_at (if b then change entry ∷ servers else entry ∷ change_first test change servers) ≤ waiting_for_all (records_of entry.held) + waiting_at servers + more
    by true rest = omega (arith, few (records_of entry.held), ap waiting_for_all (m.makes entry))
    by false rest = omega (arith, rest)

pub all_left : (moment : Moment) (servers : List ServerEntry) → waiting_at (map (server_expired moment) servers) ≤ waiting_at servers
all_left moment [] = omega arith
all_left moment (entry ∷ servers) =
    let left = λ (goal : GoalRecord). not (is_expired moment entry.timeout goal) in
    omega (arith, kept_less left (records_of entry.held), ap waiting_for_all (records_filtered left entry.held), all_left moment servers)

pub server_ended : (server : EntityNo) (id : GoalId) (does : Event) (value : ℤ) (moment : Moment) (reached : State) (servers : List ServerEntry) →
    end_state id does (option_map_or (λ entry. records_of entry.held) (find (is_server_at server) servers) []) ≡ Some reached →
    waiting_at (change_first (is_server_at server) (with_goals (change_first (has_id id) (after_end does value moment))) servers)
    + length (askers_of (find (has_id id) (option_map_or (λ entry. records_of entry.held) (find (is_server_at server) (change_first (is_server_at server) (with_goals (change_first (has_id id) (after_end does value moment))) servers)) []))) ≤ waiting_at servers
server_ended server id does value moment reached [] leads = absurd cc
server_ended server id does value moment reached (entry ∷ servers) leads = by (is_server_at server entry) refl (server_ended server id does value moment reached servers)
  where
    ending : ServerEntry → ServerEntry
    ending entry = with_goals (change_first (has_id id) (after_end does value moment)) entry

    by : (b : Bool) → is_server_at server entry ≡ b →
        (end_state id does (option_map_or (λ entry. records_of entry.held) (find (is_server_at server) servers) []) ≡ Some reached →
        waiting_at (change_first (is_server_at server) ending servers) + length (askers_of (find (has_id id) (option_map_or (λ entry. records_of entry.held) (find (is_server_at server) (change_first (is_server_at server) ending servers)) []))) ≤ waiting_at servers) →
        waiting_at (change_first (is_server_at server) ending (entry ∷ servers)) + length (askers_of (find (has_id id) (option_map_or (λ entry. records_of entry.held) (find (is_server_at server) (change_first (is_server_at server) ending (entry ∷ servers))) []))) ≤ waiting_at (entry ∷ servers)
    by true e rest =
        let here : end_state id does (records_of entry.held) ≡ Some reached = rw e at leads in
        let few = ended_less id does value moment reached (records_of entry.held) here in
        let made = (changing (change_first (has_id id) (after_end does value moment)) (ids_changed id (after_end does value moment) (λ goal. refl))).makes entry in
        rw (e, e) (omega (arith, few, ap waiting_for_all made, ap (λ (goals : List GoalRecord). length (askers_of (find (has_id id) goals))) made))
    by false e rest =
        let there : end_state id does (option_map_or (λ entry. records_of entry.held) (find (is_server_at server) servers) []) ≡ Some reached = rw e at leads in
        let few = rest there in
        rw (e, e) (omega (arith, few))
