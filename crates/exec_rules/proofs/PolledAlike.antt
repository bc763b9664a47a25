-- Callbacks run alike whatever their places in a ready list, and polls whatever script they share.
use Rattle.std.proofs.Common.{◌≡◌, ℕ, suc, ◌+◌, ◌<◌, Bool, true, false, List, [], ◌∷◌, ◌++◌, length, get_or, map, take, drop, Option, Some, refl, sym, ap, ◌∙◌}
use Rattle.std.specs.List.{filter, flat_map}
use Rattle.std.proofs.lemmas.List.{map-append, map_more}
use Rattle.exec_goal.specs.State.{is_canceling}
use Rattle.exec_goal.specs.Table.{GoalRecord}
use Rattle.exec_script.specs.Instruction.{Script}
use Rattle.exec_script.specs.declared.effects.Effect.{Effect}
use Rattle.exec_script.specs.declared.effects.Effect.TheVariants as effect
use Rattle.exec_rules.specs.Callback.{act, poll, take_item}
use Rattle.exec_rules.specs.Give.{give}
use Rattle.exec_rules.specs.Ready.{is_goal_awake, placed_from, poll_ready, ready_for, run_line, turn_at, woken}
use Rattle.exec_rules.specs.Run.{after_callback, run, variables_for, work_for}
use Rattle.exec_rules.specs.Transcript.{run_all}
use Rattle.exec_msg.specs.Numbers.{Moment}
use Rattle.exec_script.specs.Script.{Variables}
use Rattle.exec_rules.specs.World.{GoalWork, HeldGoal, ServerEntry, WorldState, add_line}
use Rattle.exec_rules.specs.declared.item.Item.{Item}
use Rattle.exec_rules.specs.declared.item.Item.TheVariants as item
use Rattle.exec_rules.specs.declared.ready.Cause.{Cause}
use Rattle.exec_rules.specs.declared.ready.Cause.TheVariants as cause
use Rattle.exec_rules.specs.declared.ready.Ready.{Ready}
use Rattle.exec_rules.specs.inner.Awake.{awake_goal, awake_goals, goal_awake, poll_at}
use Rattle.exec_rules.specs.inner.ByKind.{listed_by_kind, ready_before, ready_behind}

-- ---- one list behind another

run_both : (some more : List Ready) (world : WorldState) → run_all (some ++ more) world ≡ run_all more (run_all some world)
run_both [] more world = refl
run_both (one ∷ some) more world = run_both some more (run one world)

-- ---- places and scripts

-- a callback at another place, with another script
abbrev other : Ready → ℕ → Option Script → Ready
other one position script = record one { position = position; script = script }

given_alike : (one : Ready) (position : ℕ) (script : Option Script) (what : Effect) (world : WorldState) → give (other one position script) what world ≡ give one what world
given_alike one position script (effect.Publish topic value) world = refl
given_alike one position script (effect.Call client value) world = refl
given_alike one position script (effect.SendGoal client value) world = refl
given_alike one position script (effect.CancelAll client stamp) world = refl
given_alike one position script (effect.CancelGoal client number stamp) world = refl
given_alike one position script (effect.Execute server) world = refl
given_alike one position script (effect.Log value) world = refl
given_alike one position script (effect.Feedback value) world = refl

gives_alike : (one : Ready) (position : ℕ) (script : Option Script) → give (other one position script) ≡ give one
gives_alike one position script = λ i. λ what world. given_alike one position script what world i

module _ (position : ℕ) (one : Ready) (variables : Variables) (world : WorldState) where
  taken_alike : (taken : Item) → take_item taken (give one) (other one position one.script) variables world ≡ take_item taken (give one) one variables world
  taken_alike (item.Message value) = refl
  taken_alike (item.Request client number value) = refl
  taken_alike (item.Reply number value) = refl
  taken_alike (item.Goal id client value) = refl
  taken_alike (item.Cancel request client) = refl
  taken_alike (item.Ask id client) = refl
  taken_alike (item.Response id accepted) = refl
  taken_alike (item.Code code moved) = refl
  taken_alike (item.Feedback id value) = refl
  taken_alike (item.Result id status value) = refl

  acts_alike : (why : Cause) (work : Option GoalWork) → act why (give one) (other one position one.script) work variables world ≡ act why (give one) one work variables world
  acts_alike cause.Due work = refl
  acts_alike (cause.Took taken) work = taken_alike taken
  acts_alike (cause.Woke id value canceling) work = refl

-- a callback at another place runs alike
pub runs_alike : (position : ℕ) (one : Ready) (world : WorldState) → run (record one { position = position }) world ≡ run one world
runs_alike position one world =
    let work : Option GoalWork = work_for one.entity one.cause world in
    let variables : Variables = variables_for one world in
    let lined : WorldState = add_line (run_line one) world in
    ap (λ (gives : Effect → WorldState → WorldState). after_callback one (act one.cause gives (other one position one.script) work variables lined)) (gives_alike one position one.script)
    ∙ ap (after_callback one) (acts_alike position one variables lined one.cause work)

pub placed_alike : (position : ℕ) (list : List Ready) (world : WorldState) → run_all (placed_from position list) world ≡ run_all list world
placed_alike position [] world = refl
placed_alike position (one ∷ list) world =
    ap (run_all (placed_from (suc position) list)) (runs_alike position one world)
    ∙ placed_alike (suc position) list (run one world)

-- ---- polls

module _ (moment : Moment) where
  -- a poll runs alike without a script
  pub poll_alike : (entry : ServerEntry) (goal : GoalRecord) (world : WorldState) → run (ready_for moment entry.handler (woken goal) [] (Some entry.handler.script)) world ≡ run (poll_at moment (awake_goal entry.handler goal)) world
  poll_alike entry goal world =
      let one : Ready = poll_at moment (awake_goal entry.handler goal) in
      ap (λ (gives : Effect → WorldState → WorldState). after_callback one (poll gives (turn_at moment (is_canceling goal.state)) (work_for one.entity one.cause world) (variables_for one world) (add_line (run_line one) world)))
      (gives_alike one 0 (Some entry.handler.script))

  goal_alike : (b : Bool) (entry : ServerEntry) (one : HeldGoal) (held : List HeldGoal) (world : WorldState) → is_goal_awake moment one ≡ b
      → ((after : WorldState) → run_all (map (λ held. ready_for moment entry.handler (woken held.goal) [] (Some entry.handler.script)) (filter (is_goal_awake moment) held)) after ≡ run_all (map (poll_at moment) (flat_map (goal_awake moment entry.handler) held)) after)
      → run_all (map (λ held. ready_for moment entry.handler (woken held.goal) [] (Some entry.handler.script)) (filter (is_goal_awake moment) (one ∷ held))) world ≡ run_all (map (poll_at moment) (flat_map (goal_awake moment entry.handler) (one ∷ held))) world
  goal_alike true entry one held world is rest =
      rw is (ap (run_all (map (λ held. ready_for moment entry.handler (woken held.goal) [] (Some entry.handler.script)) (filter (is_goal_awake moment) held))) (poll_alike entry one.goal world) ∙ rest (run (poll_at moment (awake_goal entry.handler one.goal)) world))
  goal_alike false entry one held world is rest = rw is (rest world)

  goals_alike : (entry : ServerEntry) (held : List HeldGoal) (world : WorldState)
      → run_all (map (λ held. ready_for moment entry.handler (woken held.goal) [] (Some entry.handler.script)) (filter (is_goal_awake moment) held)) world ≡ run_all (map (poll_at moment) (flat_map (goal_awake moment entry.handler) held)) world
  goals_alike entry [] world = refl
  goals_alike entry (one ∷ held) world = goal_alike (is_goal_awake moment one) entry one held world refl (goals_alike entry held)

  polls_alike : (servers : List ServerEntry) (world : WorldState) → run_all (flat_map (poll_ready moment) servers) world ≡ run_all (map (poll_at moment) (flat_map (awake_goals moment) servers)) world
  polls_alike [] world = refl
  polls_alike (entry ∷ servers) world =
      run_both (poll_ready moment entry) (flat_map (poll_ready moment) servers) world
      ∙ polls_alike servers (run_all (poll_ready moment entry) world)
      ∙ ap (run_all (map (poll_at moment) (flat_map (awake_goals moment) servers))) (goals_alike entry entry.held world)
      ∙ sym (run_both (map (poll_at moment) (awake_goals moment entry)) (map (poll_at moment) (flat_map (awake_goals moment) servers)) world)
      ∙ ap (λ (list : List Ready). run_all list world) (sym (map-append (poll_at moment) (awake_goals moment entry) (flat_map (awake_goals moment) servers)))

-- one callback more of those that are made of a list
pub run_more : {A : Type 0} (f : A → Ready) (all : List A) (i : ℕ) (one : A) (world : WorldState) → i < length all → one ≡ get_or all i one
    → run (f one) (run_all (map f (take i all)) world) ≡ run_all (map f (take (i + 1) all)) world
run_more f all i one world within reads =
    let so_far : List Ready = map f (take i all) in
    ap (λ (next : _). run (f next) (run_all so_far world)) reads
    ∙ sym (run_both so_far (f (get_or all i one) ∷ []) world)
    ∙ ap (λ (list : List Ready). run_all list world) (sym (map_more f all i one within))

-- ---- the whole list

-- what is ready before polls, the polls, and what is ready behind them, each in a list of its own, run as the ready list does
pub parts_alike : (moment : Moment) (world now : WorldState) (list : List Ready) (split position : ℕ) → take split list ≡ placed_from 1 (ready_before moment world) → drop split list ≡ placed_from position (ready_behind moment world)
    → run_all (drop split list) (run_all (map (poll_at moment) (flat_map (awake_goals moment) world.servers)) (run_all (take split list) now)) ≡ run_all (listed_by_kind moment world) now
parts_alike moment world now list split position front back =
    let before : List Ready = ready_before moment world in
    let polls : List Ready = flat_map (poll_ready moment) world.servers in
    let behind : List Ready = ready_behind moment world in
    let run_polls = λ (after : WorldState). run_all (map (poll_at moment) (flat_map (awake_goals moment) world.servers)) after in
    ap (λ (rest : List Ready). run_all rest (run_polls (run_all (take split list) now))) back
    ∙ placed_alike position behind (run_polls (run_all (take split list) now))
    ∙ ap (λ (after : WorldState). run_all behind (run_polls after)) (ap (λ (first : List Ready). run_all first now) front ∙ placed_alike 1 before now)
    ∙ ap (run_all behind) (sym (polls_alike moment world.servers (run_all before now)) ∙ sym (run_both before polls now))
    ∙ sym (run_both (before ++ polls) behind now)
    ∙ sym (placed_alike 1 ((before ++ polls) ++ behind) now)
