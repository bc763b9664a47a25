-- By how much rounds raise a number at most, if each effect, each closing of a callback and each entry of a feed raises it by one
-- at most.
use Rattle.std.proofs.Common.{◌≡◌, ℕ, zero, suc, ℤ, ◌+◌, ◌*◌, ◌≤◌, Bool, true, false, ◌==◌, List, [], ◌∷◌, length, drop, Option, None, Some, length-drop, refl, arith}
use Rattle.std.specs.List.{AllByRecursion, find, fold}
use Rattle.std.specs.Option.{option_map, option_map_or}
use Rattle.exec_goal.specs.Cancel.{moved}
use Rattle.exec_goal.specs.declared.info.GoalInfo.{GoalInfo}
use Rattle.exec_msg.specs.Numbers.{EntityNo, GoalId, Moment}
use Rattle.exec_msg.specs.declared.limits.TheConstants.{INSTRUCTIONS}
use Rattle.exec_plan.specs.Feeding.{fed_in}
use Rattle.exec_plan.specs.Lawful.{IsLawfulPlan}
use Rattle.exec_plan.specs.Plan.{PlanData, Fed, Feed}
use Rattle.exec_msg.specs.declared.line.Line.{Line}
use Rattle.exec_msg.specs.declared.line.Line.TheVariants as line
use Rattle.exec_script.specs.Script.{CallInput, ScriptState, after_step, follow, skipped_by, resumed, step_of, Variables}
use Rattle.exec_script.specs.Zeros.{zeros}
use Rattle.exec_script.specs.declared.effects.Close.{Close}
use Rattle.exec_script.specs.declared.effects.Effect.{Effect}
use Rattle.exec_script.specs.declared.instr.Instr.{Instr}
use Rattle.exec_script.specs.declared.place.Role.{Role}
use Rattle.exec_script.specs.declared.place.Role.TheVariants as role
use Rattle.exec_script.specs.declared.step.Step.{Step}
use Rattle.exec_script.specs.declared.step.Step.TheVariants as step
use Rattle.exec_script.specs.declared.step.Stop.TheVariants as stop
use Rattle.exec_task.specs.Task.{TaskState, is_awake, poll_input, polled_where}
use Rattle.exec_task.specs.declared.wait.Turn.{Turn}
use Rattle.exec_laws.proofs.Costs.{IsShortReady, cost_of, cost_of_all, few_steps, list_short, of_list}
use Rattle.exec_rules.proofs.Running.{one_keeps, round_keeps, snapshot_keeps}
use Rattle.exec_rules.proofs.Shapes.{shape_kept}
use Rattle.exec_laws.proofs.Short.{IsShort, IsSmall, IsSmallServer, first_small, small_kept, filter_less}
use Rattle.exec_rules.specs.Callback.{AfterCallback, CancelHandling, act, call_in, candidate_input, handle_cancel, instructions_of, poll, poll_where, take_item}
use Rattle.exec_rules.specs.Close.{close_cause}
use Rattle.exec_rules.specs.Give.{give}
use Rattle.exec_rules.specs.Shape.{shape_of}
use Rattle.exec_rules.specs.Run.{unclosed}
use Rattle.exec_rules.specs.Ready.{input_of, ready_list, run_line, take_inputs, turn_at}
use Rattle.exec_rules.specs.Run.{run, variables_for, with_polled, with_variables_for, work_for, outcome_in}
use Rattle.exec_rules.specs.Transcript.{at_snapshot, expire, feed, feed_one, first_world, round, rounds, run_all}
use Rattle.exec_rules.specs.World.{GoalWork, HeldGoal, ServerEntry, WorldState, add_line, is_for, is_server_at}
use Rattle.exec_rules.specs.declared.item.Item.{Item}
use Rattle.exec_rules.specs.declared.item.Item.TheVariants as item
use Rattle.exec_rules.specs.declared.ready.Cause.{Cause}
use Rattle.exec_rules.specs.declared.ready.Cause.TheVariants as cause
use Rattle.exec_rules.specs.declared.ready.Ready.{Ready}

-- a bound of something in a world: it may be taken larger, each effect, each closing and each entry of a feed raises it by one
-- at most, and nothing else raises it
pub record RisesByOnes (Made : ℕ → WorldState → Type 0) : Type 0 where
  pub weaker : (most more : ℕ) (world : WorldState) → most ≤ more → Made most world → Made more world
  pub given : (most : ℕ) (one : Ready) (does : Effect) (world : WorldState) → Made most world → Made (suc most) (give one does world)
  pub closed : (most : ℕ) (entity : EntityNo) (moment : Moment) (why : Cause) (closing : Close) (world : WorldState) → Made most world → Made (suc most) (close_cause entity moment why closing world)
  pub fed : (most : ℕ) (one : Fed) (world : WorldState) → Made most world → Made (suc most) (feed_one one world)
  pub said : (most : ℕ) (new : Line) (world : WorldState) → Made most world → Made most (add_line new world)
  pub polled : (most : ℕ) (server : EntityNo) (why : Cause) (task : Option TaskState) (world : WorldState) → Made most world → Made most (with_polled server why task world)
  pub left : (most : ℕ) (one : Ready) (variables : Variables) (world : WorldState) → Made most world → Made most (with_variables_for one variables world)
  pub expired : (most : ℕ) (moment : Moment) (world : WorldState) → Made most world → Made most (expire moment world)
  pub taken : (most : ℕ) (moment : Moment) (world : WorldState) → Made most world → Made most (take_inputs moment world)

-- a goal's work, if there is one, has a short script
abbrev pub IsShortWork : Option GoalWork → Type 0
IsShortWork None = Unit {0}
IsShortWork (Some work) = IsShort work.script

-- ---- a script raises it by one an instruction at most

module _ {Made : ℕ → WorldState → Type 0} (r : RisesByOnes Made) (one : Ready) where
  stepped : (most place : ℕ) (does : Step) (state : ScriptState WorldState) → Made most state.given → Made (suc most) (after_step (give one) place does state).given
  stepped most place (step.Give does) state p = r.given most one does state.given p
  stepped most place (step.Store destination value) state p = r.weaker most (suc most) state.given (omega arith) p
  stepped most place (step.Skip count) state p = r.weaker most (suc most) state.given (omega arith) p
  stepped most place (step.Answer value) state p = r.weaker most (suc most) state.given (omega arith) p
  stepped most place (step.Wait ticks) state p = r.weaker most (suc most) state.given (omega arith) p
  stepped most place step.Yield state p = r.weaker most (suc most) state.given (omega arith) p
  stepped most place (step.Ended by value) state p = r.weaker most (suc most) state.given (omega arith) p

  followed : (most more : ℕ) (input : CallInput) (script : List Instr) (place over : ℕ) (state : ScriptState WorldState) → most + length script ≤ more → Made most state.given → Made more (follow (give one) input script place over state).given
  followed most more input [] place over state grows p = r.weaker most more state.given (omega (arith, grows)) p
  followed most more input (instruction ∷ rest) place (suc over) state grows p = followed most more input rest (suc place) over state (omega (arith, grows)) p
  followed most more input (instruction ∷ rest) place zero state grows p =
      followed (suc most) more input rest (suc place) (skipped_by (step_of instruction state.registers state.variables input) (length rest))
      (after_step (give one) (suc place) (step_of instruction state.registers state.variables input) state) (omega (arith, grows))
      (stepped most (suc place) (step_of instruction state.registers state.variables input) state p)

  -- a short script raises it by as many as it may have at most
  ran : (most : ℕ) (script : List Instr) (place : ℕ) (registers variables : List ℤ) (answer : Option ℤ) (input : CallInput) (world : WorldState) → IsShort script → Made most world → Made (most + INSTRUCTIONS) (resumed (give one) script place registers variables answer input world).given
  ran most script place registers variables answer input world short p =
      followed most (most + INSTRUCTIONS) input (drop place script) place 0 (record { registers = registers; variables = variables; reply_or_decision = answer; given = world; stop = stop.End }) (omega (arith, short, length-drop place script)) p

  -- and a callback by as much, and once more for each candidate of a cancel request
  all_handled_by : (most more : ℕ) (candidates : List GoalInfo) (handling : CancelHandling WorldState) → IsShort (instructions_of one.script) → most + length candidates * INSTRUCTIONS ≤ more → Made most handling.given → Made more (fold (handle_cancel (give one) one) handling candidates).given
  all_handled_by most more [] handling short grows p = r.weaker most more handling.given (omega (arith, grows)) p
  all_handled_by most more (candidate ∷ candidates) handling short grows p =
      all_handled_by (most + INSTRUCTIONS) more candidates (handle_cancel (give one) one handling candidate) short (omega (arith, grows))
      (ran most (instructions_of one.script) 0 zeros handling.variables None (candidate_input one.moment candidate) handling.given short p)

  module _ (most : ℕ) (script : IsShortReady one) (variables : Variables) (world : WorldState) (p : Made most world) where
    called_in : (role : Role) → Made (most + length one.candidates * INSTRUCTIONS + INSTRUCTIONS) (call_in role (give one) one variables world).given
    called_in role = r.weaker (most + INSTRUCTIONS) (most + length one.candidates * INSTRUCTIONS + INSTRUCTIONS) (call_in role (give one) one variables world).given (omega arith) (ran most (instructions_of one.script) 0 zeros variables None (input_of one) world script p)

    took : (taken : Item) → Made (most + length one.candidates * INSTRUCTIONS + INSTRUCTIONS) (take_item taken (give one) one variables world).given
    took (item.Message value) = called_in role.Callback
    took (item.Request client number value) = called_in role.Service
    took (item.Reply number value) = called_in role.Callback
    took (item.Goal id client value) = called_in role.GoalHandler
    took (item.Cancel request client) =
        all_handled_by most (most + length one.candidates * INSTRUCTIONS + INSTRUCTIONS) one.candidates (record { variables = variables; given = world; decisions = [] }) script (omega arith) p
    took (item.Ask id client) = called_in role.Callback
    took (item.Response id accepted) = called_in role.Callback
    took (item.Code returned moved) = called_in role.Callback
    took (item.Feedback id value) = called_in role.Callback
    took (item.Result id status value) = called_in role.Callback

    polled_so : (b : Bool) (turn : Turn) (work : GoalWork) → IsShort work.script → Made (most + length one.candidates * INSTRUCTIONS + INSTRUCTIONS) (polled_where b (give one) work.script work.value turn work.task variables world).given
    polled_so true turn work short = r.weaker (most + INSTRUCTIONS) (most + length one.candidates * INSTRUCTIONS + INSTRUCTIONS) (polled_where true (give one) work.script work.value turn work.task variables world).given (omega arith) (ran most work.script work.task.place work.task.registers variables None (poll_input work.value turn) world short p)
    polled_so false turn work short = r.weaker most (most + length one.candidates * INSTRUCTIONS + INSTRUCTIONS) world (omega arith) p

    polls_where : (b : Bool) (turn : Turn) (work : GoalWork) → IsShort work.script → Made (most + length one.candidates * INSTRUCTIONS + INSTRUCTIONS) (poll_where b (give one) turn work variables world).given
    polls_where true turn work short = polled_so (is_awake work.task turn) turn work short
    polls_where false turn work short = r.weaker most (most + length one.candidates * INSTRUCTIONS + INSTRUCTIONS) world (omega arith) p

    polls : (turn : Turn) (work : Option GoalWork) → IsShortWork work → Made (most + length one.candidates * INSTRUCTIONS + INSTRUCTIONS) (poll (give one) turn work variables world).given
    polls turn None short = r.weaker most (most + length one.candidates * INSTRUCTIONS + INSTRUCTIONS) world (omega arith) p
    polls turn (Some work) short = polls_where (is_awake work.task turn) turn work short

    acted : (why : Cause) (work : Option GoalWork) → IsShortWork work → Made (most + length one.candidates * INSTRUCTIONS + INSTRUCTIONS) (act why (give one) one work variables world).given
    acted cause.Due work short = called_in role.Callback
    acted (cause.Took taken) work short = took taken
    acted (cause.Woke id value canceling) work short = polls (turn_at one.moment canceling) work short

-- ---- a callback that runs

short_held : (id : GoalId) (held : List HeldGoal) → AllByRecursion (λ one. IsShort one.work.script) held → IsShortWork (option_map (λ one. one.work) (find (is_for id) held))
short_held id [] p = tt
short_held id (one ∷ held) p = by (is_for id one) refl (short_held id held p.1)
  where
    by : (b : Bool) → is_for id one ≡ b → IsShortWork (option_map (λ one. one.work) (find (is_for id) held)) → IsShortWork (option_map (λ one. one.work) (find (is_for id) (one ∷ held)))
    by true e rest = rw e p.0
    by false e rest = rw e rest

short_works : (server : EntityNo) (id : GoalId) (servers : List ServerEntry) → AllByRecursion IsSmallServer servers → IsShortWork (option_map (λ held. held.work) (find (is_for id) (option_map_or (λ entry. entry.held) (find (is_server_at server) servers) [])))
short_works server id [] p = tt
short_works server id (entry ∷ servers) p = by (is_server_at server entry) refl (short_works server id servers p.1)
  where
    by : (b : Bool) → is_server_at server entry ≡ b → IsShortWork (option_map (λ held. held.work) (find (is_for id) (option_map_or (λ entry. entry.held) (find (is_server_at server) servers) []))) →
        IsShortWork (option_map (λ held. held.work) (find (is_for id) (option_map_or (λ entry. entry.held) (find (is_server_at server) (entry ∷ servers)) [])))
    by true e rest = rw e (short_held id entry.held p.0.works)
    by false e rest = rw e rest

short_for : (server : EntityNo) (why : Cause) (world : WorldState) → IsSmall world → IsShortWork (work_for server why world)
short_for server cause.Due world p = tt
short_for server (cause.Took taken) world p = tt
short_for server (cause.Woke id value canceling) world p = short_works server id world.servers p.servers

run_raises : {Made : ℕ → WorldState → Type 0} → RisesByOnes Made → (most : ℕ) (one : Ready) (world : WorldState) → IsShortReady one → IsSmall world → Made most world → Made (most + cost_of one) (run one world)
run_raises {Made = Made} r most one world script worlds p =
    let before_closing : ℕ = most + length one.candidates * INSTRUCTIONS + INSTRUCTIONS in
    let outcome : AfterCallback WorldState = outcome_in one world in
    r.weaker (suc before_closing) (most + cost_of one) (run one world) (omega arith)
    (r.closed before_closing one.entity one.moment one.cause outcome.close (unclosed one world)
    (r.polled before_closing one.entity one.cause outcome.task _
    (r.left before_closing one outcome.variables outcome.given
    (acted r one most script (variables_for one world) (add_line (run_line one) world) (r.said most (run_line one) world p) one.cause (work_for one.entity one.cause world) (short_for one.entity one.cause world worlds)))))

-- by how much a round raises it at most: by 65,536 entries of the feed, and by its callbacks
abbrev pub of_round : ℕ
of_round = 65536 + of_list

-- by how much as many rounds raise it as a plan may have
abbrev pub of_run : ℕ
of_run = 65536 * of_round

module _ {Made : ℕ → WorldState → Type 0} (r : RisesByOnes Made) where
  all_run : (most more : ℕ) (list : List Ready) (world : WorldState) → AllByRecursion IsShortReady list → IsSmall world → most + cost_of_all list ≤ more → Made most world → Made more (run_all list world)
  all_run most more [] world scripts worlds grows p = r.weaker most more world (omega (arith, grows)) p
  all_run most more (one ∷ list) world scripts worlds grows p =
      all_run (most + cost_of one) more list (run one world) scripts.1 (one_keeps small_kept one world worlds) (omega (arith, grows)) (run_raises r most one world scripts.0 worlds p)

  -- ---- a round

  all_fed : (most more : ℕ) (entries : List Feed) (world : WorldState) → most + length entries ≤ more → Made most world → Made more (feed entries world)
  all_fed most more [] world grows p = r.weaker most more world (omega (arith, grows)) p
  all_fed most more (entry ∷ entries) world grows p = all_fed (suc most) more entries (feed_one entry.fed world) (omega (arith, grows)) (r.fed most entry.fed world p)

  round_raises : (plan : PlanData) (number : ℕ) (moment : Moment) (most : ℕ) (world : WorldState) → IsLawfulPlan plan → shape_of world ≡ shape_of (first_world plan) → IsSmall world → Made most world → Made (most + of_round) (round plan number moment world)
  round_raises plan number moment most world lawful same worlds p =
      let before : WorldState = at_snapshot plan number moment world in
      let small : IsSmall before = snapshot_keeps small_kept plan number moment world (small_kept.basic.lines_kept _ world worlds) in
      let shape : shape_of before ≡ shape_of (first_world plan) = snapshot_keeps (shape_kept (shape_of (first_world plan))) plan number moment world same in
      let few : cost_of_all (ready_list moment before) ≤ of_list = few_steps plan moment before lawful.graph shape small in
      let entries : length plan.feed ≤ 65536 = lawful.short_feed in
      let these : length (fed_in number plan.feed) ≤ length plan.feed = filter_less (λ entry. entry.round == number) plan.feed in
      all_run (most + 65536) (most + of_round) (ready_list moment before) (take_inputs moment before) (list_short moment before small) (small_kept.snapshot_kept moment before small) (omega (arith, few))
      (r.taken (most + 65536) moment before
      (all_fed most (most + 65536) (fed_in number plan.feed) (expire moment (add_line (line.Round number moment) world)) (omega (arith, entries, these))
      (r.expired most moment (add_line (line.Round number moment) world) (r.said most (line.Round number moment) world p))))

  pub rounds_raise : (plan : PlanData) (number : ℕ) (moments : List Moment) (most more : ℕ) (world : WorldState) → IsLawfulPlan plan → shape_of world ≡ shape_of (first_world plan) → IsSmall world → most + length moments * of_round ≤ more → Made most world → Made more (rounds plan number moments world)
  rounds_raise plan number [] most more world lawful same worlds grows p = r.weaker most more world (omega (arith, grows)) p
  rounds_raise plan number (moment ∷ moments) most more world lawful same worlds grows p =
      rounds_raise plan (suc number) moments (most + of_round) more (round plan number moment world) lawful
      (round_keeps (shape_kept (shape_of (first_world plan))) plan number moment world same)
      (round_keeps small_kept plan number moment world (small_kept.basic.lines_kept _ world worlds)) (omega (arith, grows))
      (round_raises plan number moment most world lawful same worlds p)

  -- a run of as many rounds as a plan may have
  pub run_of_plan : (plan : PlanData) (number : ℕ) (moments : List Moment) → IsLawfulPlan plan → length moments ≤ 65536 → Made 0 (first_world plan) → Made of_run (rounds plan number moments (first_world plan))
  run_of_plan plan number moments lawful few p = rounds_raise plan number moments 0 of_run (first_world plan) lawful refl (first_small plan lawful.graph) (omega (arith, few)) p
