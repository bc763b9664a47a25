-- The world behind a callback that ran with its group's variables and its goal's task where they stand.
use Rattle.std.proofs.Common.{◌≡◌, ℤ, Bool, true, false, List, [], if◌then◌else◌, Option, None, Some, Result, Ok, Err, slice_index_or, OnOk, refl, ap, sym, ◌∙◌}
use Rattle.exec_msg.specs.Numbers.{EntityNo, GoalId}
use Rattle.exec_script.specs.Script.{listed, Variables}
use Rattle.exec_script.specs.declared.effects.Effect.{Effect}
use Rattle.exec_script.specs.Zeros.{zeros}
use Rattle.exec_task.specs.Task.{TaskState}
use Rattle.exec_entity.proofs.Changed.{unchanged_first}
use Rattle.exec_rules.specs.Callback.{AfterCallback, act, callback, poll_listed}
use Rattle.exec_rules.specs.Ready.{turn_at}
use Rattle.exec_rules.specs.Run.{apart, brought_home, variables_for, with_polled, work_for, work_by}
use Rattle.exec_rules.specs.World.{GoalWork, ServerEntry, WorldState, is_server_at, with_variables, work_in}
use Rattle.exec_rules.specs.declared.ready.Cause.{Cause}
use Rattle.exec_rules.specs.declared.ready.Cause.TheVariants as cause
use Rattle.exec_rules.specs.declared.ready.Ready.{Ready}
use Rattle.exec_entity.specs.inner.Polling.{polled_by}
use Rattle.exec_world.specs.inner.Banks.{left_by}

-- the work that a callback polls is found in the servers alone
work_found : (server : EntityNo) (why : Cause) (world : WorldState) → work_by server why world.servers ≡ work_for server why world
work_found server cause.Due world = refl
work_found server (cause.Took item) world = refl
work_found server (cause.Woke id value canceling) world = refl

-- where nothing was polled, nothing changes
polled_home : (server : EntityNo) (why : Cause) (task : Option TaskState) (world : WorldState) → record world { servers = polled_by server why task world.servers } ≡ with_polled server why task world
polled_home server cause.Due task world = refl
polled_home server (cause.Took item) task world = refl
polled_home server (cause.Woke id value canceling) None world = ap (λ (servers : List ServerEntry). record world { servers = servers }) (unchanged_first (is_server_at server) world.servers)
polled_home server (cause.Woke id value canceling) (Some task) world = refl

-- a callback with this work and these variables, its effects listed
abbrev did : Ready → Option GoalWork → Variables → AfterCallback (List Effect)
did one work variables = callback listed one work variables []

-- the variables with which a callback begins, where groups keep these
abbrev begun : Ready → List Variables → Variables
begun one kept = if one.exclusive then slice_index_or kept one.group zeros else zeros

-- the variables that it left, and its task, come home
pub callback_home : (one : Ready) (before world : WorldState) (servers : List ServerEntry) (variables : List Variables) → before ≡ world
    → variables ≡ left_by one.exclusive one.group (did one (work_by one.entity one.cause before.servers) (begun one before.variables)).variables before.variables
    → servers ≡ polled_by one.entity one.cause (did one (work_by one.entity one.cause before.servers) (begun one before.variables)).task before.servers
    → record before { servers = servers; variables = variables } ≡ brought_home one (apart one world) world
callback_home one before world servers variables same variables_are servers_are =
    let outcome = did one (work_by one.entity one.cause before.servers) (variables_for one before) in
    (λ i. record before { servers = servers_are i; variables = variables_are i })
    ∙ by one.exclusive outcome.variables outcome.task
    ∙ ap (λ (work : Option GoalWork). brought_home one (did one work (variables_for one before)) before) (work_found one.entity one.cause before)
    ∙ ap (λ (world : WorldState). brought_home one (apart one world) world) same
  where
    by : (b : Bool) (left : Variables) (task : Option TaskState) → record before { servers = polled_by one.entity one.cause task before.servers; variables = left_by b one.group left before.variables }
        ≡ with_polled one.entity one.cause task (if b then with_variables one.group left before else before)
    by true left task = polled_home one.entity one.cause task (with_variables one.group left before)
    by false left task = polled_home one.entity one.cause task before

-- the same of a callback that polled a goal
pub poll_home : (one : Ready) (id : GoalId) (value : ℤ) (canceling : Bool) (before world : WorldState) (servers : List ServerEntry) (start left : Variables) → before ≡ world → one.cause ≡ cause.Woke id value canceling
    → start ≡ begun one before.variables → left ≡ (poll_listed (turn_at one.moment canceling) (work_in one.entity id before.servers) start).variables
    → servers ≡ polled_by one.entity (cause.Woke id value canceling) (poll_listed (turn_at one.moment canceling) (work_in one.entity id before.servers) start).task before.servers
    → record before { servers = servers; variables = left_by one.exclusive one.group left before.variables } ≡ brought_home one (apart one world) world
poll_home one id value canceling before world servers start left same polls starts left_is servers_are =
    let polled : poll_listed (turn_at one.moment canceling) (work_in one.entity id before.servers) start ≡ did one (work_by one.entity one.cause before.servers) (begun one before.variables) =
    ap (poll_listed (turn_at one.moment canceling) (work_in one.entity id before.servers)) starts ∙ sym (ap (λ (why : Cause). act why listed one (work_by one.entity why before.servers) (begun one before.variables) []) polls) in
    callback_home one before world servers (left_by one.exclusive one.group left before.variables) same
    (ap (λ (some : Variables). left_by one.exclusive one.group some before.variables) (left_is ∙ ap (λ (outcome : AfterCallback (List Effect)). outcome.variables) polled))
    (servers_are ∙ (λ i. polled_by one.entity (sym polls i) (polled i).task before.servers))

-- what two clauses say of the same `Ok`
pub on_ok_both : {T E P Q R : Type 0} (result : Result T E) → (P → Q → R) → OnOk result P → OnOk result Q → OnOk result R
on_ok_both (Ok value) both first second = both first second
on_ok_both (Err error) both first second = tt
