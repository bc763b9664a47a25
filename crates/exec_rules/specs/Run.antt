-- What a ready callback does to the world: its line, its script with each effect at its instruction, and what closes it.
use Rattle.std.specs.Prelude.{List, [], ◌∷◌, if◌then◌else◌, Option, None, Some}
use Rattle.exec_msg.specs.Numbers.{EntityNo}
use Rattle.exec_script.specs.Script.{listed, Variables}
use Rattle.exec_script.specs.Zeros.{zeros}
use Rattle.exec_script.specs.declared.effects.Effect.{Effect}
use Rattle.exec_script.specs.declared.effects.Effects.{Effects}
use Rattle.exec_task.specs.Task.{TaskState}
use Rattle.exec_rules.specs.Callback.{AfterCallback, callback}
use Rattle.exec_rules.specs.Close.{close_callback}
use Rattle.exec_rules.specs.Give.{give, give_all}
use Rattle.exec_rules.specs.Ready.{run_line}
use Rattle.exec_rules.specs.World.{ServerEntry, WorldState, GoalWork, add_line, variables_at, with_variables, work_in, with_task}
use Rattle.exec_rules.specs.declared.ready.Cause.{Cause}
use Rattle.exec_rules.specs.declared.ready.Cause.TheVariants as cause
use Rattle.exec_rules.specs.declared.ready.Ready.{Ready}

-- the work of the goal that a callback of one of these servers polls, if it polls one
abbrev pub work_by : EntityNo → Cause → List ServerEntry → Option GoalWork
work_by server (cause.Woke id value canceling) servers = work_in server id servers
work_by server _ servers = None

-- the same of the world's servers
abbrev pub work_for : EntityNo → Cause → WorldState → Option GoalWork
work_for server why world = work_by server why world.servers

-- the world in which the task of the goal that a callback polls stands so, if it polls one
abbrev pub with_polled : EntityNo → Cause → Option TaskState → WorldState → WorldState
with_polled server (cause.Woke id value canceling) (Some task) world = with_task server id task world
with_polled server _ _ world = world

-- the variables with which a callback begins: those of its group where that is exclusive, and none where it is reentrant
abbrev pub variables_for : Ready → WorldState → Variables
variables_for one world = if one.exclusive then variables_at one.group world else zeros

-- the world in which it left them so
abbrev pub with_variables_for : Ready → Variables → WorldState → WorldState
with_variables_for one variables world = if one.exclusive then with_variables one.group variables world else world

-- the world in which the variables and the task of a callback that came out so are home
abbrev pub brought_home : {S : Type 0} → Ready → AfterCallback S → WorldState → WorldState
brought_home one outcome world = with_polled one.entity one.cause outcome.task (with_variables_for one outcome.variables world)

-- the world after a callback that came out so: its variables and its task come home, and it is closed
abbrev pub after_callback : Ready → AfterCallback WorldState → WorldState
after_callback one outcome = close_callback one outcome.close (brought_home one outcome outcome.given)

-- what a ready callback does in the world, behind its line: each of its effects is given to the world at its instruction
abbrev pub outcome_in : Ready → WorldState → AfterCallback WorldState
outcome_in one world = callback (give one) one (work_for one.entity one.cause world) (variables_for one world) (add_line (run_line one) world)

-- a ready callback runs
abbrev pub run : Ready → WorldState → WorldState
run one world = after_callback one (outcome_in one world)

-- what a ready callback does apart from the world, with this work and these variables, its effects listed
abbrev pub apart_with : Ready → Option GoalWork → Variables → AfterCallback (List Effect)
apart_with one work variables = callback listed one work variables []

-- a goal's work behind a callback that left its task so, if it polled it
abbrev pub work_after : Option TaskState → GoalWork → GoalWork
work_after None work = work
work_after (Some task) work = record work { task = task }

-- the same with the work and the variables that the world has for it
abbrev pub apart : Ready → WorldState → AfterCallback (List Effect)
apart one world = apart_with one (work_for one.entity one.cause world) (variables_for one world)

-- what it then did: its effects, and what closes it
abbrev pub effects_of : AfterCallback (List Effect) → Effects
effects_of outcome = record { list = outcome.given; close = outcome.close }

-- what a ready callback did apart from the world is given to it: its line, each of its effects, and what closes it; its
-- variables and its task come home by themselves
abbrev pub commit : Ready → Effects → WorldState → WorldState
commit one effects world = close_callback one effects.close (give_all one effects.list (add_line (run_line one) world))

-- ---- a whole list of callbacks

-- the world after ready callbacks ran apart, one after another: only what each of them brings home
abbrev pub all_home : List Ready → WorldState → WorldState
all_home [] world = world
all_home (one ∷ list) world = all_home list (brought_home one (apart one world) world)

-- what each of them did
abbrev pub all_apart : List Ready → WorldState → List Effects
all_apart [] world = []
all_apart (one ∷ list) world = let outcome = apart one world in effects_of outcome ∷ all_apart list (brought_home one outcome world)

-- the world after what ready callbacks did is given to it, one after another
abbrev pub commit_all : List Ready → List Effects → WorldState → WorldState
commit_all (one ∷ list) (effects ∷ others) world = commit_all list others (commit one effects world)
commit_all _ _ world = world

-- the world that what closes it finds
abbrev pub unclosed : Ready → WorldState → WorldState
unclosed one world = let outcome = outcome_in one world in brought_home one outcome outcome.given
