-- Worked examples: the tasks of goals of value 5, polled round by round.
use Rattle.std.specs.Prelude.{ℕ, pos, List, [], ◌∷◌, true, false}
use Rattle.exec_script.specs.Script.{listed}
use Rattle.exec_script.specs.Zeros.{zeros}
use Rattle.exec_script.specs.declared.effects.Effect.{Effect}
use Rattle.exec_script.specs.Instruction.{Script}
use Rattle.exec_script.specs.Instruction as instr
use Rattle.exec_script.specs.declared.instr.Operand.TheVariants as operand
use Rattle.exec_task.specs.Task.{TaskState, Polled, polled}
use Rattle.exec_task.specs.declared.wait.Turn.{Turn}

-- a script that yields, and then succeeds
abbrev pub yielding : Script
yielding = instr.Yield ∷ instr.Succeed (operand.Value (pos 9)) ∷ []

-- a script that waits for 5 ticks, and then succeeds
abbrev pub waiting : Script
waiting = instr.Wait (operand.Value (pos 5)) ∷ instr.Succeed (operand.Value (pos 9)) ∷ []

-- a script that ends as canceled
abbrev pub giving_up : Script
giving_up = instr.Canceled (operand.Value (pos 7)) ∷ []

-- a round at a moment, for a goal that isn't being canceled
abbrev pub at : ℕ → Turn
at moment = record { moment = moment; canceling = false }

-- a round at a moment, for a goal that is
abbrev pub canceling_at : ℕ → Turn
canceling_at moment = record { moment = moment; canceling = true }

-- a poll whose effects are listed
abbrev pub poll_alone : Script → Turn → TaskState → Polled (List Effect)
poll_alone script turn task = polled listed script (pos 5) turn task zeros []

-- the task after polls in some turns, one after another
abbrev pub after_polls : Script → List Turn → TaskState → TaskState
after_polls script [] task = task
after_polls script (turn ∷ later) task = after_polls script later (poll_alone script turn task).task
