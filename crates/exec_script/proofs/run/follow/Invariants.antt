use Rattle.std.proofs.Common.{◌≡◌, length, drop, ◌+◌, ◌-◌, ◌≤◌, vec_len, vec_capacity}
use Rattle.exec_script.specs.Script.{follow, listed, resumed}
use Rattle.exec_script.specs.declared.step.Stop.TheVariants as stop
use Rattle.exec_script.proofs.run.follow.Given as goal

-- what is left of the script leads from here to where it leads from the start, on the same input, and there is room for
-- an effect of each instruction that is left
abbrev pub invariant-loop-instr : goal.invariant-loop-instr
invariant-loop-instr g l = record {
  same_end :
      follow listed l.frame.input (drop l.pc l.script) l.pc 0 (record { registers = l.frame.registers; variables = l.frame.variables; reply_or_decision = l.answer; given = l.effects.items; stop = stop.End })
      ≡ resumed listed l.script l.place l.initial.frame.registers l.initial.frame.variables l.initial.answer l.initial.frame.input l.initial.effects.items;
  input : l.frame.input ≡ l.initial.frame.input;
  room : vec_len l.effects + (length l.script - l.pc) ≤ vec_capacity l.effects;
}

abbrev pub decreases-loop-instr : goal.decreases-loop-instr
decreases-loop-instr g l = length l.script - l.pc
