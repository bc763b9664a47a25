use Rattle.std.proofs.Common.{◌≡◌, length, ◌-◌, ◌≤◌, ℤ, Option, List}
use Rattle.exec_script.specs.Script.{listed, resumed}
use Rattle.exec_script.specs.declared.effects.Effect.{Effect}
use Rattle.exec_script.proofs.run.follow_sets.Given as goal

-- whatever was answered and given before, what is left of the script leads from here to where it leads from the start, on the
-- same input
abbrev pub invariant-loop-pc : goal.invariant-loop-pc
invariant-loop-pc g l = record {
  same_end : (answer : Option ℤ) → (given : List Effect) →
      resumed listed l.script l.pc l.frame.registers l.frame.variables answer l.frame.input given
      ≡ resumed listed l.script l.place l.initial.frame.registers l.initial.frame.variables answer l.initial.frame.input given;
  input : l.frame.input ≡ l.initial.frame.input;
  behind : l.place ≤ l.pc;
}

abbrev pub decreases-loop-pc : goal.decreases-loop-pc
decreases-loop-pc g l = length l.script - l.pc
