use Rattle.std.proofs.Common.{◌∙◌, sym, arith, rules, w64, refl}
use Rattle.std.proofs.lemmas.Int.{to_z-of_z}
use mir.Val.{SFits}
use Rattle.exec_script.specs.Script.{listed}
use Rattle.exec_script.specs.declared.step.Step.TheVariants as step
use Rattle.exec_script.specs.declared.step.Stop.TheVariants as stop
use Rattle.exec_script.proofs.Following.{follow_skip, follow_stop}
use Rattle.exec_script.proofs.run.follow.Goals as goal

pub loop-instr-preserved-in-Skip : goal.loop-instr-preserved-in-Skip
loop-instr-preserved-in-Skip g c = record {
  same_end =
      sym (follow_skip listed c.follow_sets-pc.new.frame.input c.args.script.now c.follow_sets-pc.result c.in-Skip.count c.saturating_add-pc.result c.in-Some.instr.now
      (record { registers = c.follow_sets-pc.new.frame.registers; variables = c.follow_sets-pc.new.frame.variables; reply_or_decision = c.loop-instr.answer; given = c.loop-instr.effects.items; stop = stop.End })
      (search rules) (omega arith) (c.in-Some.ensures.lookup.1) (c.in-Skip.ensures.does) c.saturating_add-pc.ensures)
      ∙ c.follow_sets-pc.ensures.same_end c.loop-instr.answer c.loop-instr.effects.items
      ∙ c.loop-instr.invariant.same_end;
  input = c.follow_sets-pc.ensures.input ∙ c.loop-instr.invariant.input;
  room = omega (arith, c.loop-instr.invariant.room, c.follow_sets-pc.ensures.behind, c.saturating_add-pc.ensures);
}

pub returns-in-Wait-clause-ends : goal.returns-in-Wait-clause-ends
returns-in-Wait-clause-ends g c =
    sym (follow_stop listed c.follow_sets-pc.new.frame.input c.args.script.now c.follow_sets-pc.result c.in-Some.instr.now (step.Wait c.in-Wait.ticks)
    (record { registers = c.follow_sets-pc.new.frame.registers; variables = c.follow_sets-pc.new.frame.variables; reply_or_decision = c.loop-instr.answer; given = c.loop-instr.effects.items; stop = stop.End })
    (search rules) (c.in-Some.ensures.lookup.1) (c.in-Wait.ensures.does) (λ left. refl))
    ∙ c.follow_sets-pc.ensures.same_end c.loop-instr.answer c.loop-instr.effects.items
    ∙ c.loop-instr.invariant.same_end

pub returns-in-Yield-clause-ends : goal.returns-in-Yield-clause-ends
returns-in-Yield-clause-ends g c =
    sym (follow_stop listed c.follow_sets-pc.new.frame.input c.args.script.now c.follow_sets-pc.result c.in-Some.instr.now step.Yield
    (record { registers = c.follow_sets-pc.new.frame.registers; variables = c.follow_sets-pc.new.frame.variables; reply_or_decision = c.loop-instr.answer; given = c.loop-instr.effects.items; stop = stop.End })
    (search rules) (c.in-Some.ensures.lookup.1) (c.in-Yield.ensures.does) (λ left. refl))
    ∙ c.follow_sets-pc.ensures.same_end c.loop-instr.answer c.loop-instr.effects.items
    ∙ c.loop-instr.invariant.same_end

pub returns-in-Ended-clause-ends : goal.returns-in-Ended-clause-ends
returns-in-Ended-clause-ends g c =
    let fits : SFits w64 c.in-Ended.value = search rules in
    rw (to_z-of_z w64 c.in-Ended.value fits)
    (sym (follow_stop listed c.follow_sets-pc.new.frame.input c.args.script.now c.follow_sets-pc.result c.in-Some.instr.now (step.Ended c.in-Ended.event c.in-Ended.value)
    (record { registers = c.follow_sets-pc.new.frame.registers; variables = c.follow_sets-pc.new.frame.variables; reply_or_decision = c.loop-instr.answer; given = c.loop-instr.effects.items; stop = stop.End })
    (search rules) (c.in-Some.ensures.lookup.1) (c.in-Ended.ensures.does) (λ left. refl))
    ∙ c.follow_sets-pc.ensures.same_end c.loop-instr.answer c.loop-instr.effects.items
    ∙ c.loop-instr.invariant.same_end)
