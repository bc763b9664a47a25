use Rattle.std.proofs.Common.{sym, ◌∙◌, arith}
use Rattle.exec_world.proofs.Wired.{few_clients, next_declared, none_left}
use Rattle.exec_world.proofs.first_world.Entities.of.Goals as goal

pub loop-number-preserved : goal.loop-number-preserved
loop-number-preserved c = record {
  few = few_clients c.args.graph.now c.loop-number.number c.loop-number.entities c.declare.new.self c.in_ok-declare.ensures c.loop-number.invariant.few;
  listed = next_declared c.args.graph.now c.loop-number.number c.loop-number.entities c.declare.new.self c.in_ok-declare.ensures _ (omega arith) c.loop-number.invariant.listed;
}

pub returns : goal.returns
returns c = sym (none_left c.args.graph.now c.loop-number.number c.loop-number.entities (omega arith)) ∙ c.loop-number.invariant.listed
