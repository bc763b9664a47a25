use Rattle.std.proofs.Common.{◌≤◌, ℕ, List, length, subst, sym}
use Rattle.exec_msg.specs.Line.{greatest_length}
use Rattle.exec_msg.proofs.Lengths.{name_within}
use Rattle.exec_msg.proofs.names.Names.bounded_name.Goals as goal

pub returns-clause-bound : goal.returns-clause-bound
returns-clause-bound c = subst (λ (name : List ℕ). length name ≤ greatest_length c.args.self.now) (sym c.name.ensures) (name_within c.args.self.now c.args.no)
