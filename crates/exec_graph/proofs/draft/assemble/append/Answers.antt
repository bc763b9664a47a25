use Rattle.exec_graph.proofs.Appended.{appended}
use Rattle.exec_graph.proofs.draft.assemble.append.Goals as goal

pub returns : goal.returns
returns c =
    appended c.args.name.now c.args.entities.now.entries c.insert.new.self.entries c.in_ok-from_str.field-0 c.args.is c.in_ok-from_str.ensures.ok c.in_ok-insert.ensures.entries
