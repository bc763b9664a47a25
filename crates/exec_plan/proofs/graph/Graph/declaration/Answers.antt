use Rattle.std.proofs.Common.{sym, ◌∙◌, []}
use Rattle.exec_plan.specs.Graph.{declared_at}
use Rattle.exec_plan.specs.declared.entity.Declared.TheVariants.{Topic}
use Rattle.exec_plan.proofs.Looking.{declared_by}
use Rattle.exec_plan.proofs.graph.Graph.declaration.Goals as goal

pub returns : goal.returns
returns c =
    sym (declared_by c.self.inside.entities.entries c.no.inside.0 c.index.result.now (record { name = []; is = Topic }) c.index.ensures)
    ∙ (λ i. declared_at (c.self.view_is i) (c.no.view_is i))
