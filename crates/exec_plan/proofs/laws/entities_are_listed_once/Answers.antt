use Rattle.std.proofs.Common.{ℕ, ◌+◌, ◌≡◌, ap, ◌∙◌, sym, arith, []}
use Rattle.exec_plan.specs.Graph.{entities_where}
use Rattle.exec_plan.specs.declared.entity.Declared.TheVariants.{Topic}
use Rattle.exec_plan.proofs.Listed.{times, once_at, none_beyond}
use Rattle.exec_plan.proofs.laws.entities_are_listed_once.Goals as goal

pub returns-clause-inside : goal.returns-clause-inside
returns-clause-inside c = λ graph test number within.
    let here : 0 + number ≡ number = omega arith in
    ap (λ (n : ℕ). times n (entities_where test graph)) (sym here)
    ∙ once_at test 0 number graph.entities (record { name = []; is = Topic }) within

pub returns-clause-beyond : goal.returns-clause-beyond
returns-clause-beyond c = λ graph test number beyond. none_beyond test 0 number graph.entities (omega arith)
