use Rattle.exec_laws.proofs.Depths.{deep_first}
use Rattle.exec_laws.proofs.Displaced.{none_displaced}
use Rattle.exec_laws.proofs.exchanges.answers_are_never_displaced.Goals as goal

pub returns : goal.returns
returns c = λ plan lawful. none_displaced plan (deep_first plan lawful.graph)
