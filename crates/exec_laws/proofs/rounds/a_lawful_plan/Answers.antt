use Rattle.exec_laws.proofs.Lawful.{lawful_plan}
use Rattle.exec_laws.proofs.rounds.a_lawful_plan.Goals as goal

pub returns : goal.returns
returns c = lawful_plan
