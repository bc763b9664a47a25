use Rattle.exec_plan.proofs.Scheduled.{plan_lawful}
use Rattle.exec_plan.proofs.laws.plans_without_faults_are_lawful.Goals as goal

pub returns : goal.returns
returns c = λ graph order moments feed lawful goes bits faultless. plan_lawful graph order moments feed lawful goes bits faultless
