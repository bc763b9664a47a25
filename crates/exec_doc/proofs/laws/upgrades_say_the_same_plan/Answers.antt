use Rattle.exec_doc.proofs.SamePlan.{same_plan}
use Rattle.exec_doc.proofs.laws.upgrades_say_the_same_plan.Goals as goal

pub returns : goal.returns
returns c = same_plan
