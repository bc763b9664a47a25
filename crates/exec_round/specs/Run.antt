-- What a document is answered that is run, and one that isn't.
use Rattle.std.specs.Prelude.{◌≡◌, ◌⊎◌, ℕ, List, Some}
use Rattle.exec_msg.specs.declared.line.Line.{Line}
use Rattle.exec_plan.specs.Plan.{PlanData}
use Rattle.exec_doc.specs.Refusals.{refusal_of}
use Rattle.exec_doc.specs.declared.refused.Refused.{Refused}
use Rattle.exec_doc.specs.declared.refused.Refused.TheVariants.{Memory}

-- why bytes aren't run: they are refused with a code, or a growth was refused
abbrev pub IsRefusalOf : List ℕ → Refused → Type 0
IsRefusalOf bytes code = (code ≡ Memory) ⊎ (refusal_of bytes ≡ Some code)

-- a plan that was run, and the lines of its transcript
pub record RunPlan : Type 0 where
  pub plan : PlanData
  pub lines : List Line
