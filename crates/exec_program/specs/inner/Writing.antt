-- How a document is run and its transcript written.
use Rattle.std.specs.Prelude.{◌≡◌, ℕ, List, take, Bool, true, Some, Result, Ok, Err}
use Rattle.exec_doc.specs.Document.{document_of}
use Rattle.exec_plan.specs.Plan.{PlanData}
use Rattle.exec_round.specs.Run.{IsRefusalOf}
use Rattle.exec_rules.specs.Transcript.{text_of}
use Rattle.exec_program.specs.Program.{Appended, StreamRun, Unchanged}
use Rattle.exec_program.specs.declared.program.Failure.{Failure}
use Rattle.exec_program.specs.declared.program.Failure.TheVariants as failure

-- what running a document and writing its transcript came to: the whole text, flushed; nothing where the document is refused or
-- memory was; a front of the text where the output failed
abbrev pub HasWritten : {Value : Type 0} → List ℕ → StreamRun → Bool → Result Value Failure → Type 0
HasWritten document output flushed (Ok _) = (flushed ≡ true) × ((plan : PlanData) × (document_of document ≡ Some plan) × Appended output (text_of plan))
HasWritten document output flushed (Err (failure.Refused code)) = IsRefusalOf document code × Unchanged output
HasWritten document output flushed (Err failure.WriteFailed) =
    (output.failed ≡ true)
    × ((plan : PlanData) × (document_of document ≡ Some plan) × ((count : ℕ) × Appended output (take count (text_of plan))))
HasWritten document output flushed (Err _) = ⊥
