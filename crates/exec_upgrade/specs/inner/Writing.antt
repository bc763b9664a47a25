-- How a document is upgraded and its text written.
use Rattle.std.specs.Prelude.{◌≡◌, ℕ, List, take, Bool, true, Some, Result, Ok, Err}
use Rattle.exec_doc.specs.Upgrade.{upgraded_text}
use Rattle.exec_upgrade.specs.Program.{Appended, Unchanged, IsRefusalOf, StreamRun}
use Rattle.exec_upgrade.specs.declared.program.Failure.{Failure}
use Rattle.exec_upgrade.specs.declared.program.Failure.TheVariants as failure

-- what upgrading a document and writing its text came to: the whole text, flushed; nothing where the document is refused or
-- memory was; a front of the text where the output failed
abbrev pub HasWritten : {Value : Type 0} → List ℕ → StreamRun → Bool → Result Value Failure → Type 0
HasWritten document output flushed (Ok _) = (flushed ≡ true) × ((text : List ℕ) × (upgraded_text document ≡ Some text) × Appended output text)
HasWritten document output flushed (Err (failure.Refused code)) = IsRefusalOf document code × Unchanged output
HasWritten document output flushed (Err failure.WriteFailed) =
    (output.failed ≡ true) × ((text : List ℕ) × (upgraded_text document ≡ Some text) × ((count : ℕ) × Appended output (take count text)))
HasWritten document output flushed (Err _) = ⊥
