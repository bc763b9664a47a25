-- What a run of the program comes to: what it does to its streams, what it says where it writes no whole document, and which
-- status it ends with.
use Rattle.std.specs.Prelude.{◌≡◌, ◌≢◌, ◌⊎◌, ◌↔◌, ℕ, ◌+◌, ◌<◌, ◌≤◌, List, [], ◌∷◌, ◌++◌, length, take, Bool, true, codes, decimal, String, Option, Some, IfSome, Result, Ok, Err, IfErr, OnOk, OnErr, IsOkAnd}
use Rattle.std.specs.Io.KnownBytes.{Keeps, Appends, Consumes, IsAtEnd}
use Rattle.std.specs.declared.alloc.Global.{Global}
use Rattle.std.specs.Global.{Vec}
use Rattle.exec_msg.specs.declared.limits.TheConstants.{DOCUMENT}
use Rattle.exec_doc.specs.Refusals.{refusal_of, refused_number}
use Rattle.exec_doc.specs.Upgrade.{upgraded_text}
use Rattle.exec_doc.specs.declared.refused.Refused.{Refused}
use Rattle.exec_doc.specs.declared.refused.Refused.TheVariants as refused
use Rattle.exec_io.specs.declared.words.WordsFault.{WordsFault}
use Rattle.exec_io.specs.declared.words.WordsFault.TheVariants as words_fault
use Rattle.exec_io.specs.declared.input.ReadFault.{ReadFault}
use Rattle.exec_io.specs.declared.input.ReadFault.TheVariants as reading
use Rattle.exec_upgrade.specs.declared.program.Failure.{Failure}
use Rattle.exec_upgrade.specs.declared.program.Failure.TheVariants as failure
use Rattle.exec_upgrade.specs.declared.program.Status.{Status}
use Rattle.exec_upgrade.specs.declared.program.Status.TheVariants as status

-- the line of a refusal on standard error, with its line feed
abbrev pub refused_line : Refused → List ℕ
refused_line code = codes "refused " ++ decimal (refused_number code) ++ 10 ∷ []

-- the line of a failure
abbrev pub failure_line : Failure → List ℕ
failure_line (failure.Refused code) = refused_line code
failure_line failure.Usage = codes "usage: exec_upgrade" ++ 10 ∷ []
failure_line failure.WriteFailed = codes "write failed" ++ 10 ∷ []
failure_line failure.ReadFailed = codes "read failed" ++ 10 ∷ []

-- the exit status that a status is
abbrev pub exit_number : Status → ℕ
exit_number status.Written = 0
exit_number status.Refused = 1
exit_number status.Usage = 2
exit_number status.WriteFailed = 3
exit_number status.ReadFailed = 4

-- the status of a failure
abbrev pub failure_status : Failure → Status
failure_status (failure.Refused _) = status.Refused
failure_status failure.Usage = status.Usage
failure_status failure.WriteFailed = status.WriteFailed
failure_status failure.ReadFailed = status.ReadFailed

-- a growth that was refused while the words were read refuses the document; words that aren't text are wrong
abbrev pub failure_of_words : WordsFault → Failure
failure_of_words words_fault.Memory = failure.Refused refused.Memory
failure_of_words words_fault.NotText = failure.Usage

-- so does one while the document was read; the reader's own failures are one
abbrev pub failure_of_read : ReadFault → Failure
failure_of_read reading.Memory = failure.Refused refused.Memory
failure_of_read reading.Failed = failure.ReadFailed
failure_of_read reading.TooLong = failure.ReadFailed

-- what a run did to a stream: its bytes before and after, where the stream tells them, and whether it has failed
pub record StreamRun : Type 0 where
  pub before : Option (List ℕ)
  pub after : Option (List ℕ)
  pub failed : Bool

-- a run gave bytes to its output
abbrev pub Appended : StreamRun → List ℕ → Type 0
Appended stream bytes = Appends stream.before stream.after bytes

-- a run left a stream as it was
abbrev pub Unchanged : StreamRun → Type 0
Unchanged stream = Keeps stream.before stream.after

-- a document is refused with its code, or memory was
abbrev pub IsRefusalOf : List ℕ → Refused → Type 0
IsRefusalOf document code = (code ≡ refused.Memory) ⊎ (refusal_of document ≡ Some code)

-- the status of a run that gave nothing where the upgrade is written, and else a failure
abbrev pub status_by : {Value : Type 0} → Result Value Failure → Status
status_by (Ok _) = status.Written
status_by (Err told) = failure_status told

-- words that are text, and none
abbrev pub AreGoodWords : Result (Vec (String Global)) WordsFault → Type 0
AreGoodWords given = IsOkAnd given (λ words. words.items ≡ [])

-- a run took bytes of its input
abbrev pub Consumed : StreamRun → List ℕ → Type 0
Consumed stream bytes = Consumes stream.before stream.after bytes

-- the facts of a run of the program with these words: what it did to its input and to its output, whether that is flushed,
-- and what it came to
pub record HasUpgraded {Value : Type 0} (words : Result (Vec (String Global)) WordsFault) (input output : StreamRun) (flushed : Bool) (outcome : Result Value Failure) : Type 0 where
  -- wrong words and nothing else are told as such, and nothing is read then
  pub usage : (outcome ≡ Err failure.Usage) ↔ (¬ AreGoodWords words × words ≢ Err words_fault.Memory)
  pub no_memory_for_words : words ≡ Err words_fault.Memory → outcome ≡ Err (failure.Refused refused.Memory)
  pub words_first : ¬ AreGoodWords words → Unchanged input
  -- how much is read, and when that fails
  pub taken : (bytes : List ℕ) × Consumed input bytes × (length bytes ≤ DOCUMENT + 1)
  pub too_long : AreGoodWords words → IfSome input.before (λ bytes. DOCUMENT < length bytes
      → (outcome ≡ Err failure.ReadFailed) ⊎ (outcome ≡ Err (failure.Refused refused.Memory)))
  pub read_failed : outcome ≡ Err failure.ReadFailed → (input.failed ≡ true) ⊎ ((bytes : List ℕ) × Consumed input bytes × (DOCUMENT < length bytes))
  -- a refusal has the code of the document, or is one of memory
  pub refused : (code : Refused) → outcome ≡ Err (failure.Refused code) → code ≢ refused.Memory
      → AreGoodWords words × IfSome input.before (λ document. IsRefusalOf document code)
  -- what is written: the whole text of the whole document, flushed; a front of it where the output failed; else nothing
  pub whole_document : OnOk outcome (IsAtEnd input.after)
  pub written : OnOk outcome (IfSome input.before (λ document. (text : List ℕ) × (upgraded_text document ≡ Some text) × Appended output text))
  pub flushed_then : OnOk outcome (flushed ≡ true)
  pub cut_off : outcome ≡ Err failure.WriteFailed → IfSome input.before (λ document. (text : List ℕ) × (count : ℕ)
      × (upgraded_text document ≡ Some text) × Appended output (take count text))
  pub write_failed : outcome ≡ Err failure.WriteFailed → output.failed ≡ true
  pub unwritten : OnErr outcome (outcome ≢ Err failure.WriteFailed → Unchanged output)

-- what standard error gets of a run: nothing where the upgrade is written, and else the line of the failure, whole and
-- flushed, or a front of it where standard error has failed
pub record IsReported {Value : Type 0} (outcome : Result Value Failure) (errors : StreamRun) (flushed : Bool) : Type 0 where
  pub silent : OnOk outcome (Unchanged errors)
  pub told : IfErr outcome (λ told. (Appended errors (failure_line told) × (flushed ≡ true))
      ⊎ ((errors.failed ≡ true) × ((count : ℕ) × Appended errors (take count (failure_line told)))))
