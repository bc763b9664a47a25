-- What a run of the program that serves comes to: which documents it was asked to run, what it answered to each, and how it ended.
use Rattle.std.specs.Prelude.{◌≡◌, ◌≢◌, ◌⊎◌, ◌↔◌, ℕ, ◌<◌, ◌≤◌, ◌^◌, List, [], ◌∷◌, ◌++◌, All, length, take, Bool, true, codes, Option, Some, String, Result, Err, IfErr, OnOk}
use Rattle.std.specs.List.{flat_map}
use Rattle.std.specs.Int.{w64, to_be_bytes}
use Rattle.std.specs.Io.KnownBytes.{IsAtEnd}
use Rattle.std.specs.declared.alloc.Global.{Global}
use Rattle.std.specs.Global.{Vec}
use Rattle.exec_msg.specs.declared.limits.TheConstants.{DOCUMENT}
use Rattle.exec_plan.specs.Plan.{PlanData}
use Rattle.exec_doc.specs.Document.{document_of}
use Rattle.exec_doc.specs.Refusals.{refused_number}
use Rattle.exec_doc.specs.declared.refused.Refused.{Refused}
use Rattle.exec_doc.specs.declared.refused.Refused.TheVariants as refused
use Rattle.exec_io.specs.declared.words.WordsFault.{WordsFault}
use Rattle.exec_io.specs.declared.words.WordsFault.TheVariants as words_fault
use Rattle.exec_program.specs.Program.{Appended, AreGoodWords, Consumed, StreamRun, Unchanged, failure_line, refused_line}
use Rattle.exec_program.specs.declared.program.Failure.{Failure}
use Rattle.exec_program.specs.declared.program.Failure.TheVariants as failure
use Rattle.exec_round.specs.Run.{IsRefusalOf}
use Rattle.exec_rules.specs.Transcript.{text_of}

-- a document that came, and what it is answered: a status and a text
pub record Exchange : Type 0 where
  pub document : List ℕ
  pub status : ℕ
  pub text : List ℕ

-- a number as eight bytes, the highest first
unfoldable pub number_bytes : ℕ → List ℕ
number_bytes number = to_be_bytes w64 number

-- the length of bytes so
abbrev pub length_bytes : List ℕ → List ℕ
length_bytes bytes = number_bytes (length bytes)

-- how a document comes, and how its answer goes
abbrev pub request_bytes : Exchange → List ℕ
request_bytes exchange = length_bytes exchange.document ++ exchange.document

abbrev pub answer_bytes : Exchange → List ℕ
answer_bytes exchange = exchange.status ∷ length_bytes exchange.text ++ exchange.text

-- the answer is 0 and the text of the document's plan, or the code of a refusal and no text
abbrev pub IsAnswered : Exchange → Type 0
IsAnswered exchange =
    ((plan : PlanData) × (document_of exchange.document ≡ Some plan) × (exchange.status ≡ 0) × (exchange.text ≡ text_of plan))
    ⊎ ((code : Refused) × IsRefusalOf exchange.document code × (exchange.status ≡ refused_number code) × (exchange.text ≡ []))

-- a document of lawful size, and its answer
abbrev pub IsServed : Exchange → Type 0
IsServed exchange = (length exchange.document ≤ DOCUMENT) × IsAnswered exchange

-- bytes that are a request's front: a part of its length, or its length and a part of its document
abbrev pub IsPartOfRequest : List ℕ → Type 0
IsPartOfRequest bytes = ((0 < length bytes) × (length bytes < 8))
    ⊎ ((size : ℕ) × (part : List ℕ) × (size ≤ DOCUMENT) × (length part < size) × (bytes ≡ number_bytes size ++ part))

-- why no request follows, and what was taken of it: the input failed; it ended within a request; a length is more than a document
-- may have
abbrev pub IsCutOff : Bool → Option (List ℕ) → List ℕ → Type 0
IsCutOff failed after taken =
    ((failed ≡ true) × ((taken ≡ []) ⊎ IsPartOfRequest taken))
    ⊎ (IsAtEnd after × IsPartOfRequest taken)
    ⊎ ((size : ℕ) × (DOCUMENT < size) × (size < 2 ^ 64) × (taken ≡ number_bytes size))

-- what a run that serves did: the documents that it was asked to run, each with its answer, and what it took and gave behind them
pub record HasServed {Value : Type 0} (input output : StreamRun) (flushed : Bool) (outcome : Result Value Failure) : Type 0 where
  pub exchanges : List Exchange
  pub served : All IsServed exchanges
  pub taken : List ℕ
  pub given : List ℕ
  pub read : Consumed input (flat_map request_bytes exchanges ++ taken)
  pub written : Appended output (flat_map answer_bytes exchanges ++ given)
  -- each answer is flushed before more is read
  pub flushed_then : outcome ≢ Err failure.WriteFailed → (exchanges ≡ []) ⊎ (flushed ≡ true)
  -- the input ended behind a document
  pub ended : OnOk outcome (IsAtEnd input.after × (taken ≡ []) × (given ≡ []))
  -- no document ends it with its code
  pub failed : IfErr outcome (λ told. (told ≡ failure.ReadFailed) ⊎ (told ≡ failure.WriteFailed))
  -- the next one couldn't be read
  pub read_failed : outcome ≡ Err failure.ReadFailed → (given ≡ []) × IsCutOff input.failed input.after taken
  -- or the output failed within the answer to a document
  pub write_failed : outcome ≡ Err failure.WriteFailed → (output.failed ≡ true)
      × ((exchange : Exchange) × (count : ℕ) × IsServed exchange × (taken ≡ request_bytes exchange) × (given ≡ take count (answer_bytes exchange)))

-- the facts of a run of the program with these words
pub record HasServedBy {Value : Type 0} (words : Result (Vec (String Global)) WordsFault) (input output : StreamRun) (flushed : Bool) (outcome : Result Value Failure) : Type 0 where
  -- wrong words and nothing else are told as such, and nothing is read or written then
  pub usage : (outcome ≡ Err failure.Usage) ↔ (¬ AreGoodWords words × words ≢ Err words_fault.Memory)
  pub no_memory_for_words : words ≡ Err words_fault.Memory → outcome ≡ Err (failure.Refused refused.Memory)
  pub words_first : ¬ AreGoodWords words → Unchanged input × Unchanged output
  pub served : AreGoodWords words → HasServed input output flushed outcome

-- the line of a failure on standard error
abbrev pub served_line : Failure → List ℕ
served_line (failure.Refused code) = refused_line code
served_line failure.Usage = codes "usage: exec_serve <workers 1-64> <quantum 1-1024>" ++ 10 ∷ []
served_line failure.WriteFailed = failure_line failure.WriteFailed
served_line failure.ReadFailed = failure_line failure.ReadFailed

-- what standard error gets of a run: nothing where the input ended, and else the line of the failure, whole and flushed, or a front
-- of it where standard error has failed
pub record IsTold {Value : Type 0} (outcome : Result Value Failure) (errors : StreamRun) (flushed : Bool) : Type 0 where
  pub silent : OnOk outcome (Unchanged errors)
  pub told : IfErr outcome (λ told. (Appended errors (served_line told) × (flushed ≡ true))
      ⊎ ((errors.failed ≡ true) × ((count : ℕ) × Appended errors (take count (served_line told)))))
