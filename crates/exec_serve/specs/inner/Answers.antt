-- What is written of an answer.
use Rattle.std.specs.Prelude.{◌≡◌, ℕ, List, take, Bool, true, Result, OnOk, OnErr}
use Rattle.exec_io.specs.declared.out.OutFailed.{OutFailed}
use Rattle.exec_program.specs.Program.{Appended, StreamRun}
use Rattle.exec_serve.specs.Serving.{Exchange, IsAnswered, answer_bytes}

-- bytes went to the output: all of them, flushed, or a front of them where it has failed
pub record IsPut {Value : Type 0} (bytes : List ℕ) (output : StreamRun) (flushed : Bool) (outcome : Result Value OutFailed) : Type 0 where
  pub whole : OnOk outcome (Appended output bytes)
  pub flushed_then : OnOk outcome (flushed ≡ true)
  pub failed : OnErr outcome (output.failed ≡ true)
  pub front : (count : ℕ) × Appended output (take count bytes)

-- an answer to a document did
pub record HasAnswered {Value : Type 0} (document : List ℕ) (output : StreamRun) (flushed : Bool) (outcome : Result Value OutFailed) : Type 0 where
  pub exchange : Exchange
  pub same : exchange.document ≡ document
  pub answered : IsAnswered exchange
  pub put : IsPut (answer_bytes exchange) output flushed outcome
