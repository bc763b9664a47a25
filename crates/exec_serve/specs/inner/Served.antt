-- What was served so far.
use Rattle.std.specs.Prelude.{◌≡◌, ◌⊎◌, ℕ, List, [], All, take, Bool, true, Option}
use Rattle.std.specs.List.{flat_map}
use Rattle.std.specs.Io.KnownBytes.{Appends, Consumes}
use Rattle.exec_io.specs.Streams.{ReaderState, Stream}
use Rattle.exec_program.specs.declared.program.Failure.{Failure}
use Rattle.exec_program.specs.declared.program.Failure.TheVariants as failure
use Rattle.exec_serve.specs.Serving.{Exchange, IsServed, answer_bytes, request_bytes}
use Rattle.exec_serve.specs.inner.Requests.{HasEnded, Takes}

-- documents were taken from the input, and each was answered
pub record HasServedSo (before after from to : Option (List ℕ)) (flushed : Bool) : Type 0 where
  pub exchanges : List Exchange
  pub served : All IsServed exchanges
  pub read : Consumes before after (flat_map request_bytes exchanges)
  pub written : Appends from to (flat_map answer_bytes exchanges)
  pub flushed_then : (exchanges ≡ []) ⊎ (flushed ≡ true)

-- one was
abbrev pub HasServedOne : Option (List ℕ) → Option (List ℕ) → Option (List ℕ) → Option (List ℕ) → Type 0
HasServedOne before after from to = (one : Exchange) × IsServed one × Consumes before after (request_bytes one) × Appends from to (answer_bytes one)

-- the reading of the next one failed, or the writing of its answer
abbrev pub HasFailed : ReaderState → ReaderState → Stream → Stream → Failure → Type 0
HasFailed before after from to (failure.Refused code) = ⊥
HasFailed before after from to failure.Usage = ⊥
HasFailed before after from to failure.ReadFailed = (to ≡ from) × HasEnded before after
HasFailed before after from to failure.WriteFailed = (to.sink.failed ≡ true) × ((one : Exchange) × (count : ℕ) × IsServed one × Takes before after (request_bytes one)
    × Appends from.sink.contents to.sink.contents (take count (answer_bytes one)))
