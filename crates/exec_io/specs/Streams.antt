-- What a program's streams are.
use Rattle.std.specs.Prelude.{ℕ, List, Bool, Option}

-- a reader: the bytes that it has left, where it tells them, and whether a read has failed
pub record ReaderState : Type 0 where
  pub remaining : Option (List ℕ)
  pub failed : Bool

-- where a text goes: what it was given so far, where it tells that, and whether giving it more has failed
pub record Sink : Type 0 where
  pub contents : Option (List ℕ)
  pub failed : Bool

-- a writer: the same, and whether a flush stands behind the last write
pub record Stream : Type 0 where
  pub sink : Sink
  pub flushed : Bool
