-- What is left of a transcript whose text is read piece by piece.
use Rattle.std.specs.Prelude.{ℕ, List}
use Rattle.exec_msg.specs.declared.line.Line.{Line}

-- the names of the entities, and the lines that are left
pub record LinesLeft : Type 0 where
  pub names : List (List ℕ)
  pub lines : List Line
