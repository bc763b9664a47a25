-- Identifiers as a list.
use Rattle.std.specs.Prelude.{ℕ, List, ◌==◌, Bool}
use Rattle.std.specs.List.{list_any}

-- whether an identifier stands in a list
abbrev pub is_among : List ℕ → ℕ → Bool
is_among ids id = list_any (λ one. one == id) ids
