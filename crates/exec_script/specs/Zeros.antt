-- Registers and group variables at first.
use Rattle.std.specs.Prelude.{ℤ, pos, List, replicate}

-- eight integers, all 0
abbrev pub zeros : List ℤ
zeros = replicate 8 (pos 0)
