-- The variables that groups keep, read and written among all.
use Rattle.std.proofs.Common.{◌≡◌, ℕ, ◌-◌, ◌<◌, List, length, take, ap, sym, ◌∙◌}
use Rattle.std.specs.Prelude.{slice_index_or, slice_set}
use Rattle.std.proofs.Math.Seq.{take-set-lt}
use Rattle.std.proofs.lemmas.List.{get_or-take, length-set}
use Rattle.exec_script.specs.Script.{Variables}
use Rattle.exec_world.specs.inner.Banks.{kept_of}

-- those of a group that are written
pub kept_set : (all : List Variables) (group : ℕ) (left : Variables) → group < length all - 1 → kept_of (slice_set all group left) ≡ slice_set (kept_of all) group left
kept_set all group left within = ap (λ count. take (count - 1) (slice_set all group left)) (length-set all group left) ∙ take-set-lt (length all - 1) all group left within

-- and read
pub kept_at : (all : List Variables) (group : ℕ) (other : Variables) → group < length all - 1 → slice_index_or all group other ≡ slice_index_or (kept_of all) group other
kept_at all group other within = sym (get_or-take (length all - 1) all group other within)
