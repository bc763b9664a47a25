-- What is read by a name of a table.
use Rattle.std.proofs.Common.{ℕ, Bool, true, false, cond, List, [], ◌∷◌, Some, Result, Err, ok_or, bytes_eq}
use Rattle.std.specs.List.{AllByRecursion}
use Rattle.std.specs.Map.{lookup}
use Rattle.exec_script.specs.Spelling.{◌>>=◌}

-- what holds of an entry, and of those behind it
infixr 3 ◌also◌
pub ◌also◌ : {A B : Type 0} → A → B → A × B
first also others = (first, others)

-- what holds of what each entry reads, and of the fault of any other name, holds of what a name reads
pub read_by_name : {R A E : Type 0} (P : Result A E → Type 0) (read : R → Result A E) (name : List ℕ) (table : List (List ℕ × R)) (fault : E) → P (Err fault) → AllByRecursion (λ entry. P (read entry.1)) table → P (ok_or (lookup (bytes_eq name) table) fault >>= read)
read_by_name P read name [] fault unknown each = unknown
read_by_name P read name (entry ∷ entries) fault unknown each = by (bytes_eq name entry.0) each.0 (read_by_name P read name entries fault unknown each.1)
  where
    by : (b : Bool) → P (read entry.1) → P (ok_or (lookup (bytes_eq name) entries) fault >>= read) → P (ok_or (cond b (Some entry.1) (lookup (bytes_eq name) entries)) fault >>= read)
    by true first later = first
    by false first later = later
