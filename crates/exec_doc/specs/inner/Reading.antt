-- What a reader answers of what a form says.
use Rattle.std.specs.Prelude.{◌≡◌, List, ◌++◌, Option, None, Some, Result, Ok, Err}
use Rattle.exec_doc.specs.declared.refused.Refused.{Refused}
use Rattle.exec_doc.specs.declared.refused.Refused.TheVariants as refused

-- it refuses a shape only where the form says nothing, and beside that only memory fails
abbrev pub ReadingFails : {Y : Type 0} → Refused → Option Y → Type 0
ReadingFails refused.Memory said = Unit {0}
ReadingFails refused.Shape said = said ≡ None
ReadingFails _ said = ⊥

-- what it read, as `view` sees it, is what the form says
abbrev pub ReadingGives : {X Y : Type 0} → (X → Y) → Result X Refused → Option Y → Type 0
ReadingGives view (Ok found) said = said ≡ Some (view found)
ReadingGives view (Err code) said = ReadingFails code said

-- what the form says is there, behind what was there before
abbrev pub IsReadBehind : {X : Type 0} → Option (List X) → List X → List X → Type 0
IsReadBehind {X} said before after = (here : List X) × (said ≡ Some here) × (after ≡ before ++ here)
