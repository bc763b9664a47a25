-- What is answered of what a definition says.
use Rattle.std.specs.Prelude.{◌≡◌, Option, None, Some, Result, Ok, Err}
use Rattle.exec_graph.specs.declared.draft.resolve.Unread.{Unread}
use Rattle.exec_graph.specs.declared.draft.resolve.Unread.TheVariants.{Memory, Wrong}

-- it fails only where there is nothing, unless memory was refused
abbrev pub Fails : {A : Type 0} → Unread → Option A → Type 0
Fails Wrong said = said ≡ None
Fails Memory said = Unit {0}

-- what it found is what is said
abbrev pub Gives : {A : Type 0} → Result A Unread → Option A → Type 0
Gives (Ok found) said = said ≡ Some found
Gives (Err unread) said = Fails unread said
