-- Lines in few bytes each.
use Rattle.std.specs.Prelude.{◌≡◌, ◌++◌, ◌+◌, ◌*◌, ◌%◌, ◌^◌, ℕ, ℤ, pos, Bool, true, false, List, [], ◌∷◌, Option, None, Some}
use Rattle.std.specs.Bool.{⊤}
use Rattle.std.specs.Int.{w64, cast_signed}
use Rattle.exec_msg.specs.declared.line.Line.{Line}
use Rattle.exec_msg.specs.declared.line.Line.TheVariants as line
use Rattle.exec_msg.specs.declared.packed.PackedCell.{PackedCell}
use Rattle.exec_msg.specs.declared.packed.PackedCell.TheVariants as cell

-- the number of an upper half and a lower one, of 32 bits each
abbrev pub joined_halves : ℕ → ℕ → ℕ
joined_halves high low = high * 2 ^ 32 + low

-- the value of these halves
abbrev pub value_by : ℕ → ℕ → ℤ
value_by high low = cast_signed w64 (joined_halves high low)

-- the value beside an input that is the count of an identifier
abbrev pub aux_by : ℕ → ℤ
aux_by id = cast_signed w64 (id % 2 ^ 64)

-- what a cell says: a line, and the identifier that is told behind it; an identifier alone; or that a whole line stands in its
-- place
pub data Said : Type 0 where
  a_line : Line → ℕ → Said
  an_id : ℕ → Said
  a_whole_line : Said

-- the identifier after another one: that one with another upper half, or one of a maker
abbrev pub id_after : Bool → ℕ → ℕ → ℕ → ℕ
id_after true maker half id = half * 2 ^ 64 + id % 2 ^ 64
id_after false maker half id = maker * 2 ^ 64 + half

-- what a cell says where an identifier was told
abbrev pub said_by : PackedCell → ℕ → Said
said_by (cell.Round upper number lower) id = a_line (line.Round number (joined_halves upper lower)) id
said_by (cell.Run kind entity high low) id = a_line (line.Run entity kind (value_by high low) (pos 0) None) id
said_by (cell.RunCounted kind entity high low) id = a_line (line.Run entity kind (value_by high low) (aux_by id) None) id
said_by (cell.Drop kind entity high low) id = a_line (line.Drop entity kind (value_by high low)) id
said_by (cell.Pub topic high low) id = a_line (line.Pub topic (value_by high low)) id
said_by (cell.Call client high low) id = a_line (line.Call client (id % 2 ^ 64) (value_by high low)) id
said_by (cell.Reply service high low) id = a_line (line.Reply service (value_by high low)) id
said_by (cell.Log entity high low) id = a_line (line.Log entity (value_by high low)) id
said_by (cell.RunOnGoal kind entity high low) id = a_line (line.Run entity kind (value_by high low) (pos 0) (Some id)) id
said_by (cell.RunOnGoalBeside kind entity aux low) id = a_line (line.Run entity kind (pos low) (pos aux) (Some id)) id
said_by (cell.RunOnGoalCounted kind entity high low) id = a_line (line.Run entity kind (value_by high low) (aux_by id) (Some id)) id
said_by (cell.RunOnNear kind entity maker count low) id =
    a_line (line.Run entity kind (pos low) (pos 0) (Some (maker * 2 ^ 64 + count))) (maker * 2 ^ 64 + count)
said_by (cell.RunOnNearCounted kind entity maker count low) id =
    a_line (line.Run entity kind (pos low) (pos count) (Some (maker * 2 ^ 64 + count))) (maker * 2 ^ 64 + count)
said_by (cell.Expire server) id = a_line (line.Expire server id) id
said_by (cell.Goal client high low) id = a_line (line.Goal client id (value_by high low)) id
said_by (cell.Cancel client high low) id = a_line (line.Cancel client id (joined_halves high low)) id
said_by (cell.Feedback server high low) id = a_line (line.Feedback server id (value_by high low)) id
said_by (cell.Decide decision server) id = a_line (line.Decide server id decision) id
said_by (cell.State status server) id = a_line (line.State server id status) id
said_by (cell.Ask client) id = a_line (line.Ask client id) id
said_by (cell.Result status server high low) id = a_line (line.Result server id status (value_by high low)) id
said_by (cell.Id is_upper maker high low) id = an_id (id_after is_upper maker (joined_halves high low) id)
said_by cell.Whole id = a_whole_line

-- the line, if it is one, and the identifier that is told behind it
abbrev pub said_line : Said → Option (Line × ℕ)
said_line (a_line line id) = Some (line, id)
said_line (an_id id) = None
said_line a_whole_line = None

abbrev pub lines_by : Said → ℕ → List Line → (ℕ → List Line → List Line) → List Line
lines_by (a_line line on) id wholes rest = line ∷ rest on wholes
lines_by (an_id other) id wholes rest = rest other wholes
lines_by a_whole_line id [] rest = []
lines_by a_whole_line id (whole ∷ wholes) rest = whole ∷ rest id wholes

-- the lines of cells and of whole lines, where an identifier was told
abbrev pub lines_in : List PackedCell → ℕ → List Line → List Line
lines_in [] id wholes = []
lines_in (cell ∷ cells) id wholes = lines_by (said_by cell id) id wholes (lines_in cells)

abbrev pub id_by : Said → ℕ → (ℕ → ℕ) → ℕ
id_by (a_line line on) id rest = rest on
id_by (an_id other) id rest = rest other
id_by a_whole_line id rest = rest id

-- the identifier that was told last behind cells
abbrev pub id_behind : List PackedCell → ℕ → ℕ
id_behind [] id = id
id_behind (cell ∷ cells) id = id_by (said_by cell id) id (id_behind cells)

abbrev pub HaveWholesBy : Said → ℕ → List Line → (ℕ → List Line → Type 0) → Type 0
HaveWholesBy (a_line line on) id wholes rest = rest on wholes
HaveWholesBy (an_id other) id wholes rest = rest other wholes
HaveWholesBy a_whole_line id [] rest = ⊥
HaveWholesBy a_whole_line id (whole ∷ wholes) rest = rest id wholes

-- the cells have a place for each whole line
abbrev pub HaveWholes : List PackedCell → ℕ → List Line → Type 0
HaveWholes [] id [] = ⊤
HaveWholes [] id (whole ∷ wholes) = ⊥
HaveWholes (cell ∷ cells) id wholes = HaveWholesBy (said_by cell id) id wholes (HaveWholes cells)

-- cells behind these say lines, where one identifier was told before and one is behind
abbrev pub HasLines : List PackedCell → List PackedCell → ℕ → ℕ → List Line → Type 0
HasLines cells new before behind lines =
    (more : List PackedCell) × (new ≡ cells ++ more) × (lines_in more before [] ≡ lines)
    × (id_behind more before ≡ behind) × HaveWholes more before []

-- cells don't begin with one that tells an identifier alone
abbrev pub tells_no_id : List PackedCell → Type 0
tells_no_id [] = ⊤
tells_no_id (cell.Id is_upper maker high low ∷ cells) = ⊥
tells_no_id (_ ∷ cells) = ⊤
