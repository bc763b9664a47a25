-- The text of a transcript, line by line.
use Rattle.std.specs.Prelude.{◌≡◌, ℕ, ◌+◌, max, List, [], ◌∷◌, ◌++◌, codes, decimal, length, Option, None, Some, slice_index_or, Result, OnOk, OnErr}
use Rattle.std.specs.Int.{to_be_bytes, w128}
use Rattle.std.specs.Fmt.{signed_decimal}
use Rattle.std.specs.List.{flat_map}
use Rattle.exec_msg.specs.Numbers.{EntityNo, GoalId}
use Rattle.uuid.specs.Text.{hyphenated_text, lower}
use Rattle.exec_msg.specs.Goal.{status_number, code_number, decision_number}
use Rattle.exec_msg.specs.declared.kind.Kind.{Kind}
use Rattle.exec_msg.specs.declared.kind.Kind.TheVariants as kind
use Rattle.exec_msg.specs.declared.line.Line.{Line}
use Rattle.exec_msg.specs.declared.memory.Memory.{Memory}
use Rattle.exec_msg.specs.declared.line.Line.TheVariants as line

-- the word of a kind of callback
abbrev pub kind_text : Kind → List ℕ
kind_text kind.Timer = codes "timer"
kind_text kind.Message = codes "message"
kind_text kind.Request = codes "request"
kind_text kind.Reply = codes "reply"
kind_text kind.Goal = codes "goal"
kind_text kind.Cancel = codes "cancel"
kind_text kind.Ask = codes "ask"
kind_text kind.Poll = codes "poll"
kind_text kind.Response = codes "response"
kind_text kind.Code = codes "code"
kind_text kind.Feedback = codes "feedback"
kind_text kind.Result = codes "result"

-- the text of an identifier: RFC 9562, section 4, hyphenated and in lower case
unfoldable pub id_text : GoalId → List ℕ
id_text id = hyphenated_text lower (to_be_bytes w128 id)

-- each field with one space before it
abbrev pub spaced : List (List ℕ) → List ℕ
spaced fields = flat_map (λ field. 32 ∷ field) fields

-- fields with one space between them
abbrev pub joined : List (List ℕ) → List ℕ
joined [] = []
joined (word ∷ fields) = word ++ spaced fields

-- the name at a number
abbrev pub name_at : List (List ℕ) → EntityNo → List ℕ
name_at names entity = slice_index_or names entity []

-- an identifier's field, where there is one
abbrev pub id_field : Option GoalId → List (List ℕ)
id_field None = []
id_field (Some id) = id_text id ∷ []

-- the fields of a line
abbrev pub fields_of : List (List ℕ) → Line → List (List ℕ)
fields_of names (line.Round number moment) = codes "round" ∷ decimal number ∷ decimal moment ∷ []
fields_of names (line.Expire server id) = codes "expire" ∷ name_at names server ∷ id_text id ∷ []
fields_of names (line.Run entity kind input aux id) =
    codes "run" ∷ name_at names entity ∷ kind_text kind ∷ signed_decimal input ∷ signed_decimal aux ∷ id_field id
fields_of names (line.Drop entity kind input) = codes "drop" ∷ name_at names entity ∷ kind_text kind ∷ signed_decimal input ∷ []
fields_of names (line.Pub topic value) = codes "pub" ∷ name_at names topic ∷ signed_decimal value ∷ []
fields_of names (line.Call client number value) = codes "call" ∷ name_at names client ∷ decimal number ∷ signed_decimal value ∷ []
fields_of names (line.Reply service value) = codes "reply" ∷ name_at names service ∷ signed_decimal value ∷ []
fields_of names (line.Goal client id value) = codes "goal" ∷ name_at names client ∷ id_text id ∷ signed_decimal value ∷ []
fields_of names (line.Cancel client id stamp) = codes "cancel" ∷ name_at names client ∷ id_text id ∷ decimal stamp ∷ []
fields_of names (line.Log entity value) = codes "log" ∷ name_at names entity ∷ signed_decimal value ∷ []
fields_of names (line.Feedback server id value) = codes "feedback" ∷ name_at names server ∷ id_text id ∷ signed_decimal value ∷ []
fields_of names (line.Decide server id decision) = codes "decide" ∷ name_at names server ∷ id_text id ∷ decimal (decision_number decision) ∷ []
fields_of names (line.State server id status) = codes "state" ∷ name_at names server ∷ id_text id ∷ decimal (status_number status) ∷ []
fields_of names (line.Code server code moved) = codes "code" ∷ name_at names server ∷ decimal (code_number code) ∷ decimal moved ∷ []
fields_of names (line.Ask client id) = codes "ask" ∷ name_at names client ∷ id_text id ∷ []
fields_of names (line.Result server id status value) =
    codes "result" ∷ name_at names server ∷ id_text id ∷ decimal (status_number status) ∷ signed_decimal value ∷ []
fields_of names (line.Pending client calls) = codes "pending" ∷ name_at names client ∷ decimal calls ∷ []
fields_of names (line.End rounds) = codes "end" ∷ decimal rounds ∷ []

-- the text of a line: its fields with one space between them, and a line feed
abbrev pub line_text : List (List ℕ) → Line → List ℕ
line_text names line = joined (fields_of names line) ++ 10 ∷ []

-- the length of the longest of some texts, 0 for none
abbrev pub greatest_length : List (List ℕ) → ℕ
greatest_length [] = 0
greatest_length (text ∷ texts) = max (length text) (greatest_length texts)

-- the room of a line: the text of none with these names is longer
abbrev pub line_room : List (List ℕ) → ℕ
line_room names = greatest_length names + 128

-- the text of a transcript
abbrev pub transcript_text : List (List ℕ) → List Line → List ℕ
transcript_text names lines = flat_map (line_text names) lines

-- what a line's writer does: on success the text stands behind the bytes, and else they are as they were
pub record IsAppended (result : Result (Unit {0}) Memory) (before after text : List ℕ) : Type 0 where
  pub ok : OnOk result (after ≡ before ++ text)
  pub unchanged : OnErr result (after ≡ before)
