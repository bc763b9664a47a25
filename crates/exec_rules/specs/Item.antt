-- What stands in queues: which callbacks take it, and what it hands them.
use Rattle.std.specs.Prelude.{ℕ, ℤ, pos, ◌+◌, ◌*◌, ◌^◌, ◌%◌, if◌then◌else◌, Option, None, Some}
use Rattle.std.specs.Int.{w64, cast_signed}
use Rattle.exec_msg.specs.Numbers.{GoalId}
use Rattle.exec_msg.specs.Goal.{status_number, code_number}
use Rattle.exec_msg.specs.declared.kind.Kind.{Kind}
use Rattle.exec_msg.specs.declared.kind.Kind.TheVariants as kind
use Rattle.exec_rules.specs.declared.item.Item.{Item}
use Rattle.exec_rules.specs.declared.item.Item.TheVariants as item

-- the identifier of a client's goal of a number: the client is the one of this place, from 0, among the action clients
abbrev pub goal_id : ℕ → ℕ → GoalId
goal_id place number = (place + 1) * 2 ^ 64 + number

-- the number in such an identifier
abbrev pub goal_number : GoalId → ℕ
goal_number id = id % 2 ^ 64

-- a number as a script sees it: its 64 bits as a signed value, which is the number itself below 2^63
abbrev pub as_value : ℕ → ℤ
as_value number = cast_signed w64 number

-- the kind of callback that takes an item
abbrev pub taker_of : Item → Kind
taker_of (item.Message value) = kind.Message
taker_of (item.Request client number value) = kind.Request
taker_of (item.Reply number value) = kind.Reply
taker_of (item.Goal id client value) = kind.Goal
taker_of (item.Cancel request client) = kind.Cancel
taker_of (item.Ask id client) = kind.Ask
taker_of (item.Response id accepted) = kind.Response
taker_of (item.Code returned moved) = kind.Code
taker_of (item.Feedback id value) = kind.Feedback
taker_of (item.Result id status value) = kind.Result

-- its `in`
abbrev pub first_of : Item → ℤ
first_of (item.Message value) = value
first_of (item.Request client number value) = value
first_of (item.Reply number value) = value
first_of (item.Goal id client value) = value
first_of (item.Cancel request client) = as_value request.stamp
first_of (item.Ask id client) = pos 0
first_of (item.Response id accepted) = if accepted then pos 1 else pos 0
first_of (item.Code returned moved) = pos (code_number returned)
first_of (item.Feedback id value) = value
first_of (item.Result id status value) = value

-- its `aux`, where it is a cancel request with so many candidates
abbrev pub aux_of : Item → ℕ → ℤ
aux_of (item.Reply number value) candidates = as_value number
aux_of (item.Cancel request client) candidates = as_value candidates
aux_of (item.Response id accepted) candidates = as_value (goal_number id)
aux_of (item.Code returned moved) candidates = as_value moved
aux_of (item.Feedback id value) candidates = as_value (goal_number id)
aux_of (item.Result id status value) candidates = pos (status_number status)
aux_of _ candidates = pos 0

-- the identifier on the line of its callback
abbrev pub id_of : Item → Option GoalId
id_of (item.Goal id client value) = Some id
id_of (item.Cancel request client) = Some request.id
id_of (item.Ask id client) = Some id
id_of (item.Response id accepted) = Some id
id_of (item.Feedback id value) = Some id
id_of (item.Result id status value) = Some id
id_of _ = None
