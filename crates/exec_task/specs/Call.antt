-- A service client's call as a task that waits for its reply.
use Rattle.std.specs.Prelude.{◌≡◌, ℕ, ℤ, List, [], ◌∷◌, Option, None, Some}
use Rattle.std.specs.List.{Any}
use Rattle.exec_task.specs.Wake.{WakeState}
use Rattle.exec_task.specs.declared.wait.Source.{Source}
use Rattle.exec_task.specs.declared.wait.Source.TheVariants as source
use Rattle.futures.specs.declared.task.Poll.{Poll}
use Rattle.futures.specs.declared.task.Poll.TheVariants as poll

-- a call: its number, and its reply, if it has one
pub record CallState : Type 0 where
  pub number : ℕ
  pub reply : Option ℤ

-- a call that has no reply yet
abbrev pub new_call : ℕ → CallState
new_call number = record { number = number; reply = None }

-- a call to which a reply comes, where it had this one: it keeps the first
abbrev pub completed_by : Option ℤ → ℤ → CallState → CallState
completed_by None value call = record call { reply = Some value }
completed_by (Some reply) value call = call

-- a call after a reply came; what a poll answers is then its `reply`
abbrev pub completed : ℤ → CallState → CallState
completed value call = completed_by call.reply value call

-- what wakes a call with this reply: its reply, where it has none yet
abbrev pub sources_of_reply : Option ℤ → List Source
sources_of_reply None = source.Reply ∷ []
sources_of_reply (Some reply) = []

-- what wakes a call
abbrev pub sources_of_call : CallState → List Source
sources_of_call call = sources_of_reply call.reply

-- a call with the source that its reply is, which it owns
pub record PendingCallState : Type 0 where
  pub call : CallState
  pub wake : WakeState

-- a name is that of a source that wakes a call
abbrev pub IsSourceOfCall : PendingCallState → ℕ → Source → Type 0
IsSourceOfCall pending name (source.Clock time) = ⊥
IsSourceOfCall pending name source.Cancellation = ⊥
IsSourceOfCall pending name source.Reply = name ≡ pending.wake.source

-- a name is that of a source that a call waits for
abbrev pub CallNeeds : PendingCallState → ℕ → Type 0
CallNeeds pending name = Any (IsSourceOfCall pending name) (sources_of_call pending.call)

-- what a poll of a call with this reply answers
abbrev pub poll_of_reply : Option ℤ → Poll ℤ
poll_of_reply None = poll.Pending
poll_of_reply (Some reply) = poll.Ready reply
