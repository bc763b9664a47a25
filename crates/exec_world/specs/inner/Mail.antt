-- What callbacks send, apart from the rest of the world: the queues with the order of ready callbacks and the number of the last
-- arrival, and the lines.
use Rattle.std.specs.Prelude.{◌≡◌, ◌<◌, ◌^◌, ℕ, List, [], ◌∷◌, ◌++◌, map}
use Rattle.std.specs.List.{fold}
use Rattle.exec_msg.specs.Numbers.{EntityNo}
use Rattle.exec_msg.specs.Lists.{change_first}
use Rattle.exec_msg.specs.declared.line.Line.{Line}
use Rattle.exec_plan.specs.declared.order.Order.{Order}
use Rattle.exec_plan.specs.declared.order.Order.TheVariants as order
use Rattle.exec_rules.specs.Item.{taker_of}
use Rattle.exec_rules.specs.World.{WorldState, Queue, is_queue, next_in, queue_after, drop_line, lost_from}
use Rattle.exec_rules.specs.declared.item.Item.{Item}

-- these parts of a world
pub record MailState : Type 0 where
  pub order : Order
  pub arrivals : ℕ
  pub queues : List Queue
  pub lines : List Line

-- a number of arrivals under an order: under that of kinds none is counted, and each is below 2^60
abbrev pub CountsUnder : Order → ℕ → Type 0
CountsUnder under arrivals = (under ≡ order.Kind → arrivals ≡ 0) × (arrivals < 2 ^ 60)

-- with one more line
abbrev pub with_line : Line → MailState → MailState
with_line line mail = record mail { lines = mail.lines ++ line ∷ [] }

-- the number of the next arrival
abbrev pub next_number : MailState → ℕ
next_number mail = next_in mail.order mail.arrivals

-- after one more arrival
abbrev pub with_next : MailState → MailState
with_next mail = record mail { arrivals = next_number mail }

-- after an item was sent to an entity, with the lines of what is lost by it
abbrev pub sent_to : EntityNo → Item → MailState → MailState
sent_to entity new mail = record {
  order = mail.order;
  arrivals = next_number mail;
  queues = change_first (is_queue entity (taker_of new)) (queue_after (next_number mail) new) mail.queues;
  lines = mail.lines ++ map (drop_line entity) (lost_from entity new mail.queues);
}

-- after an item was sent to each of these entities
abbrev pub sent_to_each : List EntityNo → Item → MailState → MailState
sent_to_each entities new mail = fold (λ before entity. sent_to entity new before) mail entities

-- the world with these parts
abbrev pub with_mail : MailState → WorldState → WorldState
with_mail mail world = record world { order = mail.order; arrivals = mail.arrivals; queues = mail.queues; lines = mail.lines }

-- those of a world
abbrev pub mail_of : WorldState → MailState
mail_of world = record { order = world.order; arrivals = world.arrivals; queues = world.queues; lines = world.lines }
