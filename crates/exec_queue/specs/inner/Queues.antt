-- Queues in ready order, found by entity and kind.
use Rattle.std.specs.Prelude.{◌≡◌, ℕ, suc, ◌+◌, ◌*◌, List, [], ◌∷◌, ◌++◌, length, Bool, true, false, not, ◌==◌, if◌then◌else◌, Option, IfSome, slice_get}
use Rattle.std.specs.List.{AllByRecursion, Contains}
use Rattle.std.specs.Option.{option_map_or}
use Rattle.exec_msg.specs.Numbers.{EntityNo}
use Rattle.exec_plan.specs.Graph.{kinds}
use Rattle.exec_msg.specs.Kind.{ready_number}
use Rattle.exec_msg.specs.declared.kind.Kind.{Kind}
use Rattle.exec_rules.specs.inner.ByKind.{is_before_polls}
use Rattle.exec_rules.specs.World.{Queue, is_queue}
use Rattle.exec_msg.specs.Places.{first_place, place_under}

-- the number of a kind's queue of an entity
abbrev pub queue_number : EntityNo → Kind → ℕ
queue_number entity kind = entity * suc (length kinds) + ready_number kind

-- whether a queue has an item
abbrev pub has_item : Queue → Bool
has_item queue = not (length queue.items == 0)

-- whether the queue at a place has one
abbrev pub is_filled_at : List Queue → ℕ → Bool
is_filled_at queues place = option_map_or has_item (slice_get queues place) false

-- places with one more behind them, unless its queue has an item
abbrev pub noted_if : Bool → ℕ → List ℕ → List ℕ
noted_if has place places = if has then places else places ++ place ∷ []

-- whether a queue is of a kind before polls, or of one behind them
abbrev pub is_in_part : Bool → Queue → Bool
is_in_part before queue = if before then is_before_polls queue.kind else not (is_before_polls queue.kind)

-- whether the queue at a place is
abbrev pub is_in_part_at : Bool → List Queue → ℕ → Bool
is_in_part_at before queues place = option_map_or (is_in_part before) (slice_get queues place) false

-- no queue is of a kind behind polls
abbrev pub AreBeforePolls : List Queue → Type 0
AreBeforePolls queues = (place : ℕ) → is_in_part_at false queues place ≡ false

-- a look-up by the number gives the place of the first queue of that entity and kind
abbrev pub FindsQueues : List (Option ℕ) → List Queue → Type 0
FindsQueues places queues = (entity : EntityNo) (kind : Kind) → place_under (queue_number entity kind) places ≡ first_place (is_queue entity kind) queues

-- each queue with an item stands among these places
abbrev pub CoversFilled : List ℕ → List Queue → Type 0
CoversFilled filled queues = (place : ℕ) → is_filled_at queues place ≡ true → Contains filled place

-- a queue that keeps the numbers of arrivals has one for each item
abbrev pub HasItsNumbers : Queue → Type 0
HasItsNumbers queue = IfSome queue.arrivals (λ numbers. length numbers ≡ length queue.items)

abbrev pub HaveTheirNumbers : List Queue → Type 0
HaveTheirNumbers queues = AllByRecursion HasItsNumbers queues

-- each of these places is that of a queue with an item
abbrev pub AreFilled : List ℕ → List Queue → Type 0
AreFilled filled queues = (place : ℕ) → Contains filled place → is_filled_at queues place ≡ true
