-- Queues whose room is made late.
use Rattle.std.specs.Prelude.{List, [], Option, None, Some}
use Rattle.exec_msg.specs.KeepLast.{BoundedQueue}

-- the items of a queue that may not be made yet: there are none before
abbrev pub made_items : {A : Type 0} → Option (BoundedQueue A) → List A
made_items None = []
made_items (Some queue) = queue.items
