-- How outcomes are sent on and collected.
use Rattle.std.specs.Prelude.{◌≡◌, ℕ, ◌<◌, List, ◌++◌, IsPermutation}
use Rattle.atomic_table.specs.Seated.{TableId}
use Rattle.crossbeam_queue.specs.declared.array_queue.Slotted.{Slotted}
use Rattle.exec_lane.specs.declared.outcome.Outcome.{Outcome}
use Rattle.exec_stream.specs.Outcomes.{Hand}

-- which queue it is
abbrev pub queue_id : {S D Q A : Type 0} → Slotted S D Q A → TableId
queue_id queue = queue.table.shared.table_id

-- what sends outcomes on: its queue, what its pass of that queue knows, the outcomes that came back because the queue was full,
-- and for how many more it has room
pub record SenderView : Type 0 where
  pub queue : TableId
  pub hand : Hand
  pub kept : List Outcome
  pub room : ℕ

-- what it put or kept
abbrev pub sent_by : SenderView → List Outcome
sent_by sender = sender.hand.put ++ sender.kept

-- it may put outcomes into a queue
pub record MaySend (queue : TableId) (sender : SenderView) : Type 0 where
  pub at : sender.queue ≡ queue
  pub parts : 0 < sender.hand.parts

-- it stands at its queue with as many parts, and took nothing
pub record Stays (before after : SenderView) : Type 0 where
  pub queue : after.queue ≡ before.queue
  pub parts : after.hand.parts ≡ before.hand.parts
  pub took : after.hand.took ≡ before.hand.took

-- and it sent these outcomes on
pub record HasSent (outcomes : List Outcome) (before after : SenderView) : Type 0 where
  pub stays : Stays before after
  pub all : IsPermutation (sent_by before ++ outcomes) (sent_by after)

-- what collects outcomes: its queue, what its pass of that knows, and what it got
pub record CollectorView : Type 0 where
  pub queue : TableId
  pub hand : Hand
  pub got : List Outcome

-- it may take outcomes from a queue
pub record MayCollect (queue : TableId) (collector : CollectorView) : Type 0 where
  pub at : collector.queue ≡ queue
  pub parts : 0 < collector.hand.parts

-- it stands at its queue with as many parts, and put nothing
pub record Collects (before after : CollectorView) : Type 0 where
  pub queue : after.queue ≡ before.queue
  pub parts : after.hand.parts ≡ before.hand.parts
  pub put : after.hand.put ≡ before.hand.put
