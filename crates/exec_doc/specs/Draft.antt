-- Drafts of documents: what one says, its references still names, and its scripts still words.
use Rattle.std.specs.Prelude.{ℕ, List, Option}
use Rattle.exec_graph.specs.declared.draft.GraphDraft.{GraphDraft}
use Rattle.exec_plan.specs.declared.order.Order.{Order}
use Rattle.exec_plan.specs.declared.plan.FedOf.{FedOf}
use Rattle.exec_plan.specs.declared.plan.FeedOf.{FeedOf}

-- what is said to be fed: topics and servers by their names, with identifiers where their texts are ones
abbrev pub FedDraft : Type 0
FedDraft = FedOf (List ℕ) (Option ℕ)

-- an entry of a feed
abbrev pub EntryDraft : Type 0
EntryDraft = FeedOf (List ℕ) (Option ℕ)

-- a document: its version, the order in which ready callbacks are run, its graph, the moment of each round, and the feed
pub record DocumentDraft : Type 0 where
  pub version : ℕ
  pub order : Order
  pub graph : GraphDraft
  pub moments : List ℕ
  pub feed : List EntryDraft
