-- The plan of a document is lawful.
use Rattle.std.proofs.Common.{◌≡◌, ℕ, true, find, List, Option, None, Some, refl, subst}
use Rattle.std.proofs.lemmas.Option.{same_Some}
use Rattle.std.specs.List.{list_all}
use Rattle.serde_json.specs.Data.{Data}
use Rattle.exec_doc.specs.Document.{resolved_entry, plan_of, unless_refused, plan_in}
use Rattle.exec_doc.specs.Draft.{DocumentDraft}
use Rattle.exec_doc.specs.Forms.{draft_of}
use Rattle.exec_doc.specs.Refusals.{codes_in_order, refusal_in}
use Rattle.exec_doc.specs.declared.refused.Refused.{Refused}
use Rattle.exec_graph.specs.declared.draft.GraphDraft.{GraphDraft}
use Rattle.exec_plan.specs.Feeding.{goes_somewhere, has_128_bits}
use Rattle.exec_plan.specs.Graph.{GraphData, is_topic, is_server}
use Rattle.exec_plan.specs.Lawful.{IsLawful, IsLawfulPlan, is_at}
use Rattle.exec_graph.specs.Numbers.{topic_named, server_named}
use Rattle.exec_msg.specs.Options.{◌>>=◌, each}
use Rattle.exec_plan.specs.Plan.{PlanData, Feed}
use Rattle.exec_graph.specs.Refusals.{fault_in}
use Rattle.exec_graph.specs.Resolved.{resolved_graph}
use Rattle.exec_plan.specs.Schedule.{plan_fault_in}
use Rattle.exec_plan.specs.declared.order.Order.{Order}
use Rattle.exec_plan.proofs.Reading.{then_read, are_read}
use Rattle.exec_doc.proofs.Bits.{has_bits, draft_small, feed_small}
use Rattle.exec_doc.proofs.Feeding.{feed_of, feed_without_fault}
use Rattle.exec_doc.proofs.Kept.{IsKept, holds_of, kept}

-- what is known of graphs and plans
pub record Laws : Type 0 where
  pub graph : (source : GraphDraft) (made : GraphData) → fault_in source ≡ None → resolved_graph source ≡ Some made → IsLawful made
  pub topic : (source : GraphDraft) (made : GraphData) (name : List ℕ) (number : ℕ) → resolved_graph source ≡ Some made → topic_named source name ≡ Some number → is_at is_topic made number ≡ true
  pub server : (source : GraphDraft) (made : GraphData) (name : List ℕ) (number : ℕ) → resolved_graph source ≡ Some made → server_named source name ≡ Some number → is_at is_server made number ≡ true
  pub plan : (made : GraphData) (order : Order) (moments : List ℕ) (feed : List Feed) → IsLawful made → list_all (λ entry. goes_somewhere made entry.fed) feed ≡ true → list_all (λ entry. has_128_bits entry.fed) feed ≡ true → plan_fault_in moments feed ≡ None → IsLawfulPlan (record { graph = made; order = order; moments = moments; feed = feed })

module _ (laws : Laws) where
  plan_lawful : (document : DocumentDraft) (plan : PlanData) → IsKept document → list_all (λ entry. has_bits entry.fed) document.feed ≡ true → plan_of document ≡ Some plan → IsLawfulPlan plan
  plan_lawful document plan keeps small e =
      then_read _ (resolved_graph document.graph) _ plan e (λ made is e1.
      then_read _ (each (resolved_entry document.graph) document.feed) _ plan e1 (λ feed fed e2.
      let read = feed_of document.graph made (λ name number found. laws.topic document.graph made name number is found) (λ name number found. laws.server document.graph made name number is found)
      document.feed feed (are_read (resolved_entry document.graph) document.feed feed fed) in
      let bits = feed_small document.graph document.feed feed small (are_read (resolved_entry document.graph) document.feed feed fed) in
      subst IsLawfulPlan (same_Some (record { graph = made; order = document.order; moments = document.moments; feed = feed }) plan e2)
      (laws.plan made document.order document.moments feed (laws.graph document.graph made keeps.graph is) read.goes bits (feed_without_fault made document feed read keeps))))

  drafted_lawful : (drafted : Option DocumentDraft) (plan : PlanData) → ((document : DocumentDraft) → drafted ≡ Some document → list_all (λ entry. has_bits entry.fed) document.feed ≡ true) → find (holds_of drafted) codes_in_order ≡ None → (drafted >>= plan_of) ≡ Some plan → IsLawfulPlan plan
  drafted_lawful None plan small found e = absurd cc
  drafted_lawful (Some document) plan small found e = plan_lawful document plan (kept document found) (small document refl) e

  let_through : (refusal : Option Refused) (planned : Option PlanData) (plan : PlanData) → unless_refused refusal planned ≡ Some plan → (refusal ≡ None → planned ≡ Some plan → IsLawfulPlan plan) → IsLawfulPlan plan
  let_through None planned plan e next = next refl e
  let_through (Some code) planned plan e next = absurd cc

  -- a value that isn't refused has a lawful plan
  pub value_lawful : (value : Option Data) (plan : PlanData) → plan_in value ≡ Some plan → IsLawfulPlan plan
  value_lawful None plan e = absurd cc
  value_lawful (Some value) plan e = let_through (refusal_in (Some value)) (draft_of value >>= plan_of) plan e (λ accepted planned. drafted_lawful (draft_of value) plan (draft_small value) accepted planned)
