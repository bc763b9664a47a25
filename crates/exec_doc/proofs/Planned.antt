-- A document that isn't refused has a plan.
use Rattle.std.proofs.Common.{◌≡◌, ℕ, Bool, true, false, is_some, List, [], ◌∷◌, Option, None, Some, find, refl}
use Rattle.std.specs.List.{list_all}
use Rattle.std.specs.Option.{option_map_or}
use Rattle.std.proofs.lemmas.Bool.{and_parts, and_from}
use Rattle.serde_json.specs.Data.{Data}
use Rattle.exec_doc.specs.Document.{resolved_fed, resolved_entry, plan_of, unless_refused, plan_in}
use Rattle.exec_plan.specs.declared.plan.FedOf.TheVariants.{Message, Goal, Cancel}
use Rattle.exec_doc.specs.Draft.{DocumentDraft, FedDraft, EntryDraft}
use Rattle.exec_doc.specs.Forms.{draft_of}
use Rattle.exec_doc.specs.Refusals.{feeds, has_identifier, codes_in_order, refusal_in}
use Rattle.exec_doc.specs.declared.refused.Refused.{Refused}
use Rattle.exec_graph.specs.declared.draft.GraphDraft.{GraphDraft}
use Rattle.exec_graph.specs.Numbers.{topic_named, server_named}
use Rattle.exec_msg.specs.Options.{◌>>=◌, each}
use Rattle.exec_graph.specs.Refusals.{fault_in}
use Rattle.exec_graph.specs.Resolved.{resolved_graph}
use Rattle.exec_plan.proofs.Reading.{goes_on, each_some}
use Rattle.exec_doc.proofs.Kept.{IsKept, holds_of, kept}

-- ---- the feed

identified : (id : Option ℕ) (test : ℕ → Bool) → option_map_or test id false ≡ true → is_some id ≡ true
identified None test e = e
identified (Some id) test e = refl

is_fed : (source : GraphDraft) (fed : FedDraft) → feeds source fed ≡ true → has_identifier fed ≡ true → is_some (resolved_fed source fed) ≡ true
is_fed source (Message name value) feeding has_id = goes_on (topic_named source name) _ feeding (λ topic. refl)
is_fed source (Goal name id value) feeding has_id =
    goes_on (server_named source name) _ feeding (λ server. goes_on id _ (identified id _ has_id) (λ id. refl))
is_fed source (Cancel name id stamp) feeding has_id =
    goes_on (server_named source name) _ feeding (λ server. goes_on id _ has_id (λ id. refl))

are_fed : (source : GraphDraft) (feed : List EntryDraft) → list_all (λ entry. feeds source entry.fed) feed ≡ true → list_all (λ entry. has_identifier entry.fed) feed ≡ true → list_all (λ entry. is_some (resolved_entry source entry)) feed ≡ true
are_fed source [] feeding has_ids = refl
are_fed source (entry ∷ others) feeding has_ids =
    and_from (is_some (resolved_entry source entry)) (list_all (λ entry. is_some (resolved_entry source entry)) others)
    (goes_on (resolved_fed source entry.fed) _
    (is_fed source entry.fed (and_parts (feeds source entry.fed) (list_all (λ entry. feeds source entry.fed) others) feeding).0 (and_parts (has_identifier entry.fed) (list_all (λ entry. has_identifier entry.fed) others) has_ids).0)
    (λ fed. refl))
    (are_fed source others (and_parts (feeds source entry.fed) (list_all (λ entry. feeds source entry.fed) others) feeding).1 (and_parts (has_identifier entry.fed) (list_all (λ entry. has_identifier entry.fed) others) has_ids).1)

-- ---- the plan

let_through : {A : Type 0} (refusal : Option Refused) (plan : Option A) → refusal ≡ None → is_some plan ≡ true → is_some (unless_refused refusal plan) ≡ true
let_through None plan is there = there
let_through (Some code) plan is there = absurd cc

module _ (has_graph : (source : GraphDraft) → fault_in source ≡ None → is_some (resolved_graph source) ≡ true) where
  -- a document that keeps what each code asks has a plan
  has_plan : (document : DocumentDraft) → IsKept document → is_some (plan_of document) ≡ true
  has_plan document kept =
      goes_on (resolved_graph document.graph) _ (has_graph document.graph kept.graph)
      (λ made. goes_on (each (resolved_entry document.graph) document.feed) _
      (each_some (resolved_entry document.graph) document.feed (are_fed document.graph document.feed kept.feeding kept.identified))
      (λ feed. refl))

  planned_by : (draft : Option DocumentDraft) → find (holds_of draft) codes_in_order ≡ None → is_some (draft >>= plan_of) ≡ true
  planned_by None found = absurd cc
  planned_by (Some document) found = has_plan document (kept document found)

  -- a value that was read and isn't refused has a plan
  pub planned : (value : Option Data) → refusal_in value ≡ None → is_some (plan_in value) ≡ true
  planned None found = absurd cc
  planned (Some value) found = let_through (refusal_in (Some value)) (draft_of value >>= plan_of) found (planned_by (draft_of value) found)
