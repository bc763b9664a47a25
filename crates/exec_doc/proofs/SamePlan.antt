-- A value that says a plan says the same plan after its upgrade.
use Rattle.std.proofs.Common.{◌≡◌, ℕ, List, [], ◌∷◌, find, codes, Bool, true, false, cond, not, Option, None, Some, bytes_eq, refl, ap, ◌∙◌, subst}
use Rattle.std.proofs.lemmas.Option.{same_Some}
use Rattle.std.specs.Map.{lookup}
use Rattle.serde_json.proofs.Views.{get_member-put, get_member-put_other}
use Rattle.serde_json.specs.Data.{Data, unsigned, number, string, Members, put}
use Rattle.serde_json.specs.Find.{get}
use Rattle.exec_doc.proofs.Found.{found_by, apart_by, found}
use Rattle.exec_doc.proofs.Kept.{holds_of}
use Rattle.exec_doc.proofs.SameForms.{field_same, node_same, entry_same}
use Rattle.exec_doc.specs.Document.{resolved_entry, plan_of, unless_refused, plan_in}
use Rattle.exec_doc.specs.Draft.{DocumentDraft, EntryDraft}
use Rattle.exec_doc.specs.Forms.{count, text, list_of, list, required_field, or_default, node, entry, ready_order, has_order, order_in, declarations, draft_of}
use Rattle.exec_doc.specs.Refusals.{codes_in_order, is_version}
use Rattle.exec_doc.specs.Upgrade.{kept_members, document_fields, upgraded_node, upgraded_entry, name_of_order, upgraded}
use Rattle.exec_doc.specs.declared.refused.Refused.{Refused}
use Rattle.exec_doc.specs.declared.refused.Refused.TheVariants as refused
use Rattle.exec_graph.specs.Resolved.{resolved_graph}
use Rattle.exec_graph.specs.declared.draft.GraphDraft.{GraphDraft}
use Rattle.exec_msg.specs.Options.{◌>>=◌, each}
use Rattle.exec_plan.proofs.Reading.{then_read}
use Rattle.exec_plan.specs.Plan.{PlanData}
use Rattle.exec_plan.specs.declared.order.Order.{Order}
use Rattle.exec_plan.specs.declared.order.Order.TheVariants as order

-- ---- the fields of the upgrade

-- the members with the order
abbrev ordered : Order → Data → Members
ordered under value = put (codes "order") (string (name_of_order under)) (kept_members document_fields value)

pub document_found : (under : Order) (value : Data) (name : List ℕ) → bytes_eq name (codes "version") ≡ false → bytes_eq name (codes "order") ≡ false
    → get name (upgraded under value) ≡ found_by (lookup (bytes_eq name) document_fields) (get name value)
document_found under value name no_version no_order =
    get_member-put_other name (codes "version") (number (unsigned 2)) (ordered under value) (apart_by name (codes "version") no_version)
    ∙ get_member-put_other name (codes "order") (string (name_of_order under)) (kept_members document_fields value) (apart_by name (codes "order") no_order)
    ∙ found name document_fields value

version_found : (under : Order) (value : Data) → get (codes "version") (upgraded under value) ≡ Some (number (unsigned 2))
version_found under value = get_member-put (codes "version") (number (unsigned 2)) (ordered under value)

order_found : (under : Order) (value : Data) → get (codes "order") (upgraded under value) ≡ Some (string (name_of_order under))
order_found under value =
    get_member-put_other (codes "order") (codes "version") (number (unsigned 2)) (ordered under value) (apart_by (codes "order") (codes "version") refl)
    ∙ get_member-put (codes "order") (string (name_of_order under)) (kept_members document_fields value)

order_read : (under : Order) → or_default ready_order order.Kind (Some (string (name_of_order under))) ≡ Some under
order_read order.Kind = refl
order_read order.Arrival = refl

-- ---- its draft

draft_by : (value : Data) (version : ℕ) (under : Order) (graph : GraphDraft) (moments : List ℕ) (feed : List EntryDraft)
    → required_field count (codes "version") value ≡ Some version → order_in (has_order version) value ≡ Some under → declarations value ≡ Some graph
    → list count (codes "moments") value ≡ Some moments → list entry (codes "feed") value ≡ Some feed
    → draft_of value ≡ Some (record { version = version; order = under; graph = graph; moments = moments; feed = feed })
draft_by value version under graph moments feed v u g m f = rw (v, u, g, m, f) refl

declared_again : (under : Order) (value : Data) → declarations (upgraded under value) ≡ declarations value
declared_again under value =
    let topics : list text (codes "topics") (upgraded under value) ≡ list text (codes "topics") value = ap (or_default (list_of text) []) (document_found under value (codes "topics") refl refl) in
    let nodes : list node (codes "nodes") (upgraded under value) ≡ list node (codes "nodes") value =
    ap (or_default (list_of node) []) (document_found under value (codes "nodes") refl refl) ∙ field_same node upgraded_node node_same (get (codes "nodes") value) in
    rw (topics, nodes) refl

-- the draft of the upgrade is that of the value, of version 2
drafted_again : (value : Data) (draft : DocumentDraft) → draft_of value ≡ Some draft → draft_of (upgraded draft.order value) ≡ Some (record draft { version = 2 })
drafted_again value draft e =
    then_read _ (required_field count (codes "version") value) _ draft e (λ version v e1.
    then_read _ (order_in (has_order version) value) _ draft e1 (λ under u e2.
    then_read _ (declarations value) _ draft e2 (λ graph g e3.
    then_read _ (list count (codes "moments") value) _ draft e3 (λ moments m e4.
    then_read _ (list entry (codes "feed") value) _ draft e4 (λ feed f e5.
    let moments_again : list count (codes "moments") (upgraded under value) ≡ list count (codes "moments") value = ap (or_default (list_of count) []) (document_found under value (codes "moments") refl refl) in
    let feed_again : list entry (codes "feed") (upgraded under value) ≡ list entry (codes "feed") value =
    ap (or_default (list_of entry) []) (document_found under value (codes "feed") refl refl) ∙ field_same entry upgraded_entry entry_same (get (codes "feed") value) in
    subst (λ (some : DocumentDraft). draft_of (upgraded some.order value) ≡ Some (record some { version = 2 }))
    (same_Some (record { version = version; order = under; graph = graph; moments = moments; feed = feed }) draft e5)
    (draft_by (upgraded under value) 2 under graph moments feed
    (ap (λ (field : Option Data). field >>= count) (version_found under value))
    (ap (or_default ready_order order.Kind) (order_found under value) ∙ order_read under)
    (declared_again under value ∙ g) (moments_again ∙ m) (feed_again ∙ f)))))))

-- ---- its plan

-- the plan that a draft says, where it isn't refused
abbrev pub said_by : Option DocumentDraft → Option PlanData
said_by drafted = unless_refused (find (holds_of drafted) codes_in_order) (drafted >>= plan_of)

-- the codes beyond that of the version
abbrev later_codes : List Refused
later_codes = refused.Name ∷ refused.Limit ∷ refused.Script ∷ refused.GroupVariable ∷ refused.Clock ∷ refused.Id ∷ []

past_version : (b : Bool) (later : Option Refused) (planned : Option PlanData) (plan : PlanData) → unless_refused (cond b (Some refused.Version) later) planned ≡ Some plan → unless_refused later planned ≡ Some plan
past_version true later planned plan e = absurd cc
past_version false later planned plan e = e

accepted : (refusal : Option Refused) (planned : Option PlanData) (plan : PlanData) → unless_refused refusal planned ≡ Some plan → planned ≡ Some plan
accepted None planned plan e = e
accepted (Some code) planned plan e = absurd cc

-- a plan has the order of its draft
plan_order : (draft : DocumentDraft) (plan : PlanData) → plan_of draft ≡ Some plan → draft.order ≡ plan.order
plan_order draft plan e =
    then_read _ (resolved_graph draft.graph) _ plan e (λ made g e1.
    then_read _ (each (resolved_entry draft.graph) draft.feed) _ plan e1 (λ feed f e2.
    ap (λ (some : PlanData). some.order) (same_Some (record { graph = made; order = draft.order; moments = draft.moments; feed = feed }) plan e2)))

planned_again : (drafted : Option DocumentDraft) (value : Data) (plan : PlanData) → draft_of value ≡ drafted → said_by drafted ≡ Some plan → plan_in (Some (upgraded plan.order value)) ≡ Some plan
planned_again None value plan is e = absurd cc
planned_again (Some draft) value plan is e =
    let said = past_version (not (is_version draft.version)) (find (holds_of (Some draft)) later_codes) (plan_of draft) plan e in
    let same = plan_order draft plan (accepted (find (holds_of (Some draft)) later_codes) (plan_of draft) plan said) in
    subst (λ (under : Order). plan_in (Some (upgraded under value)) ≡ Some plan) same (ap said_by (drafted_again value draft is) ∙ said)

pub same_plan : (value : Data) (plan : PlanData) → plan_in (Some value) ≡ Some plan → plan_in (Some (upgraded plan.order value)) ≡ Some plan
same_plan value plan e = planned_again (draft_of value) value plan refl e
