-- What is answered of a document whose graph has no fault.
use Rattle.std.proofs.Common.{◌≡◌, ℕ, ◌⊎◌, inl, inr, Bool, true, false, ◌&&◌, nat_le, length, map, List, Option, None, Some, Err, refl, ap, ap₂, sym, ◌∙◌, subst}
use Rattle.std.specs.List.{list_all}
use Rattle.exec_doc.specs.inner.Answering.{Answers, IsReady, draft_refusal, graph_refusal, plan_refusal}
use Rattle.exec_doc.specs.Document.{resolved_entry, plan_of}
use Rattle.exec_doc.specs.Draft.{DocumentDraft, EntryDraft}
use Rattle.exec_doc.specs.inner.Placing.{entry_by, is_cancel_identified}
use Rattle.exec_doc.specs.Refusals.{feeds, has_small_schedule, has_identifier, is_clocked, is_version}
use Rattle.exec_doc.specs.declared.refused.Refused.{Refused}
use Rattle.exec_doc.specs.declared.refused.Refused.TheVariants as refused
use Rattle.exec_graph.specs.declared.draft.GraphDraft.{GraphDraft}
use Rattle.exec_plan.specs.Graph.{GraphData}
use Rattle.exec_msg.specs.Options.{each}
use Rattle.exec_plan.specs.Plan.{PlanData, Feed}
use Rattle.exec_graph.specs.Resolved.{resolved_graph}
use Rattle.exec_plan.specs.Schedule.{schedule_fits, numbers_fit, greatest, greatest_stamp, stamp_of, is_in_order, is_identified, plan_fault_in}
use Rattle.exec_graph.specs.Refusals.{fault_in}
use Rattle.exec_graph.specs.declared.fault.GraphFault.{GraphFault}
use Rattle.exec_graph.specs.declared.fault.GraphFault.TheVariants as graph_fault
use Rattle.exec_plan.specs.declared.order.Order.{Order}
use Rattle.exec_plan.specs.declared.fault.PlanFault.{PlanFault}
use Rattle.exec_msg.specs.declared.limits.TheConstants.{TICKS}
use Rattle.exec_plan.proofs.Scheduled.{scheduled as scheduled_plan}
use Rattle.exec_doc.proofs.Placed.{has_schedule, feed_there, are_declared, are_said, cancels_decide}
use Rattle.exec_doc.proofs.Refusing.{plan_by, undeclared, of_graph, scheduled, by_schedule, plan_tests, IsScheduled, is_scheduled}

-- the same with the moments that were made
pub with_moments : (document : DocumentDraft) (graph : GraphData) (ticks moments : List ℕ) (entries : List EntryDraft) → ticks ≡ moments → IsReady document graph ticks entries → IsReady document graph moments entries
with_moments document graph ticks moments entries same ready = record { version = ready.version; faultless = ready.faultless; made = ready.made; ticks = ready.ticks ∙ same; entries = ready.entries }

-- where something is fed to what isn't there its name is wrong
pub ready_there : (document : DocumentDraft) (graph : GraphData) (moments : List ℕ) (entries : List EntryDraft) → IsReady document graph moments entries → each (entry_by graph) entries ≡ None → draft_refusal document ≡ Some refused.Name
ready_there document graph moments entries ready none = by (list_all (λ entry. feeds document.graph entry.fed) document.feed) refl where
  by : (b : Bool) → list_all (λ entry. feeds document.graph entry.fed) document.feed ≡ b → draft_refusal document ≡ Some refused.Name
  by true declared = absurd (feed_there document.graph graph entries ready.made (subst (λ (es : List EntryDraft). list_all (λ entry. feeds document.graph entry.fed) es ≡ true) ready.entries declared) none)
  by false undeclared_is = undeclared document ready.version undeclared_is

-- what is fed to its graph, with the tests of a plan
record IsFed (document : DocumentDraft) (moments : List ℕ) (feed : List Feed) : Type 0 where
  pub within : schedule_fits moments (length feed) (greatest (map (λ entry. stamp_of entry.fed) feed)) ≡ has_small_schedule document
  pub clocked : is_in_order moments (map (λ entry. entry.round) feed) ≡ is_clocked document
  pub said : list_all (λ entry. has_identifier entry.fed) document.feed ≡ true → each (resolved_entry document.graph) document.feed ≡ Some feed
  pub identified : list_all (λ entry. has_identifier entry.fed) document.feed ≡ true → list_all (λ entry. is_identified Some entry.fed) feed ≡ true

fed_ready : (document : DocumentDraft) (graph : GraphData) (moments : List ℕ) (entries : List EntryDraft) (feed : List Feed) → IsReady document graph moments entries → each (entry_by graph) entries ≡ Some feed → IsFed document moments feed
fed_ready document graph moments entries feed ready read =
    let here : each (entry_by graph) document.feed ≡ Some feed = ap (λ (es : List EntryDraft). each (entry_by graph) es) ready.entries ∙ read in
    let schedule = has_schedule graph document.feed feed here in
    record {
      within = ap (λ (ms : List ℕ). schedule_fits ms (length feed) (greatest (map (λ entry. stamp_of entry.fed) feed))) (sym ready.ticks)
          ∙ ap₂ (λ (many : ℕ) (stamps : List ℕ). schedule_fits document.moments many (greatest stamps)) schedule.many schedule.stamps;
      clocked = ap₂ (λ (ms : List ℕ) (rounds : List ℕ). is_in_order ms rounds) (sym ready.ticks) schedule.rounds;
      said = λ ids. (are_said document.graph graph document.feed feed ready.made here ids).said;
      identified = λ ids. (are_said document.graph graph document.feed feed ready.made here ids).identified;
    }

-- its refusal by the schedule and identifiers
ready_refusal : (document : DocumentDraft) (graph : GraphData) (moments : List ℕ) (entries : List EntryDraft) (feed : List Feed) → IsReady document graph moments entries → each (entry_by graph) entries ≡ Some feed
    → draft_refusal document ≡ scheduled (has_small_schedule document) (is_clocked document) (list_all (λ entry. has_identifier entry.fed) document.feed)
ready_refusal document graph moments entries feed ready read =
    by_schedule document ready.version
    (ap (λ (es : List EntryDraft). list_all (λ entry. feeds document.graph entry.fed) es) ready.entries ∙ are_declared document.graph graph entries feed ready.made read)
    ready.faultless

scheduled_by : (within clocked identified w c i : Bool) → within ≡ w → clocked ≡ c → identified ≡ i → scheduled within clocked identified ≡ scheduled w c i
scheduled_by within clocked identified w c i e f g = λ n. scheduled (e n) (f n) (g n)

-- a moment beyond its limit
beyond : (fit : Bool) → (fit && false) ≡ false
beyond true = refl
beyond false = refl

pub ready_limit : (document : DocumentDraft) (graph : GraphData) (moments : List ℕ) (entries : List EntryDraft) (feed : List Feed) → IsReady document graph moments entries → each (entry_by graph) entries ≡ Some feed
    → list_all (λ moment. nat_le moment TICKS) moments ≡ false → draft_refusal document ≡ Some refused.Limit
ready_limit document graph moments entries feed ready read late_moment =
    let late : list_all (λ moment. nat_le moment TICKS) document.moments ≡ false = ap (list_all (λ moment. nat_le moment TICKS)) ready.ticks ∙ late_moment in
    let fit = numbers_fit (length document.moments) (length document.feed) (greatest_stamp document.feed) in
    let within : has_small_schedule document ≡ false = ap (λ (b : Bool). fit && b) late ∙ beyond fit in
    ready_refusal document graph moments entries feed ready read
    ∙ ap (λ (b : Bool). scheduled b (is_clocked document) (list_all (λ entry. has_identifier entry.fed) document.feed)) within

-- a fault of its plan is its refusal
pub ready_fault : (document : DocumentDraft) (graph : GraphData) (moments : List ℕ) (entries : List EntryDraft) (feed : List Feed) (fault : PlanFault) → IsReady document graph moments entries → each (entry_by graph) entries ≡ Some feed
    → plan_fault_in moments feed ≡ Some fault → draft_refusal document ≡ Some (plan_refusal fault)
ready_fault document graph moments entries feed fault ready read found =
    let fed = fed_ready document graph moments entries feed ready read in
    let these = list_all (λ entry. is_identified Some entry.fed) feed in
    let ids = list_all (λ entry. has_identifier entry.fed) document.feed in
    let by : plan_by (has_small_schedule document) (is_clocked document) these ≡ Some fault =
    subst (λ (a : Bool). plan_by a (is_clocked document) these ≡ Some fault) fed.within
    (subst (λ (b : Bool). plan_by (schedule_fits moments (length feed) (greatest (map (λ entry. stamp_of entry.fed) feed))) b these ≡ Some fault) fed.clocked found) in
    ready_refusal document graph moments entries feed ready read
    ∙ plan_tests (has_small_schedule document) (is_clocked document) these ids fault fed.identified by

ready_scheduled : (document : DocumentDraft) (graph : GraphData) (moments : List ℕ) (entries : List EntryDraft) (feed : List Feed) → IsReady document graph moments entries → each (entry_by graph) entries ≡ Some feed
    → plan_fault_in moments feed ≡ None → IsScheduled (has_small_schedule document) (is_clocked document)
ready_scheduled document graph moments entries feed ready read none =
    let fed = fed_ready document graph moments entries feed ready read in
    let scheduled = is_scheduled (schedule_fits moments (length feed) (greatest (map (λ entry. stamp_of entry.fed) feed))) (is_in_order moments (map (λ entry. entry.round) feed)) (list_all (λ entry. is_identified Some entry.fed) feed) none in
    record { fits = sym fed.within ∙ scheduled.fits; ordered = sym fed.clocked ∙ scheduled.ordered }

plan_is : (document : DocumentDraft) (graph : GraphData) (under : Order) (moments : List ℕ) (feed : List Feed) → resolved_graph document.graph ≡ Some graph → each (resolved_entry document.graph) document.feed ≡ Some feed → under ≡ document.order → document.moments ≡ moments
    → plan_of document ≡ Some (record { graph = graph; order = under; moments = moments; feed = feed })
plan_is document graph under moments feed made said same ticks = rw (made, said) (ap₂ (λ (o : Order) (ms : List ℕ). Some (record { graph = graph; order = o; moments = ms; feed = feed })) (sym same) ticks)

-- without a fault it is a plan, where its identifiers are ones
pub ready_plan : (document : DocumentDraft) (graph : GraphData) (under : Order) (moments : List ℕ) (entries : List EntryDraft) (feed : List Feed) (plan : PlanData) → IsReady document graph moments entries → each (entry_by graph) entries ≡ Some feed
    → under ≡ document.order → plan_fault_in moments feed ≡ None → plan ≡ record { graph = graph; order = under; moments = moments; feed = feed } → list_all (λ entry. has_identifier entry.fed) entries ≡ true
    → (draft_refusal document ≡ None) × (plan_of document ≡ Some plan)
ready_plan document graph under moments entries feed plan ready read same none is ids =
    let fed = fed_ready document graph moments entries feed ready read in
    let keeps = ready_scheduled document graph moments entries feed ready read none in
    let all : list_all (λ entry. has_identifier entry.fed) document.feed ≡ true = ap (λ (es : List EntryDraft). list_all (λ entry. has_identifier entry.fed) es) ready.entries ∙ ids in (
      ready_refusal document graph moments entries feed ready read ∙ scheduled_by (has_small_schedule document) (is_clocked document) _ true true true keeps.fits keeps.ordered all,
      plan_is document graph under moments feed ready.made (fed.said all) same ready.ticks ∙ ap (λ (p : PlanData). Some p) (sym is),
    )

-- and refused for its identifiers where not all are ones
pub ready_id : (document : DocumentDraft) (graph : GraphData) (moments : List ℕ) (entries : List EntryDraft) (feed : List Feed) → IsReady document graph moments entries → each (entry_by graph) entries ≡ Some feed
    → plan_fault_in moments feed ≡ None → list_all (λ entry. has_identifier entry.fed) entries ≡ false → draft_refusal document ≡ Some refused.Id
ready_id document graph moments entries feed ready read none ids =
    let keeps = ready_scheduled document graph moments entries feed ready read none in
    let some : list_all (λ entry. has_identifier entry.fed) document.feed ≡ false = ap (λ (es : List EntryDraft). list_all (λ entry. has_identifier entry.fed) es) ready.entries ∙ ids in
    ready_refusal document graph moments entries feed ready read ∙ scheduled_by (has_small_schedule document) (is_clocked document) _ true true false keeps.fits keeps.ordered some

-- whether they are is decided by cancel requests
pub ready_cancels : (graph : GraphData) (moments : List ℕ) (entries : List EntryDraft) (feed : List Feed) → each (entry_by graph) entries ≡ Some feed → plan_fault_in moments feed ≡ None
    → list_all (λ entry. has_identifier entry.fed) entries ≡ list_all (λ entry. is_cancel_identified entry.fed) entries
ready_cancels graph moments entries feed read none = cancels_decide graph entries feed read (scheduled_plan moments feed none).identified

-- ---- what is answered

pub by_name : {A X : Type 0} (refusal : Option Refused) (said : Option A) (code : Refused) → (code ≡ refused.Memory) ⊎ ((code ≡ refused.Name) × X) → (X → refusal ≡ Some refused.Name) → Answers {A = A} refusal said (Err code)
by_name refusal said code (inl memory) then = inl memory
by_name refusal said code (inr named) then = inr (then named.1 ∙ ap (λ (code : Refused). Some code) (sym named.0))

-- ---- what was found of a document whose parts these are

pub declared_is : (document : DocumentDraft) (builder : GraphDraft) (feed : List EntryDraft) (answer b : Bool) → builder ≡ document.graph → feed ≡ document.feed
    → answer ≡ list_all (λ entry. feeds builder entry.fed) feed → answer ≡ b → list_all (λ entry. feeds document.graph entry.fed) document.feed ≡ b
declared_is document builder feed answer b same entries is e =
    ap₂ (λ (g : GraphDraft) (es : List EntryDraft). list_all (λ entry. feeds g entry.fed) es) (sym same) (sym entries) ∙ sym is ∙ e

pub within_is : (document : DocumentDraft) (moments : List ℕ) (feed : List EntryDraft) → moments ≡ document.moments → feed ≡ document.feed
    → schedule_fits moments (length feed) (greatest (map (λ entry. stamp_of entry.fed) feed)) ≡ has_small_schedule document
within_is document moments feed ticks entries =
    ap₂ (λ (ms : List ℕ) (es : List EntryDraft). schedule_fits ms (length es) (greatest (map (λ entry. stamp_of entry.fed) es))) ticks entries

-- the code of a graph's fault
pub by_graph : (document : DocumentDraft) (within : Bool) (fault : GraphFault) (code : Refused) → is_version document.version ≡ true → list_all (λ entry. feeds document.graph entry.fed) document.feed ≡ true → within ≡ has_small_schedule document
    → (fault ≡ graph_fault.Memory → code ≡ refused.Memory) → ((graph : GraphDraft) → fault_in graph ≡ Some fault → graph_refusal graph within ≡ Some code)
    → (fault ≡ graph_fault.Memory) ⊎ (fault_in document.graph ≡ Some fault) → (code ≡ refused.Memory) ⊎ (draft_refusal document ≡ Some code)
by_graph document within fault code version fed same memory coded (inl is) = inl (memory is)
by_graph document within fault code version fed same memory coded (inr found) = inr (of_graph document within code version fed same (coded document.graph found))
