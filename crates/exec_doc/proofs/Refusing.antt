-- The refusal of a document by what was found of it so far.
use Rattle.std.proofs.Common.{◌≡◌, Bool, true, false, cond, not, ◌&&◌, Option, None, Some, is_some, option_map, refl, subst}
use Rattle.std.proofs.lemmas.Option.{same_Some}
use Rattle.std.specs.Bool.{then_some}
use Rattle.std.specs.List.{list_all}
use Rattle.exec_doc.specs.inner.Answering.{draft_refusal, graph_refusal, plan_refusal}
use Rattle.exec_doc.specs.Draft.{DocumentDraft}
use Rattle.exec_doc.specs.Refusals.{feeds, has_identifier, has_small_schedule, is_clocked, is_version}
use Rattle.exec_doc.specs.declared.refused.Refused.{Refused}
use Rattle.exec_doc.specs.declared.refused.Refused.TheVariants as refused
use Rattle.exec_graph.specs.Faults.{has_faulty_script, shares_variables, is_small, is_well_named}
use Rattle.exec_graph.specs.Refusals.{fault_in}
use Rattle.exec_graph.specs.declared.fault.GraphFault.{GraphFault}
use Rattle.exec_graph.specs.declared.fault.GraphFault.TheVariants as graph_fault
use Rattle.exec_plan.specs.declared.fault.PlanFault.{PlanFault}
use Rattle.exec_plan.specs.declared.fault.PlanFault.TheVariants as plan_fault

-- the refusal by order and identifiers alone
abbrev pub late : Bool → Bool → Option Refused
late clocked identified = cond (not clocked) (Some refused.Clock) (cond (not identified) (Some refused.Id) None)

-- the refusal by each test: of the version, the names of the graph and of the feed, the limits of the graph and of the
-- schedule, scripts, group variables, order and identifiers
abbrev by_tests : (version named feeding small within scripts variables clocked identified : Bool) → Option Refused
by_tests version named feeding small within scripts variables clocked identified =
    cond (not version) (Some refused.Version)
    (cond (not (named && feeding)) (Some refused.Name)
    (cond (not (small && within)) (Some refused.Limit)
    (cond scripts (Some refused.Script)
    (cond variables (Some refused.GroupVariable)
    (late clocked identified)))))

-- the fault of a graph by each test
abbrev fault_by : (named small scripts variables : Bool) → Option GraphFault
fault_by named small scripts variables =
    cond (not named) (Some graph_fault.Name)
    (cond (not small) (Some graph_fault.Limit)
    (cond scripts (Some graph_fault.Script)
    (cond variables (Some graph_fault.GroupVariable) None)))

-- the refusal of a graph with a schedule by each test
abbrev graph_by : (named small within scripts variables : Bool) → Option Refused
graph_by named small within scripts variables =
    cond (not named) (Some refused.Name)
    (cond (not (small && within)) (Some refused.Limit)
    (cond scripts (Some refused.Script)
    (cond variables (Some refused.GroupVariable) None)))

-- the fault of a plan by each test
abbrev pub plan_by : (fits ordered identified : Bool) → Option PlanFault
plan_by fits ordered identified = cond (not fits) (Some plan_fault.Limit) (cond (not ordered) (Some plan_fault.Clock) (cond (not identified) (Some plan_fault.Id) None))

-- ---- names

names_by : (v w f s h c g o i : Bool) → v ≡ true → f ≡ false → by_tests v w f s h c g o i ≡ Some refused.Name
names_by true true true s h c g o i version undeclared = absurd cc
names_by true true false s h c g o i version undeclared = refl
names_by true false f s h c g o i version undeclared = refl
names_by false w f s h c g o i version undeclared = absurd cc

-- something is fed to what isn't declared
pub undeclared : (document : DocumentDraft) → is_version document.version ≡ true → list_all (λ entry. feeds document.graph entry.fed) document.feed ≡ false → draft_refusal document ≡ Some refused.Name
undeclared document version missing = names_by
    (is_version document.version) (is_well_named document.graph) (list_all (λ entry. feeds document.graph entry.fed) document.feed) (is_small document.graph) (has_small_schedule document) (has_faulty_script document.graph) (shares_variables document.graph) (is_clocked document) (list_all (λ entry. has_identifier entry.fed) document.feed)
    version missing

-- ---- the graph

graph_tests : (v w f s h c g o i : Bool) (code : Refused) → v ≡ true → f ≡ true → graph_by w s h c g ≡ Some code → by_tests v w f s h c g o i ≡ Some code
graph_tests false w f s h c g o i code version fed found = absurd cc
graph_tests true w false s h c g o i code version fed found = absurd cc
graph_tests true false true s h c g o i code version fed found = found
graph_tests true true true s h c g o i code version fed found = limits (s && h) c g o i code found where
  limits : (l c g o i : Bool) (code : Refused) → cond (not l) (Some refused.Limit) (cond c (Some refused.Script) (cond g (Some refused.GroupVariable) None)) ≡ Some code → cond (not l) (Some refused.Limit) (cond c (Some refused.Script) (cond g (Some refused.GroupVariable) (late o i))) ≡ Some code
  limits false c g o i code found = found
  limits true true g o i code found = found
  limits true false true o i code found = found
  limits true false false o i code found = absurd cc

-- a code up to that of group variables holds
pub of_graph : (document : DocumentDraft) (within : Bool) (code : Refused) → is_version document.version ≡ true → list_all (λ entry. feeds document.graph entry.fed) document.feed ≡ true
    → within ≡ has_small_schedule document → graph_refusal document.graph within ≡ Some code → draft_refusal document ≡ Some code
of_graph document within code version fed same found =
    graph_tests
    (is_version document.version) (is_well_named document.graph) (list_all (λ entry. feeds document.graph entry.fed) document.feed) (is_small document.graph) (has_small_schedule document) (has_faulty_script document.graph) (shares_variables document.graph) (is_clocked document) (list_all (λ entry. has_identifier entry.fed) document.feed)
    code version fed (subst (λ (b : Bool). graph_refusal document.graph b ≡ Some code) same found)

-- ---- the schedule and identifiers

-- the refusal by the schedule and identifiers alone
abbrev pub scheduled : (within clocked identified : Bool) → Option Refused
scheduled within clocked identified = cond (not within) (Some refused.Limit) (late clocked identified)

schedule_tests : (v w f s h c g o i : Bool) → v ≡ true → f ≡ true → fault_by w s c g ≡ None → by_tests v w f s h c g o i ≡ scheduled h o i
schedule_tests false w f s h c g o i version fed none = absurd cc
schedule_tests true w false s h c g o i version fed none = absurd cc
schedule_tests true false true s h c g o i version fed none = absurd cc
schedule_tests true true true false h c g o i version fed none = absurd cc
schedule_tests true true true true h true g o i version fed none = absurd cc
schedule_tests true true true true h false true o i version fed none = absurd cc
schedule_tests true true true true true false false o i version fed none = refl
schedule_tests true true true true false false false o i version fed none = refl

-- the graph has no fault, and what is fed goes to what is declared
pub by_schedule : (document : DocumentDraft) → is_version document.version ≡ true → list_all (λ entry. feeds document.graph entry.fed) document.feed ≡ true
    → fault_in document.graph ≡ None → draft_refusal document ≡ scheduled (has_small_schedule document) (is_clocked document) (list_all (λ entry. has_identifier entry.fed) document.feed)
by_schedule document version fed none = schedule_tests
    (is_version document.version) (is_well_named document.graph) (list_all (λ entry. feeds document.graph entry.fed) document.feed) (is_small document.graph) (has_small_schedule document) (has_faulty_script document.graph) (shares_variables document.graph) (is_clocked document) (list_all (λ entry. has_identifier entry.fed) document.feed)
    version fed none

-- a plan's fault is the refusal, where its goals are identified where the document's are
pub plan_tests : (fits ordered these identified : Bool) (fault : PlanFault) → (identified ≡ true → these ≡ true) → plan_by fits ordered these ≡ Some fault → scheduled fits ordered identified ≡ Some (plan_refusal fault)
plan_tests false ordered these identified fault same found = subst (λ (f : PlanFault). Some refused.Limit ≡ Some (plan_refusal f)) (same_Some plan_fault.Limit fault found) refl
plan_tests true false these identified fault same found = subst (λ (f : PlanFault). Some refused.Clock ≡ Some (plan_refusal f)) (same_Some plan_fault.Clock fault found) refl
plan_tests true true true identified fault same found = absurd cc
plan_tests true true false true fault same found = let e = same refl in absurd cc
plan_tests true true false false fault same found = subst (λ (f : PlanFault). Some refused.Id ≡ Some (plan_refusal f)) (same_Some plan_fault.Id fault found) refl

-- without such a fault it fits, and all is in order
pub record IsScheduled (within clocked : Bool) : Type 0 where
  pub fits : within ≡ true
  pub ordered : clocked ≡ true

pub is_scheduled : (fits ordered these : Bool) → plan_by fits ordered these ≡ None → IsScheduled fits ordered
is_scheduled true true these none = record { fits = refl; ordered = refl }
is_scheduled true false these none = absurd cc
is_scheduled false ordered these none = absurd cc

-- ---- the moments

-- moments are there where the schedule fits
pub there_where : {A : Type 0} {B : Type 0} (view : A → B) (found : Option A) (fits : Bool) (said : B) → option_map view found ≡ then_some fits said → is_some found ≡ fits
there_where view None true said e = absurd cc
there_where view None false said e = refl
there_where view (Some a) true said e = refl
there_where view (Some a) false said e = absurd cc

-- moments that are there are those that were said
pub only_there : {A : Type 0} {B : Type 0} (view : A → B) (found : Option A) (a : A) (fits : Bool) (said : B) → option_map view found ≡ then_some fits said → found ≡ Some a → said ≡ view a
only_there view None a fits said e is = absurd cc
only_there view (Some x) a true said e is = cc
only_there view (Some x) a false said e is = absurd cc
