-- Each entity of a document that no code refuses is lawful.
use Rattle.std.proofs.Common.{◌≡◌, true, not, ◌&&◌, length, map, nat_le, ◌++◌, List, [], ◌∷◌, None, Some, Result, Ok, Err, All, flat_map, filter_map, refl, sym, ap, ◌∙◌, subst}
use Rattle.std.specs.List.{list_all}
use Rattle.std.specs.Result.{result_ok, result_err}
use Rattle.std.proofs.lemmas.Bool.{leb-true, and_parts}
use Rattle.std.proofs.lemmas.List.Elements.{All-nil, All-cons, All-append, All-map}
use Rattle.exec_graph.specs.declared.draft.GraphDraft.{GraphDraft}
use Rattle.exec_script.specs.Instruction.{Script}
use Rattle.exec_plan.specs.Entity.{Spelled, RoleScriptData, is_within, scripts_of}
use Rattle.exec_graph.specs.Faults.{has_short_scripts}
use Rattle.exec_plan.specs.Graph.{EntityData, GraphData, in_group}
use Rattle.exec_plan.specs.Lawful.{IsLawfulScript, IsLawfulDeclared, is_declared}
use Rattle.exec_graph.specs.Numbers.{NodeEntity, entities_of, scope_of}
use Rattle.exec_graph.specs.Resolved.{resolved_script, resolved_entity, resolved_topic}
use Rattle.exec_graph.specs.Scripts.{fault_of, entity_faults}
use Rattle.exec_plan.specs.declared.entity.CallbackGroup.{CallbackGroup}
use Rattle.exec_msg.specs.declared.limits.TheConstants.{INSTRUCTIONS}
use Rattle.exec_script.specs.Legality.{legality_of}
use Rattle.exec_script.specs.Spelling.{ScopeNames, script_of, ◌>>=◌}
use Rattle.exec_script.specs.declared.fault.ScriptFault.{ScriptFault}
use Rattle.exec_script.specs.declared.instr.Instr.{Instr}
use Rattle.exec_script.specs.declared.place.Place.{Place}
use Rattle.exec_graph.proofs.EntityReading.{roled_by}
use Rattle.exec_graph.proofs.Faultless.{front_nothing, back_nothing, first_none, others_nothing}
use Rattle.exec_graph.proofs.Known.{Knows, spelt_by}
use Rattle.exec_graph.proofs.Resolving.{graph_of, AreEntities, built, has_group, named_there, knows}
use Rattle.exec_plan.proofs.Reading.{AreRead, mapped_read}

-- ---- scripts

-- a script that was read and has no fault is legal
legal_of : (read : Result (List Instr) ScriptFault) (place : Place) (script : List Instr) → read ≡ Ok script → result_err (read >>= (λ script. legality_of script place)) ≡ None → legality_of script place ≡ Ok tt
legal_of read place script is faultless = no_fault (legality_of script place) (sym (ap (λ (r : Result (List Instr) ScriptFault). result_err (r >>= (λ script. legality_of script place))) is) ∙ faultless) where
  no_fault : (legal : Result (Unit {0}) ScriptFault) → result_err legal ≡ None → legal ≡ Ok tt
  no_fault (Ok tt) e = refl
  no_fault (Err fault) e = absurd cc

ok_as : (read : Result (List Instr) ScriptFault) (script : List Instr) → result_ok read ≡ Some script → read ≡ Ok script
ok_as (Ok found) script e = cc
ok_as (Err fault) script e = absurd cc

script_lawful : (shape : GraphData) (group : CallbackGroup) (scope : ScopeNames) (spelt : RoleScriptData Spelled) (roled : RoleScriptData Script) → Knows scope shape group.node → roled_by (resolved_script scope) spelt ≡ Some roled → fault_of scope (not group.exclusive) spelt ≡ None → nat_le (length spelt.script) INSTRUCTIONS ≡ true → IsLawfulScript shape group roled
script_lawful shape group scope spelt roled knows read faultless short =
    mapped_read _ (resolved_script scope spelt.script) _ roled read (λ script found is.
    let ok = ok_as (script_of scope spelt.script) script found in
    let by = spelt_by shape group.node scope spelt.script script knows ok in
    subst (IsLawfulScript shape group) is
    (record {
      short = rw by.as_long (leb-true (length spelt.script) INSTRUCTIONS short);
      legal = legal_of (script_of scope spelt.script) (record { reentrant = not group.exclusive; role = spelt.role }) script ok faultless;
      known = by.known;
    }))

all_scripts : (shape : GraphData) (group : CallbackGroup) (scope : ScopeNames) (spelt : List (RoleScriptData Spelled)) (roled : List (RoleScriptData Script)) → Knows scope shape group.node → AreRead (roled_by (resolved_script scope)) spelt roled → filter_map (fault_of scope (not group.exclusive)) spelt ≡ [] → list_all (λ script. nat_le (length script.script) INSTRUCTIONS) spelt ≡ true → All (IsLawfulScript shape group) roled
all_scripts shape group scope [] [] knows reads faultless short = All-nil (IsLawfulScript shape group)
all_scripts shape group scope [] (r ∷ roled) knows reads faultless short = absurd reads
all_scripts shape group scope (s ∷ spelt) [] knows reads faultless short = absurd reads
all_scripts shape group scope (s ∷ spelt) (r ∷ roled) knows reads faultless short =
    let others = filter_map (fault_of scope (not group.exclusive)) spelt in
    let here = nat_le (length s.script) INSTRUCTIONS in
    let behind = list_all (λ script. nat_le (length script.script) INSTRUCTIONS) spelt in
    All-cons (IsLawfulScript shape group) r roled
    (script_lawful shape group scope s r knows reads.0 (first_none (fault_of scope (not group.exclusive) s) others faultless) (and_parts here behind short).0)
    (all_scripts shape group scope spelt roled knows reads.1 (others_nothing (fault_of scope (not group.exclusive) s) others faultless) (and_parts here behind short).1)

-- ---- entities

entity_lawful : (source : GraphDraft) (entities : List EntityData) (placed : NodeEntity) (entity : EntityData) → AreEntities source entities → resolved_entity source placed ≡ Some entity → (is_within placed.entity.is && has_short_scripts placed.entity.is) ≡ true → entity_faults source placed ≡ [] → IsLawfulDeclared (graph_of source entities) entity.is
entity_lawful source entities placed entity reads read within faultless =
    let build = built source placed entity read in
    let has = has_group source placed build.number build.found in
    let scope = scope_of source placed.node in
    let limits = is_within placed.entity.is in
    let fault_free : filter_map (fault_of scope (not has.group.exclusive)) (scripts_of placed.entity.is) ≡ [] =
    subst (λ b. filter_map (fault_of scope b) (scripts_of placed.entity.is) ≡ []) has.reentrant faultless in
    let lawful : IsLawfulDeclared (graph_of source entities) (in_group build.number build.is) =
    record {
      group = has.group;
      grouped = has.there;
      referring = build.read.referring (is_declared (graph_of source entities)) (named_there source entities reads);
      within = build.read.within ∙ (and_parts limits (has_short_scripts placed.entity.is) within).0;
      scripts = all_scripts (graph_of source entities) has.group scope (scripts_of placed.entity.is) (scripts_of build.is)
          (subst (Knows scope (graph_of source entities)) (sym has.node) (knows source entities placed.node reads))
          build.read.scripts fault_free (and_parts limits (has_short_scripts placed.entity.is) within).1;
    } in
    subst (IsLawfulDeclared (graph_of source entities)) (sym build.declared) lawful

each_lawful : (source : GraphDraft) (entities : List EntityData) (placed : List NodeEntity) (some : List EntityData) → AreEntities source entities → AreRead (resolved_entity source) placed some → list_all (λ placed. is_within placed.entity.is && has_short_scripts placed.entity.is) placed ≡ true → flat_map (entity_faults source) placed ≡ [] → All (λ entity. IsLawfulDeclared (graph_of source entities) entity.is) some
each_lawful source entities [] [] reads these within faultless = All-nil (λ entity. IsLawfulDeclared (graph_of source entities) entity.is)
each_lawful source entities [] (e ∷ some) reads these within faultless = absurd these
each_lawful source entities (p ∷ placed) [] reads these within faultless = absurd these
each_lawful source entities (p ∷ placed) (e ∷ some) reads these within faultless =
    let here = is_within p.entity.is && has_short_scripts p.entity.is in
    let behind = list_all (λ placed. is_within placed.entity.is && has_short_scripts placed.entity.is) placed in
    All-cons (λ entity. IsLawfulDeclared (graph_of source entities) entity.is) e some
    (entity_lawful source entities p e reads these.0 (and_parts here behind within).0 (front_nothing (entity_faults source p) (flat_map (entity_faults source) placed) faultless))
    (each_lawful source entities placed some reads these.1 (and_parts here behind within).1 (back_nothing (entity_faults source p) (flat_map (entity_faults source) placed) faultless))

-- topics and entities are lawful
pub entities_lawful : (source : GraphDraft) (entities : List EntityData) → AreEntities source entities → list_all (λ placed. is_within placed.entity.is && has_short_scripts placed.entity.is) (entities_of source) ≡ true → flat_map (entity_faults source) (entities_of source) ≡ [] → All (λ entity. IsLawfulDeclared (graph_of source entities) entity.is) (map resolved_topic source.topics ++ entities)
entities_lawful source entities reads within faultless =
    All-append (λ entity. IsLawfulDeclared (graph_of source entities) entity.is) (map resolved_topic source.topics) entities
    (All-map (λ entity. IsLawfulDeclared (graph_of source entities) entity.is) resolved_topic source.topics (λ k d below. tt))
    (each_lawful source entities (entities_of source) entities reads reads within faultless)
