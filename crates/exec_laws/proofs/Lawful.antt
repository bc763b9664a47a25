-- A worked example is lawful.
use Rattle.std.proofs.Common.{ℕ, zero, suc, ◌<◌, ◌≤◌, [], get_or, drop, None, true, refl, IsTrue, ◌∷◌, arith}
use Rattle.std.specs.List.{All}
use Rattle.std.proofs.lemmas.Bool.{leb-true}
use Rattle.std.proofs.lemmas.List.Elements.{All-nil, All-cons}
use Rattle.exec_msg.specs.declared.limits.TheConstants.{INSTRUCTIONS}
use Rattle.exec_plan.specs.Graph.{EntityData}
use Rattle.exec_plan.specs.declared.entity.CallbackGroup.{CallbackGroup}
use Rattle.exec_plan.specs.declared.entity.Declared.TheVariants.{Topic}
use Rattle.exec_plan.specs.declared.entity.EntityOf.TheVariants.{Timer}
use Rattle.exec_plan.specs.declared.entity.GraphEntity.{GraphEntity}
use Rattle.exec_script.specs.Instruction.{Script}
use Rattle.exec_plan.specs.Entity.{RoleScriptData, is_from_1, scripts_of}
use Rattle.exec_plan.specs.Lawful.{IsLawfulPlan, IsLawfulNode, IsLawfulDeclared, IsLawfulEntity, IsLawfulScript, is_fed_well}
use Rattle.exec_script.specs.Instruction as instr
use Rattle.exec_script.specs.declared.instr.Operand.TheVariants as operand
use Rattle.exec_script.specs.declared.place.Role.TheVariants as role
use Rattle.exec_laws.specs.Examples.{late}

-- its one callback group
abbrev group : CallbackGroup
group = record { node = 0; name = None; exclusive = true }

-- its one entity
abbrev entity : EntityData
entity = get_or late.graph.entities 0 (record { name = []; is = Topic })

-- which is a timer
abbrev timer : GraphEntity
timer = record { group = 0; is = Timer (record { period = 10; script = instr.Log operand.Now ∷ [] }) }

-- the entity's one script
abbrev script : RoleScriptData Script
script = get_or (scripts_of timer.is) 0 (record { role = role.Goal; script = [] })

one_node : (node : ℕ) → node < 1 → IsLawfulNode late.graph node
one_node zero within = record { one_default = refl; default_exclusive = refl; well_named = refl; distinct = refl }
one_node (suc node) within = absurd (omega arith)

lawful_script : IsLawfulScript late.graph group script
lawful_script = record { short = leb-true 1 INSTRUCTIONS refl; legal = refl; known = refl }

lawful_entity : IsLawfulEntity late.graph timer
lawful_entity = record {
  group = group;
  grouped = refl;
  referring = refl;
  within = refl;
  scripts = All-cons (IsLawfulScript late.graph group) script [] lawful_script (All-nil (IsLawfulScript late.graph group));
}

-- moments from the last one back
moments : All (λ moment. moment ≤ 4611686018427387904) late.moments
moments =
    All-cons (λ moment. moment ≤ 4611686018427387904) 0 (drop 1 late.moments) (leb-true 0 4611686018427387904 refl)
    (All-cons (λ moment. moment ≤ 4611686018427387904) 10 (drop 2 late.moments) (leb-true 10 4611686018427387904 refl)
    (All-cons (λ moment. moment ≤ 4611686018427387904) 35 (drop 3 late.moments) (leb-true 35 4611686018427387904 refl)
    (All-cons (λ moment. moment ≤ 4611686018427387904) 40 [] (leb-true 40 4611686018427387904 refl)
    (All-nil (λ moment. moment ≤ 4611686018427387904)))))

pub lawful_plan : IsLawfulPlan late
lawful_plan = record {
  graph = record {
    few_nodes = leb-true 1 64 refl;
    few_groups = leb-true 0 256 refl;
    few_topics = leb-true 0 256 refl;
    few_entities = leb-true 1 512 refl;
    node_names = refl;
    distinct_nodes = refl;
    names = refl;
    distinct_names = refl;
    groups = All-cons (λ one. one.node < 1) group [] (omega arith) (All-nil (λ one. one.node < 1));
    nodes = one_node;
    blocks = refl;
    entities = All-cons (λ entity. IsLawfulDeclared late.graph entity.is) entity [] lawful_entity (All-nil (λ entity. IsLawfulDeclared late.graph entity.is));
  };
  few_moments = leb-true 4 65536 refl;
  moments = moments;
  clock = refl;
  short_feed = leb-true 0 65536 refl;
  rounds = All-nil (λ entry. IsTrue (is_from_1 4 entry.round));
  fed = All-nil (λ entry. IsTrue (is_fed_well late.graph entry.fed));
}
