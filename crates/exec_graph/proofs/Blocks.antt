-- Topics and entities stand in the order of their kinds.
use Rattle.std.proofs.Common.{◌≡◌, ℕ, ◌≤◌, Bool, true, false, cond, nat_le, map, List, [], ◌∷◌, ◌++◌, refl, ap, sym, ◌∙◌, arith}
use Rattle.std.specs.List.{filter, flat_map}
use Rattle.std.proofs.lemmas.Bool.{leb-true, le-leb, eqb-true, and_parts, and_from}
use Rattle.std.proofs.lemmas.List.{map-append}
use Rattle.exec_plan.specs.Entity.{entity_kinds, rank_of, kind_of_entity, is_of}
use Rattle.exec_plan.specs.Lawful.{is_ascending_from}
use Rattle.exec_graph.specs.Numbers.{NodeEntity, entities_from, entities_of}
use Rattle.exec_graph.specs.declared.draft.GraphDraft.{GraphDraft}
use Rattle.exec_plan.specs.declared.entity.EntityKind.{EntityKind}

-- each number is this one
abbrev pub AreAll : ℕ → List ℕ → Type 0
AreAll block [] = Unit {0}
AreAll block (n ∷ ns) = (n ≡ block) × AreAll block ns

pub lower_start : (least block : ℕ) (ns : List ℕ) → least ≤ block → is_ascending_from block ns ≡ true → is_ascending_from least ns ≡ true
lower_start least block [] below ascends = refl
lower_start least block (n ∷ ns) below ascends =
    let above = leb-true block n (and_parts (nat_le block n) (is_ascending_from n ns) ascends).0 in
    and_from (nat_le least n) (is_ascending_from n ns) (le-leb least n (omega (arith, above, below))) (and_parts (nat_le block n) (is_ascending_from n ns) ascends).1

-- a block before what ascends from it
pub block_before : (least block : ℕ) (ns others : List ℕ) → least ≤ block → AreAll block ns → is_ascending_from block others ≡ true → is_ascending_from least (ns ++ others) ≡ true
block_before least block [] others below all ascends = lower_start least block others below ascends
block_before least block (n ∷ ns) others below all ascends =
    let at = all.0 in
    and_from (nat_le least n) (is_ascending_from n (ns ++ others)) (le-leb least n (omega (arith, at, below))) (block_before n block ns others (omega (arith, at)) all.1 ascends)

pub all_mapped : {A : Type 0} (f : A → ℕ) (block : ℕ) (xs : List A) → ((x : A) → f x ≡ block) → AreAll block (map f xs)
all_mapped f block [] same = tt
all_mapped f block (x ∷ xs) same = (same x, all_mapped f block xs same)

-- the place of a placed entity's kind in the order of numbers
abbrev pub rank_at : NodeEntity → ℕ
rank_at placed = rank_of (kind_of_entity placed.entity.is)

-- those of a kind
abbrev of_kind : List NodeEntity → EntityKind → List NodeEntity
of_kind placed kind = filter (λ placed. is_of kind placed.entity.is) placed

-- are of its rank
all_of : (kind : EntityKind) (placed : List NodeEntity) → AreAll (rank_of kind) (map rank_at (of_kind placed kind))
all_of kind [] = tt
all_of kind (p ∷ placed) = by (is_of kind p.entity.is) refl (all_of kind placed) where
  by : (b : Bool) → is_of kind p.entity.is ≡ b → AreAll (rank_of kind) (map rank_at (of_kind placed kind)) → AreAll (rank_of kind) (map rank_at (cond b (p ∷ of_kind placed kind) (of_kind placed kind)))
  by true is others = (sym (eqb-true (rank_of kind) (rank_at p) is), others)
  by false is others = others

-- those of kinds whose ranks ascend
kinds_ascend : (entity_kinds : List EntityKind) (least : ℕ) (placed : List NodeEntity) → is_ascending_from least (map rank_of entity_kinds) ≡ true → is_ascending_from least (map rank_at (flat_map (of_kind placed) entity_kinds)) ≡ true
kinds_ascend [] least placed ascends = refl
kinds_ascend (kind ∷ entity_kinds) least placed ascends =
    let later = is_ascending_from (rank_of kind) (map rank_of entity_kinds) in
    ap (is_ascending_from least) (map-append rank_at (of_kind placed kind) (flat_map (of_kind placed) entity_kinds))
    ∙ block_before least (rank_of kind) (map rank_at (of_kind placed kind)) (map rank_at (flat_map (of_kind placed) entity_kinds))
    (leb-true least (rank_of kind) (and_parts (nat_le least (rank_of kind)) later ascends).0)
    (all_of kind placed)
    (kinds_ascend entity_kinds (rank_of kind) placed (and_parts (nat_le least (rank_of kind)) later ascends).1)

-- entities ascend in the order of their kinds
pub entities_ascend : (draft : GraphDraft) → is_ascending_from 1 (map rank_at (entities_of draft)) ≡ true
entities_ascend draft = kinds_ascend entity_kinds 1 (entities_from 0 draft.nodes) refl
