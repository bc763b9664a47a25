-- The refusal of a document is the least code that holds.
use Rattle.std.proofs.Common.{◌≡◌, ℕ, suc, ◌<◌, ◌≤◌, ◌⊎◌, inl, inr, ◌==◌, Bool, true, false, cond, if◌then◌else◌, List, [], ◌∷◌, Option, None, Some, find, refl, sym, ap, ◌∙◌, subst, arith, le_of_suc-le-suc, eq-or-lt_of_le, ◌+◌, length}
use Rattle.std.specs.Option.{option_map_or}
use Rattle.exec_doc.specs.Draft.{DocumentDraft}
use Rattle.exec_doc.specs.Forms.{draft_of}
use Rattle.exec_msg.specs.Options.{◌>>=◌}
use Rattle.serde_json.specs.Data.{Data}
use Rattle.exec_doc.specs.Refusals.{refused_number, has_fault_of, may_refuse, codes_in_order, refusal_in}
use Rattle.exec_doc.specs.declared.refused.Refused.{Refused}
use Rattle.exec_doc.specs.declared.refused.Refused.TheVariants as refused

-- the code of a number
abbrev numbered : ℕ → Refused
numbered n =
    if n == 1 then refused.NotJson else
    (if n == 2 then refused.Shape else
    (if n == 3 then refused.Version else
    (if n == 4 then refused.Name else
    (if n == 5 then refused.Limit else
    (if n == 6 then refused.Script else
    (if n == 7 then refused.GroupVariable else
    (if n == 8 then refused.Clock else
    (if n == 9 then refused.Id else refused.Memory))))))))

numbered_by : (code : Refused) → numbered (refused_number code) ≡ code
numbered_by refused.NotJson = refl
numbered_by refused.Shape = refl
numbered_by refused.Version = refl
numbered_by refused.Name = refl
numbered_by refused.Limit = refl
numbered_by refused.Script = refl
numbered_by refused.GroupVariable = refl
numbered_by refused.Clock = refl
numbered_by refused.Id = refl
numbered_by refused.Memory = refl

at_least_1 : (code : Refused) → 1 ≤ refused_number code
at_least_1 refused.NotJson = omega arith
at_least_1 refused.Shape = omega arith
at_least_1 refused.Version = omega arith
at_least_1 refused.Name = omega arith
at_least_1 refused.Limit = omega arith
at_least_1 refused.Script = omega arith
at_least_1 refused.GroupVariable = omega arith
at_least_1 refused.Clock = omega arith
at_least_1 refused.Id = omega arith
at_least_1 refused.Memory = omega arith

no_code_below : (code : Refused) → refused_number code < 1 → ⊥
no_code_below code less = omega (arith, at_least_1 code, less)

-- the codes in order from a number on
abbrev AreFrom : ℕ → List Refused → Type 0
AreFrom n [] = Unit {0}
AreFrom n (code ∷ codes) = (refused_number code ≡ n) × AreFrom (suc n) codes

-- no lesser code holds
abbrev pub HoldsNoneBelow : (Refused → Bool) → ℕ → Type 0
HoldsNoneBelow test n = (code : Refused) → refused_number code < n → test code ≡ false

one_more : (test : Refused → Bool) (n : ℕ) (code other : Refused) → refused_number code ≡ n → test code ≡ false → HoldsNoneBelow test n → (refused_number other ≡ n) ⊎ (refused_number other < n) → test other ≡ false
one_more test n code other at fails below (inl here) = ap test (sym (numbered_by other) ∙ ap numbered (here ∙ sym at) ∙ numbered_by code) ∙ fails
one_more test n code other at fails below (inr less) = below other less

none_below_next : (test : Refused → Bool) (n : ℕ) (code : Refused) → refused_number code ≡ n → test code ≡ false → HoldsNoneBelow test n → HoldsNoneBelow test (suc n)
none_below_next test n code at fails below other less = one_more test n code other at fails below (eq-or-lt_of_le (le_of_suc-le-suc less))

-- what is said of a code that was found
abbrev pub IsLeast : (Refused → Bool) → Refused → Type 0
IsLeast test code = HoldsNoneBelow test (refused_number code) × (test code ≡ true)

found_here : (test : Refused → Bool) (first code : Refused) → HoldsNoneBelow test (refused_number first) → test first ≡ true → first ≡ code → IsLeast test code
found_here test first code below passes is = subst (IsLeast test) is (below, passes)

found_at : (test : Refused → Bool) (first code : Refused) (n : ℕ) (rest : Option Refused) → refused_number first ≡ n → HoldsNoneBelow test n → (b : Bool) → test first ≡ b → cond b (Some first) rest ≡ Some code → (HoldsNoneBelow test (suc n) → rest ≡ Some code → IsLeast test code) → IsLeast test code
found_at test first code n rest at below true passes found later = found_here test first code (subst (HoldsNoneBelow test) (sym at) below) passes cc
found_at test first code n rest at below false fails found later = later (none_below_next test n first at fails below) found

found_least : (test : Refused → Bool) (codes : List Refused) (n : ℕ) (code : Refused) → AreFrom n codes → HoldsNoneBelow test n → find test codes ≡ Some code → IsLeast test code
found_least test [] n code from below found = absurd cc
found_least test (first ∷ codes) n code from below found =
    found_at test first code n (find test codes) from.0 below (test first) refl found (λ more rest. found_least test codes (suc n) code from.1 more rest)

-- the refusal is a code that holds, and no lesser one does
pub least : (value : Option Data) (code : Refused) → refusal_in value ≡ Some code → IsLeast (λ code. may_refuse code value) code
least value code found = found_least (λ code. may_refuse code value) codes_in_order 1 code (refl, (refl, (refl, (refl, (refl, (refl, (refl, (refl, (refl, tt))))))))) (λ other less. absurd (no_code_below other less)) found

-- ---- none

none_at : (test : Refused → Bool) (first : Refused) (n : ℕ) (rest : Option Refused) (most : ℕ) → refused_number first ≡ n → HoldsNoneBelow test n → (b : Bool) → test first ≡ b → cond b (Some first) rest ≡ None → (HoldsNoneBelow test (suc n) → rest ≡ None → HoldsNoneBelow test most) → HoldsNoneBelow test most
none_at test first n rest most at below true passes found later = absurd cc
none_at test first n rest most at below false fails found later = later (none_below_next test n first at fails below) found

found_none : (test : Refused → Bool) (codes : List Refused) (n : ℕ) (most : ℕ) → n + length codes ≡ most → AreFrom n codes → HoldsNoneBelow test n → find test codes ≡ None → HoldsNoneBelow test most
found_none test [] n most counted from below found = let same : n ≡ most = omega (arith, counted) in subst (HoldsNoneBelow test) same below
found_none test (first ∷ codes) n most counted from below found =
    none_at test first n (find test codes) most from.0 below (test first) refl found
    (λ more rest. found_none test codes (suc n) most (omega (arith, counted)) from.1 more rest)

memory_never : (value : Option Data) → may_refuse refused.Memory value ≡ false
memory_never value = by (value >>= draft_of) where
  by : (draft : Option DocumentDraft) → option_map_or (has_fault_of refused.Memory) draft false ≡ false
  by None = refl
  by (Some document) = refl

below_10 : (value : Option Data) (code : Refused) → refusal_in value ≡ None → refused_number code < 10 → may_refuse code value ≡ false
below_10 value code found less = found_none (λ code. may_refuse code value) codes_in_order 1 10 refl (refl, (refl, (refl, (refl, (refl, (refl, (refl, (refl, (refl, tt))))))))) (λ other below. absurd (no_code_below other below)) found code less

-- where nothing is refused no code holds
pub none_holds : (value : Option Data) (code : Refused) → refusal_in value ≡ None → may_refuse code value ≡ false
none_holds value refused.Memory found = memory_never value
none_holds value refused.NotJson found = below_10 value refused.NotJson found (omega arith)
none_holds value refused.Shape found = below_10 value refused.Shape found (omega arith)
none_holds value refused.Version found = below_10 value refused.Version found (omega arith)
none_holds value refused.Name found = below_10 value refused.Name found (omega arith)
none_holds value refused.Limit found = below_10 value refused.Limit found (omega arith)
none_holds value refused.Script found = below_10 value refused.Script found (omega arith)
none_holds value refused.GroupVariable found = below_10 value refused.GroupVariable found (omega arith)
none_holds value refused.Clock found = below_10 value refused.Clock found (omega arith)
none_holds value refused.Id found = below_10 value refused.Id found (omega arith)
