-- What is read of a frame's array, and what a write leaves of it.
use Rattle.std.proofs.Common.{◌≡◌, ◌≢◌, ℕ, zero, suc, ◌+◌, ◌-◌, ◌%◌, ◌^◌, ◌<◌, ◌≤◌, ℤ, pos, List, [], ◌∷◌, ◌++◌, length, replicate, take, drop, get_or, set, Bool, true, false, if◌then◌else◌, of_z, to_z, w64, refl, sym, ap, ◌∙◌, subst, arith}
use Rattle.std.specs.Prelude.{nat_lt}
use Rattle.std.proofs.lemmas.Int.{to_z-of_z, to_z_pos}
use Rattle.std.proofs.Math.Facts.{Fits-of_z}
use Rattle.std.proofs.lemmas.List.{get_or-take, get_or-drop, drop-set-add, drop-set-lt, take-set-le, get_or-set_other}
use Rattle.std.proofs.Math.Seq.{take-set-lt}
use borrow.Author.Tests.{ltb-true, ltb-false}
use borrow.Rule.Slice.PartMut.{put_mid}
use mir.Val.{Fits, SFits}
use Rattle.exec_script.specs.Script.{CallInput, value_of, at_least_0, registers_after, variables_after}
use Rattle.exec_script.specs.declared.instr.Destination.TheVariants as destination
use Rattle.exec_script.specs.inner.Cells.{OperandCell, Register, Variable, cell_at, cell_behind, target_at, cell_operand, constant_of}
use Rattle.exec_script.specs.inner.Frame.{FrameState, IsFrame, frame_of, input_in}

-- the sum of two signed numbers that wraps, by their bits
abbrev sum_of : ℤ → ℤ → ℤ
sum_of x y = to_z w64 ((of_z w64 x + of_z w64 y) % 18446744073709551616)

sum_0 : (bits : ℕ) → Fits w64 bits → (bits + 0) % 18446744073709551616 ≡ bits
sum_0 bits h = omega arith

from_0 : (bits : ℕ) → Fits w64 bits → (0 + bits) % 18446744073709551616 ≡ bits
from_0 bits h = omega arith

plus_0 : (x : ℤ) → SFits w64 x → sum_of x (pos 0) ≡ x
plus_0 x h = ap (to_z w64) (sum_0 (of_z w64 x) (Fits-of_z {w = w64} {z = x} h)) ∙ to_z-of_z w64 x h

plus_constant : (x : ℤ) → SFits w64 x → sum_of (pos 0) x ≡ x
plus_constant x h = ap (to_z w64) (from_0 (of_z w64 x) (Fits-of_z {w = w64} {z = x} h)) ∙ to_z-of_z w64 x h

-- what an operand reads: what stands there and its constant, one of which is 0
abbrev Reads : List ℤ → ℕ → ℤ → OperandCell → Type 0
Reads values place constant cell = constant_of (cell_operand cell constant) ≡ constant → sum_of (get_or values place (pos 0)) constant ≡ value_of (cell_operand cell constant) (take 8 values) (take 8 (drop 8 values)) (input_in values)

read_behind : (values : List ℤ) (n : ℕ) (constant : ℤ) → n < 4 → IsFrame values → SFits w64 (get_or values (n + 16) (pos 0)) → SFits w64 constant → Reads values (n + 16) constant (cell_behind n)
read_behind values zero constant h kept held fits zero_is = ap (sum_of (get_or values 16 (pos 0))) (sym zero_is) ∙ plus_0 _ held
read_behind values (suc zero) constant h kept held fits zero_is = ap (sum_of (get_or values 17 (pos 0))) (sym zero_is) ∙ plus_0 _ held
read_behind values (suc (suc zero)) constant h kept held fits zero_is = ap (sum_of (get_or values 18 (pos 0))) (sym zero_is) ∙ plus_0 _ held ∙ sym kept.moment
read_behind values (suc (suc (suc zero))) constant h kept held fits zero_is = ap (λ (x : ℤ). sum_of x constant) kept.zero_last ∙ plus_constant constant fits
read_behind values (suc (suc (suc (suc n)))) constant h kept held fits zero_is = absurd (omega arith)

read_by : (low middle : Bool) (values : List ℤ) (place : ℕ) (constant : ℤ) → nat_lt place 8 ≡ low → nat_lt place 16 ≡ middle → place < 20 → IsFrame values → SFits w64 (get_or values place (pos 0)) → SFits w64 constant → Reads values place constant (if low then Register place else (if middle then Variable (place - 8) else cell_behind (place - 16)))
read_by true middle values place constant p q h kept held fits zero_is =
    let below = ltb-true place 8 p in
    ap (sum_of (get_or values place (pos 0))) (sym zero_is) ∙ plus_0 _ held ∙ sym (get_or-take 8 values place (pos 0) below)
read_by false true values place constant p q h kept held fits zero_is =
    let least = ltb-false place 8 p in
    let below = ltb-true place 16 q in
    let near : place - 8 < 8 = omega arith in
    let there : 8 + (place - 8) ≡ place = omega arith in
    ap (sum_of (get_or values place (pos 0))) (sym zero_is) ∙ plus_0 _ held
    ∙ ap (λ (n : ℕ). get_or values n (pos 0)) (sym there) ∙ sym (get_or-drop 8 values (place - 8) (pos 0)) ∙ sym (get_or-take 8 (drop 8 values) (place - 8) (pos 0) near)
read_by false false values place constant p q h kept held fits zero_is =
    let least = ltb-false place 16 q in
    let few : place - 16 < 4 = omega arith in
    let there : (place - 16) + 16 ≡ place = omega arith in
    let same : SFits w64 (get_or values ((place - 16) + 16) (pos 0)) = rw there held in
    subst (λ (n : ℕ). Reads values n constant (cell_behind (place - 16))) there (read_behind values (place - 16) constant few kept same fits) zero_is

-- an operand's value is what its cell holds and its constant together
pub read_is : (values : List ℤ) (place : ℕ) (cell : OperandCell) (constant held : ℤ) (frame : FrameState) → place < 20 → IsFrame values → frame_of values ≡ frame → cell_at place ≡ cell → held ≡ get_or values place (pos 0) → SFits w64 held → SFits w64 constant → constant_of (cell_operand cell constant) ≡ constant → sum_of held constant ≡ value_of (cell_operand cell constant) frame.registers frame.variables frame.input
read_is values place cell constant held frame h kept frame_is cell_is held_is held_fits fits zero_is =
    let same : SFits w64 (get_or values place (pos 0)) = rw (← held_is) held_fits in
    let wanted : constant_of (cell_operand (cell_at place) constant) ≡ constant = rw cell_is zero_is in
    ap (λ (x : ℤ). sum_of x constant) held_is
    ∙ read_by (nat_lt place 8) (nat_lt place 16) values place constant refl refl h kept same fits wanted
    ∙ ap (λ (c : OperandCell). value_of (cell_operand c constant) (take 8 values) (take 8 (drop 8 values)) (input_in values)) cell_is
    ∙ ap (λ (f : FrameState). value_of (cell_operand cell constant) f.registers f.variables f.input) frame_is

-- a list of eight, element by element
eight : (P : List ℤ → Type 0) → ((a b c d e f g h : ℤ) → P (a ∷ b ∷ c ∷ d ∷ e ∷ f ∷ g ∷ h ∷ [])) → (xs : List ℤ) → length xs ≡ 8 → P xs
eight P all [] h = absurd (omega arith)
eight P all (a ∷ []) h = absurd (omega arith)
eight P all (a ∷ b ∷ []) h = absurd (omega arith)
eight P all (a ∷ b ∷ c ∷ []) h = absurd (omega arith)
eight P all (a ∷ b ∷ c ∷ d ∷ []) h = absurd (omega arith)
eight P all (a ∷ b ∷ c ∷ d ∷ e ∷ []) h = absurd (omega arith)
eight P all (a ∷ b ∷ c ∷ d ∷ e ∷ f ∷ []) h = absurd (omega arith)
eight P all (a ∷ b ∷ c ∷ d ∷ e ∷ f ∷ g ∷ []) h = absurd (omega arith)
eight P all (a ∷ b ∷ c ∷ d ∷ e ∷ f ∷ g ∷ x ∷ []) h = all a b c d e f g x
eight P all (a ∷ b ∷ c ∷ d ∷ e ∷ f ∷ g ∷ x ∷ y ∷ xs) h = absurd (omega arith)

-- what a vector writes of the integer that was read at a place
abbrev lane : List ℤ → ℕ → ℤ
lane xs place = to_z w64 (of_z w64 (to_z w64 (of_z w64 (get_or xs place (pos 0)))))

abbrev FitsAt : List ℤ → ℕ → Type 0
FitsAt xs place = SFits w64 (get_or xs place (pos 0))

lane_is : (xs : List ℤ) (place : ℕ) → FitsAt xs place → lane xs place ≡ get_or xs place (pos 0)
lane_is xs place h = ap (λ (x : ℤ). to_z w64 (of_z w64 x)) (to_z-of_z w64 _ h) ∙ to_z-of_z w64 _ h

-- the eight lanes of a vector are the eight integers that were read
pub lanes_are : (xs : List ℤ) → length xs ≡ 8 → FitsAt xs 0 → FitsAt xs 1 → FitsAt xs 2 → FitsAt xs 3 → FitsAt xs 4 → FitsAt xs 5 → FitsAt xs 6 → FitsAt xs 7 → lane xs 0 ∷ lane xs 1 ∷ lane xs 2 ∷ lane xs 3 ∷ lane xs 4 ∷ lane xs 5 ∷ lane xs 6 ∷ lane xs 7 ∷ [] ≡ xs
lanes_are xs p f0 f1 f2 f3 f4 f5 f6 f7 =
    rw (lane_is xs 0 f0, lane_is xs 1 f1, lane_is xs 2 f2, lane_is xs 3 f3, lane_is xs 4 f4, lane_is xs 5 f5, lane_is xs 6 f6, lane_is xs 7 f7)
    (eight (λ xs. get_or xs 0 (pos 0) ∷ get_or xs 1 (pos 0) ∷ get_or xs 2 (pos 0) ∷ get_or xs 3 (pos 0) ∷ get_or xs 4 (pos 0) ∷ get_or xs 5 (pos 0) ∷ get_or xs 6 (pos 0) ∷ get_or xs 7 (pos 0) ∷ [] ≡ xs) (λ a b c d e f g h. refl) xs p)

abbrev framed : List ℤ → List ℤ → ℤ → ℤ → ℤ → FrameState
framed registers variables first aux moment = record { registers = registers; variables = variables; input = record { first = first; aux = aux; moment = at_least_0 moment } }

abbrev with_input : List ℤ → List ℤ → CallInput → FrameState
with_input regs bank input = record { registers = regs; variables = bank; input = input }

-- the array that a frame is made of
abbrev pub array_of : List ℤ → List ℤ → ℤ → ℤ → ℤ → List ℤ
array_of registers variables first aux moment = set (set (set (put_mid 8 8 (registers ++ replicate 12 (pos 0)) variables) 16 first) 17 aux) 18 moment

pub made_is : (first aux moment : ℤ) (registers variables : List ℤ) → length registers ≡ 8 → length variables ≡ 8 → frame_of (array_of registers variables first aux moment) ≡ record { registers = registers; variables = variables; input = record { first = first; aux = aux; moment = at_least_0 moment } }
made_is first aux moment registers variables p q =
    eight (λ rs. frame_of (array_of rs variables first aux moment) ≡ record { registers = rs; variables = variables; input = record { first = first; aux = aux; moment = at_least_0 moment } })
    (λ a b c d e f g h. eight (λ vs. frame_of (array_of (a ∷ b ∷ c ∷ d ∷ e ∷ f ∷ g ∷ h ∷ []) vs first aux moment) ≡ record { registers = a ∷ b ∷ c ∷ d ∷ e ∷ f ∷ g ∷ h ∷ []; variables = vs; input = record { first = first; aux = aux; moment = at_least_0 moment } })
    (λ a b c d e f g h. refl) variables q) registers p

pub made_kept : (first aux moment : ℤ) (registers variables : List ℤ) → length registers ≡ 8 → length variables ≡ 8 → pos (at_least_0 moment) ≡ moment → IsFrame (array_of registers variables first aux moment)
made_kept first aux moment registers variables p q m =
    eight (λ rs. IsFrame (array_of rs variables first aux moment))
    (λ a b c d e f g h. eight (λ vs. IsFrame (array_of (a ∷ b ∷ c ∷ d ∷ e ∷ f ∷ g ∷ h ∷ []) vs first aux moment))
    (λ a b c d e f g h. record { sized = refl; moment = m; zero_last = refl }) variables q) registers p

-- the integers of an input as they come to stand in the array
array_is : (registers variables : List ℤ) (first aux : ℤ) (ticks : ℕ) → SFits w64 first → SFits w64 aux → ticks ≤ 2 ^ 62 → array_of registers variables (to_z w64 (of_z w64 first)) (to_z w64 (of_z w64 aux)) (to_z w64 ticks) ≡ array_of registers variables first aux (pos ticks)
array_is registers variables first aux ticks p q h =
    let few : ticks < 2 ^ 63 = omega arith in
    ap (λ (x : ℤ). array_of registers variables x (to_z w64 (of_z w64 aux)) (to_z w64 ticks)) (to_z-of_z w64 first p)
    ∙ ap (λ (x : ℤ). array_of registers variables first x (to_z w64 ticks)) (to_z-of_z w64 aux q)
    ∙ ap (array_of registers variables first aux) (to_z_pos w64 ticks few)

pub new_is : (registers variables : List ℤ) (first aux : ℤ) (ticks moment : ℕ) (regs bank : List ℤ) (input : CallInput) → length registers ≡ 8 → length variables ≡ 8 → SFits w64 first → SFits w64 aux → ticks ≤ 2 ^ 62 → registers ≡ regs → variables ≡ bank → ticks ≡ moment → record { first = first; aux = aux; moment = moment } ≡ input →
    frame_of (array_of registers variables (to_z w64 (of_z w64 first)) (to_z w64 (of_z w64 aux)) (to_z w64 ticks)) ≡ record { registers = regs; variables = bank; input = input }
new_is registers variables first aux ticks moment regs bank input p q f a h r v t i =
    ap frame_of (array_is registers variables first aux ticks f a h) ∙ made_is first aux (pos ticks) registers variables p q
    ∙ ap (λ (x : List ℤ). framed x variables first aux (pos ticks)) r
    ∙ ap (λ (x : List ℤ). framed regs x first aux (pos ticks)) v
    ∙ ap (λ (n : ℕ). framed regs bank first aux (pos n)) t
    ∙ ap (λ (x : CallInput). with_input regs bank x) i

pub new_kept : (registers variables : List ℤ) (first aux : ℤ) (ticks : ℕ) → length registers ≡ 8 → length variables ≡ 8 → SFits w64 first → SFits w64 aux → ticks ≤ 2 ^ 62 → IsFrame (array_of registers variables (to_z w64 (of_z w64 first)) (to_z w64 (of_z w64 aux)) (to_z w64 ticks))
new_kept registers variables first aux ticks p q f a h =
    subst IsFrame (sym (array_is registers variables first aux ticks f a h)) (made_kept first aux (pos ticks) registers variables p q refl)

-- the frame of an array after a write
input_stays : (values registers variables : List ℤ) (place : ℕ) (value : ℤ) → place < 16 → framed registers variables (get_or (set values place value) 16 (pos 0)) (get_or (set values place value) 17 (pos 0)) (get_or (set values place value) 18 (pos 0)) ≡ framed registers variables (get_or values 16 (pos 0)) (get_or values 17 (pos 0)) (get_or values 18 (pos 0))
input_stays values registers variables place value h =
    let p : 16 ≢ place = omega arith in
    let q : 17 ≢ place = omega arith in
    let r : 18 ≢ place = omega arith in
    ap (λ (x : ℤ). framed registers variables x (get_or (set values place value) 17 (pos 0)) (get_or (set values place value) 18 (pos 0))) (get_or-set_other values place 16 value (pos 0) p)
    ∙ ap (λ (x : ℤ). framed registers variables (get_or values 16 (pos 0)) x (get_or (set values place value) 18 (pos 0))) (get_or-set_other values place 17 value (pos 0) q)
    ∙ ap (framed registers variables (get_or values 16 (pos 0)) (get_or values 17 (pos 0))) (get_or-set_other values place 18 value (pos 0) r)

abbrev with_cells : List ℤ → ℕ → ℤ → List ℤ → List ℤ → FrameState
with_cells values place value registers variables = framed registers variables (get_or (set values place value) 16 (pos 0)) (get_or (set values place value) 17 (pos 0)) (get_or (set values place value) 18 (pos 0))

written_by : (low : Bool) (values : List ℤ) (place : ℕ) (value : ℤ) → nat_lt place 8 ≡ low → place < 16 → frame_of (set values place value) ≡ framed (registers_after (if low then destination.Register place else destination.Variable (place - 8)) value (take 8 values)) (variables_after (if low then destination.Register place else destination.Variable (place - 8)) value (take 8 (drop 8 values))) (get_or values 16 (pos 0)) (get_or values 17 (pos 0)) (get_or values 18 (pos 0))
written_by true values place value p h =
    let below = ltb-true place 8 p in
    ap (λ (rs : List ℤ). with_cells values place value rs (take 8 (drop 8 (set values place value)))) (take-set-lt 8 values place value below)
    ∙ ap (λ (vs : List ℤ). with_cells values place value (set (take 8 values) place value) (take 8 vs)) (drop-set-lt 8 values place value below)
    ∙ input_stays values (set (take 8 values) place value) (take 8 (drop 8 values)) place value h
written_by false values place value p h =
    let least = ltb-false place 8 p in
    let near : place - 8 < 8 = omega arith in
    let there : place ≡ 8 + (place - 8) = omega arith in
    ap (λ (rs : List ℤ). with_cells values place value rs (take 8 (drop 8 (set values place value)))) (take-set-le 8 values place value least)
    ∙ ap (λ (vs : List ℤ). with_cells values place value (take 8 values) (take 8 vs)) (ap (λ (n : ℕ). drop 8 (set values n value)) there ∙ drop-set-add 8 values (place - 8) value)
    ∙ ap (λ (vs : List ℤ). with_cells values place value (take 8 values) vs) (take-set-lt 8 (drop 8 values) (place - 8) value near)
    ∙ input_stays values (take 8 values) (set (take 8 (drop 8 values)) (place - 8) value) place value h

pub written_is : (values : List ℤ) (place : ℕ) (value : ℤ) → place < 16 → frame_of (set values place value) ≡ record { registers = registers_after (target_at place) value (take 8 values); variables = variables_after (target_at place) value (take 8 (drop 8 values)); input = input_in values }
written_is values place value = written_by (nat_lt place 8) values place value refl
