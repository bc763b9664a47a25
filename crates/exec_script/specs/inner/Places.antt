-- Places and cells are each other's.
use Rattle.std.proofs.Common.{◌≡◌, ℕ, zero, suc, ◌+◌, ◌-◌, ◌<◌, Bool, true, false, if◌then◌else◌, refl, arith}
use Rattle.std.specs.Prelude.{nat_lt}
use borrow.Author.Tests.{ltb-false}
use Rattle.exec_script.specs.declared.instr.Destination.TheVariants as destination
use Rattle.exec_script.specs.inner.Cells.{Register, Variable, cell_behind, cell_at, place_of, target_at, place_of_target}

place_behind : (n : ℕ) → n < 4 → place_of (cell_behind n) ≡ n + 16
place_behind zero h = refl
place_behind (suc zero) h = refl
place_behind (suc (suc zero)) h = refl
place_behind (suc (suc (suc zero))) h = refl
place_behind (suc (suc (suc (suc n)))) h = absurd (omega arith)

place_by : (low middle : Bool) (place : ℕ) → nat_lt place 8 ≡ low → nat_lt place 16 ≡ middle → place < 20 →
    place_of (if low then Register place else (if middle then Variable (place - 8) else cell_behind (place - 16))) ≡ place
place_by true middle place p q h = refl
place_by false true place p q h = let least = ltb-false place 8 p in omega arith
place_by false false place p q h =
    let least = ltb-false place 16 q in
    let few : place - 16 < 4 = omega arith in
    let e = place_behind (place - 16) few in
    omega arith

pub place_is : (place : ℕ) → place < 20 → place_of (cell_at place) ≡ place
place_is place h = place_by (nat_lt place 8) (nat_lt place 16) place refl refl h

target_by : (low : Bool) (place : ℕ) → nat_lt place 8 ≡ low →
    place_of_target (if low then destination.Register place else destination.Variable (place - 8)) ≡ place
target_by true place p = refl
target_by false place p = let least = ltb-false place 8 p in omega arith

pub target_is : (place : ℕ) → place_of_target (target_at place) ≡ place
target_is place = target_by (nat_lt place 8) place refl
