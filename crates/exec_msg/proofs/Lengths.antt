-- Lengths of names and of numbers.
use Rattle.std.proofs.Common.{◌≡◌, ℕ, zero, suc, ◌+◌, ◌*◌, ◌/◌, ◌%◌, ◌^◌, ◌<◌, ◌≤◌, List, [], ◌∷◌, ◌++◌, length, get_or, subst, arith, length-append}
use Rattle.std.proofs.Math.Nat.{pow-suc, one-le-pow}
use Rattle.std.proofs.lemmas.Fmt.{decimal_by_steps, length-decimal-le}
use Rattle.std.specs.Fmt.{decimal}
use Rattle.exec_msg.specs.Line.{greatest_length}

-- no name is longer than the longest
pub name_within : (names : List (List ℕ)) (number : ℕ) → length (get_or names number []) ≤ greatest_length names
name_within [] number = omega arith
name_within (name ∷ names) zero = omega arith
name_within (name ∷ names) (suc number) = omega (arith, name_within names number)

-- a number that isn't below a power of ten has more digits
pub digits_above : (number : ℕ) → number < 2 ^ 64 → (k : ℕ) → 10 ^ k ≤ number → k < length (decimal number)
digits_above number small = decimal_by_steps (λ n digits. (k : ℕ) → 10 ^ k ≤ n → k < length digits) one more number small
  where
    one : (n : ℕ) → n < 10 → (k : ℕ) → 10 ^ k ≤ n → k < 1
    one n below zero h = omega arith
    one n below (suc k) h = absurd (omega (arith, pow-suc 10 k, one-le-pow k 10 (omega arith)))

    more : (n : ℕ) (digits : List ℕ) → 10 ≤ n → ((k : ℕ) → 10 ^ k ≤ n / 10 → k < length digits) → (k : ℕ) → 10 ^ k ≤ n → k < length (digits ++ (48 + n % 10) ∷ [])
    more n digits above shorter zero h = omega (arith, length-append digits ((48 + n % 10) ∷ []))
    more n digits above shorter (suc k) h =
        let tenth : 10 ^ k ≤ n / 10 = omega (arith, pow-suc 10 k) in
        omega (arith, shorter k tenth, length-append digits ((48 + n % 10) ∷ []))

-- a number from one power of ten up to the next has one digit more than the power has zeros
pub digits_from : (number zeros : ℕ) → number < 2 ^ 64 → zeros < 20 → 10 ^ zeros ≤ number → number < 10 * 10 ^ zeros → zeros + 1 ≡ length (decimal number)
digits_from number zeros small few least most =
    let above = digits_above number small zeros least in
    let next : number < 10 ^ suc zeros = omega (arith, most, pow-suc 10 zeros) in
    let more : suc zeros ≡ zeros + 1 = omega arith in
    omega (arith, above, length-decimal-le (zeros + 1) number (omega arith) (subst (λ (n : ℕ). number < 10 ^ n) more next) small)
