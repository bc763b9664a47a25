-- The digits of identifiers.
use Rattle.std.proofs.Common.{◌≡◌, ℕ, zero, suc, ◌+◌, ◌-◌, ◌*◌, ◌/◌, ◌%◌, ◌^◌, ◌<◌, Bool, true, false, cond, List, [], ◌∷◌, ◌++◌, length, map, replicate, ltb, refl, sym, ap, ◌∙◌, arith, append_assoc}
use Rattle.std.specs.Int.{w128, to_be_bytes, byte_at, bytes_low_first}
use lib.Bits.{bit_and}
use lib.Lanes.{Each1, zip2, sel_l, digits_l, number_l, pick_l}
use Rattle.std.proofs.Math.Nat.{div-div-eq-div-mul, pow-suc}
use Rattle.std.proofs.lemmas.Nat.{and_mask}
use Rattle.exec_msg.specs.Line.{id_text}
use Rattle.uuid.specs.Text.{by_index, hex_digit, lower, nibble}

-- ---- the digit of a number below sixteen

digit_by : (below : Bool) (x : ℕ) → x < 16 → cond below ((x + 48) % 256) ((x + 87) % 256) ≡ cond below (48 + x) (97 + x - 10)
digit_by true x small = omega (arith)
digit_by false x small = omega (arith)

pub digits_chosen : (xs : List ℕ) (n : ℕ) → Each1 (λ x. x < 16) xs → length xs ≡ n
    → sel_l (zip2 ltb xs (replicate n 10)) (zip2 (λ a b. (a + b) % 256) xs (replicate n 48)) (zip2 (λ a b. (a + b) % 256) xs (replicate n 87)) ≡ map (hex_digit lower) xs
digits_chosen [] n small long = refl
digits_chosen (x ∷ xs) zero small long = absurd (omega arith)
digits_chosen (x ∷ xs) (suc n) small long = λ i. digit_by (ltb x 10) x small.0 i ∷ digits_chosen xs n small.1 (omega arith) i

-- ---- the halves of bytes

firsts : (xs : List ℕ) (n : ℕ) → length xs ≡ n → zip2 bit_and (zip2 (λ a b. a / 2 ^ b) xs (replicate n 4)) (replicate n 15) ≡ map (λ x. x / 16 % 16) xs
firsts [] n long = refl
firsts (x ∷ xs) zero long = absurd (omega arith)
firsts (x ∷ xs) (suc n) long = λ i. and_mask (x / 16) 4 i ∷ firsts xs n (omega arith) i

seconds : (xs : List ℕ) (n : ℕ) → length xs ≡ n → zip2 bit_and xs (replicate n 15) ≡ map (λ x. x % 16) xs
seconds [] n long = refl
seconds (x ∷ xs) zero long = absurd (omega arith)
seconds (x ∷ xs) (suc n) long = λ i. and_mask x 4 i ∷ seconds xs n (omega arith) i

-- ---- the bytes of a number

byte_is : (i n : ℕ) → n / 256 ^ i % 256 ≡ byte_at i n
byte_is zero n = omega arith
byte_is (suc i) n = refl

lowest_first : (k i n : ℕ) → digits_l 256 k (n / 256 ^ i) ≡ bytes_low_first i k n
lowest_first zero i n = refl
lowest_first (suc k) i n = λ j. byte_is i n j ∷ (ap (digits_l 256 k) (div-div-eq-div-mul n (256 ^ i) 256 ∙ ap (λ (m : ℕ). n / m) (sym (pow-suc 256 i))) ∙ lowest_first k (suc i) n) j

-- a number's bytes, the highest first, as its halves give them
abbrev octets : ℕ → ℕ → List ℕ
octets high low =
    let lowest : List ℕ = digits_l 256 16 (number_l (2 ^ 64) (low ∷ high ∷ [])) in
    pick_l 0 (lowest ++ lowest) (15 ∷ 14 ∷ 13 ∷ 12 ∷ 11 ∷ 10 ∷ 9 ∷ 8 ∷ 7 ∷ 6 ∷ 5 ∷ 4 ∷ 3 ∷ 2 ∷ 1 ∷ 0 ∷ [])

octets_are : (high low id : ℕ) → high * 2 ^ 64 + low ≡ id → octets high low ≡ to_be_bytes w128 id
octets_are high low id is =
    ap (λ (lowest : List ℕ). pick_l 0 (lowest ++ lowest) (15 ∷ 14 ∷ 13 ∷ 12 ∷ 11 ∷ 10 ∷ 9 ∷ 8 ∷ 7 ∷ 6 ∷ 5 ∷ 4 ∷ 3 ∷ 2 ∷ 1 ∷ 0 ∷ []))
    (ap (digits_l 256 16) (omega (arith, is)) ∙ lowest_first 16 0 id)

-- the digits of an identifier, of which the first of each byte stand in a vector, and the second
module _ (high low id : ℕ) (first second : List ℕ) (is : high * 2 ^ 64 + low ≡ id)
    (first_is : first ≡ map (hex_digit lower) (zip2 bit_and (zip2 (λ a b. a / 2 ^ b) (octets high low) (replicate 16 4)) (replicate 16 15)))
    (second_is : second ≡ map (hex_digit lower) (zip2 bit_and (octets high low) (replicate 16 15))) where
  first_digits : first ≡ map (hex_digit lower) (map (λ x. x / 16 % 16) (to_be_bytes w128 id))
  first_digits = first_is ∙ ap (map (hex_digit lower)) (ap (λ (xs : List ℕ). zip2 bit_and (zip2 (λ a b. a / 2 ^ b) xs (replicate 16 4)) (replicate 16 15)) (octets_are high low id is) ∙ firsts (to_be_bytes w128 id) 16 refl)

  second_digits : second ≡ map (hex_digit lower) (map (λ x. x % 16) (to_be_bytes w128 id))
  second_digits = second_is ∙ ap (map (hex_digit lower)) (ap (λ (xs : List ℕ). zip2 bit_and xs (replicate 16 15)) (octets_are high low id is) ∙ seconds (to_be_bytes w128 id) 16 refl)

  pub front_digits : pick_l 0 (first ++ second) (0 ∷ 16 ∷ 1 ∷ 17 ∷ 2 ∷ 18 ∷ 3 ∷ 19 ∷ 4 ∷ 20 ∷ 5 ∷ 21 ∷ 6 ∷ 22 ∷ 7 ∷ 23 ∷ []) ≡ by_index 16 (λ k. hex_digit lower (nibble (to_be_bytes w128 id) k))
  unfolding by_index
  front_digits = λ i. pick_l 0 (first_digits i ++ second_digits i) (0 ∷ 16 ∷ 1 ∷ 17 ∷ 2 ∷ 18 ∷ 3 ∷ 19 ∷ 4 ∷ 20 ∷ 5 ∷ 21 ∷ 6 ∷ 22 ∷ 7 ∷ 23 ∷ [])

  pub back_digits : pick_l 0 (first ++ second) (8 ∷ 24 ∷ 9 ∷ 25 ∷ 10 ∷ 26 ∷ 11 ∷ 27 ∷ 12 ∷ 28 ∷ 13 ∷ 29 ∷ 14 ∷ 30 ∷ 15 ∷ 31 ∷ []) ≡ by_index 16 (λ k. hex_digit lower (nibble (to_be_bytes w128 id) (16 + k)))
  unfolding by_index
  back_digits = λ i. pick_l 0 (first_digits i ++ second_digits i) (8 ∷ 24 ∷ 9 ∷ 25 ∷ 10 ∷ 26 ∷ 11 ∷ 27 ∷ 12 ∷ 28 ∷ 13 ∷ 29 ∷ 14 ∷ 30 ∷ 15 ∷ 31 ∷ [])

-- ---- an identifier's text in the four parts in which it is placed

-- what stands before the digits, and between them
abbrev between : List ℕ
between = 32 ∷ 45 ∷ replicate 14 32

abbrev pub first_part : List ℕ → List ℕ
first_part front = pick_l 0 (front ++ between) (16 ∷ 0 ∷ 1 ∷ 2 ∷ 3 ∷ 4 ∷ 5 ∷ 6 ∷ 7 ∷ 17 ∷ 8 ∷ 9 ∷ 10 ∷ 11 ∷ 17 ∷ 12 ∷ [])

abbrev pub second_part : List ℕ → List ℕ
second_part front = pick_l 0 (front ++ between) (13 ∷ 14 ∷ 15 ∷ 17 ∷ [])

abbrev pub third_part : List ℕ → List ℕ
third_part back = pick_l 0 (back ++ between) (0 ∷ 1 ∷ 2 ∷ 3 ∷ 17 ∷ 4 ∷ 5 ∷ 6 ∷ 7 ∷ 8 ∷ 9 ∷ 10 ∷ 11 ∷ 12 ∷ 13 ∷ 14 ∷ [])

abbrev pub last_part : List ℕ → List ℕ
last_part back = pick_l 0 (back ++ back) (15 ∷ [])

four_joined : (start one two three four : List ℕ) → (((start ++ one) ++ two) ++ three) ++ four ≡ start ++ (one ++ (two ++ (three ++ four)))
four_joined start one two three four =
    append_assoc ((start ++ one) ++ two) three four ∙ append_assoc (start ++ one) two (three ++ four) ∙ append_assoc start one (two ++ (three ++ four))

pub id_joined : (id : ℕ) (start front back : List ℕ)
    → front ≡ by_index 16 (λ k. hex_digit lower (nibble (to_be_bytes w128 id) k))
    → back ≡ by_index 16 (λ k. hex_digit lower (nibble (to_be_bytes w128 id) (16 + k)))
    → (((start ++ first_part front) ++ second_part front) ++ third_part back) ++ last_part back ≡ start ++ 32 ∷ (id_text id ++ [])
unfolding by_index id_text
id_joined id start front back front_is back_is =
    four_joined start (first_part front) (second_part front) (third_part back) (last_part back)
    ∙ (λ i. start ++ (first_part (front_is i) ++ (second_part (front_is i) ++ (third_part (back_is i) ++ last_part (back_is i)))))
