-- An identifier that a text says has 128 bits.
use Rattle.std.proofs.Common.{◌≡◌, ℕ, zero, suc, ◌+◌, ◌-◌, ◌*◌, ◌<◌, ◌≤◌, ◌^◌, Bool, true, false, ◌&&◌, ◌||◌, ◌==◌, nat_le, if◌then◌else◌, length, List, [], ◌∷◌, take, drop, Option, None, Some, option_map, slice_index, refl, sym, subst, arith, ◌⊎◌, inl, inr, true≢false}
use Rattle.std.specs.Int.{from_be_bytes, w128}
use Rattle.std.specs.List.{list_all}
use Rattle.std.proofs.lemmas.Bool.{leb-true, or_cases, and_parts}
use Rattle.std.proofs.lemmas.Option.{same_Some}
use Rattle.uuid.specs.Text.{by_index, is_hex_digit, value_of, byte_of_digits, parsed_simple, parsed_hyphenated, parsed_braced, parsed_urn, parsed, digits_of}
use Rattle.exec_doc.specs.Forms.{id_in_text}

-- ---- digits

-- a letter's value
letter_below : (c : ℕ) (b : Bool) → nat_le 97 c ≡ b → (((nat_le 48 c && false) || (b && nat_le c 102)) ≡ true) ⊎ ((nat_le 65 c && nat_le c 70) ≡ true) → (if b then c - 87 else c - 55) < 16
letter_below c true high (inl small) = by (or_cases (nat_le 48 c && false) (nat_le c 102) small) where
  by : ((nat_le 48 c && false) ≡ true) ⊎ (nat_le c 102 ≡ true) → c - 87 < 16
  by (inl digit) = absurd (true≢false (sym (and_parts (nat_le 48 c) false digit).1))
  by (inr low) = let most = leb-true c 102 low in omega (arith, most)
letter_below c true high (inr capital) =
    let least = leb-true 97 c high in
    let most = leb-true c 70 (and_parts (nat_le 65 c) (nat_le c 70) capital).1 in
    omega (arith, least, most)
letter_below c false high (inl small) = by (or_cases (nat_le 48 c && false) false small) where
  by : ((nat_le 48 c && false) ≡ true) ⊎ (false ≡ true) → c - 55 < 16
  by (inl digit) = absurd (true≢false (sym (and_parts (nat_le 48 c) false digit).1))
  by (inr never) = absurd (true≢false (sym never))
letter_below c false high (inr capital) =
    let most = leb-true c 70 (and_parts (nat_le 65 c) (nat_le c 70) capital).1 in
    omega (arith, most)

-- the value of a digit of sixteen
value_below : (c : ℕ) → is_hex_digit c ≡ true → value_of c < 16
value_below c is = by (nat_le c 57) refl is where
  by : (a : Bool) → nat_le c 57 ≡ a → ((nat_le 48 c && a) || (nat_le 97 c && nat_le c 102) || (nat_le 65 c && nat_le c 70)) ≡ true → (if a then c - 48 else if nat_le 97 c then c - 87 else c - 55) < 16
  by true low is = let most = leb-true c 57 low in omega (arith, most)
  by false low is = letter_below c (nat_le 97 c) refl (or_cases ((nat_le 48 c && false) || (nat_le 97 c && nat_le c 102)) (nat_le 65 c && nat_le c 70) is)

digit_below : (hex : List ℕ) (k : ℕ) → list_all is_hex_digit hex ≡ true → value_of (slice_index hex k) < 16
digit_below [] k all = omega arith
digit_below (c ∷ hex) zero all = value_below c (and_parts (is_hex_digit c) (list_all is_hex_digit hex) all).0
digit_below (c ∷ hex) (suc k) all = digit_below hex k (and_parts (is_hex_digit c) (list_all is_hex_digit hex) all).1

byte_below : (hex : List ℕ) → list_all is_hex_digit hex ≡ true → (j : ℕ) → byte_of_digits hex j < 256
byte_below hex all j =
    let high = digit_below hex (2 * j) all in
    let low = digit_below hex (2 * j + 1) all in
    omega (arith, high, low)

-- ---- the number of sixteen bytes

sixteen_below : (f : ℕ → ℕ) → ((j : ℕ) → f j < 256) → from_be_bytes w128 (by_index 16 f) ≤ 2 ^ 128 - 1
unfolding by_index
sixteen_below f below =
    let h0 = below 0 in let h1 = below 1 in let h2 = below 2 in let h3 = below 3 in
    let h4 = below 4 in let h5 = below 5 in let h6 = below 6 in let h7 = below 7 in
    let h8 = below 8 in let h9 = below 9 in let h10 = below 10 in let h11 = below 11 in
    let h12 = below 12 in let h13 = below 13 in let h14 = below 14 in let h15 = below 15 in
    omega (arith, h0, h1, h2, h3, h4, h5, h6, h7, h8, h9, h10, h11, h12, h13, h14, h15)

-- ---- texts

abbrev IsBelow : List ℕ → Type 0
IsBelow bytes = from_be_bytes w128 bytes ≤ 2 ^ 128 - 1

either : (b : Bool) (x y : Option (List ℕ)) (bytes : List ℕ) → (if b then x else y) ≡ Some bytes → (b ≡ true → x ≡ Some bytes → IsBelow bytes) → (y ≡ Some bytes → IsBelow bytes) → IsBelow bytes
either true x y bytes e first second = first refl e
either false x y bytes e first second = second e

simple_below : (hex bytes : List ℕ) → parsed_simple hex ≡ Some bytes → IsBelow bytes
simple_below hex bytes e =
    either ((length hex == 32) && list_all is_hex_digit hex) (Some (by_index 16 (byte_of_digits hex))) None bytes e
    (λ is found. subst IsBelow (same_Some (by_index 16 (byte_of_digits hex)) bytes found) (sixteen_below (byte_of_digits hex) (byte_below hex (and_parts (length hex == 32) (list_all is_hex_digit hex) is).1)))
    (λ none. absurd cc)

hyphenated_below : (s bytes : List ℕ) → parsed_hyphenated s ≡ Some bytes → IsBelow bytes
hyphenated_below s bytes e = either _ (parsed_simple (digits_of s)) None bytes e (λ is found. simple_below (digits_of s) bytes found) (λ none. absurd cc)

parsed_below : (s bytes : List ℕ) → parsed s ≡ Some bytes → IsBelow bytes
parsed_below s bytes e =
    either (length s == 32) (parsed_simple s) _ bytes e (λ is found. simple_below s bytes found) (λ e.
    either (length s == 36) (parsed_hyphenated s) _ bytes e (λ is found. hyphenated_below s bytes found) (λ e.
    either (length s == 38) (parsed_braced s) _ bytes e (λ is found. either _ (parsed_hyphenated (take 36 (drop 1 s))) None bytes found (λ is found. hyphenated_below (take 36 (drop 1 s)) bytes found) (λ none. absurd cc)) (λ e.
    either (length s == 45) (parsed_urn s) None bytes e (λ is found. either _ (parsed_hyphenated (drop 9 s)) None bytes found (λ is found. hyphenated_below (drop 9 s) bytes found) (λ none. absurd cc)) (λ none. absurd cc))))

mapped_below : (read : Option (List ℕ)) (id : ℕ) → ((bytes : List ℕ) → read ≡ Some bytes → IsBelow bytes) → option_map (from_be_bytes w128) read ≡ Some id → id ≤ 2 ^ 128 - 1
mapped_below None id below e = absurd cc
mapped_below (Some bytes) id below e = subst (λ n. n ≤ 2 ^ 128 - 1) (same_Some (from_be_bytes w128 bytes) id e) (below bytes refl)

-- an identifier has 128 bits
pub id_below : (text : List ℕ) (id : ℕ) → id_in_text text ≡ Some id → id ≤ 2 ^ 128 - 1
id_below text id e = mapped_below (parsed text) id (parsed_below text) e
