-- How requests are told apart.
use Rattle.std.proofs.Common.{◌≡◌, ◌≢◌, ℕ, suc, ◌<◌, ◌≤◌, ◌^◌, List, [], ◌∷◌, ◌++◌, length, All, Bool, Option, map, refl, sym, ap, ◌∙◌, append_assoc, append-nil, length-append, inl, inr, arith}
use Rattle.std.specs.List.{flat_map}
use Rattle.std.specs.Int.{w64, from_be_bytes}
use Rattle.std.proofs.lemmas.Nat.{from_be_bytes-to_be_bytes_8}
use Rattle.exec_msg.specs.declared.limits.TheConstants.{DOCUMENT}
use Rattle.exec_serve.specs.LawWords.{BeginWithNoRequest, IsAsked}
use Rattle.exec_serve.specs.Serving.{Exchange, IsCutOff, number_bytes, request_bytes}

-- two lists that begin with as much begin alike
alike : (a b x y : List ℕ) → length a ≡ length b → a ++ x ≡ b ++ y → (a ≡ b) × (x ≡ y)
alike [] [] x y long same = (refl, same)
alike [] (n ∷ b) x y long same = absurd (omega (arith, long))
alike (m ∷ a) [] x y long same = absurd (omega (arith, long))
alike (m ∷ a) (n ∷ b) x y long same =
    let first : m ≡ n = cc in
    let rest : a ++ x ≡ b ++ y = cc in
    let both = alike a b x y (omega (arith, long)) rest in
    (λ i. first i ∷ both.0 i, both.1)

eight : (n : ℕ) → length (number_bytes n) ≡ 8
unfolding number_bytes
eight n = refl

-- numbers below 2^64 have bytes of their own
same_number : (m n : ℕ) → m < 2 ^ 64 → n < 2 ^ 64 → number_bytes m ≡ number_bytes n → m ≡ n
unfolding number_bytes
same_number m n small little same = sym (from_be_bytes-to_be_bytes_8 m small) ∙ ap (λ (l : List ℕ). from_be_bytes w64 l) same ∙ from_be_bytes-to_be_bytes_8 n little

-- a number and what comes behind it
number_behind : (m n : ℕ) (x y : List ℕ) → m < 2 ^ 64 → n < 2 ^ 64 → number_bytes m ++ x ≡ number_bytes n ++ y → (m ≡ n) × (x ≡ y)
number_behind m n x y small little same =
    let both = alike (number_bytes m) (number_bytes n) x y (eight m ∙ sym (eight n)) same in
    (same_number m n small little both.0, both.1)

request_behind : (one other : Exchange) (x y : List ℕ) → IsAsked one → IsAsked other → request_bytes one ++ x ≡ request_bytes other ++ y → (one.document ≡ other.document) × (x ≡ y)
request_behind one other x y asked wanted same =
    let apart = sym (append_assoc (number_bytes (length one.document)) one.document x) ∙ same ∙ append_assoc (number_bytes (length other.document)) other.document y in
    let head = number_behind (length one.document) (length other.document) (one.document ++ x) (other.document ++ y) (omega (arith, asked)) (omega (arith, wanted)) apart in
    alike one.document other.document x y head.0 head.1

first_of : (one : Exchange) (some : List Exchange) → All IsAsked (one ∷ some) → IsAsked one
first_of one some all = all 0 one (omega arith)

others_of : (one : Exchange) (some : List Exchange) → All IsAsked (one ∷ some) → All IsAsked some
others_of one some all = λ k other within. all (suc k) other (omega (arith, within))

pub requests_apart : (some others : List Exchange) (rest left : List ℕ) → All IsAsked some → All IsAsked others → BeginWithNoRequest rest → BeginWithNoRequest left → flat_map request_bytes some ++ rest ≡ flat_map request_bytes others ++ left → (map (λ (one : Exchange). one.document) some ≡ map (λ (one : Exchange). one.document) others) × (rest ≡ left)
requests_apart [] [] rest left asked wanted none nothing same = (refl, same)
requests_apart [] (other ∷ others) rest left asked wanted none nothing same =
    absurd (none other (flat_map request_bytes others ++ left) (first_of other others wanted) (same ∙ append_assoc (request_bytes other) (flat_map request_bytes others) left))
requests_apart (one ∷ some) [] rest left asked wanted none nothing same =
    absurd (nothing one (flat_map request_bytes some ++ rest) (first_of one some asked) (sym same ∙ append_assoc (request_bytes one) (flat_map request_bytes some) rest))
requests_apart (one ∷ some) (other ∷ others) rest left asked wanted none nothing same =
    let apart = sym (append_assoc (request_bytes one) (flat_map request_bytes some) rest) ∙ same ∙ append_assoc (request_bytes other) (flat_map request_bytes others) left in
    let first = request_behind one other (flat_map request_bytes some ++ rest) (flat_map request_bytes others ++ left) (first_of one some asked) (first_of other others wanted) apart in
    let behind = requests_apart some others rest left (others_of one some asked) (others_of other others wanted) none nothing first.1 in
    (λ i. first.0 i ∷ behind.0 i, behind.1)

-- a length and a part of a document are no request
part_of_request : (size : ℕ) (part : List ℕ) (one : Exchange) (rest : List ℕ) → size ≤ DOCUMENT → length part < size → IsAsked one → number_bytes size ++ part ≢ request_bytes one ++ rest
part_of_request size part one rest within few asked same =
    let head = number_behind size (length one.document) part (one.document ++ rest) (omega (arith, within)) (omega (arith, asked)) (same ∙ append_assoc (number_bytes (length one.document)) one.document rest) in
    omega (arith, few, head.0, ap length head.1, length-append one.document rest)

-- nor are fewer bytes than a length has
few_bytes : (taken : List ℕ) (one : Exchange) (rest : List ℕ) → length taken < 8 → taken ≢ request_bytes one ++ rest
few_bytes taken one rest few same =
    omega (arith, few, ap length same, length-append (request_bytes one) rest, length-append (number_bytes (length one.document)) one.document, eight (length one.document))

pub no_request : (failed : Bool) (after : Option (List ℕ)) (taken : List ℕ) → IsCutOff failed after taken → BeginWithNoRequest taken
no_request failed after taken (inl (_, inl nothing)) one rest asked same = few_bytes taken one rest (omega (arith, ap length nothing)) same
no_request failed after taken (inl (_, inr (inl (_, few)))) one rest asked same = few_bytes taken one rest few same
no_request failed after taken (inl (_, inr (inr (size, part, within, few, is)))) one rest asked same = part_of_request size part one rest within few asked (sym is ∙ same)
no_request failed after taken (inr (inl (_, inl (_, few)))) one rest asked same = few_bytes taken one rest few same
no_request failed after taken (inr (inl (_, inr (size, part, within, few, is)))) one rest asked same = part_of_request size part one rest within few asked (sym is ∙ same)
no_request failed after taken (inr (inr (size, over, small, is))) one rest asked same =
    let head = number_behind size (length one.document) [] (one.document ++ rest) small (omega (arith, asked)) (append-nil (number_bytes size) ∙ sym is ∙ same ∙ append_assoc (number_bytes (length one.document)) one.document rest) in
    omega (arith, over, asked, head.0)
