-- The entities that pass a test, by their numbers.
use Rattle.std.proofs.Common.{◌≡◌, ℕ, zero, suc, ◌+◌, ◌<◌, ◌≤◌, Bool, true, false, cond, ◌==◌, List, [], ◌∷◌, length, get_or, refl, ap, ◌∙◌, arith}
use Rattle.std.specs.List.{filter}
use Rattle.std.proofs.lemmas.Bool.{eq-eqb, ne_eqb}
use Rattle.exec_plan.specs.Graph.{EntityData, cons_if, numbers_where}
use Rattle.exec_plan.specs.declared.entity.Declared.{Declared}

-- how often a number is listed
abbrev pub times : ℕ → List ℕ → ℕ
times number list = length (filter (λ other. other == number) list)

skipped : (b : Bool) (number first : ℕ) (rest : List ℕ) → first == number ≡ false → times number (cons_if b first rest) ≡ times number rest
skipped true number first rest other = rw other refl
skipped false number first rest other = refl

-- a number below the first is not listed
pub none_below : (test : Declared → Bool) (first number : ℕ) (entities : List EntityData) → number < first → times number (numbers_where test first entities) ≡ 0
none_below test first number [] below = refl
none_below test first number (entity ∷ entities) below =
    skipped (test entity.is) number first (numbers_where test (suc first) entities) (ne_eqb first number (omega (arith, below)))
    ∙ none_below test (suc first) number entities (omega arith)

first_listed : (b : Bool) (first : ℕ) (rest : List ℕ) → times first rest ≡ 0 → times first (cons_if b first rest) ≡ cond b 1 0
first_listed true first rest none = rw (eq-eqb first first refl) (ap (λ (n : ℕ). suc n) none)
first_listed false first rest none = none

-- the number of a place is listed where what stands there passes
pub once_at : (test : Declared → Bool) (first place : ℕ) (entities : List EntityData) (default : EntityData) → place < length entities → times (first + place) (numbers_where test first entities) ≡ cond (test (get_or entities place default).is) 1 0
once_at test first place [] default within = absurd (omega arith)
once_at test first zero (entity ∷ entities) default within =
    let here : first + 0 ≡ first = omega arith in
    ap (λ (n : ℕ). times n (numbers_where test first (entity ∷ entities))) here
    ∙ first_listed (test entity.is) first (numbers_where test (suc first) entities) (none_below test (suc first) first entities (omega arith))
once_at test first (suc place) (entity ∷ entities) default within =
    let next : first + suc place ≡ suc first + place = omega arith in
    skipped (test entity.is) (first + suc place) first (numbers_where test (suc first) entities) (ne_eqb first (first + suc place) (omega arith))
    ∙ ap (λ (n : ℕ). times n (numbers_where test (suc first) entities)) next
    ∙ once_at test (suc first) place entities default (omega arith)

-- a number beyond the last is not listed
pub none_beyond : (test : Declared → Bool) (first number : ℕ) (entities : List EntityData) → first + length entities ≤ number → times number (numbers_where test first entities) ≡ 0
none_beyond test first number [] beyond = refl
none_beyond test first number (entity ∷ entities) beyond =
    skipped (test entity.is) number first (numbers_where test (suc first) entities) (ne_eqb first number (omega arith))
    ∙ none_beyond test (suc first) number entities (omega arith)
