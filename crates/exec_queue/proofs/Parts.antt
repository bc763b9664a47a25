-- Queues of which none is of a kind behind polls.
use Rattle.std.proofs.Common.{◌≡◌, ℕ, zero, suc, ◌&&◌, ◌||◌, Bool, true, false, not, if◌then◌else◌, map, List, [], ◌∷◌, ◌++◌, refl, sym, ap, ◌∙◌, true≢false}
use Rattle.exec_msg.specs.Places.{change_at}
use Rattle.exec_rules.specs.Ready.{queue_taken}
use Rattle.exec_rules.specs.inner.ByKind.{is_before_polls}
use Rattle.exec_rules.specs.World.{Queue}
use Rattle.exec_rules.specs.inner.Places.{places_from, places_where}
use Rattle.exec_queue.specs.inner.Queues.{has_item, is_in_part, AreBeforePolls}

not_not : (b : Bool) → not b ≡ false → b ≡ true
not_not true is = refl
not_not false is = sym is

early_behind : (queues : List Queue) (queue : Queue) → AreBeforePolls queues → not (is_before_polls queue.kind) ≡ false → AreBeforePolls (queues ++ queue ∷ [])
early_behind [] queue early is zero = is
early_behind [] queue early is (suc place) = early place
early_behind (first ∷ queues) queue early is zero = early zero
early_behind (first ∷ queues) queue early is (suc place) = early_behind queues queue (λ other. early (suc other)) is place

-- none is where one more is declared that isn't
pub early_declared : (queues : List Queue) (queue : Queue) (was now : Bool) → now ≡ (was || not (is_before_polls queue.kind)) → (was ≡ false → AreBeforePolls queues) → now ≡ false → AreBeforePolls (queues ++ queue ∷ [])
early_declared queues queue true now is early none = absurd (true≢false (sym is ∙ none))
early_declared queues queue false now is early none = early_behind queues queue (early refl) (sym is ∙ none)

-- nor by a change that keeps kinds
pub early_changed : (change : Queue → Queue) → ((queue : Queue) → (change queue).kind ≡ queue.kind) → (at : ℕ) (queues : List Queue) → AreBeforePolls queues → AreBeforePolls (change_at at change queues)
early_changed change same at [] early place = early place
early_changed change same zero (queue ∷ queues) early zero = ap (λ kind. not (is_before_polls kind)) (same queue) ∙ early zero
early_changed change same zero (queue ∷ queues) early (suc place) = early (suc place)
early_changed change same (suc at) (queue ∷ queues) early zero = early zero
early_changed change same (suc at) (queue ∷ queues) early (suc place) = early_changed change same at queues (λ other. early (suc other)) place

-- nor where each loses its first item
pub early_taken : (queues : List Queue) → AreBeforePolls queues → AreBeforePolls (map queue_taken queues)
early_taken [] early place = early place
early_taken (queue ∷ queues) early zero = early zero
early_taken (queue ∷ queues) early (suc place) = early_taken queues (λ other. early (suc other)) place

-- ---- the parts

with_part : (b c : Bool) (n : ℕ) (places kept : List ℕ) → c ≡ true → places ≡ kept → (if b then n ∷ places else places) ≡ (if (b && c) then n ∷ kept else kept)
with_part true c n places kept so is = (λ i. n ∷ is i) ∙ ap (λ d. if d then n ∷ kept else kept) (sym so)
with_part false c n places kept so is = is

all_from : (n : ℕ) (queues : List Queue) → AreBeforePolls queues → places_from n has_item queues ≡ places_from n (λ queue. has_item queue && is_in_part true queue) queues
all_from n [] early = refl
all_from n (queue ∷ queues) early =
    with_part (has_item queue) (is_before_polls queue.kind) n (places_from (suc n) has_item queues) (places_from (suc n) (λ queue. has_item queue && is_in_part true queue) queues) (not_not (is_before_polls queue.kind) (early zero))
    (all_from (suc n) queues (λ place. early (suc place)))

without_part : (b c : Bool) (n : ℕ) (kept : List ℕ) → c ≡ false → [] ≡ kept → [] ≡ (if (b && c) then n ∷ kept else kept)
without_part true c n kept so is = is ∙ ap (λ d. if d then n ∷ kept else kept) (sym so)
without_part false c n kept so is = is

none_from : (n : ℕ) (queues : List Queue) → AreBeforePolls queues → [] ≡ places_from n (λ queue. has_item queue && is_in_part false queue) queues
none_from n [] early = refl
none_from n (queue ∷ queues) early =
    without_part (has_item queue) (not (is_before_polls queue.kind)) n (places_from (suc n) (λ queue. has_item queue && is_in_part false queue) queues) (early zero) (none_from (suc n) queues (λ place. early (suc place)))

-- the places of all that have an item are those of the part before polls
pub all_before : (before : Bool) (queues : List Queue) → before ≡ true → AreBeforePolls queues → places_where has_item queues ≡ places_where (λ queue. has_item queue && is_in_part before queue) queues
all_before true queues is early = all_from 0 queues early
all_before false queues is early = absurd (true≢false (sym is))

-- and the part behind them has none
pub none_behind : (before : Bool) (queues : List Queue) → before ≡ false → AreBeforePolls queues → [] ≡ places_where (λ queue. has_item queue && is_in_part before queue) queues
none_behind true queues is early = absurd (true≢false is)
none_behind false queues is early = none_from 0 queues early
