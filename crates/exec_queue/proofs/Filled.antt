-- The places of the queues that have an item, in ascending order.
use Rattle.std.proofs.Common.{◌≡◌, ℕ, zero, suc, ◌+◌, ◌-◌, ◌<◌, ◌≤◌, ◌&&◌, ◌==◌, ◌⊎◌, inl, inr, ⊎_elim, Bool, true, false, not, cond, if◌then◌else◌, length, map, filter, drop, get_or, List, [], ◌∷◌, ◌++◌, Option, Some, slice_get, slice_set, refl, sym, ap, subst, ◌∙◌, arith}
use Rattle.std.specs.Bool.{⊤}
use Rattle.std.specs.List.{AllByRecursion, Contains, flat_map}
use Rattle.std.specs.List.Sorted.{IsStrictlyIncreasing}
use Rattle.std.specs.Option.{option_map, option_map_or}
use Rattle.std.proofs.lemmas.Bool.{cases_lt, eqb-true}
use Rattle.std.proofs.lemmas.List.Elements.{All-contains, filter_passes}
use Rattle.exec_rules.specs.Ready.{queue_taken}
use Rattle.exec_rules.specs.World.{Queue, is_queue}
use Rattle.exec_rules.specs.declared.item.Item.{Item}
use Rattle.exec_msg.specs.Places.{first_place, change_at}
use Rattle.exec_rules.specs.inner.Places.{places_from, places_where, change_each}
use Rattle.exec_queue.proofs.Numbered.{nothing_taken}
use Rattle.exec_queue.specs.inner.Queues.{has_item, is_filled_at, is_in_part, is_in_part_at, HaveTheirNumbers, HasItsNumbers, FindsQueues, CoversFilled, AreFilled}

-- places that rise from one on
abbrev pub Rising : ℕ → List ℕ → Type 0
Rising from [] = ⊤
Rising from (place ∷ places) = (from ≤ place) × Rising (suc place) places

abbrev pub Holds : List ℕ → ℕ → Type 0
Holds [] place = ⊥
Holds (first ∷ places) place = (first ≡ place) ⊎ Holds places place

abbrev pub Low : ℕ → List ℕ → Type 0
Low from [] = ⊤
Low from (place ∷ places) = from ≤ place

rising_of : (from : ℕ) (xs : List ℕ) → Low from xs → IsStrictlyIncreasing xs → Rising from xs
rising_of from [] low h = tt
rising_of from (x ∷ []) low h = (low, tt)
rising_of from (x ∷ y ∷ xs) low h =
    let first : x < y = h 0 (omega arith) in
    (low, rising_of (suc x) (y ∷ xs) (omega arith) (λ k within. let e : suc k + 1 ≡ suc (k + 1) = omega arith in subst (λ n. get_or (y ∷ xs) k 0 < get_or (x ∷ y ∷ xs) n 0) e (h (suc k) (omega arith))))

low_zero : (xs : List ℕ) → Low 0 xs
low_zero [] = tt
low_zero (x ∷ xs) = omega arith

holds_of : (xs : List ℕ) (place k : ℕ) → k < length xs → get_or xs k place ≡ place → Holds xs place
holds_of [] place k within is = absurd (omega arith)
holds_of (x ∷ xs) place zero within is = inl is
holds_of (x ∷ xs) place (suc k) within is = inr (holds_of xs place k (omega arith) is)

too_low : (from : ℕ) (xs : List ℕ) (place : ℕ) → Rising from xs → place < from → Holds xs place → ⊥
too_low from [] place rising low held = held
too_low from (x ∷ xs) place rising low (inl same) = let above = rising.0 in omega arith
too_low from (x ∷ xs) place rising low (inr held) = let above = rising.0 in too_low (suc x) xs place rising.1 (omega arith) held

none_kept : (g : ℕ → Bool) (from : ℕ) (raw : List ℕ) → Rising from raw → ((place : ℕ) → from ≤ place → g place ≡ false) → filter g raw ≡ []
none_kept g from [] rising none = refl
none_kept g from (r ∷ rs) rising none =
    let above = rising.0 in
    ap (λ b. cond b (r ∷ filter g rs) (filter g rs)) (none r above) ∙ none_kept g (suc r) rs rising.1 (λ place higher. none place (omega arith))

skipped : (b : Bool) (n : ℕ) (kept rest : List ℕ) → (b ≡ true → ⊥) → kept ≡ rest → kept ≡ (if b then n ∷ rest else rest)
skipped true n kept rest not_so is = absurd (not_so refl)
skipped false n kept rest not_so is = is

taken_in : (b : Bool) (r n : ℕ) (kept rest : List ℕ) → r ≡ n → kept ≡ rest → cond b (r ∷ kept) kept ≡ (if b then n ∷ rest else rest)
taken_in true r n kept rest same is = λ i. same i ∷ is i
taken_in false r n kept rest same is = is

not_first : (r n k : ℕ) (rs : List ℕ) → r ≡ n → Holds (r ∷ rs) (n + suc k) → Holds rs (suc n + k)
not_first r n k rs same (inl is) = absurd (omega arith)
not_first r n k rs same (inr held) = let e : n + suc k ≡ suc n + k = omega arith in subst (Holds rs) e held

module _ {A : Type 0} (test : A → Bool) (g : ℕ → Bool) where
  -- rising places that cover all that pass, without those that don't, are the places of those that pass
  kept_is : (n : ℕ) (xs : List A) (raw : List ℕ) → Rising n raw
      → ((k : ℕ) → g (n + k) ≡ option_map_or test (slice_get xs k) false)
      → ((k : ℕ) → option_map_or test (slice_get xs k) false ≡ true → Holds raw (n + k))
      → filter g raw ≡ places_from n test xs
  kept_is n [] raw rising reads covers = none_kept g n raw rising (λ place above. let e : place ≡ n + (place - n) = omega arith in ap g e ∙ reads (place - n))
  kept_is n (x ∷ xs) [] rising reads covers =
      let rest = kept_is (suc n) xs [] tt (λ k. let e : suc n + k ≡ n + suc k = omega arith in ap g e ∙ reads (suc k)) (λ k is. covers (suc k) is) in
      skipped (test x) n [] (places_from (suc n) test xs) (λ is. covers 0 is) rest
  kept_is n (x ∷ xs) (r ∷ rs) rising reads covers =
      let above = rising.0 in
      ⊎_elim
      (λ higher. let rest = kept_is (suc n) xs (r ∷ rs) (higher_than higher, rising.1) (λ k. let e : suc n + k ≡ n + suc k = omega arith in ap g e ∙ reads (suc k)) (λ k is. let e : n + suc k ≡ suc n + k = omega arith in subst (Holds (r ∷ rs)) e (covers (suc k) is)) in
      skipped (test x) n (filter g (r ∷ rs)) (places_from (suc n) test xs) (λ is. too_low (suc n) (r ∷ rs) (n + 0) (higher_than higher, rising.1) (omega arith) (covers 0 is)) rest)
      (λ low. let same : r ≡ n = omega arith in
      let e : r ≡ n + 0 = omega arith in
      let rest = kept_is (suc n) xs rs (subst (λ m. Rising (suc m) rs) same rising.1) (λ k. let e : suc n + k ≡ n + suc k = omega arith in ap g e ∙ reads (suc k)) (λ k is. not_first r n k rs same (covers (suc k) is)) in
      ap (λ b. cond b (r ∷ filter g rs) (filter g rs)) (ap g e ∙ reads 0) ∙ taken_in (test x) r n (filter g rs) (places_from (suc n) test xs) same rest)
      (cases_lt n r)
    where
      higher_than : n < r → suc n ≤ r
      higher_than higher = omega arith

-- what is left of rising places that cover the filled queues
rising_left : (queues : List Queue) (sorted : List ℕ) → IsStrictlyIncreasing sorted → CoversFilled sorted queues
    → filter (λ place. is_filled_at queues place) sorted ≡ places_where has_item queues
rising_left queues sorted rises covers =
    kept_is has_item (λ place. is_filled_at queues place) 0 queues sorted (rising_of 0 sorted (low_zero sorted) rises)
    (λ k. let e : 0 + k ≡ k = omega arith in ap (is_filled_at queues) e)
    (λ k is. let held = covers k is in let e : k ≡ 0 + k = omega arith in subst (Holds sorted) e (holds_of sorted k held.0 held.1 held.2))

all_kept : (g : ℕ → Bool) (xs : List ℕ) → ((x : ℕ) → Contains xs x → g x ≡ true) → filter g xs ≡ xs
all_kept g [] all = refl
all_kept g (x ∷ xs) all =
    ap (λ b. cond b (x ∷ filter g xs) (filter g xs)) (all x (0, omega arith, refl))
    ∙ ap (λ ys. x ∷ ys) (all_kept g xs (λ y held. let within = held.1 in all y (suc held.0, omega arith, held.2)))

-- ---- places that were put in order

module _ (queues : List Queue) (places sorted : List ℕ) where
  pub covers_settled : ((place : ℕ) → Contains places place → Contains sorted place) → CoversFilled places queues → CoversFilled sorted queues
  covers_settled keeps covers = λ place is. keeps place (covers place is)

  pub filled_settled : ((place : ℕ) → Contains sorted place → Contains places place) → AreFilled places queues → AreFilled sorted queues
  filled_settled only filled = λ place held. filled place (only place held)

  -- they are those of the queues that have an item
  pub settled : IsStrictlyIncreasing sorted → ((place : ℕ) → Contains places place → Contains sorted place) → ((place : ℕ) → Contains sorted place → Contains places place)
      → CoversFilled places queues → AreFilled places queues → sorted ≡ places_where has_item queues
  settled rises keeps only covers filled =
      sym (all_kept (λ place. is_filled_at queues place) sorted (filled_settled only filled)) ∙ rising_left queues sorted rises (covers_settled keeps covers)

-- ---- places of which those of empty queues were left out

contains_first : (b : Bool) (x place : ℕ) (ys : List ℕ) → b ≡ true → x ≡ place → Contains (cond b (x ∷ ys) ys) place
contains_first true x place ys is same = (0, omega arith, same)
contains_first false x place ys is same = absurd cc

contains_more : (b : Bool) (x place : ℕ) (ys : List ℕ) → Contains ys place → Contains (cond b (x ∷ ys) ys) place
contains_more true x place ys held = let within = held.1 in (suc held.0, omega arith, held.2)
contains_more false x place ys held = held

contains_kept : (g : ℕ → Bool) (xs : List ℕ) (place k : ℕ) → k < length xs → get_or xs k place ≡ place → g place ≡ true → Contains (filter g xs) place
contains_kept g [] place k within is passes = absurd (omega arith)
contains_kept g (x ∷ xs) place zero within is passes = contains_first (g x) x place (filter g xs) (ap g is ∙ passes) is
contains_kept g (x ∷ xs) place (suc k) within is passes = contains_more (g x) x place (filter g xs) (contains_kept g xs place k (omega arith) is passes)

-- places that cover the filled queues do so without those of empty ones
pub filled_covers : (queues : List Queue) (places new : List ℕ) → new ≡ filter (λ place. is_filled_at queues place) places → CoversFilled places queues → CoversFilled new queues
filled_covers queues places new is covers = λ place filled.
    let held = covers place filled in
    subst (λ ps. Contains ps place) (sym is) (contains_kept (λ place. is_filled_at queues place) places place held.0 held.1 held.2 filled)

-- each of those that are left is that of a queue with an item
pub filled_left : (queues : List Queue) (places new : List ℕ) → new ≡ filter (λ place. is_filled_at queues place) places → AreFilled new queues
filled_left queues places new is = λ place held.
    All-contains (λ other. is_filled_at queues other ≡ true) (filter (λ other. is_filled_at queues other) places) place
    (filter_passes (λ other. is_filled_at queues other) places) (subst (λ ps. Contains ps place) is held)

-- ---- a queue that an item is sent to

not_by : (b : Bool) → (b ≡ true → ⊥) → not b ≡ true
not_by true differs = absurd (differs refl)
not_by false differs = refl

-- and the place at which it is written is that of one
pub filled_written : (queues : List Queue) (place : ℕ) (after : Queue) → has_item after ≡ true → place < length queues → is_filled_at (slice_set queues place after) place ≡ true
filled_written [] place after has within = absurd (omega arith)
filled_written (queue ∷ queues) zero after has within = has
filled_written (queue ∷ queues) (suc place) after has within = filled_written queues place after has (omega arith)

-- ---- what is changed at each place

module _ {A : Type 0} (test : A → Bool) (change : A → A) where
  shifted_by : (b : Bool) (n : ℕ) (rest later : List ℕ) (z : A) (zs : List A)
      → ((ys : List A) → change_each later change (z ∷ ys) ≡ z ∷ change_each rest change ys)
      → change_each (if b then suc n ∷ later else later) change (z ∷ zs) ≡ z ∷ change_each (if b then n ∷ rest else rest) change zs
  shifted_by true n rest later z zs is = is (change_at n change zs)
  shifted_by false n rest later z zs is = is zs

  shifted : (n : ℕ) (xs : List A) (z : A) (zs : List A) → change_each (places_from (suc n) test xs) change (z ∷ zs) ≡ z ∷ change_each (places_from n test xs) change zs
  shifted n [] z zs = refl
  shifted n (x ∷ xs) z zs = shifted_by (test x) n (places_from (suc n) test xs) (places_from (suc (suc n)) test xs) z zs (λ ys. shifted (suc n) xs z ys)

  changed_by : (b : Bool) (x : A) (xs changed : List A) (places : List ℕ) → (b ≡ false → x ≡ change x)
      → ((z : A) → change_each places change (z ∷ xs) ≡ z ∷ changed) → change_each (if b then 0 ∷ places else places) change (x ∷ xs) ≡ change x ∷ changed
  changed_by true x xs changed places same is = is (change x)
  changed_by false x xs changed places same is = is x ∙ ap (λ y. y ∷ changed) (same refl)

  all_changed : (P : A → Type 0) → ((x : A) → P x → test x ≡ false → x ≡ change x) → (xs : List A) → AllByRecursion P xs → change_each (places_where test xs) change xs ≡ map change xs
  all_changed P same [] p = refl
  all_changed P same (x ∷ xs) p = changed_by (test x) x xs (map change xs) (places_from 1 test xs) (same x p.0) (λ z. shifted 0 xs z xs ∙ ap (λ ys. z ∷ ys) (all_changed P same xs p.1))

-- each queue loses its first item
pub all_taken : (queues : List Queue) → HaveTheirNumbers queues → change_each (places_where has_item queues) queue_taken queues ≡ map queue_taken queues
all_taken queues numbered = all_changed has_item queue_taken HasItsNumbers (λ queue p is. nothing_taken queue p is) queues numbered

had_item : (items : List Item) → not (length (drop 1 items) == 0) ≡ true → not (length items == 0) ≡ true
had_item [] is = is
had_item (item ∷ items) is = not_by (length (item ∷ items) == 0) (λ none. let e = eqb-true (length (item ∷ items)) 0 none in omega arith)

was_filled : (queues : List Queue) (place : ℕ) → is_filled_at (map queue_taken queues) place ≡ true → is_filled_at queues place ≡ true
was_filled [] place is = is
was_filled (queue ∷ queues) zero is = had_item queue.items is
was_filled (queue ∷ queues) (suc place) is = was_filled queues place is

-- what is covered is so still
pub covers_taken : (places : List ℕ) (queues after : List Queue) → CoversFilled places queues → after ≡ map queue_taken queues → CoversFilled places after
covers_taken places queues after covers is = λ place filled. covers place (was_filled queues place (ap (λ these. is_filled_at these place) (sym is) ∙ filled))

found_taken : (test : Queue → Bool) → ((queue : Queue) → test (queue_taken queue) ≡ test queue) → (queues : List Queue) → first_place test (map queue_taken queues) ≡ first_place test queues
found_taken test same [] = refl
found_taken test same (queue ∷ queues) = λ i. if same queue i then Some zero else option_map suc (found_taken test same queues i)

-- and what is found, too
pub finds_taken : (slots : List (Option ℕ)) (queues after : List Queue) → FindsQueues slots queues → after ≡ map queue_taken queues → FindsQueues slots after
finds_taken slots queues after finds is = λ entity kind.
    finds entity kind ∙ sym (found_taken (is_queue entity kind) (λ queue. refl) queues) ∙ ap (first_place (is_queue entity kind)) (sym is)

-- ---- those of one part

module _ {A : Type 0} (first second : A → Bool) (g : ℕ → Bool) where
  parted : (b c : Bool) (n : ℕ) (kept rest : List ℕ) → g n ≡ c → filter g kept ≡ rest
      → filter g (if b then n ∷ kept else kept) ≡ (if (b && c) then n ∷ rest else rest)
  parted false c n kept rest reads is = is
  parted true true n kept rest reads is = ap (λ d. cond d (n ∷ filter g kept) (filter g kept)) reads ∙ ap (λ ys. n ∷ ys) is
  parted true false n kept rest reads is = ap (λ d. cond d (n ∷ filter g kept) (filter g kept)) reads ∙ is

  both_from : (n : ℕ) (xs : List A) → ((k : ℕ) → g (n + k) ≡ option_map_or second (slice_get xs k) false)
      → filter g (places_from n first xs) ≡ places_from n (λ x. first x && second x) xs
  both_from n [] reads = refl
  both_from n (x ∷ xs) reads =
      let e : n ≡ n + 0 = omega arith in
      parted (first x) (second x) n (places_from (suc n) first xs) (places_from (suc n) (λ x. first x && second x) xs) (ap g e ∙ reads 0)
      (both_from (suc n) xs (λ k. let e : suc n + k ≡ n + suc k = omega arith in ap g e ∙ reads (suc k)))

-- the filled queues of one part
pub in_part : (before : Bool) (queues : List Queue)
    → filter (λ place. is_in_part_at before queues place) (places_where has_item queues) ≡ places_where (λ queue. has_item queue && is_in_part before queue) queues
in_part before queues = both_from has_item (is_in_part before) (λ place. is_in_part_at before queues place) 0 queues (λ k. let e : 0 + k ≡ k = omega arith in ap (is_in_part_at before queues) e)

-- ---- what a walk over them gives

module _ {B : Type 0} (test : Queue → Bool) (f : Queue → List B) (given : ℕ → List B) where
  given_by : (b c : Bool) (n : ℕ) (queue : Queue) (places : List ℕ) (rest : List B) → given n ≡ f queue → (b ≡ false → f queue ≡ []) → flat_map given places ≡ rest
      → flat_map given (if (b && c) then n ∷ places else places) ≡ (if c then f queue ++ rest else rest)
  given_by true true n queue places rest reads none is = λ i. reads i ++ is i
  given_by true false n queue places rest reads none is = is
  given_by false true n queue places rest reads none is = is ∙ ap (λ first. first ++ rest) (sym (none refl))
  given_by false false n queue places rest reads none is = is

  filtered_by : (c : Bool) (queue : Queue) (queues : List Queue) → (if c then f queue ++ flat_map f queues else flat_map f queues) ≡ flat_map f (cond c (queue ∷ queues) queues)
  filtered_by true queue queues = refl
  filtered_by false queue queues = refl

  given_from : ((queue : Queue) → has_item queue ≡ false → f queue ≡ []) → (n : ℕ) (queues : List Queue) → ((k : ℕ) → given (n + k) ≡ option_map_or f (slice_get queues k) [])
      → flat_map given (places_from n (λ queue. has_item queue && test queue) queues) ≡ flat_map f (filter test queues)
  given_from none n [] reads = refl
  given_from none n (queue ∷ queues) reads =
      let e : n ≡ n + 0 = omega arith in
      given_by (has_item queue) (test queue) n queue (places_from (suc n) (λ queue. has_item queue && test queue) queues) (flat_map f (filter test queues)) (ap given e ∙ reads 0) (none queue)
      (given_from none (suc n) queues (λ k. let e : suc n + k ≡ n + suc k = omega arith in ap given e ∙ reads (suc k)))
      ∙ filtered_by (test queue) queue (filter test queues)

-- what empty queues give nothing of is given by a walk over the filled ones
pub given_each : {B : Type 0} (test : Queue → Bool) (f : Queue → List B) → ((queue : Queue) → has_item queue ≡ false → f queue ≡ []) → (queues : List Queue)
    → flat_map (λ place. option_map_or f (slice_get queues place) []) (places_where (λ queue. has_item queue && test queue) queues) ≡ flat_map f (filter test queues)
given_each test f none queues =
    given_from test f (λ place. option_map_or f (slice_get queues place) []) none 0 queues (λ k. let e : 0 + k ≡ k = omega arith in ap (λ place. option_map_or f (slice_get queues place) []) e)
