-- A look-up by entity and kind gives the place of the first such queue, and places with items are covered.
use Rattle.std.proofs.Common.{◌≡◌, ℕ, Bool, zero, suc, ◌+◌, ◌*◌, ◌-◌, ◌<◌, ◌≤◌, ◌&&◌, ◌==◌, ⊎_elim, true, false, not, length, List, [], ◌∷◌, ◌++◌, Option, Some, None, IfSome, if◌then◌else◌, inl, inr, ◌⊎◌, slice_get, take, refl, sym, ap, subst, ◌∙◌, arith}
use Rattle.std.specs.List.{Contains, find}
use Rattle.std.specs.Option.{option_map_or, option_to_list}
use Rattle.std.proofs.lemmas.Bool.{eqb-true, eq-eqb, both_ways, and_parts}
use Rattle.std.proofs.lemmas.List.{length_push}
use Rattle.std.proofs.lemmas.List.Elements.{Contains-append_left, Contains-push, Contains-push_cases}
use Rattle.exec_msg.specs.KeepLast.{displaced}
use Rattle.exec_msg.specs.Kind.{ready_number}
use Rattle.exec_msg.specs.declared.kind.Kind.{Kind}
use Rattle.exec_msg.specs.declared.kind.Kind.TheVariants as kind
use Rattle.exec_msg.proofs.FirstPlaces.{find-first_place, first_place-changed, first_place-behind, noted_at, place_or, there_or_same}
use Rattle.exec_rules.specs.World.{Queue, is_queue, queue_after}
use Rattle.exec_rules.specs.declared.item.Item.{Item}
use Rattle.exec_msg.specs.Places.{first_place, place_under, change_at, first_noted}
use Rattle.exec_queue.specs.inner.Queues.{queue_number, has_item, is_filled_at, FindsQueues, CoversFilled, AreFilled}

-- what a look-up gives is the first place
pub looked_up : (places : List (Option ℕ)) (queues held : List Queue) → FindsQueues places queues → queues ≡ held
    → (entity : ℕ) (given of : Kind) → given ≡ of → (slot : ℕ) → slot ≡ queue_number entity given
    → (found : Option ℕ) → found ≡ place_under slot places → first_place (is_queue entity of) held ≡ found
looked_up places queues held finds views entity given of named slot counted found is =
    ap (first_place (is_queue entity of)) (sym views)
    ∙ sym (finds entity of)
    ∙ ap (λ (n : ℕ). place_under n places) (ap (queue_number entity) (sym named) ∙ sym counted)
    ∙ sym is

-- a queue that an item is sent to is found as before
pub finds_after : (places : List (Option ℕ)) (queues after : List Queue) (place number : ℕ) (item : Item) → FindsQueues places queues
    → after ≡ change_at place (queue_after number item) queues → FindsQueues places after
finds_after places queues after place number item finds is = λ entity kind.
    finds entity kind
    ∙ sym (first_place-changed (is_queue entity kind) (queue_after number item) (λ queue. refl) place queues)
    ∙ ap (first_place (is_queue entity kind)) (sym is)

-- ---- the place of a queue that an item is sent to is noted unless it had one

still_by : (b : Bool) (old : List ℕ) (place other : ℕ) → Contains old other → Contains (if b then old else old ++ place ∷ []) other
still_by true old place other held = held
still_by false old place other held = Contains-append_left old (place ∷ []) other held

has_by : (b : Bool) (old : List ℕ) (place : ℕ) → (b ≡ true → Contains old place) → Contains (if b then old else old ++ place ∷ []) place
has_by true old place there = there refl
has_by false old place there = Contains-push old place

only_by : (b : Bool) (old : List ℕ) (place other : ℕ) → Contains (if b then old else old ++ place ∷ []) other → (place ≡ other) ⊎ Contains old other
only_by true old place other held = inr held
only_by false old place other held = ⊎_elim inr inl (Contains-push_cases old place other held)

module _ (old new : List ℕ) (queues after : List Queue) (place : ℕ) (change : Queue → Queue)
    (noted : new ≡ (if is_filled_at queues place then old else old ++ place ∷ [])) (is : after ≡ change_at place change queues) where
  -- the filled queues stay covered
  pub covers_after : CoversFilled old queues → CoversFilled new after
  covers_after covers = λ other filled.
      subst (λ places. Contains places other) (sym noted)
      (⊎_elim
      (λ same. subst (Contains (if is_filled_at queues place then old else old ++ place ∷ [])) same (has_by (is_filled_at queues place) old place (covers place)))
      (λ kept. still_by (is_filled_at queues place) old place other (covers other (ap (λ found. option_map_or has_item found false) (sym kept) ∙ ap (λ these. is_filled_at these other) (sym is) ∙ filled)))
      (there_or_same change place other queues))

  -- and no other is noted
  pub filled_after : is_filled_at after place ≡ true → AreFilled old queues → AreFilled new after
  filled_after has filled = λ other held.
      ⊎_elim
      (λ same. subst (λ at. is_filled_at after at ≡ true) same has)
      (λ kept. ⊎_elim
      (λ same. subst (λ at. is_filled_at after at ≡ true) same has)
      (λ before. ap (λ these. is_filled_at these other) is ∙ ap (λ found. option_map_or has_item found false) kept ∙ filled other before)
      (only_by (is_filled_at queues place) old place other (subst (λ places. Contains places other) noted held)))
      (there_or_same change place other queues)

-- ---- one queue more

number_bound : (of : Kind) → ready_number of ≤ 12
number_bound kind.Timer = omega arith
number_bound kind.Message = omega arith
number_bound kind.Request = omega arith
number_bound kind.Reply = omega arith
number_bound kind.Goal = omega arith
number_bound kind.Cancel = omega arith
number_bound kind.Ask = omega arith
number_bound kind.Poll = omega arith
number_bound kind.Response = omega arith
number_bound kind.Code = omega arith
number_bound kind.Feedback = omega arith
number_bound kind.Result = omega arith

both_true : (a b m n : ℕ) → (a ≡ b) → (m ≡ n) → ((a == b) && (m == n)) ≡ true
both_true a b m n first second = (λ i. (eq-eqb a b first i) && (eq-eqb m n second i))

same_slot : (a b m n : ℕ) → ((a == b) && (m == n)) ≡ true → a * 13 + m ≡ b * 13 + n
same_slot a b m n is = λ i. eqb-true a b ((and_parts (a == b) (m == n) is).0) i * 13 + eqb-true m n ((and_parts (a == b) (m == n) is).1) i

other_slot : (a b m n : ℕ) → m ≤ 12 → n ≤ 12 → ((a == b) && (m == n)) ≡ false → a * 13 + m ≡ b * 13 + n → ⊥
other_slot a b m n low high is same =
    let first : a ≡ b = omega arith in
    let second : m ≡ n = omega arith in
    both_ways ((a == b) && (m == n)) is (both_true a b m n first second)

-- each look-up finds as before, or the queue that is declared
pub finds_behind : (old made new : List (Option ℕ)) (queues : List Queue) (queue : Queue) (entity slot : ℕ) (of : Kind) → FindsQueues old queues
    → ((other : ℕ) → place_under other made ≡ place_under other old) → slot < length made
    → slot ≡ queue_number entity of → queue.handler.entity ≡ entity → queue.kind ≡ of → new ≡ change_at slot (first_noted (length queues)) made
    → FindsQueues new (queues ++ queue ∷ [])
finds_behind old made new queues queue entity slot of finds same within counted is_entity is_kind is = λ other kind.
    ap (λ places. place_under (queue_number other kind) places) is
    ∙ noted_at (is_queue other kind queue) (length queues) slot (queue_number other kind) made within
    (λ yes. at ∙ same_slot queue.handler.entity other (ready_number queue.kind) (ready_number kind) yes)
    (λ no here. other_slot queue.handler.entity other (ready_number queue.kind) (ready_number kind) (number_bound queue.kind) (number_bound kind) no (sym at ∙ here))
    ∙ ap (λ found. place_or found (is_queue other kind queue) (length queues)) (same (queue_number other kind) ∙ finds other kind)
    ∙ sym (first_place-behind (is_queue other kind) queues queue)
  where
    at : slot ≡ queue_number queue.handler.entity queue.kind
    at = counted ∙ (λ i. queue_number (sym is_entity i) (sym is_kind i))

filled_behind : (queues : List Queue) (queue : Queue) (place : ℕ) → queue.items ≡ [] → is_filled_at (queues ++ queue ∷ []) place ≡ is_filled_at queues place
filled_behind [] queue zero is = ap (λ items. not (length items == 0)) is
filled_behind [] queue (suc place) is = refl
filled_behind (first ∷ queues) queue zero is = refl
filled_behind (first ∷ queues) queue (suc place) is = filled_behind queues queue place is

-- an empty queue needs no place
pub covers_behind : (filled : List ℕ) (queues : List Queue) (queue : Queue) → CoversFilled filled queues → queue.items ≡ [] → CoversFilled filled (queues ++ queue ∷ [])
covers_behind filled queues queue covers empty = λ place is. covers place (sym (filled_behind queues queue place empty) ∙ is)

-- and has none noted
pub filled_declared : (filled : List ℕ) (queues : List Queue) (queue : Queue) → AreFilled filled queues → queue.items ≡ [] → AreFilled filled (queues ++ queue ∷ [])
filled_declared filled queues queue are empty = λ place held. filled_behind queues queue place empty ∙ are place held

-- ---- what is lost

one_at_most : {A : Type 0} (n : ℕ) (xs : List A) → n ≤ 1 → option_to_list (slice_get (take n xs) 0) ≡ take n xs
one_at_most zero xs low = refl
one_at_most (suc zero) [] low = refl
one_at_most (suc zero) (x ∷ xs) low = refl
one_at_most (suc (suc n)) xs low = absurd (omega arith)

lost_of : (found : Option Queue) (item : Item) → IfSome found (λ queue. length queue.items ≤ queue.depth)
    → option_to_list (option_map_or (λ queue. slice_get (displaced queue.depth item queue.items) 0) found None) ≡ option_map_or (λ queue. displaced queue.depth item queue.items) found []
lost_of None item bound = refl
lost_of (Some queue) item bound =
    let long = length_push queue.items item in
    one_at_most (length (queue.items ++ item ∷ []) - queue.depth) (queue.items ++ item ∷ []) (omega (arith, long))

-- what a queue loses is no more than one item
pub lost_is : (found : Option Queue) (item : Item) (lost : Option Item) → IfSome found (λ queue. length queue.items ≤ queue.depth)
    → lost ≡ option_map_or (λ queue. slice_get (displaced queue.depth item queue.items) 0) found None
    → option_to_list lost ≡ option_map_or (λ queue. displaced queue.depth item queue.items) found []
lost_is found item lost bound is = ap option_to_list is ∙ lost_of found item bound

-- ---- where memory is refused

-- the first queue that passes a test has no item where none stands at its place
pub found_empty : (test : Queue → Bool) (held read : List Queue) (place : ℕ) → first_place test held ≡ Some place → read ≡ held
    → is_filled_at read place ≡ false → option_map_or has_item (find test held) false ≡ false
found_empty test held read place at is empty =
    ap (λ found. option_map_or has_item found false) (find-first_place test held place at)
    ∙ ap (λ queues. is_filled_at queues place) (sym is)
    ∙ empty
