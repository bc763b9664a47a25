-- Queues that keep numbers have one for each item.
use Rattle.std.proofs.Common.{◌≡◌, ℕ, zero, suc, ◌-◌, ◌==◌, not, Bool, true, false, if◌then◌else◌, length, drop, get_or, slice_get, map, List, [], ◌∷◌, ◌++◌, Option, None, Some, IfSome, refl, sym, ap, ◌∙◌, arith}
use Rattle.std.specs.Option.{option_map, option_map_or}
use Rattle.std.proofs.lemmas.Bool.{eqb-true}
use Rattle.std.proofs.lemmas.List.{drop-map, length-map, map-append}
use Rattle.exec_msg.specs.KeepLast.{excess, sent}
use Rattle.exec_msg.specs.Places.{change_at}
use Rattle.exec_rules.proofs.Numbering.{sent_long, taken_long}
use Rattle.exec_rules.specs.Ready.{queue_taken}
use Rattle.exec_rules.specs.World.{Queue, queue_after}
use Rattle.exec_rules.specs.declared.item.Item.{Item}
use Rattle.exec_queue.specs.declared.queue.entry.Sent.{Sent}
use Rattle.exec_queue.specs.inner.Numbers.{items_of, numbers_of}
use Rattle.exec_queue.specs.inner.Queues.{HaveTheirNumbers, HasItsNumbers}

-- ---- one queue

numbered_after : (number : ℕ) (item : Item) (queue : Queue) → HasItsNumbers queue → HasItsNumbers (queue_after number item queue)
numbered_after number item queue p = by queue.arrivals p
  where
    by : (numbers : Option (List ℕ)) → IfSome numbers (λ all. length all ≡ length queue.items) → IfSome (option_map (sent queue.depth number) numbers) (λ all. length all ≡ length (sent queue.depth item queue.items))
    by None q = tt
    by (Some numbers) q = sent_long queue.depth number numbers item queue.items q

numbered_taken : (queue : Queue) → HasItsNumbers queue → HasItsNumbers (queue_taken queue)
numbered_taken queue p = by queue.arrivals p
  where
    by : (numbers : Option (List ℕ)) → IfSome numbers (λ all. length all ≡ length queue.items) → IfSome (option_map (drop 1) numbers) (λ all. length all ≡ length (drop 1 queue.items))
    by None q = tt
    by (Some numbers) q = taken_long numbers queue.items q

-- from a queue without an item nothing is taken
none_taken : {A : Type 0} (xs : List A) → length xs ≡ 0 → xs ≡ drop 1 xs
none_taken [] is = refl
none_taken (x ∷ xs) is = absurd (omega (arith, is))

pub nothing_taken : (queue : Queue) → HasItsNumbers queue → not (length queue.items == 0) ≡ false → queue ≡ queue_taken queue
nothing_taken queue p is = λ i. record queue { items = none_taken queue.items none i; arrivals = by queue.arrivals p i }
  where
    no : (b : Bool) → not b ≡ false → b ≡ true
    no true e = refl
    no false e = sym e

    none : length queue.items ≡ 0
    none = eqb-true (length queue.items) 0 (no (length queue.items == 0) is)

    by : (numbers : Option (List ℕ)) → IfSome numbers (λ all. length all ≡ length queue.items) → numbers ≡ option_map (drop 1) numbers
    by None q = refl
    by (Some numbers) q = ap (λ (all : List ℕ). Some all) (none_taken numbers (q ∙ none))

-- ---- lists of them

pub numbered_declared : (queues : List Queue) (queue : Queue) → HaveTheirNumbers queues → HasItsNumbers queue → HaveTheirNumbers (queues ++ queue ∷ [])
numbered_declared [] queue p q = (q, tt)
numbered_declared (first ∷ queues) queue p q = (p.0, numbered_declared queues queue p.1 q)

numbered_changed : (change : Queue → Queue) → ((queue : Queue) → HasItsNumbers queue → HasItsNumbers (change queue)) → (place : ℕ) (queues : List Queue) → HaveTheirNumbers queues → HaveTheirNumbers (change_at place change queues)
numbered_changed change keeps place [] p = tt
numbered_changed change keeps zero (queue ∷ queues) p = (keeps queue p.0, p.1)
numbered_changed change keeps (suc place) (queue ∷ queues) p = (p.0, numbered_changed change keeps place queues p.1)

pub numbered_sent : (place number : ℕ) (item : Item) (queues : List Queue) → HaveTheirNumbers queues → HaveTheirNumbers (change_at place (queue_after number item) queues)
numbered_sent place number item = numbered_changed (queue_after number item) (numbered_after number item) place

pub all_numbered_taken : (queues : List Queue) → HaveTheirNumbers queues → HaveTheirNumbers (map queue_taken queues)
all_numbered_taken [] p = tt
all_numbered_taken (queue ∷ queues) p = (numbered_taken queue p.0, all_numbered_taken queues p.1)

-- ---- what lies in an entry's ring

-- an item that is sent to a list is sent to what is read of it
sent_map : {A B : Type 0} (f : A → B) (depth : ℕ) (x : A) (xs : List A) → map f (sent depth x xs) ≡ sent depth (f x) (map f xs)
sent_map f depth x xs =
    let long = length-map (xs ++ x ∷ []) f in
    sym (drop-map f (excess depth (xs ++ x ∷ [])) (xs ++ x ∷ []))
    ∙ ap (λ (n : ℕ). drop (n - depth) (map f (xs ++ x ∷ []))) (sym long)
    ∙ ap (λ ys. drop (excess depth ys) ys) (map-append f xs (x ∷ []))

-- what is read of a ring that an item was sent to
pub items_sent : (depth : ℕ) (one : Sent) (all : List Sent) → items_of (sent depth one all) ≡ sent depth one.item (items_of all)
items_sent depth one all = sent_map (λ (one : Sent). one.item) depth one all

pub numbers_sent : (numbered : Bool) (depth : ℕ) (one : Sent) (all : List Sent) → numbers_of numbered (sent depth one all) ≡ option_map (sent depth one.number) (numbers_of numbered all)
numbers_sent false depth one all = refl
numbers_sent true depth one all = ap (λ (numbers : List ℕ). Some numbers) (sent_map (λ (one : Sent). one.number) depth one all)

-- the first number, if numbers are kept
pub first_kept : (numbered : Bool) (all : List Sent) → option_map_or (λ numbers. get_or numbers 0 0) (numbers_of numbered all) 0 ≡ option_map_or (λ (one : Sent). if numbered then one.number else 0) (slice_get all 0) 0
first_kept false [] = refl
first_kept false (one ∷ all) = refl
first_kept true [] = refl
first_kept true (one ∷ all) = refl

-- each item has its number, if numbers are kept
pub numbered_by : (numbered : Bool) (all : List Sent) → IfSome (numbers_of numbered all) (λ numbers. length numbers ≡ length (items_of all))
numbered_by false all = tt
numbered_by true all = length-map all (λ (one : Sent). one.number) ∙ sym (length-map all (λ (one : Sent). one.item))
