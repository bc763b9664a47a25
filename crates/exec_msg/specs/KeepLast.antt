-- Queues that keep the last items sent: `rclcpp`'s history policy "keep last" with its depth.
use Rattle.std.specs.Prelude.{ℕ, ◌-◌, List, [], ◌∷◌, ◌++◌, length, take, drop, refl}
use Rattle.std.specs.Coded.{Coded, code_by, coded×, coded_list, coded_ℕ}

-- a queue: its items, the oldest first, and its depth
pub record BoundedQueue (A : Type 0) : Type 0 where
  pub items : List A
  pub depth : ℕ

-- how many items go beyond a depth
abbrev pub excess : {A : Type 0} → ℕ → List A → ℕ
excess depth items = length items - depth

-- what a queue of this depth holds once an item was sent to it: the last so many of its items and the new one
abbrev pub sent : {A : Type 0} → ℕ → A → List A → List A
sent depth item items = let all = items ++ item ∷ [] in drop (excess depth all) all

-- what it lost then
abbrev pub displaced : {A : Type 0} → ℕ → A → List A → List A
displaced depth item items = let all = items ++ item ∷ [] in take (excess depth all) all

-- what it holds once its first item was taken
abbrev pub after_taking : {A : Type 0} → List A → List A
after_taking items = drop 1 items

-- a queue of items that have a code has one, as each value that a generic type has in contracts
abbrev pub queue_code : {A : Type 0} → Coded A → Coded (BoundedQueue A)
queue_code {A} item =
    code_by (List A × ℕ) (coded× (coded_list item) coded_ℕ) (λ queue. (queue.items, queue.depth))
    (λ parts. record { items = parts.0; depth = parts.1 }) (λ _. refl)
