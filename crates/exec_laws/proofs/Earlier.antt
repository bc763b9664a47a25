-- Under the order of arrival, what arrived earlier is taken earlier.
use Rattle.std.proofs.Common.{◌≡◌, ℕ, zero, suc, ◌+◌, ◌-◌, ◌<◌, ◌≤◌, ◌&&◌, ◌||◌, ◌==◌, nat_le, Bool, true, false, drop, length, map, List, [], ◌∷◌, ◌++◌, Option, Some, append_assoc, refl, sym, ap, subst, ◌∙◌, arith}
use Rattle.std.specs.List.{All, AllByRecursion, find, list_any, zip}
use Rattle.std.specs.List.Sorted.{IsNonDecreasingBy}
use Rattle.std.specs.Option.{option_map, option_map_or, unwrap_or}
use Rattle.std.proofs.lemmas.Bool.{eq-eqb, leb-false, leb-true}
use Rattle.std.proofs.lemmas.List.{append-nil, length_push}
use Rattle.std.proofs.lemmas.List.Elements.{All-from_recursion, recursion_from_All}
use Rattle.exec_msg.specs.KeepLast.{excess, sent}
use Rattle.exec_msg.specs.Kind.{ready_number}
use Rattle.exec_msg.specs.Lists.{change_first}
use Rattle.exec_msg.specs.Numbers.{GoalId, EntityNo}
use Rattle.exec_msg.specs.declared.kind.Kind.{Kind}
use Rattle.exec_plan.specs.Plan.{PlanData}
use Rattle.exec_plan.specs.declared.order.Order.{Order}
use Rattle.exec_plan.specs.declared.order.Order.TheVariants as order
use Rattle.exec_laws.proofs.Short.{all_changed}
use Rattle.exec_rules.proofs.ByArrival.{by_arrival}
use Rattle.exec_rules.proofs.Numbering.{numbered_in_rounds, sent_long, taken_long}
use Rattle.exec_rules.proofs.Pairs.{all_append, all_filter}
use Rattle.exec_rules.proofs.Running.{KeptByRounds, rounds_keep, snapshot_keeps}
use Rattle.exec_rules.specs.Close.{held_goal, server_accepting}
use Rattle.exec_rules.specs.Item.{taker_of}
use Rattle.exec_rules.specs.Ready.{queue_taken, ready_list}
use Rattle.exec_rules.specs.Transcript.{at_snapshot, first_world, rounds, server_expired}
use Rattle.exec_rules.specs.World.{Handler, HeldGoal, Queue, ServerEntry, WorldState, arrived, held_at, held_in, is_for, is_queue, is_server_at, next_arrival, next_in, queue_after, records_of, with_goals, with_held, standing}
use Rattle.exec_rules.specs.declared.item.Item.{Item}
use Rattle.exec_rules.specs.declared.ready.Ready.{Ready}
use Rattle.exec_rules.specs.inner.Numbering.{IsNumbered}
use Rattle.exec_laws.specs.Arrivals.{AreLeftOf, HadItsNumber, HasEarlierFirst, arrival_of, arrived_as, arrived_in, numbered_items, numbers_in}
use Rattle.exec_rules.proofs.Records.{all_put}
use Rattle.exec_goal.specs.Table.{GoalRecord}

-- ---- numbers beside items

module _ {A B : Type 0} where
  zip_pushed : (xs : List A) (ys : List B) (x : A) (y : B) → length xs ≡ length ys → zip (xs ++ x ∷ []) (ys ++ y ∷ []) ≡ zip xs ys ++ (x, y) ∷ []
  zip_pushed [] [] x y same = refl
  zip_pushed [] (b ∷ ys) x y same = absurd (omega (arith, same))
  zip_pushed (a ∷ xs) [] x y same = absurd (omega (arith, same))
  zip_pushed (a ∷ xs) (b ∷ ys) x y same = ap (λ (all : List (A × B)). (a, b) ∷ all) (zip_pushed xs ys x y (omega (arith, same)))

  zip_dropped : (many : ℕ) (xs : List A) (ys : List B) → zip (drop many xs) (drop many ys) ≡ drop many (zip xs ys)
  zip_dropped zero xs ys = refl
  zip_dropped (suc many) [] ys = refl
  zip_dropped (suc many) (a ∷ xs) [] = none (drop many xs)
    where
      none : (all : List A) → zip {K = A} {X = B} all [] ≡ []
      none [] = refl
      none (one ∷ all) = refl
  zip_dropped (suc many) (a ∷ xs) (b ∷ ys) = zip_dropped many xs ys

  zip_long : (xs : List A) (ys : List B) → length xs ≡ length ys → length (zip xs ys) ≡ length xs
  zip_long [] ys same = refl
  zip_long (a ∷ xs) [] same = absurd (omega (arith, same))
  zip_long (a ∷ xs) (b ∷ ys) same = ap (λ (n : ℕ). suc n) (zip_long xs ys (omega (arith, same)))

  zip_sent : (depth : ℕ) (x : A) (xs : List A) (y : B) (ys : List B) → length xs ≡ length ys → zip (sent depth x xs) (sent depth y ys) ≡ sent depth (x, y) (zip xs ys)
  zip_sent depth x xs y ys same =
      let many : ℕ = excess depth (xs ++ x ∷ []) in
      let too : excess depth (ys ++ y ∷ []) ≡ many = ap (λ (n : ℕ). n - depth) (omega (arith, length_push xs x, length_push ys y, same)) in
      let three : excess depth (zip xs ys ++ (x, y) ∷ []) ≡ many = ap (λ (n : ℕ). n - depth) (omega (arith, length_push xs x, length_push (zip xs ys) (x, y), zip_long xs ys same)) in
      ap (λ (n : ℕ). zip (drop many (xs ++ x ∷ [])) (drop n (ys ++ y ∷ []))) too
      ∙ zip_dropped many (xs ++ x ∷ []) (ys ++ y ∷ [])
      ∙ ap (drop many) (zip_pushed xs ys x y same)
      ∙ ap (λ (n : ℕ). drop n (zip xs ys ++ (x, y) ∷ [])) (sym three)

-- ---- one queue

module _ (last : ℕ) (before : List (ℕ × Item)) where
  abbrev AreLater : List (ℕ × Item) → Type 0
  AreLater some = AllByRecursion (λ one. last < one.0) some

  left_dropped : (many : ℕ) (gone left since : List (ℕ × Item)) → before ≡ gone ++ left → AreLater since → AreLeftOf last before (drop many (left ++ since))
  left_dropped zero gone left since parts later = record { gone = gone; left = left; since = since; parts = parts; joined = refl; later = All-from_recursion (λ one. last < one.0) since later }
  left_dropped (suc many) gone (one ∷ left) since parts later =
      left_dropped many (gone ++ one ∷ []) left since (parts ∙ sym (append_assoc gone (one ∷ []) left)) later
  left_dropped (suc many) gone [] [] parts later = record { gone = gone; left = []; since = []; parts = parts; joined = refl; later = All-from_recursion (λ one. last < one.0) [] tt }
  left_dropped (suc many) gone [] (one ∷ since) parts later = left_dropped many gone [] since parts later.1

  abbrev Left : List (ℕ × Item) → Type 0
  Left after = AreLeftOf last before after

  left_sent : (depth : ℕ) (one : ℕ × Item) (after : List (ℕ × Item)) → last < one.0 → Left after → Left (sent depth one after)
  left_sent depth one after above p =
      let later : AreLater (p.since ++ one ∷ []) = all_append (λ one. last < one.0) p.since (one ∷ []) (recursion_from_All (λ one. last < one.0) p.since p.later) (above, tt) in
      let same : p.left ++ (p.since ++ one ∷ []) ≡ after ++ one ∷ [] = sym (append_assoc p.left p.since (one ∷ [])) ∙ ap (λ (some : List (ℕ × Item)). some ++ one ∷ []) (sym p.joined) in
      subst (λ (all : List (ℕ × Item)). Left (drop (excess depth (after ++ one ∷ [])) all)) same (left_dropped (excess depth (after ++ one ∷ [])) p.gone p.left (p.since ++ one ∷ []) p.parts later)

  left_taken : (after : List (ℕ × Item)) → Left after → Left (drop 1 after)
  left_taken after p =
      subst (λ (all : List (ℕ × Item)). Left (drop 1 all)) (sym p.joined) (left_dropped 1 p.gone p.left p.since p.parts (recursion_from_All (λ one. last < one.0) p.since p.later))

numbers_are : (queue : Queue) (numbers : List ℕ) → queue.arrivals ≡ Some numbers → numbers_in queue ≡ numbers
numbers_are queue numbers e = ap (λ (all : Option (List ℕ)). unwrap_or all []) e

items_sent : (number : ℕ) (item : Item) (queue : Queue) → IsNumbered order.Arrival queue → numbered_items (queue_after number item queue) ≡ sent queue.depth (number, item) (numbered_items queue)
items_sent number item queue p =
    ap (λ (all : Option (List ℕ)). zip (unwrap_or (option_map (sent queue.depth number) all) []) (sent queue.depth item queue.items)) p.1
    ∙ zip_sent queue.depth number p.0 item queue.items p.2
    ∙ ap (λ (all : List ℕ). sent queue.depth (number, item) (zip all queue.items)) (sym (numbers_are queue p.0 p.1))

items_taken : (queue : Queue) → IsNumbered order.Arrival queue → numbered_items (queue_taken queue) ≡ drop 1 (numbered_items queue)
items_taken queue p =
    ap (λ (all : Option (List ℕ)). zip (unwrap_or (option_map (drop 1) all) []) (drop 1 queue.items)) p.1
    ∙ zip_dropped 1 p.0 queue.items
    ∙ ap (λ (all : List ℕ). drop 1 (zip all queue.items)) (sym (numbers_are queue p.0 p.1))

-- a queue is the one that it was, of the same callback, numbers its items, and holds what is left
pub record IsLeftOf (last : ℕ) (old queue : Queue) : Type 0 where
  pub handler : queue.handler ≡ old.handler
  pub kind : queue.kind ≡ old.kind
  pub numbered : IsNumbered order.Arrival queue
  pub items : AreLeftOf last (numbered_items old) (numbered_items queue)

stays : (last : ℕ) (queue : Queue) → IsNumbered order.Arrival queue → IsLeftOf last queue queue
stays last queue numbered = record {
  handler = refl;
  kind = refl;
  numbered = numbered;
  items = record { gone = []; left = numbered_items queue; since = []; parts = refl; joined = sym (append-nil (numbered_items queue)); later = All-from_recursion (λ one. last < one.0) [] tt };
}

queue_sent : (last number : ℕ) → last < number → (item : Item) (old queue : Queue) → IsLeftOf last old queue → IsLeftOf last old (queue_after number item queue)
queue_sent last number above item old queue p = record {
  handler = p.handler;
  kind = p.kind;
  numbered = (sent queue.depth number p.numbered.0, ap (λ (all : Option (List ℕ)). option_map (sent queue.depth number) all) p.numbered.1, sent_long queue.depth number p.numbered.0 item queue.items p.numbered.2);
  items = subst (λ (all : List (ℕ × Item)). AreLeftOf last (numbered_items old) all) (sym (items_sent number item queue p.numbered)) (left_sent last (numbered_items old) queue.depth (number, item) (numbered_items queue) above p.items);
}

took : (last : ℕ) (old queue : Queue) → IsLeftOf last old queue → IsLeftOf last old (queue_taken queue)
took last old queue p = record {
  handler = p.handler;
  kind = p.kind;
  numbered = (drop 1 p.numbered.0, ap (λ (all : Option (List ℕ)). option_map (drop 1) all) p.numbered.1, taken_long p.numbered.0 queue.items p.numbered.2);
  items = subst (λ (all : List (ℕ × Item)). AreLeftOf last (numbered_items old) all) (sym (items_taken queue p.numbered)) (left_taken last (numbered_items old) (numbered_items queue) p.items);
}

-- ---- one server

-- a server is the one that it was, and each of its goals that has an earlier number had it before
pub record IsServerLeft (last : ℕ) (old entry : ServerEntry) : Type 0 where
  pub handler : entry.handler ≡ old.handler
  pub goals : AllByRecursion (HadItsNumber last old.held) entry.held

holds_itself : (more held : List HeldGoal) (one : HeldGoal) → list_any (arrived_as one) (more ++ one ∷ held) ≡ true
holds_itself [] held one = rw (eq-eqb one.goal.id one.goal.id refl, eq-eqb one.arrival one.arrival refl) refl
holds_itself (other ∷ more) held one = by (arrived_as one other) (holds_itself more held one)
  where
    by : (b : Bool) → list_any (arrived_as one) (more ++ one ∷ held) ≡ true → b || list_any (arrived_as one) (more ++ one ∷ held) ≡ true
    by true rest = refl
    by false rest = rest

all_had : (last : ℕ) (more held : List HeldGoal) → AllByRecursion (HadItsNumber last (more ++ held)) held
all_had last more [] = tt
all_had last more (one ∷ held) = (
  λ low. holds_itself more held one,
  subst (λ (all : List HeldGoal). AllByRecursion (HadItsNumber last all) held) (append_assoc more (one ∷ []) held) (all_had last (more ++ one ∷ []) held),
)

-- a number above is no earlier one
not_earlier : (last number : ℕ) → last < number → (before : List HeldGoal) (held : HeldGoal) → held.arrival ≡ number → HadItsNumber last before held
not_earlier last number above before held is low = absurd (omega (arith, low, above, is))

-- another record under its identifier leaves a goal its number
record_put : (last : ℕ) (before : List HeldGoal) (goal : GoalRecord) (one : HeldGoal) → goal.id ≡ one.goal.id → HadItsNumber last before one → HadItsNumber last before (record one { goal = goal })
record_put last before goal one same had = λ low. ap (λ (id : GoalId). list_any (λ (other : HeldGoal). (other.goal.id == id) && (other.arrival == one.arrival)) before) same ∙ had low

-- ---- each beside the one that it was

abbrev Beside : {A : Type 0} → (A → A → Type 0) → List A → List A → Type 0
Beside R [] [] = Unit {0}
Beside R (old ∷ olds) (one ∷ all) = R old one × Beside R olds all
Beside R [] (one ∷ all) = ⊥
Beside R (old ∷ olds) [] = ⊥

module _ {A : Type 0} (R : A → A → Type 0) where
  beside_itself : (P : A → Type 0) → ((one : A) → P one → R one one) → (all : List A) → AllByRecursion P all → Beside R all all
  beside_itself P itself [] p = tt
  beside_itself P itself (one ∷ all) p = (itself one p.0, beside_itself P itself all p.1)

  beside_changed : (test : A → Bool) (change : A → A) → ((old one : A) → R old one → R old (change one)) → (olds all : List A) → Beside R olds all → Beside R olds (change_first test change all)
  beside_changed test change kept [] [] p = tt
  beside_changed test change kept [] (one ∷ all) p = absurd p
  beside_changed test change kept (old ∷ olds) [] p = absurd p
  beside_changed test change kept (old ∷ olds) (one ∷ all) p = by (test one) refl (beside_changed test change kept olds all p.1)
    where
      by : (b : Bool) → test one ≡ b → Beside R olds (change_first test change all) → Beside R (old ∷ olds) (change_first test change (one ∷ all))
      by true e rest = rw e (kept old one p.0, p.1)
      by false e rest = rw e (p.0, rest)

  beside_mapped : (change : A → A) → ((old one : A) → R old one → R old (change one)) → (olds all : List A) → Beside R olds all → Beside R olds (map change all)
  beside_mapped change kept [] [] p = tt
  beside_mapped change kept [] (one ∷ all) p = absurd p
  beside_mapped change kept (old ∷ olds) [] p = absurd p
  beside_mapped change kept (old ∷ olds) (one ∷ all) p = (kept old one p.0, beside_mapped change kept olds all p.1)

  -- what is found among those that are, and among those that were
  beside_found : {B : Type 0} (test : A → Bool) → ((old one : A) → R old one → test one ≡ test old) → (part : A → B) (none : B) (Q : B → B → Type 0) → Q none none → ((old one : A) → R old one → Q (part old) (part one)) →
      (olds all : List A) → Beside R olds all → Q (option_map_or part (find test olds) none) (option_map_or part (find test all) none)
  beside_found test same part none Q at_none holds [] [] p = at_none
  beside_found test same part none Q at_none holds [] (one ∷ all) p = absurd p
  beside_found test same part none Q at_none holds (old ∷ olds) [] p = absurd p
  beside_found test same part none Q at_none holds (old ∷ olds) (one ∷ all) p = by (test old) refl (beside_found test same part none Q at_none holds olds all p.1)
    where
      by : (b : Bool) → test old ≡ b → Q (option_map_or part (find test olds) none) (option_map_or part (find test all) none) → Q (option_map_or part (find test (old ∷ olds)) none) (option_map_or part (find test (one ∷ all)) none)
      by true e rest = rw (same old one p.0, e) (holds old one p.0)
      by false e rest = rw (same old one p.0, e) rest

left_in : (last : ℕ) (entity : EntityNo) (of : Kind) (olds queues : List Queue) → Beside (IsLeftOf last) olds queues →
    AreLeftOf last (option_map_or numbered_items (find (is_queue entity of) olds) []) (option_map_or numbered_items (find (is_queue entity of) queues) [])
left_in last entity of olds queues p =
    beside_found (IsLeftOf last) (is_queue entity of)
    (λ old queue q. ap (λ (handler : Handler). (handler.entity == entity) && (ready_number queue.kind == ready_number of)) q.handler ∙ ap (λ (kind : Kind). (old.handler.entity == entity) && (ready_number kind == ready_number of)) q.kind)
    numbered_items [] (AreLeftOf last) (record { gone = []; left = []; since = []; parts = refl; joined = refl; later = All-from_recursion (λ one. last < one.0) [] tt })
    (λ old queue q. q.items) olds queues p

goals_in_step : (last : ℕ) (server : EntityNo) (olds servers : List ServerEntry) → Beside (IsServerLeft last) olds servers → AllByRecursion (HadItsNumber last (held_in server olds)) (held_in server servers)
goals_in_step last server olds servers p =
    beside_found (IsServerLeft last) (is_server_at server) (λ old entry q. ap (λ (handler : Handler). handler.entity == server) q.handler)
    (λ entry. entry.held) [] (λ before after. AllByRecursion (HadItsNumber last before) after) tt (λ old entry q. q.goals) olds servers p

-- ---- worlds of the order of arrival

module _ (last : ℕ) (first : WorldState) where
  -- queues and servers hold what is left of those of the first world, and the last arrival isn't before that of this number
  abbrev IsLater : WorldState → Type 0
  IsLater world = (world.order ≡ order.Arrival) × (last ≤ world.arrivals) × Beside (IsLeftOf last) first.queues world.queues × Beside (IsServerLeft last) first.servers world.servers

  above : (world : WorldState) → world.order ≡ order.Arrival → last ≤ world.arrivals → last < next_arrival world
  above world by up = let next : next_arrival world ≡ world.arrivals + 1 = ap (λ (under : Order). next_in under world.arrivals) by in omega (arith, next, up)

  servers_kept : (server : EntityNo) (change : ServerEntry → ServerEntry) → ((old entry : ServerEntry) → IsServerLeft last old entry → IsServerLeft last old (change entry)) → (servers : List ServerEntry) → Beside (IsServerLeft last) first.servers servers → Beside (IsServerLeft last) first.servers (change_first (is_server_at server) change servers)
  servers_kept server change kept servers p = beside_changed (IsServerLeft last) (is_server_at server) change kept first.servers servers p

  later_kept : KeptByRounds IsLater
  later_kept = record {
    basic = record {
      lines_kept = λ lines world p. p;
      queues_kept = λ entity new world p.
          let more = above world p.0 p.1 in
          (p.0, omega (arith, more), beside_changed (IsLeftOf last) (is_queue entity (taker_of new)) (queue_after (next_arrival world) new) (queue_sent last (next_arrival world) more new) first.queues world.queues p.2, p.3);
      goals_kept = λ server change world same p.
          (p.0, p.1, p.2, servers_kept server (with_goals change) (λ old entry q. record { handler = q.handler; goals = all_put (HadItsNumber last old.held) (record_put last old.held) (change (records_of entry.held)) entry.held (same (records_of entry.held)) q.goals }) world.servers p.3);
      tasks_kept = λ server id task world p. (
        p.0,
        p.1,
        p.2,
        servers_kept server (with_held id (standing task))
            (λ old entry q. record { handler = q.handler; goals = all_changed (HadItsNumber last old.held) (is_for id) (standing task) (λ held had. had) entry.held q.goals }) world.servers p.3,
      );
      arrivals_kept = λ server id world p.
          let more = above world p.0 p.1 in (
            p.0,
            omega (arith, more),
            p.2,
            servers_kept server (with_held id (arrived (next_arrival world)))
                (λ old entry q. record { handler = q.handler; goals = all_changed (HadItsNumber last old.held) (is_for id) (arrived (next_arrival world)) (λ held had. not_earlier last (next_arrival world) more old.held (arrived (next_arrival world) held) refl) entry.held q.goals }) world.servers p.3,
          );
      calls_kept = λ client world p. p;
      sending_kept = λ client world p. p;
      variables_kept = λ group variables world p. p;
    };
    accepts_kept = λ server moment how request world room p.
        let more = above world p.0 p.1 in (
          p.0,
          omega (arith, more),
          p.2,
          servers_kept server (server_accepting (next_arrival world) moment how request)
              (λ old entry q. record { handler = q.handler; goals = all_append (HadItsNumber last old.held) entry.held (held_goal (next_arrival world) moment how entry.handler.script request ∷ []) q.goals (not_earlier last (next_arrival world) more old.held (held_goal (next_arrival world) moment how entry.handler.script request) refl, tt) }) world.servers p.3,
        );
    expiry_kept = λ moment world p.
        (p.0, p.1, p.2, beside_mapped (IsServerLeft last) (server_expired moment) (λ old entry q. record { handler = q.handler; goals = all_filter (HadItsNumber last old.held) _ entry.held q.goals }) first.servers world.servers p.3);
    snapshot_kept = λ moment world p. (p.0, p.1, beside_mapped (IsLeftOf last) queue_taken (took last) first.queues world.queues p.2, p.3);
  }

-- ---- ready lists

parted : (rank : Ready → ℕ) (last : ℕ) (list : List Ready) → IsNonDecreasingBy rank list →
    (earlier later : List Ready) × (list ≡ earlier ++ later) × AllByRecursion (λ one. rank one ≤ last) earlier × All (λ one. last < rank one) later
parted rank last [] rises = ([], [], refl, tt, All-from_recursion (λ one. last < rank one) [] tt)
parted rank last (one ∷ list) rises = by (nat_le (rank one) last) refl (parted rank last list (λ i j d le within. rises (suc i) (suc j) d (omega (arith, le)) (omega (arith, within))))
  where
    by : (b : Bool) → nat_le (rank one) last ≡ b → ((earlier later : List Ready) × (list ≡ earlier ++ later) × AllByRecursion (λ one. rank one ≤ last) earlier × All (λ one. last < rank one) later) →
        (earlier later : List Ready) × (one ∷ list ≡ earlier ++ later) × AllByRecursion (λ one. rank one ≤ last) earlier × All (λ one. last < rank one) later
    by true e rest = (one ∷ rest.0, rest.1, ap (λ (all : List Ready). one ∷ all) rest.2, (leb-true (rank one) last e, rest.3), rest.4)
    by false e rest = ([], one ∷ list, refl, tt, λ k d within. let first = rises 0 k d (omega arith) within in omega (arith, first, leb-false (rank one) last e))

-- ---- a plan

numbered_by : (plan : PlanData) (number : ℕ) (moments : List ℕ) → plan.order ≡ order.Arrival → AllByRecursion (IsNumbered order.Arrival) (rounds plan number moments (first_world plan)).queues
numbered_by plan number moments by =
    subst (λ (under : Order). AllByRecursion (IsNumbered under) (rounds plan number moments (first_world plan)).queues) by
    (recursion_from_All (IsNumbered plan.order) (rounds plan number moments (first_world plan)).queues (numbered_in_rounds plan number moments))

each_server : (servers : List ServerEntry) → AllByRecursion (λ entry. Unit {0}) servers
each_server [] = tt
each_server (entry ∷ servers) = (tt, each_server servers)

stays_later : (plan : PlanData) (number : ℕ) (moments : List ℕ) (world : WorldState) → world.order ≡ order.Arrival → AllByRecursion (IsNumbered order.Arrival) world.queues → IsLater world.arrivals world (rounds plan number moments world)
stays_later plan number moments world by numbered =
    rounds_keep (later_kept world.arrivals world) plan number moments world (
      by,
      omega arith,
      beside_itself (IsLeftOf world.arrivals) (IsNumbered order.Arrival) (stays world.arrivals) world.queues numbered,
      beside_itself (IsServerLeft world.arrivals) (λ entry. Unit {0}) (λ entry p. record { handler = refl; goals = all_had world.arrivals [] entry.held }) world.servers (each_server world.servers),
    )

-- the snapshot of a later round
is_later : (plan : PlanData) (number next round moment : ℕ) (moments later : List ℕ) → plan.order ≡ order.Arrival →
    IsLater (rounds plan number moments (first_world plan)).arrivals (rounds plan number moments (first_world plan)) (at_snapshot plan round moment (rounds plan next later (rounds plan number moments (first_world plan))))
is_later plan number next round moment moments later by =
    let before : WorldState = rounds plan number moments (first_world plan) in
    let under : before.order ≡ order.Arrival = (stays_later plan number moments (first_world plan) by (numbered_by plan number [] by)).0 in
    snapshot_keeps (later_kept before.arrivals before) plan round moment (rounds plan next later before) (stays_later plan next later before under (numbered_by plan number moments by))

pub items_left : (plan : PlanData) (number next round moment : ℕ) (moments later : List ℕ) (entity : EntityNo) (of : Kind) → plan.order ≡ order.Arrival →
    AreLeftOf (rounds plan number moments (first_world plan)).arrivals (arrived_in entity of (rounds plan number moments (first_world plan))) (arrived_in entity of (at_snapshot plan round moment (rounds plan next later (rounds plan number moments (first_world plan)))))
items_left plan number next round moment moments later entity of by =
    let before : WorldState = rounds plan number moments (first_world plan) in
    let after : WorldState = at_snapshot plan round moment (rounds plan next later before) in
    left_in before.arrivals entity of before.queues after.queues (is_later plan number next round moment moments later by).2

pub goals_left : (plan : PlanData) (number next round moment : ℕ) (moments later : List ℕ) (server : EntityNo) → plan.order ≡ order.Arrival →
    All (HadItsNumber (rounds plan number moments (first_world plan)).arrivals (held_at server (rounds plan number moments (first_world plan)))) (held_at server (at_snapshot plan round moment (rounds plan next later (rounds plan number moments (first_world plan)))))
goals_left plan number next round moment moments later server by =
    let before : WorldState = rounds plan number moments (first_world plan) in
    let after : WorldState = at_snapshot plan round moment (rounds plan next later before) in
    All-from_recursion (HadItsNumber before.arrivals (held_at server before)) (held_at server after) (goals_in_step before.arrivals server before.servers after.servers (is_later plan number next round moment moments later by).3)

pub earlier_first : (plan : PlanData) (number next round moment : ℕ) (moments later : List ℕ) → plan.order ≡ order.Arrival →
    HasEarlierFirst (rounds plan number moments (first_world plan)).arrivals moment (at_snapshot plan round moment (rounds plan next later (rounds plan number moments (first_world plan))))
earlier_first plan number next round moment moments later by =
    let before : WorldState = rounds plan number moments (first_world plan) in
    let after : WorldState = at_snapshot plan round moment (rounds plan next later before) in
    let parts = parted (arrival_of after) before.arrivals (ready_list moment after) (by_arrival moment after (is_later plan number next round moment moments later by).0) in
    record {
      earlier = parts.0;
      later = parts.1;
      parts = parts.2;
      up_to = All-from_recursion (λ one. arrival_of after one ≤ before.arrivals) parts.0 parts.3;
      above = parts.4;
    }
