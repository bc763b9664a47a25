-- What moments and a feed keep that have no fault.
use Rattle.std.proofs.Common.{◌≡◌, ℕ, ◌≤◌, ◌-◌, ◌^◌, Bool, true, false, not, ◌&&◌, ◌||◌, length, map, nat_le, max, IsTrue, List, [], ◌∷◌, None, Some, All, refl, sym, ap, ◌∙◌, arith}
use Rattle.std.specs.List.{list_all}
use Rattle.std.proofs.Math.Nat.{le-max_left, le-max_right}
use Rattle.std.proofs.lemmas.Bool.{leb-true, le-leb, and_parts, or_parts, not-false, and_from}
use Rattle.std.proofs.lemmas.List.Elements.{All-nil, All-cons}
use Rattle.exec_plan.specs.Feeding.{goes_somewhere, has_128_bits}
use Rattle.exec_plan.specs.Graph.{GraphData, is_server}
use Rattle.exec_plan.specs.Entity.{is_from_1}
use Rattle.exec_plan.specs.Lawful.{IsLawful, IsLawfulPlan, is_at, is_ascending_from, is_fed_well}
use Rattle.exec_plan.specs.Schedule.{schedule_fits, numbers_fit, greatest, stamp_of, is_in_order, is_identified, has_plan_fault, plan_faults_in_order, plan_fault_in}
use Rattle.exec_plan.specs.Plan.{Fed, Feed}
use Rattle.exec_plan.specs.declared.order.Order.{Order}
use Rattle.exec_plan.specs.declared.plan.FedOf.TheVariants.{Message, Goal, Cancel}
use Rattle.exec_msg.specs.declared.limits.TheConstants.{MOMENTS, FEED, TICKS}
use Rattle.exec_plan.proofs.NonePasses.{none_passes}

-- where the greatest is within a limit, each is
pub all_within : {A : Type 0} (f : A → ℕ) (most : ℕ) (xs : List A) → nat_le (greatest (map f xs)) most ≡ true → list_all (λ x. nat_le (f x) most) xs ≡ true
all_within f most [] within = refl
all_within f most (x ∷ xs) within =
    let below = leb-true (max (f x) (greatest (map f xs))) most within in
    let here = le-max_left (f x) (greatest (map f xs)) in
    let others = le-max_right (f x) (greatest (map f xs)) in
    and_from (nat_le (f x) most) (list_all (λ x. nat_le (f x) most) xs)
    (le-leb (f x) most (omega (arith, below, here)))
    (all_within f most xs (le-leb (greatest (map f xs)) most (omega (arith, below, others))))

-- every number of moments keeps
pub at_most : (most : ℕ) (ns : List ℕ) → list_all (λ n. nat_le n most) ns ≡ true → All (λ n. n ≤ most) ns
at_most most [] within = All-nil (λ n. n ≤ most)
at_most most (n ∷ ns) within =
    All-cons (λ n. n ≤ most) n ns (leb-true n most (and_parts (nat_le n most) (list_all (λ n. nat_le n most) ns) within).0)
    (at_most most ns (and_parts (nat_le n most) (list_all (λ n. nat_le n most) ns) within).1)

-- what the limits of a schedule keep
pub record IsFitting (times : List ℕ) (entries most : ℕ) : Type 0 where
  pub few_moments : nat_le (length times) MOMENTS ≡ true
  pub moments : list_all (λ moment. nat_le moment TICKS) times ≡ true
  pub short_feed : nat_le entries FEED ≡ true
  pub stamp : nat_le most TICKS ≡ true

pub fitting : (moments : List ℕ) (entries stamp : ℕ) → schedule_fits moments entries stamp ≡ true → IsFitting moments entries stamp
fitting moments entries stamp fits =
    let few = nat_le (length moments) MOMENTS in
    let short = nat_le entries FEED in
    let kept = and_parts (numbers_fit (length moments) entries stamp) (list_all (λ moment. nat_le moment TICKS) moments) fits in
    let numbers = and_parts (few && short) (nat_le stamp TICKS) kept.0 in
    record {
      few_moments = (and_parts few short numbers.0).0;
      moments = kept.1;
      short_feed = (and_parts few short numbers.0).1;
      stamp = numbers.1;
    }

-- what moments and a feed keep that have no fault
pub record IsScheduled (moments : List ℕ) (feed : List Feed) : Type 0 where
  pub fits : schedule_fits moments (length feed) (greatest (map (λ entry. stamp_of entry.fed) feed)) ≡ true
  pub order : is_in_order moments (map (λ entry. entry.round) feed) ≡ true
  pub identified : list_all (λ entry. is_identified Some entry.fed) feed ≡ true

pub scheduled : (moments : List ℕ) (feed : List Feed) → plan_fault_in moments feed ≡ None → IsScheduled moments feed
scheduled moments feed found =
    let fits = schedule_fits moments (length feed) (greatest (map (λ entry. stamp_of entry.fed) feed)) in
    let ordered = is_in_order moments (map (λ entry. entry.round) feed) in
    let ids = list_all (λ entry. is_identified Some entry.fed) feed in
    let last = not ids || false in
    let second = not ordered || last in
    let past_limits = none_passes (λ fault. has_plan_fault fault moments feed) plan_faults_in_order found in
    let past_clock = (or_parts (not fits) second past_limits).1 in
    let past_ids = (or_parts (not ordered) last past_clock).1 in
    record {
      fits = not-false fits (or_parts (not fits) second past_limits).0;
      order = not-false ordered (or_parts (not ordered) last past_clock).0;
      identified = not-false ids (or_parts (not ids) false past_ids).0;
    }

fed_well : (graph : GraphData) (fed : Fed) → goes_somewhere graph fed ≡ true → has_128_bits fed ≡ true → is_identified Some fed ≡ true → nat_le (stamp_of fed) TICKS ≡ true → is_fed_well graph fed ≡ true
fed_well graph (Message number value) goes bits has within = goes
fed_well graph (Goal number id value) goes bits has within =
    and_from (is_at is_server graph number) (is_from_1 (2 ^ 128 - 1) id) goes (and_from (nat_le 1 id) (nat_le id (2 ^ 128 - 1)) has bits)
fed_well graph (Cancel number id stamp) goes bits has within =
    and_from (is_at is_server graph number && nat_le id (2 ^ 128 - 1)) (nat_le stamp TICKS) (and_from (is_at is_server graph number) (nat_le id (2 ^ 128 - 1)) goes bits) within

all_fed_well : (graph : GraphData) (feed : List Feed) → list_all (λ entry. goes_somewhere graph entry.fed) feed ≡ true → list_all (λ entry. has_128_bits entry.fed) feed ≡ true → list_all (λ entry. is_identified Some entry.fed) feed ≡ true → list_all (λ entry. nat_le (stamp_of entry.fed) TICKS) feed ≡ true → All (λ entry. IsTrue (is_fed_well graph entry.fed)) feed
all_fed_well graph [] goes bits has within = All-nil (λ (entry : Feed). IsTrue (is_fed_well graph entry.fed))
all_fed_well graph (entry ∷ feed) goes bits has within =
    let others_go = list_all (λ entry. goes_somewhere graph entry.fed) feed in
    let others_bits = list_all (λ entry. has_128_bits entry.fed) feed in
    let others_have = list_all (λ entry. is_identified Some entry.fed) feed in
    let others_within = list_all (λ entry. nat_le (stamp_of entry.fed) TICKS) feed in
    All-cons (λ (entry : Feed). IsTrue (is_fed_well graph entry.fed)) entry feed
    (fed_well graph entry.fed (and_parts (goes_somewhere graph entry.fed) others_go goes).0 (and_parts (has_128_bits entry.fed) others_bits bits).0
    (and_parts (is_identified Some entry.fed) others_have has).0 (and_parts (nat_le (stamp_of entry.fed) TICKS) others_within within).0)
    (all_fed_well graph feed (and_parts (goes_somewhere graph entry.fed) others_go goes).1 (and_parts (has_128_bits entry.fed) others_bits bits).1
    (and_parts (is_identified Some entry.fed) others_have has).1 (and_parts (nat_le (stamp_of entry.fed) TICKS) others_within within).1)

all_rounds : (most : ℕ) (feed : List Feed) → list_all (is_from_1 most) (map (λ entry. entry.round) feed) ≡ true → All (λ entry. IsTrue (is_from_1 most entry.round)) feed
all_rounds most [] within = All-nil (λ (entry : Feed). IsTrue (is_from_1 most entry.round))
all_rounds most (entry ∷ feed) within =
    let others = list_all (is_from_1 most) (map (λ entry. entry.round) feed) in
    All-cons (λ (entry : Feed). IsTrue (is_from_1 most entry.round)) entry feed
    (and_parts (is_from_1 most entry.round) others within).0 (all_rounds most feed (and_parts (is_from_1 most entry.round) others within).1)

-- a test of rounds is one of entries
rounds_among : (most : ℕ) (feed : List Feed) → list_all (λ entry. is_from_1 most entry.round) feed ≡ list_all (is_from_1 most) (map (λ entry. entry.round) feed)
rounds_among most [] = refl
rounds_among most (entry ∷ feed) = ap (λ (b : Bool). is_from_1 most entry.round && b) (rounds_among most feed)

-- moments in order, and rounds that are theirs
pub in_order : (moments : List ℕ) (feed : List Feed) (rounds : Bool) → is_ascending_from 0 moments ≡ true → rounds ≡ list_all (λ entry. is_from_1 (length moments) entry.round) feed → rounds ≡ is_in_order moments (map (λ entry. entry.round) feed)
in_order moments feed rounds ascending are = rw ascending (are ∙ rounds_among (length moments) feed)

-- where each moment is within its limit the numbers decide
pub moments_fit : (moments : List ℕ) (entries stamp : ℕ) (fits : Bool) → list_all (λ moment. nat_le moment TICKS) moments ≡ true → fits ≡ numbers_fit (length moments) entries stamp → schedule_fits moments entries stamp ≡ fits
moments_fit moments entries stamp fits within is = by (numbers_fit (length moments) entries stamp) (list_all (λ moment. nat_le moment TICKS) moments) within ∙ sym is where
  by : (numbers moments : Bool) → moments ≡ true → (numbers && moments) ≡ numbers
  by true true within = refl
  by false true within = refl
  by numbers false within = absurd cc

-- a lawful graph, moments and a feed without a fault are a lawful plan
pub plan_lawful : (graph : GraphData) (order : Order) (moments : List ℕ) (feed : List Feed) → IsLawful graph → list_all (λ entry. goes_somewhere graph entry.fed) feed ≡ true → list_all (λ entry. has_128_bits entry.fed) feed ≡ true → plan_fault_in moments feed ≡ None →
    IsLawfulPlan (record { graph = graph; order = order; moments = moments; feed = feed })
plan_lawful graph order moments feed lawful goes bits faultless =
    let keeps = scheduled moments feed faultless in
    let fits = fitting moments (length feed) (greatest (map (λ entry. stamp_of entry.fed) feed)) keeps.fits in
    let clock = is_ascending_from 0 moments in
    let rounds = list_all (is_from_1 (length moments)) (map (λ entry. entry.round) feed) in
    record {
      graph = lawful;
      few_moments = leb-true (length moments) MOMENTS fits.few_moments;
      moments = at_most TICKS moments fits.moments;
      clock = (and_parts clock rounds keeps.order).0;
      short_feed = leb-true (length feed) FEED fits.short_feed;
      rounds = all_rounds (length moments) feed (and_parts clock rounds keeps.order).1;
      fed = all_fed_well graph feed goes bits keeps.identified (all_within (λ entry. stamp_of entry.fed) TICKS feed fits.stamp);
    }
