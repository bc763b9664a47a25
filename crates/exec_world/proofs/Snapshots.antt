-- What a snapshot makes of the queues that have an item is what it makes of all.
use Rattle.std.proofs.Common.{◌≡◌, ℕ, suc, ◌+◌, ◌&&◌, ◌==◌, Bool, true, false, not, cond, if◌then◌else◌, length, length-append, map, take, drop, filter, List, [], ◌∷◌, slice_get, Option, None, Some, refl, sym, ap, ◌∙◌, arith}
use Rattle.std.specs.List.{flat_map, fold}
use Rattle.std.specs.Option.{option_map_or}
use Rattle.std.proofs.Math.Seq.{drop-append_seam, take-append_seam}
use Rattle.std.proofs.lemmas.Bool.{eqb-true}
use Rattle.exec_goal.specs.Table.{GoalRecord}
use Rattle.exec_msg.specs.Numbers.{EntityNo, Moment}
use Rattle.exec_queue.proofs.Filled.{given_each}
use Rattle.exec_rules.proofs.Listing.{listed_more}
use Rattle.exec_rules.specs.Ready.{answered_by_first, due_ready, item_ready, placed_from, queue_ready, reply_taken, timer_taken}
use Rattle.exec_rules.specs.inner.ByKind as by_kind
use Rattle.exec_rules.specs.inner.ByKind.{queues_before_polls, queues_behind_polls}
use Rattle.exec_rules.specs.World.{ClientEntry, Handler, Queue, TimerEntry, WorldState}
use Rattle.exec_rules.specs.declared.item.Item.{Item}
use Rattle.exec_rules.specs.declared.item.Item.TheVariants as item
use Rattle.exec_rules.specs.declared.ready.AwakeGoal.{AwakeGoal}
use Rattle.exec_rules.specs.inner.Awake.{awake_goals}
use Rattle.exec_rules.specs.declared.listed.Listed.{Listed}
use Rattle.exec_rules.specs.inner.Listing.{as_listed, listed_behind}
use Rattle.exec_rules.specs.inner.Places.{places_from, places_where}
use Rattle.exec_queue.specs.inner.Queues.{has_item, is_in_part}
use Rattle.exec_world.specs.inner.Snapshots.{IsListed, filled_places, fronts_at, queues_in_part, replies_at, with_reply_at}

has_one : (item : Item) (items : List Item) → not (length (item ∷ items) == 0) ≡ false → ⊥
has_one item items is = let none = eqb-true (length (item ∷ items)) 0 (no (length (item ∷ items) == 0) is) in omega arith
  where
    no : (b : Bool) → not b ≡ false → b ≡ true
    no true is = refl
    no false is = sym is

-- ---- the callbacks that take from them

none_ready : (moment : Moment) (handler : Handler) (goals : List GoalRecord) (items : List Item) → not (length items == 0) ≡ false → item_ready moment handler goals items ≡ []
none_ready moment handler goals [] is = refl
none_ready moment handler goals (item ∷ items) is = absurd (has_one item items is)

pub ready_in_part : (moment : Moment) (world : WorldState) (before_polls : Bool)
    → fronts_at moment world.servers world.queues (filled_places before_polls world.queues) ≡ flat_map (queue_ready moment world) (queues_in_part before_polls world)
ready_in_part moment world before_polls =
    given_each (is_in_part before_polls) (queue_ready moment world) (λ queue is. none_ready moment queue.handler _ queue.items is) world.queues

-- ---- the calls that they answer

none_answered : (entity : EntityNo) (items : List Item) (clients : List ClientEntry) → not (length items == 0) ≡ false → answered_by_first entity items clients ≡ clients
none_answered entity [] clients is = refl
none_answered entity (item ∷ items) clients is = absurd (has_one item items is)

module _ {B : Type 0} (test : Queue → Bool) (f : B → Queue → B) (step : B → ℕ → B) where
  stepped_by : (b c : Bool) (n : ℕ) (queue : Queue) (places : List ℕ) (rest : List Queue) (so_far : B) → step so_far n ≡ f so_far queue → (b ≡ false → f so_far queue ≡ so_far)
      → ((next : B) → fold step next places ≡ fold f next rest) → fold step so_far (if (b && c) then n ∷ places else places) ≡ fold f so_far (cond c (queue ∷ rest) rest)
  stepped_by true true n queue places rest so_far reads none is = ap (λ next. fold step next places) reads ∙ is (f so_far queue)
  stepped_by true false n queue places rest so_far reads none is = is so_far
  stepped_by false true n queue places rest so_far reads none is = is so_far ∙ ap (λ next. fold f next rest) (sym (none refl))
  stepped_by false false n queue places rest so_far reads none is = is so_far

  stepped_from : ((so_far : B) (queue : Queue) → has_item queue ≡ false → f so_far queue ≡ so_far) → (n : ℕ) (queues : List Queue)
      → ((k : ℕ) (so_far : B) → step so_far (n + k) ≡ option_map_or (f so_far) (slice_get queues k) so_far)
      → (so_far : B) → fold step so_far (places_from n (λ queue. has_item queue && test queue) queues) ≡ fold f so_far (filter test queues)
  stepped_from none n [] reads so_far = refl
  stepped_from none n (queue ∷ queues) reads so_far =
      let e : n ≡ n + 0 = omega arith in
      stepped_by (has_item queue) (test queue) n queue (places_from (suc n) (λ queue. has_item queue && test queue) queues) (filter test queues) so_far (ap (step so_far) e ∙ reads 0 so_far) (none so_far queue)
      (stepped_from none (suc n) queues (λ k next. let e : suc n + k ≡ n + suc k = omega arith in ap (step next) e ∙ reads (suc k) next))

pub answered_before : (world : WorldState) → replies_at world.queues world.clients (places_where (λ queue. has_item queue && is_in_part true queue) world.queues) ≡ fold reply_taken world.clients (queues_before_polls world)
answered_before world =
    stepped_from (is_in_part true) reply_taken (with_reply_at world.queues) (λ clients queue is. none_answered queue.handler.entity queue.items clients is) 0 world.queues
    (λ k clients. let e : 0 + k ≡ k = omega arith in ap (with_reply_at world.queues clients) e) world.clients

-- where there is no client, none is answered
no_client : (entity : EntityNo) (items : List Item) → answered_by_first entity items [] ≡ []
no_client entity [] = refl
no_client entity (item.Message value ∷ items) = refl
no_client entity (item.Request client number value ∷ items) = refl
no_client entity (item.Reply number value ∷ items) = refl
no_client entity (item.Goal id client value ∷ items) = refl
no_client entity (item.Cancel request client ∷ items) = refl
no_client entity (item.Ask id client ∷ items) = refl
no_client entity (item.Response id accepted ∷ items) = refl
no_client entity (item.Code code moved ∷ items) = refl
no_client entity (item.Feedback id value ∷ items) = refl
no_client entity (item.Result id status value ∷ items) = refl

no_client_of : (found : Option Queue) → option_map_or (reply_taken []) found [] ≡ []
no_client_of None = refl
no_client_of (Some queue) = no_client queue.handler.entity queue.items

none_of : (clients : List ClientEntry) → length clients ≡ 0 → clients ≡ []
none_of [] none = refl
none_of (client ∷ clients) none = absurd (omega (arith, none))

pub none_to_answer : (queues : List Queue) (clients list : List ClientEntry) (places : List ℕ) → list ≡ clients → length list ≡ 0 → clients ≡ replies_at queues clients places
none_to_answer queues clients list places is none =
    let empty = sym is ∙ none_of list none in
    empty ∙ sym (by places) ∙ ap (λ (clients : List ClientEntry). replies_at queues clients places) (sym empty)
  where
    by : (places : List ℕ) → replies_at queues [] places ≡ []
    by [] = refl
    by (place ∷ places) = ap (λ (clients : List ClientEntry). replies_at queues clients places) (no_client_of (slice_get queues place)) ∙ by places

-- ---- what a world's snapshot makes of them

-- the callbacks that take from the queues of a part
pub listed_in_part : {inner held : WorldState} (before_polls : Bool) (read : List Queue) (places : List ℕ) (moment : Moment) (before after : List Listed)
    → inner ≡ held → read ≡ inner.queues → places ≡ filled_places before_polls inner.queues
    → after ≡ listed_behind before (fronts_at moment inner.servers read places)
    → after ≡ listed_behind before (flat_map (queue_ready moment held) (queues_in_part before_polls held))
listed_in_part {inner} before_polls read places moment before after same reads at is =
    is
    ∙ ap (listed_behind before) ((λ i. fronts_at moment inner.servers (reads i) (at i))
    ∙ ready_in_part moment inner before_polls
    ∙ ap (λ (world : WorldState). flat_map (queue_ready moment world) (queues_in_part before_polls world)) same)

-- the calls that are answered, in a world that has other timers
pub answered : {inner : WorldState} (held : WorldState) (timers : List TimerEntry) (read : List Queue) (places : List ℕ) (clients : List ClientEntry)
    → inner ≡ record held { timers = timers } → read ≡ inner.queues → places ≡ filled_places true inner.queues → clients ≡ replies_at read inner.clients places
    → record inner { clients = clients } ≡ record held { timers = timers; clients = fold reply_taken held.clients (queues_before_polls held) }
answered {inner} held timers read places clients same reads at is =
    (λ i. record inner { clients = (is ∙ (λ j. replies_at (reads j) inner.clients (at j)) ∙ answered_before inner) i })
    ∙ ap (λ (world : WorldState). record world { clients = fold reply_taken world.clients (queues_before_polls world) }) same

-- ---- the whole

-- the callbacks that come before polls, and behind them the others, in a world that has other timers and clients
pub listed_parts : (moment : Moment) (held later now : WorldState) (first whole : List Listed) (goals : List AwakeGoal) (count : ℕ) → first ≡ map as_listed (placed_from 1 (by_kind.ready_before moment held))
    → later ≡ record held { timers = map (timer_taken moment) held.timers; clients = fold reply_taken held.clients (queues_before_polls held) }
    → whole ≡ listed_behind first (flat_map (queue_ready moment later) (queues_behind_polls later)) → now ≡ later → count ≡ length first → goals ≡ flat_map (awake_goals moment) held.servers → IsListed moment held count now whole goals
listed_parts moment held later now first whole goals count is_first is_later is_whole same counted awake =
    let more : List Listed = map as_listed (placed_from (length first + 1) (flat_map (queue_ready moment later) (queues_behind_polls later))) in
    let lengths : length whole ≡ length first + length more = ap length is_whole ∙ length-append first more in
    record {
      within = omega (arith, counted, lengths);
      first = (λ i. take (counted i) (is_whole i)) ∙ take-append_seam first more ∙ is_first;
      last = (λ i. drop (counted i) (is_whole i)) ∙ drop-append_seam first more ∙ (λ i. map as_listed (placed_from (sym counted i + 1) (flat_map (queue_ready moment (is_later i)) (queues_behind_polls (is_later i)))));
      whole = is_whole ∙ (λ i. listed_behind (is_first i) (flat_map (queue_ready moment (is_later i)) (queues_behind_polls (is_later i)))) ∙ listed_more [] (by_kind.ready_before moment held) (by_kind.ready_behind moment held);
      awake = awake;
      taken = same ∙ is_later;
    }

-- what is ready before polls, listed part by part
pub first_listed : {inner held : WorldState} (due : List TimerEntry) (moment : Moment) (list with_due with_before : List Listed)
    → inner ≡ held → due ≡ inner.timers → list ≡ [] → with_due ≡ listed_behind list (flat_map (due_ready moment) due)
    → with_before ≡ listed_behind with_due (flat_map (queue_ready moment inner) (queues_before_polls inner)) → with_before ≡ map as_listed (placed_from 1 (by_kind.ready_before moment held))
first_listed {inner} {held} due moment list with_due with_before same reads clear is_due is_before =
    is_before
    ∙ ap (λ (so_far : List Listed). listed_behind so_far (flat_map (queue_ready moment inner) (queues_before_polls inner)))
    (is_due ∙ (λ k. listed_behind (clear k) (flat_map (due_ready moment) (reads k))))
    ∙ listed_more [] (flat_map (due_ready moment) inner.timers) (flat_map (queue_ready moment inner) (queues_before_polls inner))
    ∙ ap (λ (world : WorldState). map as_listed (placed_from 1 (by_kind.ready_before moment world))) same
