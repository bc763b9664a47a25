-- The goals of a server where some server is changed: no two of them have one identifier.
use Rattle.std.proofs.Common.{◌≡◌, ◌⊎◌, inl, inr, ℕ, Bool, true, false, ◌||◌, not, ◌==◌, List, [], ◌∷◌, ◌++◌, map, Option, None, refl, sym, ap, subst, ◌∙◌, true≢false}
use Rattle.std.specs.List.{AllByRecursion, IsDistinct, filter, list_any}
use Rattle.std.proofs.lemmas.Bool.{eqb-true, eq-eqb, or_parts, not-true}
use Rattle.std.proofs.lemmas.List.{map-append}
use Rattle.exec_goal.specs.Table.{GoalRecord, holds_id, has_id, is_full, is_expired, new_goal, unexpired}
use Rattle.exec_msg.specs.Numbers.{EntityNo, GoalId, Moment}
use Rattle.exec_msg.specs.declared.goal.Acceptance.{Acceptance}
use Rattle.exec_plan.specs.Graph.{GraphData, entities_where, is_server}
use Rattle.exec_plan.specs.Plan.{PlanData}
use Rattle.exec_msg.specs.Lists.{change_first}
use Rattle.exec_task.specs.Task.{TaskState}
use Rattle.exec_rules.proofs.Records.{ids, records_filtered, records_left, records_put}
use Rattle.exec_rules.proofs.Running.{KeptByRounds, rounds_keep}
use Rattle.exec_rules.specs.Close.{GoalRequest, held_goal, server_accepting, accept}
use Rattle.exec_rules.specs.Transcript.{server_expired, first_world, new_server, rounds}
use Rattle.exec_rules.specs.World.{WorldState, HeldGoal, ServerEntry, is_server_at, records_of, goals_in, goals_at, has_room_for, with_goals, with_held, arrived, standing, next_arrival}

-- ---- numbers

-- equality looks the same from both sides
pub eq_turned : (a b : ℕ) → (a == b) ≡ (b == a)
eq_turned a b = by (a == b) (b == a) refl refl
  where
    by : (c d : Bool) → (a == b) ≡ c → (b == a) ≡ d → c ≡ d
    by true true e f = refl
    by false false e f = refl
    by true false e f = sym (eq-eqb b a (sym (eqb-true a b e))) ∙ f
    by false true e f = sym e ∙ eq-eqb a b (sym (eqb-true b a f))

-- ---- lists of goals

-- no two identifiers are one
abbrev pub Distinct : List GoalId → Type 0
Distinct held = IsDistinct (λ one other. one == other) held

all_more : (P : GoalId → Type 0) (goals : List GoalRecord) (new : GoalRecord) → AllByRecursion P (ids goals) → P new.id → AllByRecursion P (ids (goals ++ new ∷ []))
all_more P [] new p q = (q, tt)
all_more P (goal ∷ goals) new p q = (p.0, all_more P goals new p.1 q)

-- one more goal, whose identifier isn't held
pub distinct_more : (goals : List GoalRecord) (new : GoalRecord) → Distinct (ids goals) → holds_id new.id goals ≡ false → Distinct (ids (goals ++ new ∷ []))
unfolding IsDistinct
distinct_more [] new p e = (tt, tt)
distinct_more (goal ∷ goals) new p e =
    let parts = or_parts (has_id new.id goal) (holds_id new.id goals) e in
    (all_more (λ other. goal.id == other ≡ false) goals new p.0 parts.0, distinct_more goals new p.1 parts.1)

pub filter_all : (P : GoalId → Type 0) (test : GoalRecord → Bool) (goals : List GoalRecord) → AllByRecursion P (ids goals) → AllByRecursion P (ids (filter test goals))
filter_all P test [] p = tt
filter_all P test (goal ∷ goals) p = by (test goal) refl (filter_all P test goals p.1)
  where
    by : (b : Bool) → test goal ≡ b → AllByRecursion P (ids (filter test goals)) → AllByRecursion P (ids (filter test (goal ∷ goals)))
    by true e rest = rw e (p.0, rest)
    by false e rest = rw e rest

pub filter_distinct : (test : GoalRecord → Bool) (goals : List GoalRecord) → Distinct (ids goals) → Distinct (ids (filter test goals))
unfolding IsDistinct
filter_distinct test [] p = tt
filter_distinct test (goal ∷ goals) p = by (test goal) refl (filter_distinct test goals p.1)
  where
    by : (b : Bool) → test goal ≡ b → Distinct (ids (filter test goals)) → Distinct (ids (filter test (goal ∷ goals)))
    by true e rest = rw e (filter_all (λ other. goal.id == other ≡ false) test goals p.0, rest)
    by false e rest = rw e rest

-- a server with room holds no goal of the identifier
pub room_without : (id : GoalId) (goals : List GoalRecord) → has_room_for id goals ≡ true → holds_id id goals ≡ false
room_without id goals room = (or_parts (holds_id id goals) (is_full goals) (not-true (holds_id id goals || is_full goals) room)).0

-- ---- the goals of a server, where some server is changed

-- they are as they were, or those of the server that is changed
abbrev pub OldOrNew : EntityNo → EntityNo → (ServerEntry → ServerEntry) → (List GoalRecord → List GoalRecord) → List ServerEntry → Type 0
OldOrNew one server change goals servers =
    (goals_in one (change_first (is_server_at server) change servers) ≡ goals_in one servers)
    ⊎ ((server ≡ one) × (goals_in one (change_first (is_server_at server) change servers) ≡ goals (goals_in one servers)))

-- a change of a server leaves its number, and makes this of its goals
pub record Makes (change : ServerEntry → ServerEntry) (goals : List GoalRecord → List GoalRecord) : Type 0 where
  pub stays : (entry : ServerEntry) → (change entry).handler.entity ≡ entry.handler.entity
  pub makes : (entry : ServerEntry) → records_of (change entry).held ≡ goals (records_of entry.held)

-- the records are changed, a task is put, a goal arrives anew, and a goal is accepted
pub changing : (change : List GoalRecord → List GoalRecord) → ((goals : List GoalRecord) → ids (change goals) ≡ ids goals) → Makes (with_goals change) change
changing change same = record { stays = λ entry. refl; makes = λ entry. records_put (change (records_of entry.held)) entry.held (same (records_of entry.held)) }

pub tasking : (id : GoalId) (task : TaskState) → Makes (with_held id (standing task)) (λ goals. goals)
tasking id task = record { stays = λ entry. refl; makes = λ entry. records_left id (standing task) (λ one. refl) entry.held }

pub goal_arriving : (id : GoalId) (number : ℕ) → Makes (with_held id (arrived number)) (λ goals. goals)
goal_arriving id number = record { stays = λ entry. refl; makes = λ entry. records_left id (arrived number) (λ one. refl) entry.held }

pub accepting : (number : ℕ) (moment : Moment) (how : Acceptance) (request : GoalRequest) → Makes (server_accepting number moment how request) (λ goals. goals ++ new_goal request.id request.value moment how ∷ [])
accepting number moment how request = record { stays = λ entry. refl; makes = λ entry. map-append (λ (one : HeldGoal). one.goal) entry.held (held_goal number moment how entry.handler.script request ∷ []) }

module _ {change : ServerEntry → ServerEntry} {goals : List GoalRecord → List GoalRecord} (m : Makes change goals) where
  pub old_or_new : (one server : EntityNo) (servers : List ServerEntry) → OldOrNew one server change goals servers
  old_or_new one server [] = inl refl
  old_or_new one server (entry ∷ servers) = by (is_server_at server entry) (is_server_at one entry) refl refl (old_or_new one server servers)
    where
      by : (b c : Bool) → is_server_at server entry ≡ b → is_server_at one entry ≡ c → OldOrNew one server change goals servers → OldOrNew one server change goals (entry ∷ servers)
      by true true e f rest = inr (sym (eqb-true entry.handler.entity server e) ∙ eqb-true entry.handler.entity one f, rw (e, m.stays entry, f) (m.makes entry))
      by true false e f rest = inl (rw (e, m.stays entry, f) refl)
      by false true e f rest = inl (rw (e, f) refl)
      by false false e f rest = rw (e, f) rest

  -- another server's
  pub goals_apart : (one server : EntityNo) (servers : List ServerEntry) → server == one ≡ false → goals_in one (change_first (is_server_at server) change servers) ≡ goals_in one servers
  goals_apart one server servers apart = by (old_or_new one server servers)
    where
      by : OldOrNew one server change goals servers → goals_in one (change_first (is_server_at server) change servers) ≡ goals_in one servers
      by (inl e) = e
      by (inr p) = absurd (true≢false (sym (eq-eqb server one p.0) ∙ apart))

  -- the server's own, where it is there or the change makes none of none
  pub goals_here : (server : EntityNo) (servers : List ServerEntry) → (list_any (is_server_at server) servers ≡ true) ⊎ (goals [] ≡ []) → goals_in server (change_first (is_server_at server) change servers) ≡ goals (goals_in server servers)
  goals_here server [] (inl there) = absurd (true≢false (sym there))
  goals_here server [] (inr none) = sym none
  goals_here server (entry ∷ servers) p = by (is_server_at server entry) refl p (goals_here server servers)
    where
      by : (b : Bool) → is_server_at server entry ≡ b → (list_any (is_server_at server) (entry ∷ servers) ≡ true) ⊎ (goals [] ≡ []) → ((list_any (is_server_at server) servers ≡ true) ⊎ (goals [] ≡ []) → goals_in server (change_first (is_server_at server) change servers) ≡ goals (goals_in server servers)) →
          goals_in server (change_first (is_server_at server) change (entry ∷ servers)) ≡ goals (goals_in server (entry ∷ servers))
      by true e q rest = rw (e, m.stays entry, e) (m.makes entry)
      by false e (inl there) rest = let behind : list_any (is_server_at server) servers ≡ true = rw e at there in rw (e, e) (rest (inl behind))
      by false e (inr none) rest = rw (e, e) (rest (inr none))

  -- where the change leaves identifiers
  pub ids_left : ((some : List GoalRecord) → ids (goals some) ≡ ids some) → (one server : EntityNo) (servers : List ServerEntry) → ids (goals_in one (change_first (is_server_at server) change servers)) ≡ ids (goals_in one servers)
  ids_left same one server servers = by (old_or_new one server servers)
    where
      by : OldOrNew one server change goals servers → ids (goals_in one (change_first (is_server_at server) change servers)) ≡ ids (goals_in one servers)
      by (inl e) = ap (λ (some : List GoalRecord). ids some) e
      by (inr p) = ap (λ (some : List GoalRecord). ids some) p.1 ∙ same (goals_in one servers)

-- what an expiry leaves of a server's goals, for some timeout
pub expired_goals : (moment : Moment) (server : EntityNo) (servers : List ServerEntry) → (timeout : Option ℕ) × (goals_in server (map (server_expired moment) servers) ≡ unexpired moment timeout (goals_in server servers))
expired_goals moment server [] = (None, refl)
expired_goals moment server (entry ∷ servers) = by (is_server_at server entry) refl (expired_goals moment server servers)
  where
    by : (b : Bool) → is_server_at server entry ≡ b → ((timeout : Option ℕ) × (goals_in server (map (server_expired moment) servers) ≡ unexpired moment timeout (goals_in server servers))) → (timeout : Option ℕ) × (goals_in server (map (server_expired moment) (entry ∷ servers)) ≡ unexpired moment timeout (goals_in server (entry ∷ servers)))
    by true e rest = (entry.timeout, rw e (records_filtered (λ goal. not (is_expired moment entry.timeout goal)) entry.held))
    by false e rest = (rest.0, rw e rest.1)

-- new servers have none
pub first_goals : (graph : GraphData) (server : EntityNo) (numbers : List EntityNo) → goals_in server (map (new_server graph) numbers) ≡ []
first_goals graph server [] = refl
first_goals graph server (number ∷ numbers) = by (number == server) refl (first_goals graph server numbers)
  where
    by : (b : Bool) → number == server ≡ b → goals_in server (map (new_server graph) numbers) ≡ [] → goals_in server (map (new_server graph) (number ∷ numbers)) ≡ []
    by true e rest = rw e refl
    by false e rest = rw e rest

-- ---- rounds

-- no two goals of one server have one identifier
abbrev pub HasDistinct : WorldState → Type 0
HasDistinct world = (server : EntityNo) → Distinct (ids (goals_at server world))

distinct_accepted : (server : EntityNo) (moment : Moment) (how : Acceptance) (request : GoalRequest) (world : WorldState) → has_room_for request.id (goals_at server world) ≡ true → HasDistinct world → HasDistinct (accept server moment how request world)
distinct_accepted server moment how request world room p one =
    by (old_or_new (accepting (next_arrival world) moment how request) one server world.servers)
  where
    by : OldOrNew one server (server_accepting (next_arrival world) moment how request) (λ goals. goals ++ new_goal request.id request.value moment how ∷ []) world.servers → Distinct (ids (goals_at one (accept server moment how request world)))
    by (inl e) = subst (λ (some : List GoalRecord). Distinct (ids some)) (sym e) (p one)
    by (inr q) =
        subst (λ (some : List GoalRecord). Distinct (ids some)) (sym q.1)
        (distinct_more (goals_at one world) (new_goal request.id request.value moment how) (p one)
        (subst (λ (at : EntityNo). holds_id request.id (goals_at at world) ≡ false) q.0 (room_without request.id (goals_at server world) room)))

pub distinct_kept : KeptByRounds HasDistinct
distinct_kept = record {
  basic = record {
    lines_kept = λ lines world p. p;
    queues_kept = λ entity new world p. p;
    goals_kept = λ server change world same p one. subst (λ (some : List GoalId). Distinct some) (sym (ids_left (changing change same) same one server world.servers)) (p one);
    tasks_kept = λ server id task world p one. subst (λ (some : List GoalId). Distinct some) (sym (ids_left (tasking id task) (λ goals. refl) one server world.servers)) (p one);
    arrivals_kept = λ server id world p one. subst (λ (some : List GoalId). Distinct some) (sym (ids_left (goal_arriving id (next_arrival world)) (λ goals. refl) one server world.servers)) (p one);
    calls_kept = λ client world p. p;
    sending_kept = λ client world p. p;
    variables_kept = λ group variables world p. p;
  };
  accepts_kept = distinct_accepted;
  expiry_kept = λ moment world p one.
      let left = expired_goals moment one world.servers in
      subst (λ (some : List GoalRecord). Distinct (ids some)) (sym left.1) (filter_distinct (λ goal. not (is_expired moment left.0 goal)) (goals_at one world) (p one));
  snapshot_kept = λ moment world p. p;
}

pub first_distinct : (plan : PlanData) → HasDistinct (first_world plan)
unfolding IsDistinct
first_distinct plan server = subst (λ (some : List GoalRecord). Distinct (ids some)) (sym (first_goals plan.graph server (entities_where is_server plan.graph))) tt

pub distinct_ids : (plan : PlanData) (number : ℕ) (moments : List Moment) (server : EntityNo) → IsDistinct (λ one other. one == other) (map (λ goal. goal.id) (goals_at server (rounds plan number moments (first_world plan))))
distinct_ids plan number moments = rounds_keep distinct_kept plan number moments (first_world plan) (first_distinct plan)
