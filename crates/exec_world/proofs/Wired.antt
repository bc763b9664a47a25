-- What is made of a graph's entities of a kind, entity by entity.
use Rattle.std.proofs.Common.{◌≡◌, ℕ, suc, ◌+◌, ◌<◌, ◌≤◌, add-one, Bool, true, false, cond, if◌then◌else◌, List, [], ◌∷◌, ◌++◌, length, drop, get_or, map, flat_map, length-append, refl, sym, ap, ◌∙◌, arith}
use Rattle.std.specs.List.{filter}
use Rattle.std.proofs.lemmas.List.{append_assoc, append-nil, drop_all, drop_more}
use Rattle.exec_msg.specs.Numbers.{EntityNo}
use Rattle.exec_plan.specs.Graph.{EntityData, GraphData, Waitable, cons_if, declared_at, entities_where, has_kind, is_action_client, is_client, is_server, is_timer, is_topic, numbers_where}
use Rattle.exec_plan.specs.declared.entity.Declared.{Declared}
use Rattle.exec_plan.specs.declared.entity.Declared.TheVariants.{Topic}
use Rattle.exec_msg.specs.declared.kind.Kind.{Kind}
use Rattle.exec_plan.specs.declared.order.Order.{Order}
use Rattle.exec_rules.specs.Transcript.{action_client_for, entity_at, new_action_clients, new_client, new_queue, new_server, new_timer, new_topic, takes_from_queue}
use Rattle.exec_rules.specs.World.{ActionClientEntry, Queue}
use Rattle.exec_world.specs.inner.Parts.{EntitiesData, new_queue_of, queues_of, with_declared, with_if}

-- what is made of those from a number on that pass a test
abbrev pub made_from : {A : Type 0} → (EntityNo → A) → (Declared → Bool) → GraphData → ℕ → List A
made_from make test graph number = map make (numbers_where test number (drop number graph.entities))

module _ {A : Type 0} (make : EntityNo → A) (test : Declared → Bool) where
  joined : (number : ℕ) (numbers : List ℕ) (before : List A) (b : Bool) → with_if b (make number) before ++ map make numbers ≡ before ++ map make (cons_if b number numbers)
  joined number numbers before true = append_assoc before (make number ∷ []) (map make numbers)
  joined number numbers before false = refl

  -- what is made of one more number stands in the list
  pub next_made : (graph : GraphData) (number : ℕ) (before after whole : List A) → number < length graph.entities → after ≡ with_if (test (declared_at graph number)) (make number) before
      → before ++ made_from make test graph number ≡ whole → after ++ made_from make test graph (number + 1) ≡ whole
  next_made graph number before after whole within pushed so_far =
      (λ i. pushed i ++ map make (numbers_where test (add-one number i) (drop (number + 1) graph.entities)))
      ∙ joined number (numbers_where test (suc number) (drop (number + 1) graph.entities)) before (test (declared_at graph number))
      ∙ ap (λ (entities : List EntityData). before ++ map make (numbers_where test number entities)) (sym (drop_more graph.entities number (record { name = []; is = Topic }) within))
      ∙ so_far

  -- and after the last number nothing is made
  pub none_made : (graph : GraphData) (number : ℕ) (so_far : List A) → length graph.entities ≤ number → so_far ++ made_from make test graph number ≡ so_far
  none_made graph number so_far past = ap (λ (entities : List EntityData). so_far ++ map make (numbers_where test number entities)) (drop_all number graph.entities past) ∙ append-nil so_far

-- numbers of which nothing is made
pub as_they_are : (numbers : List EntityNo) → map (λ number. number) numbers ≡ numbers
as_they_are [] = refl
as_they_are (number ∷ numbers) = ap (λ rest. number ∷ rest) (as_they_are numbers)

-- ---- queues

module _ (under : Order) (graph : GraphData) where
  abbrev waits_of : Kind → List Waitable
  waits_of kind = map (λ entity. record { kind = kind; entity = entity }) (entities_where (has_kind kind) graph)

  -- the queues of these kinds
  abbrev pub queues_from : List Kind → List Queue
  queues_from kinds = map (new_queue under graph) (filter (λ waitable. takes_from_queue waitable.kind) (flat_map waits_of kinds))

  abbrev made : List Waitable → List Queue
  made waitables = map (new_queue under graph) (filter (λ waitable. takes_from_queue waitable.kind) waitables)

  of_kind : (kind : Kind) (b : Bool) (numbers : List EntityNo) (rest : List Waitable) → takes_from_queue kind ≡ b
      → made (map (λ entity. record { kind = kind; entity = entity }) numbers ++ rest) ≡ (if b then map (new_queue_of under graph kind) numbers else []) ++ made rest
  of_kind kind true [] rest is = refl
  of_kind kind false [] rest is = refl
  of_kind kind true (number ∷ numbers) rest is =
      let more = filter (λ waitable. takes_from_queue waitable.kind) (map (λ entity. record { kind = kind; entity = entity }) numbers ++ rest) in
      ap (λ b. map (new_queue under graph) (cond b (record { kind = kind; entity = number } ∷ more) more)) is
      ∙ ap (λ queues. new_queue_of under graph kind number ∷ queues) (of_kind kind true numbers rest is)
  of_kind kind false (number ∷ numbers) rest is =
      let more = filter (λ waitable. takes_from_queue waitable.kind) (map (λ entity. record { kind = kind; entity = entity }) numbers ++ rest) in
      ap (λ b. map (new_queue under graph) (cond b (record { kind = kind; entity = number } ∷ more) more)) is
      ∙ of_kind kind false numbers rest is

  -- the queues of one more kind stand behind the others
  pub next_kind : (kinds : List Kind) (i : ℕ) (kind : Kind) (before after whole : List Queue) → i < length kinds → after ≡ before ++ queues_of under graph (get_or kinds i kind) → before ++ queues_from (drop i kinds) ≡ whole → after ++ queues_from (drop (i + 1) kinds) ≡ whole
  next_kind kinds i kind before after whole within declared so_far =
      ap (λ queues. queues ++ queues_from (drop (i + 1) kinds)) declared
      ∙ append_assoc before (queues_of under graph (get_or kinds i kind)) (queues_from (drop (i + 1) kinds))
      ∙ ap (λ rest. before ++ rest) (sym (ap queues_from (drop_more kinds i kind within) ∙ of_kind (get_or kinds i kind) (takes_from_queue (get_or kinds i kind)) (entities_where (has_kind (get_or kinds i kind)) graph) (flat_map waits_of (drop (i + 1) kinds)) refl))
      ∙ so_far

-- ---- entities of all kinds

module _ (graph : GraphData) where
  -- action clients from a number on, the first of which has this place
  abbrev clients_from : ℕ → ℕ → List ActionClientEntry
  clients_from place number = new_action_clients graph place (numbers_where is_action_client number (drop number graph.entities))

  -- entities, followed by those of the numbers from this one on
  abbrev pub followed : ℕ → EntitiesData → EntitiesData
  followed number so_far = record {
    topics = so_far.topics ++ made_from (new_topic graph) is_topic graph number;
    timers = so_far.timers ++ made_from (new_timer graph) is_timer graph number;
    servers = so_far.servers ++ made_from (new_server graph) is_server graph number;
    clients = so_far.clients ++ made_from (new_client graph) is_client graph number;
    action_clients = so_far.action_clients ++ clients_from (length so_far.action_clients) number;
  }

  module _ (number : ℕ) (before after : List ActionClientEntry) where
    abbrev entry : ActionClientEntry
    entry = action_client_for (length before) number (entity_at graph number)

    one_more : length (before ++ entry ∷ []) ≡ suc (length before)
    one_more = length-append before (entry ∷ []) ∙ add-one (length before)

    placed : (b : Bool) (numbers : List ℕ) → after ≡ with_if b entry before → after ++ new_action_clients graph (length after) numbers ≡ before ++ new_action_clients graph (length before) (cons_if b number numbers)
    placed true numbers is =
        ap (λ clients. clients ++ new_action_clients graph (length clients) numbers) is
        ∙ ap (λ place. (before ++ entry ∷ []) ++ new_action_clients graph place numbers) one_more
        ∙ append_assoc before (entry ∷ []) (new_action_clients graph (suc (length before)) numbers)
    placed false numbers is = ap (λ clients. clients ++ new_action_clients graph (length clients) numbers) is

    few : (b : Bool) → after ≡ with_if b entry before → length before ≤ number → length after ≤ number + 1
    few true is few_before = let same : length after ≡ suc (length before) = ap length is ∙ one_more in omega arith
    few false is few_before = let same : length after ≡ length before = ap length is in omega arith

  module _ (number : ℕ) (before after : EntitiesData) (is : after ≡ with_declared graph number before) where
    -- no more action clients than numbers
    pub few_clients : length before.action_clients ≤ number → length after.action_clients ≤ number + 1
    few_clients = few number before.action_clients after.action_clients (is_action_client (declared_at graph number)) (ap (λ (entities : EntitiesData). entities.action_clients) is)

    next_client : number < length graph.entities → after.action_clients ++ clients_from (length after.action_clients) (number + 1) ≡ before.action_clients ++ clients_from (length before.action_clients) number
    next_client within =
        ap (λ (next : ℕ). after.action_clients ++ new_action_clients graph (length after.action_clients) (numbers_where is_action_client next (drop (number + 1) graph.entities))) (add-one number)
        ∙ placed number before.action_clients after.action_clients (is_action_client (declared_at graph number)) (numbers_where is_action_client (suc number) (drop (number + 1) graph.entities)) (ap (λ (entities : EntitiesData). entities.action_clients) is)
        ∙ ap (λ (entities : List EntityData). before.action_clients ++ new_action_clients graph (length before.action_clients) (numbers_where is_action_client number entities)) (sym (drop_more graph.entities number (record { name = []; is = Topic }) within))

    -- what one more number is declared as comes after the others of its kind
    pub next_declared : (whole : EntitiesData) → number < length graph.entities → followed number before ≡ whole → followed (number + 1) after ≡ whole
    next_declared whole within so_far =
        (λ i. record {
          topics = next_made (new_topic graph) is_topic graph number before.topics after.topics _ within (ap (λ (entities : EntitiesData). entities.topics) is) refl i;
          timers = next_made (new_timer graph) is_timer graph number before.timers after.timers _ within (ap (λ (entities : EntitiesData). entities.timers) is) refl i;
          servers = next_made (new_server graph) is_server graph number before.servers after.servers _ within (ap (λ (entities : EntitiesData). entities.servers) is) refl i;
          clients = next_made (new_client graph) is_client graph number before.clients after.clients _ within (ap (λ (entities : EntitiesData). entities.clients) is) refl i;
          action_clients = next_client within i;
        })
        ∙ so_far

  -- after the last number there is nothing
  pub none_left : (number : ℕ) (all : EntitiesData) → length graph.entities ≤ number → followed number all ≡ all
  none_left number all past = λ i. record {
    topics = none_made (new_topic graph) is_topic graph number all.topics past i;
    timers = none_made (new_timer graph) is_timer graph number all.timers past i;
    servers = none_made (new_server graph) is_server graph number all.servers past i;
    clients = none_made (new_client graph) is_client graph number all.clients past i;
    action_clients = (ap (λ (entities : List EntityData). all.action_clients ++ new_action_clients graph (length all.action_clients) (numbers_where is_action_client number entities)) (drop_all number graph.entities past) ∙ append-nil all.action_clients) i;
  }
