-- What a snapshot makes of a client's calls: the replies that it takes, and the calls that stay pending.
use Rattle.std.proofs.Common.{◌≡◌, ℕ, ◌+◌, ◌≤◌, Bool, true, false, ◌==◌, if◌then◌else◌, List, [], ◌∷◌, ◌++◌, Option, None, Some, refl, sym, ap, subst, ◌∙◌, true≢false, append_assoc, arith, ◌&&◌}
use Rattle.std.specs.List.{find, flat_map, fold}
use Rattle.std.specs.List.Sorted.{IsPermutation}
use Rattle.std.specs.Option.{option_map, option_map_or}
use Rattle.std.proofs.lemmas.Bool.{eqb-true, eq-eqb}
use Rattle.std.proofs.lemmas.List.{append-nil}
use Rattle.std.proofs.lemmas.List.Sorted.{IsPermutation-append_right, IsPermutation-refl, IsPermutation-cons, IsPermutation-middle, IsPermutation-trans}
use Rattle.exec_msg.specs.Numbers.{EntityNo, Moment}
use Rattle.exec_msg.specs.Lists.{change_first, drop_first}
use Rattle.exec_msg.specs.Kind.{ready_number}
use Rattle.exec_msg.specs.declared.kind.Kind.TheVariants as kind
use Rattle.exec_plan.specs.Graph.{GraphData}
use Rattle.exec_laws.proofs.Channels.{weigh}
use Rattle.exec_laws.proofs.Flying.{first_weight, firsts}
use Rattle.exec_laws.proofs.Gathered.{IsAlone, list_gathered}
use Rattle.exec_rules.proofs.OfKinds.{AreOfTheirKinds}
use Rattle.exec_rules.proofs.Wiring.{IsWired}
use Rattle.exec_rules.specs.Ready.{answered_by_first, call_answered, item_ready, kind_of, queue_ready, ready_list, reply_taken}
use Rattle.exec_rules.specs.World.{WorldState, Queue, ClientEntry, is_client_at, goals_at}
use Rattle.exec_rules.specs.declared.item.Item.{Item}
use Rattle.exec_rules.specs.declared.item.Item.TheVariants as item
use Rattle.exec_rules.specs.declared.ready.Cause.{Cause}
use Rattle.exec_rules.specs.declared.ready.Cause.TheVariants as cause
use Rattle.exec_rules.specs.declared.ready.Ready.{Ready}

-- ---- numbers

-- how often a number stands in a list
abbrev pub among : ℕ → List ℕ → ℕ
among n [] = 0
among n (one ∷ all) = weigh (one == n) 1 + among n all

pub among_append : (n : ℕ) (some more : List ℕ) → among n (some ++ more) ≡ among n some + among n more
among_append n [] more = omega arith
among_append n (one ∷ some) more = let rest = among_append n some more in omega (arith, rest)

-- one that stands there and is dropped
pub record IsWithout (number : ℕ) (all : List ℕ) : Type 0 where
  pub order : IsPermutation all (number ∷ drop_first (λ one. one == number) all)
  pub counts : (n : ℕ) → among n all ≡ weigh (number == n) 1 + among n (drop_first (λ one. one == number) all)

pub dropped_once : (number : ℕ) (all : List ℕ) → 1 ≤ among number all → IsWithout number all
dropped_once number [] there = absurd (omega (arith, there))
dropped_once number (one ∷ all) there = by (one == number) refl (dropped_once number all)
  where
    by : (b : Bool) → one == number ≡ b → (1 ≤ among number all → IsWithout number all) → IsWithout number (one ∷ all)
    by true e rest =
        let same : one ≡ number = eqb-true one number e in
        record {
          order = rw e (subst (λ (n : ℕ). IsPermutation (one ∷ all) (n ∷ all)) same (IsPermutation-refl (one ∷ all)));
          counts = λ n. rw e (ap (λ (m : ℕ). weigh (m == n) 1 + among n all) same);
        }
    by false e rest =
        let behind : 1 ≤ among number all = let none : weigh (one == number) 1 ≡ 0 = ap (λ (b : Bool). weigh b 1) e in omega (arith, there, none) in
        let without : IsWithout number all = rest behind in
        record {
          order = rw e (IsPermutation-trans (one ∷ all) (one ∷ number ∷ drop_first (λ other. other == number) all) (number ∷ one ∷ drop_first (λ other. other == number) all)
              (IsPermutation-cons one all (number ∷ drop_first (λ other. other == number) all) without.order)
              (IsPermutation-middle (one ∷ []) number (drop_first (λ other. other == number) all)));
          counts = λ n. let same = without.counts n in rw e (omega (arith, same));
        }

-- ---- clients

abbrev pub calls_in : EntityNo → List ClientEntry → ℕ
calls_in client clients = option_map_or (λ entry. entry.calls) (find (is_client_at client) clients) 0

abbrev pub pending_in : EntityNo → List ClientEntry → List ℕ
pending_in client clients = option_map_or (λ entry. entry.pending) (find (is_client_at client) clients) []

module _ (change : ClientEntry → ClientEntry) (stays : (entry : ClientEntry) → (change entry).entity ≡ entry.entity) where
  pub client_changed : (client : EntityNo) (clients : List ClientEntry) → find (is_client_at client) (change_first (is_client_at client) change clients) ≡ option_map change (find (is_client_at client) clients)
  client_changed client [] = refl
  client_changed client (entry ∷ clients) = by (is_client_at client entry) refl (client_changed client clients)
    where
      by : (b : Bool) → is_client_at client entry ≡ b → find (is_client_at client) (change_first (is_client_at client) change clients) ≡ option_map change (find (is_client_at client) clients) →
          find (is_client_at client) (change_first (is_client_at client) change (entry ∷ clients)) ≡ option_map change (find (is_client_at client) (entry ∷ clients))
      by true e rest = rw (e, stays entry, e) refl
      by false e rest = rw (e, e) rest

  pub client_apart : (client other : EntityNo) → other == client ≡ false → (clients : List ClientEntry) → find (is_client_at client) (change_first (is_client_at other) change clients) ≡ find (is_client_at client) clients
  client_apart client other apart [] = refl
  client_apart client other apart (entry ∷ clients) = by (is_client_at other entry) (is_client_at client entry) refl refl (client_apart client other apart clients)
    where
      by : (b c : Bool) → is_client_at other entry ≡ b → is_client_at client entry ≡ c → find (is_client_at client) (change_first (is_client_at other) change clients) ≡ find (is_client_at client) clients →
          find (is_client_at client) (change_first (is_client_at other) change (entry ∷ clients)) ≡ find (is_client_at client) (entry ∷ clients)
      by true true e f rest = absurd (true≢false (sym (eq-eqb other client (sym (eqb-true entry.entity other e) ∙ eqb-true entry.entity client f)) ∙ apart))
      by true false e f rest = rw (e, stays entry, f) refl
      by false true e f rest = rw (e, f) refl
      by false false e f rest = rw (e, f) rest

-- ---- replies that a snapshot takes

module _ (client : EntityNo) where
  -- the number of the reply that a queue hands on first, where it is the client's
  abbrev pub number_of : EntityNo → Item → List ℕ
  number_of entity (item.Reply number value) = if entity == client then number ∷ [] else []
  number_of entity _ = []

  abbrev pub number_first : EntityNo → List Item → List ℕ
  number_first entity [] = []
  number_first entity (first ∷ items) = number_of entity first

  abbrev pub numbers_first : List Queue → List ℕ
  numbers_first queues = flat_map (λ queue. number_first queue.handler.entity queue.items) queues

  -- these replies answer pending calls
  pub record IsReplied (numbers : List ℕ) (clients after : List ClientEntry) : Type 0 where
    pub calls : calls_in client after ≡ calls_in client clients
    pub order : IsPermutation (pending_in client clients) (numbers ++ pending_in client after)
    pub counts : (n : ℕ) → among n (pending_in client clients) ≡ among n numbers + among n (pending_in client after)

  one_replied : (number : ℕ) (clients : List ClientEntry) → 1 ≤ among number (pending_in client clients) → IsReplied (number ∷ []) clients (change_first (is_client_at client) (call_answered number) clients)
  one_replied number clients there =
      let without : IsWithout number (pending_in client clients) = dropped_once number (pending_in client clients) there in
      record {
        calls = ap (λ (o : Option ClientEntry). option_map_or (λ (entry : ClientEntry). entry.calls) o 0) changed ∙ same_calls (find (is_client_at client) clients);
        order = subst (λ (some : List ℕ). IsPermutation (pending_in client clients) (number ∷ some)) (sym pends) without.order;
        counts = λ n.
            let same = without.counts n in
            let left : among n (pending_in client (change_first (is_client_at client) (call_answered number) clients)) ≡ among n (drop_first (λ one. one == number) (pending_in client clients)) = ap (λ (some : List ℕ). among n some) pends in
            omega (arith, same, left);
      }
    where
      changed : find (is_client_at client) (change_first (is_client_at client) (call_answered number) clients) ≡ option_map (call_answered number) (find (is_client_at client) clients)
      changed = client_changed (call_answered number) (λ entry. refl) client clients

      same_calls : (found : Option ClientEntry) → option_map_or (λ (entry : ClientEntry). entry.calls) (option_map (call_answered number) found) 0 ≡ option_map_or (λ (entry : ClientEntry). entry.calls) found 0
      same_calls None = refl
      same_calls (Some entry) = refl

      pending_left : (found : Option ClientEntry) → option_map_or (λ (entry : ClientEntry). entry.pending) (option_map (call_answered number) found) [] ≡ drop_first (λ one. one == number) (option_map_or (λ (entry : ClientEntry). entry.pending) found [])
      pending_left None = refl
      pending_left (Some entry) = refl

      pends : pending_in client (change_first (is_client_at client) (call_answered number) clients) ≡ drop_first (λ one. one == number) (pending_in client clients)
      pends = ap (λ (o : Option ClientEntry). option_map_or (λ (entry : ClientEntry). entry.pending) o []) changed ∙ pending_left (find (is_client_at client) clients)

  none_replied : (clients after : List ClientEntry) → find (is_client_at client) after ≡ find (is_client_at client) clients → IsReplied [] clients after
  none_replied clients after same =
      let left : pending_in client after ≡ pending_in client clients = ap (λ (o : Option ClientEntry). option_map_or (λ (entry : ClientEntry). entry.pending) o []) same in
      record {
        calls = ap (λ (o : Option ClientEntry). option_map_or (λ (entry : ClientEntry). entry.calls) o 0) same;
        order = subst (λ (some : List ℕ). IsPermutation (pending_in client clients) some) (sym left) (IsPermutation-refl (pending_in client clients));
        counts = λ n. let rest : among n (pending_in client clients) ≡ among n (pending_in client after) = ap (λ (some : List ℕ). among n some) (sym left) in omega (arith, rest);
      }

  -- what one queue hands on
  first_replied : (entity : EntityNo) (items : List Item) (clients : List ClientEntry) → ((n : ℕ) → among n (number_first entity items) ≤ among n (pending_in client clients)) → IsReplied (number_first entity items) clients (answered_by_first entity items clients)
  first_replied entity [] clients few = none_replied clients clients refl
  first_replied entity (item.Message value ∷ items) clients few = none_replied clients clients refl
  first_replied entity (item.Request other number value ∷ items) clients few = none_replied clients clients refl
  first_replied entity (item.Reply number value ∷ items) clients few = by (entity == client) refl
    where
      by : (b : Bool) → entity == client ≡ b → IsReplied (number_first entity (item.Reply number value ∷ items)) clients (change_first (is_client_at entity) (call_answered number) clients)
      by true e =
          let here : entity ≡ client = eqb-true entity client e in
          let what : number_first entity (item.Reply number value ∷ items) ≡ number ∷ [] = rw e refl in
          let enough = few number in
          let one : among number (number_first entity (item.Reply number value ∷ items)) ≡ 1 = ap (λ (some : List ℕ). among number some) what ∙ rw (eq-eqb number number refl) refl in
          subst (λ (some : List ℕ). IsReplied some clients (change_first (is_client_at entity) (call_answered number) clients)) (sym what)
          (subst (λ (at : EntityNo). IsReplied (number ∷ []) clients (change_first (is_client_at at) (call_answered number) clients)) (sym here) (one_replied number clients (omega (arith, enough, one))))
      by false e =
          let what : number_first entity (item.Reply number value ∷ items) ≡ [] = rw e refl in
          subst (λ (some : List ℕ). IsReplied some clients (change_first (is_client_at entity) (call_answered number) clients)) (sym what)
          (none_replied clients (change_first (is_client_at entity) (call_answered number) clients) (client_apart (call_answered number) (λ entry. refl) client entity e clients))
  first_replied entity (item.Goal id other value ∷ items) clients few = none_replied clients clients refl
  first_replied entity (item.Cancel request other ∷ items) clients few = none_replied clients clients refl
  first_replied entity (item.Ask id other ∷ items) clients few = none_replied clients clients refl
  first_replied entity (item.Response id accepted ∷ items) clients few = none_replied clients clients refl
  first_replied entity (item.Code returned moved ∷ items) clients few = none_replied clients clients refl
  first_replied entity (item.Feedback id value ∷ items) clients few = none_replied clients clients refl
  first_replied entity (item.Result id status value ∷ items) clients few = none_replied clients clients refl

  both_replied : (first rest : List ℕ) (clients between after : List ClientEntry) → IsReplied first clients between → IsReplied rest between after → IsReplied (first ++ rest) clients after
  both_replied first rest clients between after one others = record {
    calls = others.calls ∙ one.calls;
    order = subst (λ (some : List ℕ). IsPermutation (pending_in client clients) some) (sym (append_assoc first rest (pending_in client after)))
        (IsPermutation-trans (pending_in client clients) (first ++ pending_in client between) (first ++ (rest ++ pending_in client after)) one.order (IsPermutation-append_right first (pending_in client between) (rest ++ pending_in client after) others.order));
    counts = λ n. let a = one.counts n in let b = others.counts n in let c = among_append n first rest in omega (arith, a, b, c);
  }

  pub all_replied : (queues : List Queue) (clients : List ClientEntry) → ((n : ℕ) → among n (numbers_first queues) ≤ among n (pending_in client clients)) → IsReplied (numbers_first queues) clients (fold reply_taken clients queues)
  all_replied [] clients few = none_replied clients clients refl
  all_replied (queue ∷ queues) clients few =
      let split = λ (n : ℕ). among_append n (number_first queue.handler.entity queue.items) (numbers_first queues) in
      let one : IsReplied (number_first queue.handler.entity queue.items) clients (reply_taken clients queue) =
      first_replied queue.handler.entity queue.items clients (λ n. let a = few n in let b = split n in omega (arith, a, b)) in
      both_replied (number_first queue.handler.entity queue.items) (numbers_first queues) clients (reply_taken clients queue) (fold reply_taken (reply_taken clients queue) queues) one
      (all_replied queues (reply_taken clients queue) (λ n. let a = few n in let b = split n in let c = one.counts n in omega (arith, a, b, c)))

  -- ---- replies in hand

  abbrev pub number_by : EntityNo → Cause → List ℕ
  number_by entity (cause.Took taken) = number_of entity taken
  number_by entity _ = []

  abbrev pub number_in : Ready → List ℕ
  number_in one = number_by one.entity one.cause

  module _ (moment : Moment) (world : WorldState) where
    abbrev by_queue : Queue → List ℕ
    by_queue queue = flat_map number_in (queue_ready moment world queue)

    queue_numbers : (queue : Queue) → by_queue queue ≡ number_first queue.handler.entity queue.items
    queue_numbers queue = by queue.items
      where
        by : (items : List Item) → flat_map number_in (item_ready moment queue.handler (goals_at queue.handler.entity world) items) ≡ number_first queue.handler.entity items
        by [] = refl
        by (first ∷ items) = append-nil (number_of queue.handler.entity first)

    all_queue_numbers : (queues : List Queue) → flat_map by_queue queues ≡ numbers_first queues
    all_queue_numbers [] = refl
    all_queue_numbers (queue ∷ queues) = ap (λ (first : List ℕ). first ++ flat_map by_queue queues) (queue_numbers queue) ∙ ap (λ (rest : List ℕ). number_first queue.handler.entity queue.items ++ rest) (all_queue_numbers queues)

    -- another hands on none
    quiet : (entity : EntityNo) (why : Cause) → (entity == client) && (ready_number (kind_of why) == ready_number kind.Reply) ≡ false → number_by entity why ≡ []
    quiet entity cause.Due e = refl
    quiet entity (cause.Took (item.Message value)) e = refl
    quiet entity (cause.Took (item.Request other number value)) e = refl
    quiet entity (cause.Took (item.Reply number value)) e = by (entity == client) refl e
      where
        by : (b : Bool) → entity == client ≡ b → b && true ≡ false → number_by entity (cause.Took (item.Reply number value)) ≡ []
        by true f g = absurd (true≢false g)
        by false f g = rw f refl
    quiet entity (cause.Took (item.Goal id other value)) e = refl
    quiet entity (cause.Took (item.Cancel request other)) e = refl
    quiet entity (cause.Took (item.Ask id other)) e = refl
    quiet entity (cause.Took (item.Response id accepted)) e = refl
    quiet entity (cause.Took (item.Code returned moved)) e = refl
    quiet entity (cause.Took (item.Feedback id value)) e = refl
    quiet entity (cause.Took (item.Result id status value)) e = refl
    quiet entity (cause.Woke id value canceling) e = refl

    -- the client's callback alone is handed its replies
    alone : IsAlone number_in client kind.Reply
    alone = record {
      placed = λ position one. refl;
      others = λ one e. quiet one.entity one.cause e;
      no_timer = λ e. absurd cc;
      no_poll = λ e. absurd cc;
    }

    -- a ready list has the replies to the client that queues hand on, under any order, since of one client it has one at most: that
    -- the replies to all clients stand as queues do is true of the order of kinds alone
    pub list_numbers : (graph : GraphData) → IsWired graph world → AreOfTheirKinds world → flat_map number_in (ready_list moment world) ≡ numbers_first world.queues
    list_numbers graph wires kinds = list_gathered number_in client kind.Reply alone graph moment world wires kinds ∙ all_queue_numbers world.queues

-- ---- a call on its way

module _ (client n : ℕ) where
  -- whether an item is the request of the client's call of a number, or the reply to it
  abbrev pub of_request : EntityNo → Item → ℕ
  of_request entity (item.Request other number value) = weigh ((other == client) && (number == n)) 1
  of_request entity _ = 0

  abbrev pub of_reply : EntityNo → Item → ℕ
  of_reply entity (item.Reply number value) = weigh ((entity == client) && (number == n)) 1
  of_reply entity _ = 0

  abbrev pub weight : EntityNo → Item → ℕ
  weight entity one = of_request entity one + of_reply entity one

  number_counts : (entity : EntityNo) (one : Item) → among n (number_of client entity one) ≡ of_reply entity one
  number_counts entity (item.Message value) = refl
  number_counts entity (item.Request other number value) = refl
  number_counts entity (item.Reply number value) = by (entity == client) refl
    where
      by : (b : Bool) → entity == client ≡ b → among n (number_of client entity (item.Reply number value)) ≡ weigh ((entity == client) && (number == n)) 1
      by true e = rw e (omega arith)
      by false e = rw e refl
  number_counts entity (item.Goal id other value) = refl
  number_counts entity (item.Cancel request other) = refl
  number_counts entity (item.Ask id other) = refl
  number_counts entity (item.Response id accepted) = refl
  number_counts entity (item.Code returned moved) = refl
  number_counts entity (item.Feedback id value) = refl
  number_counts entity (item.Result id status value) = refl

  pub numbers_few : (queues : List Queue) → among n (numbers_first client queues) ≤ firsts of_reply queues
  numbers_few [] = omega arith
  numbers_few (queue ∷ queues) =
      let split = among_append n (number_first client queue.handler.entity queue.items) (numbers_first client queues) in
      let here = first queue.items in
      let rest = numbers_few queues in
      omega (arith, split, here, rest)
    where
      first : (items : List Item) → among n (number_first client queue.handler.entity items) ≡ first_weight of_reply queue.handler.entity items
      first [] = refl
      first (one ∷ items) = number_counts queue.handler.entity one
