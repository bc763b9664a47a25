-- What a snapshot hands a subscription's callback: the first message of its queue.
use Rattle.std.proofs.Common.{◌≡◌, ℤ, Bool, true, false, ◌&&◌, ◌==◌, if◌then◌else◌, List, [], ◌∷◌, ◌++◌, map, take, drop, Option, refl, sym, ap, ◌∙◌}
use Rattle.std.specs.List.{AllByRecursion, find, flat_map}
use Rattle.std.specs.Option.{option_map_or}
use Rattle.std.proofs.lemmas.Bool.{eqb-true, and_parts}
use Rattle.std.proofs.lemmas.List.{append-nil}
use Rattle.std.proofs.lemmas.List.Elements.{recursion_from_All}
use Rattle.exec_msg.specs.Numbers.{EntityNo, GoalId, Moment}
use Rattle.exec_msg.specs.Kind.{ready_number}
use Rattle.exec_msg.specs.declared.kind.Kind.{Kind}
use Rattle.exec_msg.specs.declared.kind.Kind.TheVariants as kind
use Rattle.exec_msg.specs.declared.line.Line.TheVariants as line
use Rattle.exec_plan.specs.Graph.{GraphData}
use Rattle.exec_laws.proofs.Gathered.{IsAlone, flat_none, list_gathered}
use Rattle.exec_rules.proofs.OfKinds.{AreOfTheirKinds, IsOfItsKind, same_kind}
use Rattle.exec_rules.proofs.Pairs.{Pairs, all_both}
use Rattle.exec_rules.proofs.Wiring.{IsWired, QueuesApart}
use Rattle.exec_laws.specs.Exchanges.{taken_at}
use Rattle.exec_rules.specs.Item.{taker_of, first_of}
use Rattle.exec_rules.specs.Ready.{item_ready, kind_of, queue_ready, queue_taken, ready_list, run_line}
use Rattle.exec_rules.specs.World.{WorldState, Queue, goals_at, is_queue}
use Rattle.exec_rules.specs.declared.item.Item.{Item}
use Rattle.exec_rules.specs.declared.ready.Ready.{Ready}

module _ (subscription : EntityNo) where
  -- what a callback's line will say that it takes
  abbrev pub handed : Ready → List ℤ
  handed one = taken_at subscription (run_line one)

  -- the messages in its queue, among these
  abbrev pub held_in : List Queue → List ℤ
  held_in queues = option_map_or (λ queue. map first_of queue.items) (find (is_queue subscription kind.Message) queues) []

  taken_said : (of : Kind) (entity : EntityNo) (value aux : ℤ) (id : Option GoalId) → taken_at subscription (line.Run entity of value aux id) ≡ (if (entity == subscription) && (ready_number of == ready_number kind.Message) then value ∷ [] else [])
  taken_said of entity value aux id = by of (entity == subscription) refl
    where
      by : (k : Kind) (b : Bool) → entity == subscription ≡ b → taken_at subscription (line.Run entity k value aux id) ≡ (if (entity == subscription) && (ready_number k == ready_number kind.Message) then value ∷ [] else [])
      by kind.Timer true e = rw e refl
      by kind.Timer false e = rw e refl
      by kind.Message true e = rw e refl
      by kind.Message false e = rw e refl
      by kind.Request true e = rw e refl
      by kind.Request false e = rw e refl
      by kind.Reply true e = rw e refl
      by kind.Reply false e = rw e refl
      by kind.Goal true e = rw e refl
      by kind.Goal false e = rw e refl
      by kind.Cancel true e = rw e refl
      by kind.Cancel false e = rw e refl
      by kind.Ask true e = rw e refl
      by kind.Ask false e = rw e refl
      by kind.Poll true e = rw e refl
      by kind.Poll false e = rw e refl
      by kind.Response true e = rw e refl
      by kind.Response false e = rw e refl
      by kind.Code true e = rw e refl
      by kind.Code false e = rw e refl
      by kind.Feedback true e = rw e refl
      by kind.Feedback false e = rw e refl
      by kind.Result true e = rw e refl
      by kind.Result false e = rw e refl

  -- ---- queues

  module _ (moment : Moment) (world : WorldState) where
    abbrev by_queue : Queue → List ℤ
    by_queue queue = flat_map handed (queue_ready moment world queue)

    queue_hands : (queue : Queue) → IsOfItsKind queue → by_queue queue ≡ (if is_queue subscription kind.Message queue then take 1 (map first_of queue.items) else [])
    queue_hands queue p = by queue.items (recursion_from_All (λ one. taker_of one ≡ queue.kind) queue.items p)
      where
        empty : (b : Bool) → ◌≡◌ {A = List ℤ} [] (if b then [] else [])
        empty true = refl
        empty false = refl

        by : (items : List Item) → AllByRecursion (λ one. taker_of one ≡ queue.kind) items → flat_map handed (item_ready moment queue.handler (goals_at queue.handler.entity world) items) ≡ (if is_queue subscription kind.Message queue then take 1 (map first_of items) else [])
        by [] q = empty (is_queue subscription kind.Message queue)
        by (first ∷ items) q =
            append-nil _ ∙ taken_said (taker_of first) queue.handler.entity (first_of first) _ _
            ∙ ap (λ (of : Kind). if (queue.handler.entity == subscription) && (ready_number of == ready_number kind.Message) then first_of first ∷ [] else []) q.0

    -- what other queues hand on
    none_hands : (queue : Queue) → IsOfItsKind queue → is_queue subscription kind.Message queue ≡ false → by_queue queue ≡ []
    none_hands queue p apart = queue_hands queue p ∙ rw apart refl

    its_kind : (queue : Queue) → is_queue subscription kind.Message queue ≡ true → queue.kind ≡ kind.Message
    its_kind queue is = same_kind queue.kind kind.Message (eqb-true (ready_number queue.kind) (ready_number kind.Message) (and_parts (queue.handler.entity == subscription) (ready_number queue.kind == ready_number kind.Message) is).1)

    here : (queue : Queue) → is_queue subscription kind.Message queue ≡ true → queue.handler.entity ≡ subscription
    here queue is = eqb-true queue.handler.entity subscription (and_parts (queue.handler.entity == subscription) (ready_number queue.kind == ready_number kind.Message) is).0

    others : (queue : Queue) → is_queue subscription kind.Message queue ≡ true → (queues : List Queue) → AllByRecursion (QueuesApart queue) queues → AllByRecursion IsOfItsKind queues → AllByRecursion (λ one. by_queue one ≡ []) queues
    others queue is queues apart kinds =
        all_both (QueuesApart queue) IsOfItsKind (λ one. by_queue one ≡ []) (λ one differs its. none_hands one its (no one differs (is_queue subscription kind.Message one) refl)) queues apart kinds
      where
        no : (one : Queue) → QueuesApart queue one → (b : Bool) → is_queue subscription kind.Message one ≡ b → is_queue subscription kind.Message one ≡ false
        no one differs true e = absurd (differs (its_kind one e ∙ sym (its_kind queue is)) (here one e ∙ sym (here queue is)))
        no one differs false e = e

    queues_hand : (queues : List Queue) → Pairs QueuesApart queues → AllByRecursion IsOfItsKind queues → flat_map by_queue queues ≡ take 1 (held_in queues)
    queues_hand [] apart kinds = refl
    queues_hand (queue ∷ queues) apart kinds = by (is_queue subscription kind.Message queue) refl (queues_hand queues apart.1 kinds.1)
      where
        by : (b : Bool) → is_queue subscription kind.Message queue ≡ b → flat_map by_queue queues ≡ take 1 (held_in queues) → flat_map by_queue (queue ∷ queues) ≡ take 1 (held_in (queue ∷ queues))
        by true e rest =
            let first : by_queue queue ≡ take 1 (map first_of queue.items) = queue_hands queue kinds.0 ∙ rw e refl in
            let none : flat_map by_queue queues ≡ [] = flat_none by_queue queues (others queue e queues apart.0 kinds.1) in
            rw e (ap (λ (more : List ℤ). by_queue queue ++ more) none ∙ append-nil (by_queue queue) ∙ first)
        by false e rest = ap (λ (first : List ℤ). first ++ flat_map by_queue queues) (none_hands queue kinds.0 e) ∙ rest ∙ rw e refl

    -- ---- the ready list

    -- the subscription's callback alone is handed its messages
    alone : IsAlone handed subscription kind.Message
    alone = record {
      placed = λ position one. refl;
      others = λ one e. taken_said (kind_of one.cause) one.entity _ _ _ ∙ rw e refl;
      no_timer = λ e. absurd cc;
      no_poll = λ e. absurd cc;
    }

    -- all of it together hands on the first message
    pub list_hands : (graph : GraphData) → IsWired graph world → AreOfTheirKinds world → flat_map handed (ready_list moment world) ≡ take 1 (held_in world.queues)
    list_hands graph wires kinds = list_gathered handed subscription kind.Message alone graph moment world wires kinds ∙ queues_hand world.queues wires.queues kinds

  -- what the snapshot leaves of it
  pub held_taken : (queues : List Queue) → held_in (map queue_taken queues) ≡ drop 1 (held_in queues)
  held_taken [] = refl
  held_taken (queue ∷ queues) = by (is_queue subscription kind.Message queue) refl (held_taken queues)
    where
      dropped : (items : List Item) → map first_of (drop 1 items) ≡ drop 1 (map first_of items)
      dropped [] = refl
      dropped (first ∷ items) = refl

      by : (b : Bool) → is_queue subscription kind.Message queue ≡ b → held_in (map queue_taken queues) ≡ drop 1 (held_in queues) → held_in (map queue_taken (queue ∷ queues)) ≡ drop 1 (held_in (queue ∷ queues))
      by true e rest = rw e (dropped queue.items)
      by false e rest = rw e rest
