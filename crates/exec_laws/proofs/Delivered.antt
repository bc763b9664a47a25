-- What each change makes of the messages that were published to a topic: those that left a subscription's queue, those that a
-- callback will take, and those that the queue holds.
use Rattle.std.proofs.Common.{◌≡◌, ℤ, Bool, true, false, ◌==◌, List, [], ◌∷◌, ◌++◌, map, take, drop, refl, sym, ap, subst, ◌∙◌, true≢false, append_assoc, ℕ}
use Rattle.std.specs.List.{AllByRecursion, find, flat_map, list_any}
use Rattle.std.specs.Option.{option_map_or}
use Rattle.std.proofs.lemmas.Bool.{eqb-true, eq-eqb, and_parts}
use Rattle.std.proofs.lemmas.Grind.{flat_map-append}
use Rattle.std.proofs.lemmas.List.{append-nil, map-append, take-append-drop}
use Rattle.exec_msg.specs.Numbers.{EntityNo}
use Rattle.exec_msg.specs.KeepLast.{displaced, sent}
use Rattle.exec_msg.specs.Kind.{ready_number}
use Rattle.exec_msg.specs.Lists.{change_first}
use Rattle.exec_msg.specs.declared.kind.Kind.{Kind}
use Rattle.exec_msg.specs.declared.kind.Kind.TheVariants as kind
use Rattle.exec_msg.specs.declared.line.Line.{Line}
use Rattle.exec_msg.specs.declared.line.Line.TheVariants as line
use Rattle.exec_laws.proofs.Gathered.{flat_more}
use Rattle.exec_laws.proofs.Handed.{held_in}
use Rattle.exec_rules.proofs.Keeping.{is_message}
use Rattle.exec_rules.proofs.OfKinds.{AreOfTheirKinds, lost_of_kind, same_kind}
use Rattle.exec_rules.proofs.Pairs.{all_weaker}
use Rattle.exec_laws.proofs.Subscribed.{brought}
use Rattle.exec_laws.specs.Exchanges.{taken_at, dropped_at, Leaving, taken, dropped, leaving_value, taken_by, dropped_by}
use Rattle.exec_rules.specs.Item.{taker_of, first_of}
use Rattle.exec_rules.specs.World.{WorldState, Queue, is_queue, drop_line, lost_by, queue_after, push, next_arrival}
use Rattle.exec_rules.specs.declared.item.Item.{Item}
use Rattle.exec_rules.specs.declared.item.Item.TheVariants as item

-- ---- lists

-- messages that leave by one way
dropped_values : (values : List ℤ) → map leaving_value (map (λ value. dropped value) values) ≡ values
dropped_values [] = refl
dropped_values (value ∷ values) = ap (λ (rest : List ℤ). value ∷ rest) (dropped_values values)

dropped_dropped : (values : List ℤ) → flat_map dropped_by (map (λ value. dropped value) values) ≡ values
dropped_dropped [] = refl
dropped_dropped (value ∷ values) = ap (λ (rest : List ℤ). value ∷ rest) (dropped_dropped values)

dropped_taken : (values : List ℤ) → flat_map taken_by (map (λ value. dropped value) values) ≡ []
dropped_taken [] = refl
dropped_taken (value ∷ values) = dropped_taken values

taken_values : (values : List ℤ) → map leaving_value (map (λ value. taken value) values) ≡ values
taken_values [] = refl
taken_values (value ∷ values) = ap (λ (rest : List ℤ). value ∷ rest) (taken_values values)

taken_dropped : (values : List ℤ) → flat_map dropped_by (map (λ value. taken value) values) ≡ []
taken_dropped [] = refl
taken_dropped (value ∷ values) = taken_dropped values

taken_taken : (values : List ℤ) → flat_map taken_by (map (λ value. taken value) values) ≡ values
taken_taken [] = refl
taken_taken (value ∷ values) = ap (λ (rest : List ℤ). value ∷ rest) (taken_taken values)

-- ---- a queue and its lines

module _ (subscription : EntityNo) where
  -- what was sent left the queue or is in it; lines say what left it, but for what a callback has in hand
  pub record Flow (sent hand : List ℤ) (queues : List Queue) (lines : List Line) : Type 0 where
    pub left : List Leaving
    pub in_order : sent ≡ map leaving_value left ++ held_in subscription queues
    pub takings : flat_map (taken_at subscription) lines ++ hand ≡ flat_map taken_by left
    pub losses : flat_map (dropped_at subscription) lines ≡ flat_map dropped_by left

  -- a line that says nothing of them
  abbrev pub IsMute : Line → Type 0
  IsMute one = (taken_at subscription one ≡ []) × (dropped_at subscription one ≡ [])

  pub flow_lines : (sent hand : List ℤ) (queues : List Queue) (lines more : List Line) → AllByRecursion IsMute more → Flow sent hand queues lines → Flow sent hand queues (lines ++ more)
  flow_lines sent hand queues lines more mute f = record {
    left = f.left;
    in_order = f.in_order;
    takings = ap (λ (some : List ℤ). some ++ hand) (flat_more (taken_at subscription) lines more (all_weaker IsMute (λ one. taken_at subscription one ≡ []) (λ one q. q.0) more mute)) ∙ f.takings;
    losses = flat_more (dropped_at subscription) lines more (all_weaker IsMute (λ one. dropped_at subscription one ≡ []) (λ one q. q.1) more mute) ∙ f.losses;
  }

  -- a callback's line says what it had in hand
  pub flow_begun : (sent hand : List ℤ) (queues : List Queue) (lines : List Line) (one : Line) → dropped_at subscription one ≡ [] → Flow sent (taken_at subscription one ++ hand) queues lines → Flow sent hand queues (lines ++ one ∷ [])
  flow_begun sent hand queues lines one mute f = record {
    left = f.left;
    in_order = f.in_order;
    takings =
        ap (λ (some : List ℤ). some ++ hand) (flat_map-append (taken_at subscription) lines (one ∷ []) ∙ ap (λ (some : List ℤ). flat_map (taken_at subscription) lines ++ some) (append-nil (taken_at subscription one)))
        ∙ append_assoc (flat_map (taken_at subscription) lines) (taken_at subscription one) hand ∙ f.takings;
    losses = flat_more (dropped_at subscription) lines (one ∷ []) (mute, tt) ∙ f.losses;
  }

  -- the first message is taken
  pub flow_taken : (sent : List ℤ) (queues after : List Queue) (lines : List Line) → held_in subscription after ≡ drop 1 (held_in subscription queues) → Flow sent [] queues lines → Flow sent (take 1 (held_in subscription queues)) after lines
  flow_taken sent queues after lines rest f =
      let first : List ℤ = take 1 (held_in subscription queues) in
      record {
        left = f.left ++ map (λ value. taken value) first;
        in_order =
            f.in_order ∙ ap (λ (some : List ℤ). map leaving_value f.left ++ some) (sym (take-append-drop 1 (held_in subscription queues)))
            ∙ sym (append_assoc (map leaving_value f.left) first (drop 1 (held_in subscription queues)))
            ∙ ap (λ (some : List ℤ). (map leaving_value f.left ++ some) ++ drop 1 (held_in subscription queues)) (sym (taken_values first))
            ∙ ap (λ (some : List ℤ). some ++ drop 1 (held_in subscription queues)) (sym (map-append leaving_value f.left (map (λ value. taken value) first)))
            ∙ ap (λ (some : List ℤ). map leaving_value (f.left ++ map (λ value. taken value) first) ++ some) (sym rest);
        takings =
            ap (λ (some : List ℤ). some ++ first) (sym (append-nil (flat_map (taken_at subscription) lines)) ∙ f.takings)
            ∙ ap (λ (some : List ℤ). flat_map taken_by f.left ++ some) (sym (taken_taken first))
            ∙ sym (flat_map-append taken_by f.left (map (λ value. taken value) first));
        losses =
            f.losses ∙ sym (append-nil (flat_map dropped_by f.left))
            ∙ ap (λ (some : List ℤ). flat_map dropped_by f.left ++ some) (sym (taken_dropped first))
            ∙ sym (flat_map-append dropped_by f.left (map (λ value. taken value) first));
      }

  -- ---- an item that is sent to another queue

  held_apart : (entity : EntityNo) (number : ℕ) (new : Item) → ((queue : Queue) → is_queue entity (taker_of new) queue ≡ true → is_queue subscription kind.Message queue ≡ false) → (queues : List Queue) → held_in subscription (change_first (is_queue entity (taker_of new)) (queue_after number new) queues) ≡ held_in subscription queues
  held_apart entity number new apart [] = refl
  held_apart entity number new apart (queue ∷ queues) = by (is_queue entity (taker_of new) queue) (is_queue subscription kind.Message queue) refl refl (held_apart entity number new apart queues)
    where
      by : (b c : Bool) → is_queue entity (taker_of new) queue ≡ b → is_queue subscription kind.Message queue ≡ c → held_in subscription (change_first (is_queue entity (taker_of new)) (queue_after number new) queues) ≡ held_in subscription queues →
          held_in subscription (change_first (is_queue entity (taker_of new)) (queue_after number new) (queue ∷ queues)) ≡ held_in subscription (queue ∷ queues)
      by true true e f rest = absurd (true≢false (sym f ∙ apart queue e))
      by true false e f rest = rw (e, f) refl
      by false true e f rest = rw (e, f) refl
      by false false e f rest = rw (e, f) rest

  flow_elsewhere : (sent hand : List ℤ) (entity : EntityNo) (new : Item) (world : WorldState) → ((queue : Queue) → is_queue entity (taker_of new) queue ≡ true → is_queue subscription kind.Message queue ≡ false) →
      AllByRecursion IsMute (map (drop_line entity) (lost_by entity new world)) → Flow sent hand world.queues world.lines → Flow sent hand (push entity new world).queues (push entity new world).lines
  flow_elsewhere sent hand entity new world apart mute f =
      flow_lines sent hand (push entity new world).queues world.lines (map (drop_line entity) (lost_by entity new world)) mute
      (record {
        left = f.left;
        in_order = f.in_order ∙ ap (λ (some : List ℤ). map leaving_value f.left ++ some) (sym (held_apart entity (next_arrival world) new apart world.queues));
        takings = f.takings;
        losses = f.losses;
      })

  -- what is no message
  no_message : (of : Kind) → is_message of ≡ false → (entity : EntityNo) (value : ℤ) → dropped_at subscription (line.Drop entity of value) ≡ []
  no_message kind.Timer e entity value = refl
  no_message kind.Message e entity value = absurd cc
  no_message kind.Request e entity value = refl
  no_message kind.Reply e entity value = refl
  no_message kind.Goal e entity value = refl
  no_message kind.Cancel e entity value = refl
  no_message kind.Ask e entity value = refl
  no_message kind.Poll e entity value = refl
  no_message kind.Response e entity value = refl
  no_message kind.Code e entity value = refl
  no_message kind.Feedback e entity value = refl
  no_message kind.Result e entity value = refl

  pub flow_other : (sent hand : List ℤ) (entity : EntityNo) (new : Item) (world : WorldState) → is_message (taker_of new) ≡ false → AreOfTheirKinds world → Flow sent hand world.queues world.lines → Flow sent hand (push entity new world).queues (push entity new world).lines
  flow_other sent hand entity new world other kinds f =
      flow_elsewhere sent hand entity new world (λ queue is. apart queue is (is_queue subscription kind.Message queue) refl) (mute (lost_by entity new world) (lost_of_kind entity new world.queues kinds)) f
    where
      kind_in : (queue : Queue) (at : EntityNo) (of : Kind) → is_queue at of queue ≡ true → queue.kind ≡ of
      kind_in queue at of is = same_kind queue.kind of (eqb-true (ready_number queue.kind) (ready_number of) (and_parts (queue.handler.entity == at) (ready_number queue.kind == ready_number of) is).1)

      apart : (queue : Queue) → is_queue entity (taker_of new) queue ≡ true → (b : Bool) → is_queue subscription kind.Message queue ≡ b → is_queue subscription kind.Message queue ≡ false
      apart queue is true e = absurd (true≢false (ap (λ (of : Kind). is_message of) (sym (kind_in queue subscription kind.Message e) ∙ kind_in queue entity (taker_of new) is) ∙ other))
      apart queue is false e = e

      mute : (lost : List Item) → AllByRecursion (λ one. taker_of one ≡ taker_of new) lost → AllByRecursion IsMute (map (drop_line entity) lost)
      mute [] p = tt
      mute (first ∷ lost) p = ((refl, no_message (taker_of first) (ap (λ (of : Kind). is_message of) p.0 ∙ other) entity (first_of first)), mute lost p.1)

  -- ---- a message

  -- to another subscription
  elsewhere : (of : Kind) (entity : EntityNo) (value : ℤ) → entity == subscription ≡ false → dropped_at subscription (line.Drop entity of value) ≡ []
  elsewhere kind.Timer entity value e = refl
  elsewhere kind.Message entity value e = rw e refl
  elsewhere kind.Request entity value e = refl
  elsewhere kind.Reply entity value e = refl
  elsewhere kind.Goal entity value e = refl
  elsewhere kind.Cancel entity value e = refl
  elsewhere kind.Ask entity value e = refl
  elsewhere kind.Poll entity value e = refl
  elsewhere kind.Response entity value e = refl
  elsewhere kind.Code entity value e = refl
  elsewhere kind.Feedback entity value e = refl
  elsewhere kind.Result entity value e = refl

  flow_apart : (sent hand : List ℤ) (entity : EntityNo) (value : ℤ) (world : WorldState) → entity == subscription ≡ false → Flow sent hand world.queues world.lines →
      Flow sent hand (push entity (item.Message value) world).queues (push entity (item.Message value) world).lines
  flow_apart sent hand entity value world differs f = flow_elsewhere sent hand entity (item.Message value) world (λ queue is. apart queue is (is_queue subscription kind.Message queue) refl) (mute (lost_by entity (item.Message value) world)) f
    where
      apart : (queue : Queue) → is_queue entity kind.Message queue ≡ true → (b : Bool) → is_queue subscription kind.Message queue ≡ b → is_queue subscription kind.Message queue ≡ false
      apart queue is true e =
          let here = eqb-true queue.handler.entity entity (and_parts (queue.handler.entity == entity) (ready_number queue.kind == ready_number kind.Message) is).0 in
          let there = eqb-true queue.handler.entity subscription (and_parts (queue.handler.entity == subscription) (ready_number queue.kind == ready_number kind.Message) e).0 in
          absurd (true≢false (sym (eq-eqb entity subscription (sym here ∙ there)) ∙ differs))
      apart queue is false e = e

      mute : (lost : List Item) → AllByRecursion IsMute (map (drop_line entity) lost)
      mute [] = tt
      mute (first ∷ lost) = ((refl, elsewhere (taker_of first) entity (first_of first) differs), mute lost)

  -- to the subscription
  held_more : (number : ℕ) (value : ℤ) (queues : List Queue) → list_any (is_queue subscription kind.Message) queues ≡ true →
      map first_of (option_map_or (λ queue. displaced queue.depth (item.Message value) queue.items) (find (is_queue subscription kind.Message) queues) []) ++ held_in subscription (change_first (is_queue subscription kind.Message) (queue_after number (item.Message value)) queues)
      ≡ held_in subscription queues ++ value ∷ []
  held_more number value [] there = absurd (true≢false (sym there))
  held_more number value (queue ∷ queues) there = by (is_queue subscription kind.Message queue) refl (held_more number value queues)
    where
      by : (b : Bool) → is_queue subscription kind.Message queue ≡ b →
          (list_any (is_queue subscription kind.Message) queues ≡ true →
          map first_of (option_map_or (λ one. displaced one.depth (item.Message value) one.items) (find (is_queue subscription kind.Message) queues) []) ++ held_in subscription (change_first (is_queue subscription kind.Message) (queue_after number (item.Message value)) queues)
          ≡ held_in subscription queues ++ value ∷ []) →
          map first_of (option_map_or (λ one. displaced one.depth (item.Message value) one.items) (find (is_queue subscription kind.Message) (queue ∷ queues)) []) ++ held_in subscription (change_first (is_queue subscription kind.Message) (queue_after number (item.Message value)) (queue ∷ queues))
          ≡ held_in subscription (queue ∷ queues) ++ value ∷ []
      by true e rest =
          rw (e, e)
          (sym (map-append first_of (displaced queue.depth (item.Message value) queue.items) (sent queue.depth (item.Message value) queue.items))
          ∙ ap (λ (some : List Item). map first_of some) (take-append-drop _ (queue.items ++ item.Message value ∷ []))
          ∙ map-append first_of queue.items (item.Message value ∷ []))
      by false e rest = let behind : list_any (is_queue subscription kind.Message) queues ≡ true = rw e at there in rw (e, e) (rest behind)

  drops_said : (lost : List Item) → AllByRecursion (λ one. taker_of one ≡ kind.Message) lost → flat_map (dropped_at subscription) (map (drop_line subscription) lost) ≡ map first_of lost
  drops_said [] p = refl
  drops_said (first ∷ lost) p = rw (p.0, eq-eqb subscription subscription refl) (ap (λ (rest : List ℤ). first_of first ∷ rest) (drops_said lost p.1))

  drops_take_none : (entity : EntityNo) (lost : List Item) → AllByRecursion (λ one. taken_at subscription one ≡ []) (map (drop_line entity) lost)
  drops_take_none entity [] = tt
  drops_take_none entity (first ∷ lost) = (refl, drops_take_none entity lost)

  flow_here : (sent hand : List ℤ) (value : ℤ) (world : WorldState) → AreOfTheirKinds world → list_any (is_queue subscription kind.Message) world.queues ≡ true → Flow sent hand world.queues world.lines →
      Flow (sent ++ value ∷ []) hand (push subscription (item.Message value) world).queues (push subscription (item.Message value) world).lines
  flow_here sent hand value world kinds there f =
      let lost : List Item = lost_by subscription (item.Message value) world in
      let values : List ℤ = map first_of lost in
      let after : List ℤ = held_in subscription (push subscription (item.Message value) world).queues in
      record {
        left = f.left ++ map (λ one. dropped one) values;
        in_order =
            ap (λ (some : List ℤ). some ++ value ∷ []) f.in_order
            ∙ append_assoc (map leaving_value f.left) (held_in subscription world.queues) (value ∷ [])
            ∙ ap (λ (some : List ℤ). map leaving_value f.left ++ some) (sym (held_more (next_arrival world) value world.queues there))
            ∙ sym (append_assoc (map leaving_value f.left) values after)
            ∙ ap (λ (some : List ℤ). (map leaving_value f.left ++ some) ++ after) (sym (dropped_values values))
            ∙ ap (λ (some : List ℤ). some ++ after) (sym (map-append leaving_value f.left (map (λ one. dropped one) values)));
        takings =
            ap (λ (some : List ℤ). some ++ hand) (flat_more (taken_at subscription) world.lines (map (drop_line subscription) lost) (drops_take_none subscription lost)) ∙ f.takings
            ∙ sym (append-nil (flat_map taken_by f.left)) ∙ ap (λ (some : List ℤ). flat_map taken_by f.left ++ some) (sym (dropped_taken values))
            ∙ sym (flat_map-append taken_by f.left (map (λ one. dropped one) values));
        losses =
            flat_map-append (dropped_at subscription) world.lines (map (drop_line subscription) lost)
            ∙ ap (λ (some : List ℤ). some ++ flat_map (dropped_at subscription) (map (drop_line subscription) lost)) f.losses
            ∙ ap (λ (some : List ℤ). flat_map dropped_by f.left ++ some) (drops_said lost (lost_of_kind subscription (item.Message value) world.queues kinds) ∙ sym (dropped_dropped values))
            ∙ sym (flat_map-append dropped_by f.left (map (λ one. dropped one) values));
      }

  -- a message to some subscription
  pub flow_message : (sent hand : List ℤ) (entity : EntityNo) (value : ℤ) (world : WorldState) → AreOfTheirKinds world → list_any (is_queue subscription kind.Message) world.queues ≡ true → Flow sent hand world.queues world.lines →
      Flow (sent ++ brought subscription value entity) hand (push entity (item.Message value) world).queues (push entity (item.Message value) world).lines
  flow_message sent hand entity value world kinds there f = by (entity == subscription) refl
    where
      by : (b : Bool) → entity == subscription ≡ b → Flow (sent ++ brought subscription value entity) hand (push entity (item.Message value) world).queues (push entity (item.Message value) world).lines
      by true e =
          let here : entity ≡ subscription = eqb-true entity subscription e in
          let what : brought subscription value entity ≡ value ∷ [] = rw e refl in
          subst (λ (some : List ℤ). Flow (sent ++ some) hand (push entity (item.Message value) world).queues (push entity (item.Message value) world).lines) (sym what)
          (subst (λ (n : EntityNo). Flow (sent ++ value ∷ []) hand (push n (item.Message value) world).queues (push n (item.Message value) world).lines) (sym here) (flow_here sent hand value world kinds there f))
      by false e =
          let what : brought subscription value entity ≡ [] = rw e refl in
          subst (λ (some : List ℤ). Flow (sent ++ some) hand (push entity (item.Message value) world).queues (push entity (item.Message value) world).lines) (sym what)
          (subst (λ (some : List ℤ). Flow some hand (push entity (item.Message value) world).queues (push entity (item.Message value) world).lines) (sym (append-nil sent)) (flow_apart sent hand entity value world e f))
