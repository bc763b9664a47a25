-- What each change makes of a client's calls: the lines that say them, those that were answered, and those that are pending.
use Rattle.std.proofs.Common.{◌≡◌, ℕ, suc, ℤ, ◌+◌, ◌≤◌, Bool, true, false, ◌==◌, List, [], ◌∷◌, ◌++◌, map, add-one, Option, Some, refl, sym, ap, subst, ◌∙◌, append_assoc, arith}
use Rattle.std.specs.List.{AllByRecursion, find, flat_map, list_all}
use Rattle.std.specs.List.Sorted.{IsPermutation}
use Rattle.std.specs.Option.{option_map, option_map_or}
use Rattle.std.proofs.lemmas.Bool.{eqb-true, eq-eqb, and_parts}
use Rattle.std.proofs.lemmas.Grind.{flat_map-append}
use Rattle.std.proofs.lemmas.List.Sorted.{IsPermutation-append_left}
use Rattle.exec_msg.specs.Numbers.{EntityNo}
use Rattle.exec_msg.specs.declared.line.Line.{Line}
use Rattle.exec_msg.specs.declared.line.Line.TheVariants as line
use Rattle.exec_laws.proofs.Called.{among, among_append, calls_in, pending_in, client_changed, client_apart, weight}
use Rattle.exec_laws.proofs.Channels.{weigh}
use Rattle.exec_laws.proofs.Flying.{flying, flying_after}
use Rattle.exec_laws.proofs.Gathered.{flat_more}
use Rattle.exec_rules.proofs.Keeping.{is_plain, is_request}
use Rattle.exec_rules.proofs.OfKinds.{IsOfItsKind, kinds_kept}
use Rattle.exec_rules.proofs.Pairs.{all_weaker}
use Rattle.exec_rules.proofs.Running.{found_test}
use Rattle.exec_laws.specs.Exchanges.{call_at, reply_at, numbers_to}
use Rattle.exec_rules.specs.Give.{call_by}
use Rattle.exec_rules.specs.Item.{as_value, taker_of}
use Rattle.exec_rules.specs.Lines.{is_answer}
use Rattle.exec_rules.specs.World.{WorldState, Queue, ClientEntry, add_line, client_at, client_called, is_client_at, drop_line, lost_by, push, with_call, next_arrival}
use Rattle.exec_rules.specs.declared.item.Item.{Item}
use Rattle.exec_rules.specs.declared.item.Item.TheVariants as item

module _ (client : EntityNo) where
  -- ---- lines

  -- a line that says neither a call of the client nor that it takes a reply
  abbrev pub IsMute : Line → Type 0
  IsMute one = (call_at client one ≡ []) × (reply_at client one ≡ [])

  plain_mute : (one : Line) → is_plain one ≡ true → IsMute one
  plain_mute (line.Round number moment) e = absurd cc
  plain_mute (line.Expire entity goal) e = (refl, refl)
  plain_mute (line.Run entity of first aux goal) e = absurd cc
  plain_mute (line.Drop entity of value) e = absurd cc
  plain_mute (line.Pub at value) e = absurd cc
  plain_mute (line.Call other number value) e = absurd cc
  plain_mute (line.Reply entity value) e = (refl, refl)
  plain_mute (line.Goal other goal value) e = (refl, refl)
  plain_mute (line.Cancel other goal stamp) e = (refl, refl)
  plain_mute (line.Log entity value) e = (refl, refl)
  plain_mute (line.Feedback entity goal value) e = (refl, refl)
  plain_mute (line.Decide entity goal decision) e = (refl, refl)
  plain_mute (line.State entity goal status) e = (refl, refl)
  plain_mute (line.Code entity returned count) e = (refl, refl)
  plain_mute (line.Ask other goal) e = (refl, refl)
  plain_mute (line.Result entity goal status value) e = absurd cc
  plain_mute (line.Pending other number) e = (refl, refl)
  plain_mute (line.End number) e = (refl, refl)

  pub all_plain : (lines : List Line) → list_all is_plain lines ≡ true → AllByRecursion IsMute lines
  all_plain [] e = tt
  all_plain (one ∷ lines) e = let parts = and_parts (is_plain one) (list_all is_plain lines) e in (plain_mute one parts.0, all_plain lines parts.1)

  drops_mute : (entity : EntityNo) (lost : List Item) → AllByRecursion IsMute (map (drop_line entity) lost)
  drops_mute entity [] = tt
  drops_mute entity (first ∷ lost) = ((refl, refl), drops_mute entity lost)

  -- ---- a world

  -- the calls that lines say are numbered in order, and answered, in hand or pending; so many requests and replies at most as
  -- pending calls are on their way, beside those that callbacks have in hand
  pub record Keeps (hand : List ℕ) (owed : ℕ → ℕ) (queues : List Queue) (clients : List ClientEntry) (lines : List Line) : Type 0 where
    pub kinds : AllByRecursion IsOfItsKind queues
    pub answered : List ℕ
    pub made : flat_map (call_at client) lines ≡ numbers_to (calls_in client clients)
    pub replies : flat_map (reply_at client) lines ++ map as_value hand ≡ map as_value answered
    pub each : IsPermutation (numbers_to (calls_in client clients)) (answered ++ pending_in client clients)
    pub flies : (n : ℕ) → flying (weight client n) queues + owed n ≤ among n (pending_in client clients)

  abbrev pub KeepsIn : List ℕ → (ℕ → ℕ) → WorldState → Type 0
  KeepsIn hand owed world = Keeps hand owed world.queues world.clients world.lines

  pub more_lines : (hand : List ℕ) (owed : ℕ → ℕ) (queues : List Queue) (clients : List ClientEntry) (lines more : List Line) → AllByRecursion IsMute more → Keeps hand owed queues clients lines → Keeps hand owed queues clients (lines ++ more)
  more_lines hand owed queues clients lines more mute k = record {
    kinds = k.kinds;
    answered = k.answered;
    made = flat_more (call_at client) lines more (all_weaker IsMute (λ one. call_at client one ≡ []) (λ one q. q.0) more mute) ∙ k.made;
    replies = ap (λ (some : List ℤ). some ++ map as_value hand) (flat_more (reply_at client) lines more (all_weaker IsMute (λ one. reply_at client one ≡ []) (λ one q. q.1) more mute)) ∙ k.replies;
    each = k.each;
    flies = k.flies;
  }

  -- an item is sent, which is one of those that are owed
  pub sent : (hand : List ℕ) (owed less : ℕ → ℕ) (entity : EntityNo) (new : Item) (world : WorldState) → ((n : ℕ) → weight client n entity new + less n ≤ owed n) → KeepsIn hand owed world → KeepsIn hand less (push entity new world)
  sent hand owed less entity new world few k =
      more_lines hand less (push entity new world).queues world.clients world.lines (map (drop_line entity) (lost_by entity new world)) (drops_mute entity (lost_by entity new world))
      (record {
        kinds = kinds_kept.basic.queues_kept entity new world k.kinds;
        answered = k.answered;
        made = k.made;
        replies = k.replies;
        each = k.each;
        flies = λ n. let after = flying_after (weight client n) entity (next_arrival world) new world.queues in let was = k.flies n in let less_now = few n in omega (arith, after, was, less_now);
      })

  -- what is no request and no answer
  weightless : (n : ℕ) (entity : EntityNo) (new : Item) → is_answer (taker_of new) ≡ false → is_request (taker_of new) ≡ false → weight client n entity new ≡ 0
  weightless n entity (item.Message value) free other = refl
  weightless n entity (item.Request from number value) free other = absurd cc
  weightless n entity (item.Reply number value) free other = absurd cc
  weightless n entity (item.Goal id from value) free other = refl
  weightless n entity (item.Cancel request from) free other = refl
  weightless n entity (item.Ask id from) free other = refl
  weightless n entity (item.Response id accepted) free other = refl
  weightless n entity (item.Code returned count) free other = refl
  weightless n entity (item.Feedback id value) free other = refl
  weightless n entity (item.Result id status value) free other = refl

  pub sent_freely : (hand : List ℕ) (owed : ℕ → ℕ) (entity : EntityNo) (new : Item) (world : WorldState) → is_answer (taker_of new) ≡ false → is_request (taker_of new) ≡ false → KeepsIn hand owed world → KeepsIn hand owed (push entity new world)
  sent_freely hand owed entity new world free other k = sent hand owed owed entity new world (λ n. let none = weightless n entity new free other in omega (arith, none)) k

  -- ---- calls

  -- another client's
  call_apart : (hand : List ℕ) (owed : ℕ → ℕ) (from : ClientEntry) (value : ℤ) (world : WorldState) → from.entity == client ≡ false → KeepsIn hand owed world → KeepsIn hand owed (call_by (Some from) value world)
  call_apart hand owed from value world apart k =
      sent hand owed owed from.service (item.Request from.entity (from.calls + 1) value) (add_line (line.Call from.entity (from.calls + 1) value) (with_call from.entity world))
      (λ n. let none : weight client n from.service (item.Request from.entity (from.calls + 1) value) ≡ 0 = rw apart refl in omega (arith, none))
      (more_lines hand owed world.queues (with_call from.entity world).clients world.lines (line.Call from.entity (from.calls + 1) value ∷ []) ((rw apart refl, refl), tt)
      (record {
        kinds = k.kinds;
        answered = k.answered;
        made = k.made ∙ ap (λ (m : ℕ). numbers_to m) (sym calls);
        replies = k.replies;
        each = subst (λ (m : ℕ). IsPermutation (numbers_to m) (k.answered ++ pending_in client (with_call from.entity world).clients)) (sym calls)
            (subst (λ (some : List ℕ). IsPermutation (numbers_to (calls_in client world.clients)) (k.answered ++ some)) (sym pends) k.each);
        flies = λ n. subst (λ (some : List ℕ). flying (weight client n) world.queues + owed n ≤ among n some) (sym pends) (k.flies n);
      }))
    where
      same : find (is_client_at client) (with_call from.entity world).clients ≡ find (is_client_at client) world.clients
      same = client_apart client_called (λ entry. refl) client from.entity apart world.clients

      calls : calls_in client (with_call from.entity world).clients ≡ calls_in client world.clients
      calls = ap (λ (o : Option ClientEntry). option_map_or (λ (entry : ClientEntry). entry.calls) o 0) same

      pends : pending_in client (with_call from.entity world).clients ≡ pending_in client world.clients
      pends = ap (λ (o : Option ClientEntry). option_map_or (λ (entry : ClientEntry). entry.pending) o []) same

  -- its own
  call_here : (hand : List ℕ) (owed : ℕ → ℕ) (from : ClientEntry) (value : ℤ) (world : WorldState) → from.entity ≡ client → client_at client world ≡ Some from → KeepsIn hand owed world → KeepsIn hand owed (call_by (Some from) value world)
  call_here hand owed from value world here found k =
      sent hand (λ n. weigh (suc from.calls == n) 1 + owed n) owed from.service (item.Request from.entity (from.calls + 1) value) (add_line (line.Call from.entity (from.calls + 1) value) (with_call from.entity world))
      (λ n. let few = own n in omega (arith, few))
      (record {
        kinds = k.kinds;
        answered = k.answered;
        made =
            flat_map-append (call_at client) world.lines (line.Call from.entity (from.calls + 1) value ∷ [])
            ∙ ap (λ (some : List ℕ). some ++ flat_map (call_at client) (line.Call from.entity (from.calls + 1) value ∷ [])) (k.made ∙ ap (λ (m : ℕ). numbers_to m) before_calls)
            ∙ ap (λ (some : List ℕ). numbers_to from.calls ++ some) said
            ∙ ap (λ (m : ℕ). numbers_to m) (sym calls);
        replies = ap (λ (some : List ℤ). some ++ map as_value hand) (flat_more (reply_at client) world.lines (line.Call from.entity (from.calls + 1) value ∷ []) (refl, tt)) ∙ k.replies;
        each =
            subst (λ (m : ℕ). IsPermutation (numbers_to m) (k.answered ++ pending_in client (with_call from.entity world).clients)) (sym calls)
            (subst (λ (some : List ℕ). IsPermutation (numbers_to from.calls ++ suc from.calls ∷ []) (k.answered ++ some)) (sym pends)
            (subst (λ (some : List ℕ). IsPermutation (numbers_to from.calls ++ suc from.calls ∷ []) some) (append_assoc k.answered from.pending (suc from.calls ∷ []))
            (IsPermutation-append_left (suc from.calls ∷ []) (numbers_to from.calls) (k.answered ++ from.pending)
            (subst (λ (m : ℕ). IsPermutation (numbers_to m) (k.answered ++ from.pending)) before_calls (subst (λ (some : List ℕ). IsPermutation (numbers_to (calls_in client world.clients)) (k.answered ++ some)) before_pends k.each)))));
        flies = λ n.
            let was = k.flies n in
            let more = among_append n from.pending (suc from.calls ∷ []) in
            let now : among n (pending_in client (with_call from.entity world).clients) ≡ among n (from.pending ++ suc from.calls ∷ []) = ap (λ (some : List ℕ). among n some) pends in
            let old : among n (pending_in client world.clients) ≡ among n from.pending = ap (λ (some : List ℕ). among n some) before_pends in
            omega (arith, was, more, now, old);
      })
    where
      changed : find (is_client_at client) (with_call from.entity world).clients ≡ Some (client_called from)
      changed =
          ap (λ (at : EntityNo). find (is_client_at client) (with_call at world).clients) here
          ∙ client_changed client_called (λ entry. refl) client world.clients ∙ ap (λ (o : Option ClientEntry). option_map client_called o) found

      next : from.calls + 1 ≡ suc from.calls
      next = add-one from.calls

      before_calls : calls_in client world.clients ≡ from.calls
      before_calls = ap (λ (o : Option ClientEntry). option_map_or (λ (entry : ClientEntry). entry.calls) o 0) found

      before_pends : pending_in client world.clients ≡ from.pending
      before_pends = ap (λ (o : Option ClientEntry). option_map_or (λ (entry : ClientEntry). entry.pending) o []) found

      calls : calls_in client (with_call from.entity world).clients ≡ suc from.calls
      calls = ap (λ (o : Option ClientEntry). option_map_or (λ (entry : ClientEntry). entry.calls) o 0) changed ∙ next

      pends : pending_in client (with_call from.entity world).clients ≡ from.pending ++ suc from.calls ∷ []
      pends = ap (λ (o : Option ClientEntry). option_map_or (λ (entry : ClientEntry). entry.pending) o []) changed ∙ ap (λ (m : ℕ). from.pending ++ m ∷ []) next

      its : from.entity == client ≡ true
      its = eq-eqb from.entity client here

      said : flat_map (call_at client) (line.Call from.entity (from.calls + 1) value ∷ []) ≡ suc from.calls ∷ []
      said = rw its (ap (λ (m : ℕ). m ∷ []) next)

      own : (n : ℕ) → weight client n from.service (item.Request from.entity (from.calls + 1) value) ≤ weigh (suc from.calls == n) 1
      own n =
          let same : weight client n from.service (item.Request from.entity (from.calls + 1) value) ≡ weigh (suc from.calls == n) 1 + 0 = rw its (ap (λ (m : ℕ). weigh (m == n) 1 + 0) next) in
          omega (arith, same)

  pub called : (hand : List ℕ) (owed : ℕ → ℕ) (number : EntityNo) (from : ClientEntry) (value : ℤ) (world : WorldState) → client_at number world ≡ Some from → KeepsIn hand owed world → KeepsIn hand owed (call_by (Some from) value world)
  called hand owed number from value world found k = by (from.entity == client) refl
    where
      named : from.entity ≡ number
      named = eqb-true from.entity number (found_test (is_client_at number) world.clients from found)

      by : (b : Bool) → from.entity == client ≡ b → KeepsIn hand owed (call_by (Some from) value world)
      by true e =
          let here : from.entity ≡ client = eqb-true from.entity client e in
          call_here hand owed from value world here (ap (λ (at : EntityNo). client_at at world) (sym here ∙ named) ∙ found) k
      by false e = call_apart hand owed from value world e k
