-- What each change makes of an action client's asks for results: those that were answered, those that are on their way, and those for
-- which it is noted.
use Rattle.std.proofs.Common.{◌≡◌, ℕ, ◌+◌, ◌≤◌, Bool, true, false, not, ◌&&◌, ◌==◌, if◌then◌else◌, List, [], ◌∷◌, ◌++◌, length, length-append, map, Option, None, Some, refl, sym, ap, ◌∙◌, arith}
use Rattle.std.specs.List.{AllByRecursion, flat_map, list_any}
use Rattle.exec_msg.specs.Numbers.{EntityNo, GoalId}
use Rattle.exec_plan.specs.Plan.{PlanData}
use Rattle.exec_msg.specs.declared.kind.Kind.TheVariants as kind
use Rattle.exec_msg.specs.declared.line.Line.{Line}
use Rattle.exec_laws.proofs.Asked.{many, many_more, many_none, one_line, HasNone}
use Rattle.exec_laws.proofs.Called.{among, among_append}
use Rattle.exec_laws.proofs.Channels.{weigh, weighs_nothing}
use Rattle.exec_laws.proofs.Flying.{flying, flying_sent, in_items}
use Rattle.exec_rules.proofs.Keeping.{push_kept}
use Rattle.exec_laws.proofs.Noted.{noted_by}
use Rattle.exec_rules.proofs.Pairs.{all_weaker}
use Rattle.exec_rules.proofs.Running.{KeptByRounds}
use Rattle.exec_rules.proofs.Shapes.{shape_kept}
use Rattle.exec_laws.specs.Exchanges.{is_asked, is_result_taken, is_result_lost}
use Rattle.exec_rules.specs.Item.{taker_of}
use Rattle.exec_rules.specs.Lines.{is_loss}
use Rattle.exec_rules.specs.Shape.{shape_of}
use Rattle.exec_rules.specs.Transcript.{entity_at, first_world, server_of}
use Rattle.exec_rules.specs.World.{WorldState, Queue, ServerEntry, add_line, drop_line, is_queue, lost_by, push, push_any, next_arrival}
use Rattle.exec_rules.specs.declared.item.Item.{Item}
use Rattle.exec_rules.specs.declared.item.Item.TheVariants as item

both_sides : (b : Bool) (n : ℕ) → weigh b n + weigh (not b) n ≡ n
both_sides true n = omega arith
both_sides false n = omega arith

many_cons : (test : Line → Bool) (one : Line) (lines : List Line) → many test (one ∷ lines) ≡ weigh (test one) 1 + many test lines
many_cons test one lines = let a = many_more test (one ∷ []) lines in let b = one_line test one in omega (arith, a, b)

module _ (plan : PlanData) (client : EntityNo) where
  -- ---- what is on its way

  -- whether an item is an ask of the client for a goal's result, or that result for the client
  abbrev pub of_ask : GoalId → EntityNo → Item → ℕ
  of_ask id entity (item.Ask goal asker) = weigh ((asker == client) && (goal == id)) 1
  of_ask id entity _ = 0

  abbrev pub of_result : GoalId → EntityNo → Item → ℕ
  of_result id entity (item.Result goal status value) = weigh ((entity == client) && (goal == id)) 1
  of_result id entity _ = 0

  abbrev pub weight : GoalId → EntityNo → Item → ℕ
  weight id entity one = of_ask id entity one + of_result id entity one

  -- the identifier of a result for the client
  abbrev result_for : EntityNo → Item → List GoalId
  result_for entity (item.Result goal status value) = if entity == client then goal ∷ [] else []
  result_for entity _ = []

  -- the server that the client asks has a queue for asks, and the client one for results
  pub record HasQueues : Type 0 where
    pub asks : list_any (is_queue (server_of (entity_at plan.graph client).is) kind.Ask) (first_world plan).queues ≡ true
    pub results : list_any (is_queue client kind.Result) (first_world plan).queues ≡ true

  -- ---- a world

  -- the client's asks are the results that it took, those that its queue lost, the asks and results that are on their way, how
  -- often it is noted, what is owed, and what went astray: nothing does where queues are there, but an answer that was displaced
  pub record Accounts (owed : GoalId → ℕ) (queues : List Queue) (servers : List ServerEntry) (lines : List Line) : Type 0 where
    pub lost : List GoalId
    pub astray : GoalId → ℕ
    pub losses : length lost ≡ many (is_result_lost client) lines
    pub each : (id : GoalId) → many (is_asked client id) lines ≡ many (is_result_taken client id) lines + (among id lost + (flying (weight id) queues + (noted_by client id servers + (owed id + astray id))))
    pub sound : HasQueues → (id : GoalId) → astray id ≤ many is_loss lines

  abbrev pub IsFair : (GoalId → ℕ) → WorldState → Type 0
  IsFair owed world = (shape_of world ≡ shape_of (first_world plan)) × Accounts owed world.queues world.servers world.lines

  pub shapes : KeptByRounds (λ world. shape_of world ≡ shape_of (first_world plan))
  shapes = shape_kept (shape_of (first_world plan))

  -- another way of saying what is owed, and another count of notes
  pub renoted : (owed less : GoalId → ℕ) (queues : List Queue) (before after : List ServerEntry) (lines : List Line) → ((id : GoalId) → noted_by client id after + less id ≡ noted_by client id before + owed id) → Accounts owed queues before lines → Accounts less queues after lines
  renoted owed less queues before after lines same a = record {
    lost = a.lost;
    astray = a.astray;
    losses = a.losses;
    each = λ id. let all = a.each id in let noted = same id in omega (arith, all, noted);
    sound = a.sound;
  }

  pub same_owed : (owed less : GoalId → ℕ) (world : WorldState) → ((id : GoalId) → owed id ≡ less id) → IsFair owed world → IsFair less world
  same_owed owed less world same p = (p.0, renoted owed less world.queues world.servers world.servers world.lines (λ id. ap (λ (n : ℕ). noted_by client id world.servers + n) (sym (same id))) p.1)

  -- ---- lines

  -- a line that says nothing of an ask, of a result that is taken, and of one that is lost
  abbrev pub IsSilent : Line → Type 0
  IsSilent one = ((id : GoalId) → is_asked client id one ≡ false) × (((id : GoalId) → is_result_taken client id one ≡ false) × (is_result_lost client one ≡ false))

  pub more_lines : (owed : GoalId → ℕ) (queues : List Queue) (servers : List ServerEntry) (lines more : List Line) → AllByRecursion IsSilent more → Accounts owed queues servers lines → Accounts owed queues servers (lines ++ more)
  more_lines owed queues servers lines more silent a = record {
    lost = a.lost;
    astray = a.astray;
    losses =
        let was = a.losses in
        let b = many_more (is_result_lost client) lines more in
        let c = many_none (is_result_lost client) more (all_weaker IsSilent (λ one. is_result_lost client one ≡ false) (λ one q. q.1.1) more silent) in
        omega (arith, was, b, c);
    each = λ id.
        let all = a.each id in
        let b = many_more (is_asked client id) lines more in
        let c = many_none (is_asked client id) more (all_weaker IsSilent (λ one. is_asked client id one ≡ false) (λ one q. q.0 id) more silent) in
        let d = many_more (is_result_taken client id) lines more in
        let e = many_none (is_result_taken client id) more (all_weaker IsSilent (λ one. is_result_taken client id one ≡ false) (λ one q. q.1.0 id) more silent) in
        omega (arith, all, b, c, d, e);
    sound = λ there id. let few = a.sound there id in let b = many_more is_loss lines more in omega (arith, few, b);
  }

  pub line_fair : (owed : GoalId → ℕ) (one : Line) (world : WorldState) → IsSilent one → IsFair owed world → IsFair owed (add_line one world)
  line_fair owed one world silent p = (p.0, more_lines owed world.queues world.servers world.lines (one ∷ []) (silent, tt) p.1)

  -- ---- what is sent

  drops_unasked : (id : GoalId) (entity : EntityNo) (lost : List Item) → HasNone (is_asked client id) (map (drop_line entity) lost)
  drops_unasked id entity [] = tt
  drops_unasked id entity (first ∷ lost) = (refl, drops_unasked id entity lost)

  drops_untaken : (id : GoalId) (entity : EntityNo) (lost : List Item) → HasNone (is_result_taken client id) (map (drop_line entity) lost)
  drops_untaken id entity [] = tt
  drops_untaken id entity (first ∷ lost) = (refl, drops_untaken id entity lost)

  -- what a queue loses are results for the client, each with a line, and asks, for each of which a line says that an answer was
  -- displaced
  result_lost : (entity : EntityNo) (one : Item) → length (result_for entity one) ≡ weigh (is_result_lost client (drop_line entity one)) 1
  result_lost entity (item.Message value) = refl
  result_lost entity (item.Request from number value) = refl
  result_lost entity (item.Reply number value) = refl
  result_lost entity (item.Goal goal from value) = refl
  result_lost entity (item.Cancel request from) = refl
  result_lost entity (item.Ask goal from) = refl
  result_lost entity (item.Response goal accepted) = refl
  result_lost entity (item.Code returned count) = refl
  result_lost entity (item.Feedback goal value) = refl
  result_lost entity (item.Result goal status value) = by (entity == client)
    where
      by : (b : Bool) → length (if b then goal ∷ [] else []) ≡ weigh b 1
      by true = refl
      by false = refl

  results_lost : (entity : EntityNo) (lost : List Item) → length (flat_map (result_for entity) lost) ≡ many (is_result_lost client) (map (drop_line entity) lost)
  results_lost entity [] = refl
  results_lost entity (first ∷ lost) =
      let a = length-append (result_for entity first) (flat_map (result_for entity) lost) in
      let b = result_lost entity first in
      let c = many_cons (is_result_lost client) (drop_line entity first) (map (drop_line entity) lost) in
      let rest = results_lost entity lost in
      omega (arith, a, b, c, rest)

  ask_lost : (id : GoalId) (entity : EntityNo) (one : Item) → of_ask id entity one ≤ weigh (is_loss (drop_line entity one)) 1
  ask_lost id entity (item.Message value) = omega arith
  ask_lost id entity (item.Request from number value) = omega arith
  ask_lost id entity (item.Reply number value) = omega arith
  ask_lost id entity (item.Goal goal from value) = omega arith
  ask_lost id entity (item.Cancel request from) = omega arith
  ask_lost id entity (item.Ask goal from) = by ((from == client) && (goal == id))
    where
      by : (b : Bool) → weigh b 1 ≤ 1
      by true = omega arith
      by false = omega arith
  ask_lost id entity (item.Response goal accepted) = omega arith
  ask_lost id entity (item.Code returned count) = omega arith
  ask_lost id entity (item.Feedback goal value) = omega arith
  ask_lost id entity (item.Result goal status value) = omega arith

  asks_lost : (id : GoalId) (entity : EntityNo) (lost : List Item) → in_items (of_ask id) entity lost ≤ many is_loss (map (drop_line entity) lost)
  asks_lost id entity [] = omega arith
  asks_lost id entity (first ∷ lost) =
      let a = ask_lost id entity first in
      let b = many_cons is_loss (drop_line entity first) (map (drop_line entity) lost) in
      let rest = asks_lost id entity lost in
      omega (arith, a, b, rest)

  result_weighs : (id : GoalId) (entity : EntityNo) (one : Item) → of_result id entity one ≡ among id (result_for entity one)
  result_weighs id entity (item.Message value) = refl
  result_weighs id entity (item.Request from number value) = refl
  result_weighs id entity (item.Reply number value) = refl
  result_weighs id entity (item.Goal goal from value) = refl
  result_weighs id entity (item.Cancel request from) = refl
  result_weighs id entity (item.Ask goal from) = refl
  result_weighs id entity (item.Response goal accepted) = refl
  result_weighs id entity (item.Code returned count) = refl
  result_weighs id entity (item.Feedback goal value) = refl
  result_weighs id entity (item.Result goal status value) = by (entity == client)
    where
      by : (b : Bool) → weigh (b && (goal == id)) 1 ≡ among id (if b then goal ∷ [] else [])
      by true = omega arith
      by false = refl

  lost_weigh : (id : GoalId) (entity : EntityNo) (lost : List Item) → in_items (weight id) entity lost ≡ among id (flat_map (result_for entity) lost) + in_items (of_ask id) entity lost
  lost_weigh id entity [] = refl
  lost_weigh id entity (first ∷ lost) =
      let a = result_weighs id entity first in
      let b = among_append id (result_for entity first) (flat_map (result_for entity) lost) in
      let rest = lost_weigh id entity lost in
      omega (arith, a, b, rest)

  -- an item is sent that was owed
  pub sent : (owed less : GoalId → ℕ) (entity : EntityNo) (new : Item) (world : WorldState) → ((id : GoalId) → owed id ≡ weight id entity new + less id) →
      (HasQueues → (id : GoalId) → weigh (not (list_any (is_queue entity (taker_of new)) world.queues)) (weight id entity new) ≡ 0) → IsFair owed world → IsFair less (push entity new world)
  sent owed less entity new world due there p =
      let lost : List Item = lost_by entity new world in
      let drops : List Line = map (drop_line entity) lost in
      let found : Bool = list_any (is_queue entity (taker_of new)) world.queues in
      let a : Accounts owed world.queues world.servers world.lines = p.1 in (
        push_kept shapes.basic entity new world p.0,
        record {
          lost = a.lost ++ flat_map (result_for entity) lost;
          astray = λ id. a.astray id + (in_items (of_ask id) entity lost + weigh (not found) (weight id entity new));
          losses =
              let was = a.losses in
              let b = length-append a.lost (flat_map (result_for entity) lost) in
              let c = results_lost entity lost in
              let d = many_more (is_result_lost client) world.lines drops in
              omega (arith, was, b, c, d);
          each = λ id.
              let all = a.each id in
              let b = many_more (is_asked client id) world.lines drops in
              let c = many_none (is_asked client id) drops (drops_unasked id entity lost) in
              let d = many_more (is_result_taken client id) world.lines drops in
              let e = many_none (is_result_taken client id) drops (drops_untaken id entity lost) in
              let f = among_append id a.lost (flat_map (result_for entity) lost) in
              let g = flying_sent (weight id) entity (next_arrival world) new world.queues in
              let h = lost_weigh id entity lost in
              let i = both_sides found (weight id entity new) in
              let j = due id in
              omega (arith, all, b, c, d, e, f, g, h, i, j);
          sound = λ queues id.
              let was = a.sound queues id in
              let b = many_more is_loss world.lines drops in
              let c = asks_lost id entity lost in
              let d = there queues id in
              omega (arith, was, b, c, d);
        },
      )

  -- what isn't owed
  pub freely : (owed : GoalId → ℕ) (entity : EntityNo) (new : Item) (world : WorldState) → ((id : GoalId) → weight id entity new ≡ 0) → IsFair owed world → IsFair owed (push entity new world)
  freely owed entity new world none p =
      sent owed owed entity new world (λ id. let no = none id in omega (arith, no))
      (λ queues id. ap (λ (n : ℕ). weigh (not (list_any (is_queue entity (taker_of new)) world.queues)) n) (none id) ∙ weighs_nothing (not (list_any (is_queue entity (taker_of new)) world.queues))) p

  pub freely_any : (owed : GoalId → ℕ) (entity : Option EntityNo) (new : Item) (world : WorldState) → ((to : EntityNo) (id : GoalId) → weight id to new ≡ 0) → IsFair owed world → IsFair owed (push_any entity new world)
  freely_any owed None new world none p = p
  freely_any owed (Some entity) new world none p = freely owed entity new world (none entity) p
