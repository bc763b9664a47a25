use Rattle.std.proofs.Common.{◌≡◌, ◌∙◌, ◌++◌, ◌∷◌, [], ℕ, List, Some, ap, sym, refl, false, rules}
use Rattle.std.specs.List.{list_any}
use Rattle.exec_goal.specs.Table.{GoalRecord, holds_id, new_goal}
use Rattle.exec_entity.proofs.Joined.{accepted-now, goals-now}
use Rattle.exec_entity.proofs.Serving.{kept-none, room-none, kept-accepted-in}
use Rattle.exec_rules.specs.World.{GoalWork, has_room_for, records_of, work_of}
use Rattle.exec_rules.specs.Close.{GoalRequest, server_accepting}
use Rattle.exec_task.specs.Task.{new_task}
use Rattle.exec_task.specs.Waking.{wake_of}
use Rattle.exec_entity.proofs.Wakes.{wake-added}
use Rattle.exec_entity.specs.inner.Server.{all_kept, is_kept_for, kept_of}
use Rattle.exec_entity.specs.declared.server.KeptWithGoal.{KeptWithGoal}
use Rattle.exec_entity.proofs.server.Server.accept.Goals as goal

pub insert_new-requires-clause-new : goal.insert_new-requires-clause-new
insert_new-requires-clause-new c =
    let none : holds_id c.request.inside.id c.self.inside.goals ≡ false = ap (holds_id c.request.inside.id) (goals-now c.self.invariant.0 c.self.view_is) ∙ room-none _ (records_of c.args.self.now.held) (ap (λ (request : GoalRequest). has_room_for request.id (records_of c.args.self.now.held)) c.request.view_is ∙ c.requires.room) in
    ap (λ entries. list_any (is_kept_for c.request.inside.id) (all_kept entries)) c.in_ok-reserve.ensures.entries
    ∙ kept-none c.request.inside.id c.self.inside.goals (all_kept c.self.inside.held.entries) c.self.invariant.0 none

pub invariant_of-self-2 : goal.invariant_of-self-2
invariant_of-self-2 c =
    let none : holds_id c.request.inside.id c.self.inside.goals ≡ false = ap (holds_id c.request.inside.id) (goals-now c.self.invariant.0 c.self.view_is) ∙ room-none _ (records_of c.args.self.now.held) (ap (λ (request : GoalRequest). has_room_for request.id (records_of c.args.self.now.held)) c.request.view_is ∙ c.requires.room) in (
      kept-accepted-in c.self.inside.goals c.accept.new.self (all_kept c.self.inside.held.entries) (all_kept c.reserve.new.self.entries) (all_kept c.insert_new.new.held.entries)
          _ _ c.in-Ok.ensures.accepted (ap all_kept c.in_ok-reserve.ensures.entries) c.insert_new.ensures refl none c.self.invariant.0,
      c.push_reserved.ensures.items ∙ ap (λ (wakes : List ℕ). wakes ++ 0 ∷ []) (c.in_ok-reserve-2.ensures.items ∙ c.self.invariant.1)
          ∙ sym (wake-added (all_kept c.self.inside.held.entries) (all_kept c.reserve.new.self.entries) (all_kept c.insert_new.new.held.entries)
          (kept_of (c.request.inside.id, record { task = Some c.in_ok-task.task; client = c.request.inside.client; arrival = c.args.number })) (ap all_kept c.in_ok-reserve.ensures.entries) c.insert_new.ensures (ap wake_of c.in_ok-task.ensures.task)),
    )

pub returns-clause-accepted : goal.returns-clause-accepted
returns-clause-accepted c =
    let own : KeptWithGoal = record { task = Some c.in_ok-task.task; client = c.request.inside.client; arrival = c.args.number } in
    let goal : GoalRecord = new_goal c.request.inside.id c.request.inside.value c.args.moment c.args.how in
    let value : c.in_ok-task.task.value ≡ c.request.inside.value = search rules in
    let accepted : c.accept.new.self ≡ c.self.inside.goals ++ goal ∷ [] = search rules in
    let work : work_of c.in_ok-task.task ≡ record { script = c.args.self.now.handler.script; value = c.request.inside.value; task = new_task } =
    (λ i. record { script = c.in_ok-task.ensures.script i; value = value i; task = c.in_ok-task.ensures.task i }) in
    accepted-now c.self.invariant.0 c.self.view_is goal (kept_of (c.request.inside.id, own)) c.accept.new.self (all_kept c.insert_new.new.held.entries)
    accepted (c.insert_new.ensures ∙ ap (λ entries. all_kept entries ++ kept_of (c.request.inside.id, own) ∷ []) c.in_ok-reserve.ensures.entries)
    ∙ ap (λ (work : GoalWork). record c.args.self.now { held = c.args.self.now.held ++ record { goal = goal; client = c.request.inside.client; work = work; arrival = c.args.number } ∷ [] }) work
    ∙ ap (λ (request : GoalRequest). server_accepting c.args.number c.args.moment c.args.how request c.args.self.now) c.request.view_is
