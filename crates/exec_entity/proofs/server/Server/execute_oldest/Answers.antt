use Rattle.std.proofs.Common.{◌≡◌, List, Option, None, ap, sym, ◌∙◌, refl}
use Rattle.std.specs.List.{find}
use Rattle.std.specs.Option.{option_map}
use Rattle.exec_goal.specs.State.{is_accepted}
use Rattle.exec_goal.specs.Table.{GoalRecord, has_id, after_event}
use Rattle.exec_msg.specs.Lists.{change_first}
use Rattle.exec_msg.specs.declared.goal.Event.TheVariants as event
use Rattle.exec_entity.proofs.Expiring.{applied, executed-found, executed-ids, unfound}
use Rattle.exec_entity.proofs.Joined.{goals-now, put-now}
use Rattle.exec_entity.proofs.Serving.{kept-changed}
use Rattle.exec_rules.specs.World.{records_of}
use Rattle.exec_entity.specs.inner.Keeping.{executed}
use Rattle.exec_entity.specs.inner.Server.{all_kept}
use Rattle.exec_entity.proofs.server.Server.execute_oldest.Goals as goal

pub returns-in_err-id-clause-found : goal.returns-in_err-id-clause-found
returns-in_err-id-clause-found c =
    c.from_residual.ensures ∙ c.in_err-id.ensures.found
    ∙ ap (λ (goals : List GoalRecord). option_map (λ (goal : GoalRecord). goal.id) (find (λ (goal : GoalRecord). is_accepted goal.state) goals)) (goals-now c.self.invariant.0 c.self.view_is)

pub returns-in_err-id-clause-executed : goal.returns-in_err-id-clause-executed
returns-in_err-id-clause-executed c =
    let goals : c.self.inside.goals ≡ records_of c.args.self.now.held = goals-now c.self.invariant.0 c.self.view_is in
    let oldest : Option GoalRecord = find (λ (goal : GoalRecord). is_accepted goal.state) (records_of c.args.self.now.held) in
    let none : oldest ≡ None = unfound oldest (c.in_err-id.ensures.found ∙ ap (λ (goals : List GoalRecord). option_map (λ (goal : GoalRecord). goal.id) (find (λ (goal : GoalRecord). is_accepted goal.state) goals)) goals) in
    put-now c.self.invariant.0 c.self.view_is (executed oldest) (executed-ids oldest c.self.inside.goals) c.oldest_accepted.new.self
    (c.in_err-id.ensures.same ∙ sym (ap (λ (found : Option GoalRecord). executed found c.self.inside.goals) none))

pub invariant_of-self-2 : goal.invariant_of-self-2
invariant_of-self-2 c =
    let moved : c.apply-state.new.self ≡ change_first (has_id c.in_ok-id.id) (after_event event.Execute) c.self.inside.goals =
    applied c.in_ok-id.id event.Execute c.oldest_accepted.new.self c.apply-state.new.self c.apply-state.result c.apply-state.ensures.moved c.apply-state.ensures.illegal c.apply-state.ensures.unchanged
    ∙ ap (change_first (has_id c.in_ok-id.id) (after_event event.Execute)) c.in_ok-id.ensures.same in
    (rw moved (kept-changed (has_id c.in_ok-id.id) (after_event event.Execute) (λ goal. refl) c.self.inside.goals (all_kept c.self.inside.held.entries) c.self.invariant.0), c.self.invariant.1)

pub returns-clause-executed : goal.returns-clause-executed
returns-clause-executed c =
    let moved : c.apply-state.new.self ≡ change_first (has_id c.in_ok-id.id) (after_event event.Execute) c.self.inside.goals =
    applied c.in_ok-id.id event.Execute c.oldest_accepted.new.self c.apply-state.new.self c.apply-state.result c.apply-state.ensures.moved c.apply-state.ensures.illegal c.apply-state.ensures.unchanged
    ∙ ap (change_first (has_id c.in_ok-id.id) (after_event event.Execute)) c.in_ok-id.ensures.same in
    let goals : c.self.inside.goals ≡ records_of c.args.self.now.held = goals-now c.self.invariant.0 c.self.view_is in
    let oldest : Option GoalRecord = find (λ (goal : GoalRecord). is_accepted goal.state) (records_of c.args.self.now.held) in
    put-now c.self.invariant.0 c.self.view_is (executed oldest) (executed-ids oldest c.self.inside.goals) c.apply-state.new.self
    (executed-found oldest c.in_ok-id.id c.self.inside.goals c.apply-state.new.self (c.in_ok-id.ensures.found ∙ ap (λ (goals : List GoalRecord). option_map (λ (goal : GoalRecord). goal.id) (find (λ (goal : GoalRecord). is_accepted goal.state) goals)) goals) moved)

pub returns-clause-found : goal.returns-clause-found
returns-clause-found c =
    c.in_ok-id.ensures.found
    ∙ ap (λ (goals : List GoalRecord). option_map (λ (goal : GoalRecord). goal.id) (find (λ (goal : GoalRecord). is_accepted goal.state) goals)) (goals-now c.self.invariant.0 c.self.view_is)
