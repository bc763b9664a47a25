use Rattle.std.proofs.Common.{◌≡◌, ap, sym, ◌∙◌, refl, rules}
use Rattle.exec_goal.specs.Calls.{end_state}
use Rattle.exec_goal.specs.Table.{has_id, after_end}
use Rattle.exec_msg.specs.Lists.{change_first}
use Rattle.exec_rules.proofs.Keeping.{ids_changed}
use Rattle.exec_entity.proofs.Joined.{goals-now, put-now}
use Rattle.exec_entity.proofs.Serving.{kept-changed}
use Rattle.exec_entity.specs.inner.Server.{all_kept}
use Rattle.exec_entity.proofs.server.Server.end.Goals as goal

pub returns-in_default-clause-reached : goal.returns-in_default-clause-reached
returns-in_default-clause-reached c = sym c.in_default.ensures.illegal ∙ ap (end_state c.args.id c.args.event) (goals-now c.self.invariant.0 c.self.view_is)

pub invariant_of-self-2 : goal.invariant_of-self-2
invariant_of-self-2 c = (rw c.in-Ok.ensures.ended (kept-changed (has_id c.args.id) (after_end c.args.event _ c.args.moment) (λ goal. refl) c.self.inside.goals (all_kept c.self.inside.held.entries) c.self.invariant.0), c.self.invariant.1)

pub returns-clause-reached : goal.returns-clause-reached
returns-clause-reached c = sym c.in-Ok.ensures.state ∙ ap (end_state c.args.id c.args.event) (goals-now c.self.invariant.0 c.self.view_is)

pub returns-clause-ended : goal.returns-clause-ended
returns-clause-ended c =
    let ended : c.end.new.self ≡ change_first (has_id c.args.id) (after_end c.args.event c.args.value c.args.moment) c.self.inside.goals = search rules in
    put-now c.self.invariant.0 c.self.view_is (change_first (has_id c.args.id) (after_end c.args.event c.args.value c.args.moment)) (ids_changed c.args.id (after_end c.args.event c.args.value c.args.moment) (λ goal. refl) c.self.inside.goals) c.end.new.self ended
