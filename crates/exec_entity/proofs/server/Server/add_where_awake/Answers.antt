use Rattle.std.proofs.Common.{◌≡◌, Bool, true, [], ◌∷◌, ◌++◌, if◌then◌else◌, slice_index_or, ap, sym, ◌∙◌}
use Rattle.exec_rules.specs.Ready.{is_goal_awake}
use Rattle.exec_rules.specs.World.{HeldGoal}
use Rattle.exec_rules.specs.declared.ready.AwakeGoal.{AwakeGoal}
use Rattle.exec_rules.specs.inner.Awake.{awake_goal}
use Rattle.exec_entity.proofs.Awake.{info-at}
use Rattle.exec_entity.proofs.server.Server.add_where_awake.Goals as goal

pub returns-in_ok-push : goal.returns-in_ok-push
returns-in_ok-push c = λ d.
    let one : HeldGoal = slice_index_or c.args.self.now.held c.args.index d in
    let awake : is_goal_awake c.args.moment one ≡ true = sym (c.is_goal_awake.ensures d) ∙ c.if-is_goal_awake.true in
    c.in_ok-push.ensures.items
    ∙ ap (λ (goal : AwakeGoal). c.args.goals.now.items ++ goal ∷ []) (c.awake_goal.ensures one.goal (info-at c.args.self.now.held c.args.index c.args.info.now d c.requires))
    ∙ ap (λ (b : Bool). c.args.goals.now.items ++ (if b then awake_goal c.args.self.now.handler one.goal ∷ [] else [])) (sym awake)
