use Rattle.std.proofs.Common.{◌++◌, List, ap, sym, ◌∙◌, arith}
use Rattle.std.proofs.lemmas.List.{append-nil}
use Rattle.exec_entity.proofs.Polls.{none_awake}
use Rattle.exec_rules.specs.declared.ready.AwakeGoal.{AwakeGoal}
use Rattle.exec_entity.proofs.server.Server.add_awake.Goals as goal

pub returns-then-count_working-eq0 : goal.returns-then-count_working-eq0
returns-then-count_working-eq0 c =
    let goals : List AwakeGoal = c.args.goals.now.items in
    sym (append-nil goals)
    ∙ ap (λ (more : List AwakeGoal). goals ++ more) (sym (none_awake c.args.moment c.args.self.now (c.count_working.ensures.idle (omega (arith, c.if-count_working-eq0.true)) c.args.moment)))
