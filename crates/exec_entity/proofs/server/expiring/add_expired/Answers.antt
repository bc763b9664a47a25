use Rattle.std.proofs.Common.{◌∙◌, ◌≡◌, ◌<◌, ◌+◌, ◌++◌, ◌∷◌, [], List, get_or, sym, ap, map, drop, length, filter, arith}
use Rattle.exec_entity.proofs.Expiring.{any_of}
use Rattle.exec_goal.proofs.Looping.{told-at, next_kept, next_passed}
use Rattle.exec_goal.specs.Table.{GoalRecord, is_expired}
use Rattle.exec_goal.specs.declared.info.GoalInfo.{GoalInfo}
use Rattle.exec_msg.specs.declared.line.Line.{Line}
use Rattle.exec_msg.specs.declared.line.Line.TheVariants as line
use Rattle.exec_rules.specs.World.{HeldGoal, records_of}
use Rattle.std.proofs.lemmas.List.{length-map}
use Rattle.exec_entity.proofs.server.expiring.add_expired.Goals.{then-is_expired_at+in_ok-add, else-is_expired_at}
use Rattle.exec_entity.proofs.server.expiring.add_expired.Goals as goal

pub loop-index-preserved : goal.loop-index-preserved
loop-index-preserved g c =
    let goals = records_of c.args.server.now.held in
    let index = c.loop-index.index in
    let test = is_expired c.args.moment c.args.server.now.timeout in
    let told : GoalRecord → Line = λ goal. line.Expire c.args.server.now.handler.entity goal.id in
    let within : index < length goals = omega (arith, c.loop-index-test.true, c.len-index-end.ensures, length-map c.args.server.now.held (λ (one : HeldGoal). one.goal)) in
    let left = map told (filter test (drop (index + 1) goals)) in
    elim c.if-is_expired_at.branch [
      | then-is_expired_at+in_ok-add w ↦
          let at = told-at goals index w.goal_at.result w.goal_at.ensures in
          let same : line.Expire w.number.result w.goal_at.result.id ≡ told (get_or goals index at.0) =
          λ i. line.Expire (w.number.ensures i) ((ap (λ (info : GoalInfo). info.id) at.1 ∙ ap (λ (goal : GoalRecord). goal.id) (sym at.2)) i) in
          ap (λ lines. g.L.Lines.lines lines ++ left) w.lines-is
          ∙ ap (λ (lines : List Line). lines ++ left) (w.in_ok-add.ensures.ok ∙ ap (λ (new : Line). g.L.Lines.lines c.loop-index.lines ++ new ∷ []) same)
          ∙ next_kept test told goals index at.0 (g.L.Lines.lines c.loop-index.lines) within (sym (c.is_expired_at.ensures at.0) ∙ w.if-is_expired_at.true)
          ∙ c.loop-index.invariant
      | else-is_expired_at w ↦
          let goal = any_of goals index within in
          ap (λ lines. g.L.Lines.lines lines ++ left) w.lines-is
          ∙ next_passed test told goals index goal (g.L.Lines.lines c.loop-index.lines) within (sym (c.is_expired_at.ensures goal) ∙ w.if-is_expired_at.false)
          ∙ c.loop-index.invariant
    ]
