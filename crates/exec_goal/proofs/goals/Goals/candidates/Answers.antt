use Rattle.std.proofs.Common.{◌∙◌, ◌<◌, ◌+◌, ◌++◌, ◌∷◌, [], sym, ap, map, drop, length, arith}
use Rattle.exec_goal.proofs.Looping.{told-at, next_kept, next_passed}
use Rattle.exec_goal.specs.Cancel.{is_candidate, candidates}
use Rattle.exec_goal.specs.Info.{info_of}
use Rattle.exec_goal.proofs.goals.Goals.candidates.Goals.{then-is_candidate+in_ok-push, else-is_candidate}
use Rattle.exec_goal.proofs.goals.Goals.candidates.Goals as goal

pub loop-index-preserved : goal.loop-index-preserved
loop-index-preserved c =
    let at = told-at c.args.self.now c.loop-index.index c.at-info.result c.at-info.ensures in
    let within : c.loop-index.index < length c.args.self.now = omega (arith, c.loop-index-test.true, c.len-index-end.ensures.count) in
    let test = is_candidate c.args.request.now in
    let tested = c.is_candidate.ensures at.0 at.1 ∙ ap test (sym at.2) in
    elim c.if-is_candidate.branch [
      | then-is_candidate+in_ok-push w ↦
          ap (λ infos. infos ++ map info_of (candidates c.args.request.now (drop (c.loop-index.index + 1) c.args.self.now)))
          (w.infos-is ∙ w.in_ok-push.ensures.ok ∙ ap (λ info. c.loop-index.infos ++ info ∷ []) (at.1 ∙ ap info_of (sym at.2)))
          ∙ next_kept test info_of c.args.self.now c.loop-index.index at.0 c.loop-index.infos within (sym tested ∙ w.if-is_candidate.true)
          ∙ c.loop-index.invariant
      | else-is_candidate w ↦
          ap (λ infos. infos ++ map info_of (candidates c.args.request.now (drop (c.loop-index.index + 1) c.args.self.now))) w.infos-is
          ∙ next_passed test info_of c.args.self.now c.loop-index.index at.0 c.loop-index.infos within (sym tested ∙ w.if-is_candidate.false)
          ∙ c.loop-index.invariant
    ]
