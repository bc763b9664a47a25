use Rattle.std.proofs.Common.{◌∙◌, ◌<◌, ◌≤◌, List, Some, length, map, slice_get, ap, sym, arith}
use Rattle.std.specs.Option.{option_map}
use Rattle.exec_goal.proofs.Looping.{told-at}
use Rattle.exec_goal.proofs.Searching.{waiting-found, waiting-none}
use Rattle.exec_goal.specs.Info.{info_of}
use Rattle.exec_goal.specs.Table.{GoalRecord}
use Rattle.exec_goal.specs.declared.info.GoalInfo.{GoalInfo}
use Rattle.exec_goal.proofs.goals.Goals.oldest_accepted.Goals as goal

pub returns-then-place-len-clause-found : goal.returns-then-place-len-clause-found
returns-then-place-len-clause-found c =
    let goals = c.args.self.now in
    let place = c.first_waiting-place.result in
    let within : place < length goals = omega (arith, c.if-place-len.true, c.len.ensures.count, ap length c.self.view_is) in
    let at = told-at goals place c.at.result (ap (λ (goals : List GoalRecord). slice_get (map info_of goals) place) (sym c.self.view_is) ∙ c.at.ensures) in
    let found = waiting-found place goals at.0 within (c.first_waiting-place.ensures.there within at.0) c.first_waiting-place.ensures.before in
    ap (λ (info : GoalInfo). Some info.id) at.1 ∙ ap (λ (goal : GoalRecord). Some goal.id) (sym at.2) ∙ sym (ap (option_map (λ (goal : GoalRecord). goal.id)) found)

pub returns-else-place-len-clause-found : goal.returns-else-place-len-clause-found
returns-else-place-len-clause-found c =
    let goals = c.args.self.now in
    let place = c.first_waiting-place.result in
    let all : length goals ≤ place = omega (arith, c.if-place-len.false, c.len.ensures.count, ap length c.self.view_is) in
    sym (ap (option_map (λ (goal : GoalRecord). goal.id)) (waiting-none place goals all c.first_waiting-place.ensures.before))
