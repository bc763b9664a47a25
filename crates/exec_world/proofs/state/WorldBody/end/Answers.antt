use Rattle.std.proofs.Common.{ℕ, ℤ, w64, to_z, of_z, rules, ap, ◌∙◌}
use mir.Val.{SFits}
use Rattle.std.specs.List.{fold}
use Rattle.std.proofs.lemmas.Int.{to_z-of_z}
use Rattle.std.proofs.lemmas.Result.{on_ok_weaker}
use Rattle.exec_entity.proofs.Closings.{ended_told}
use Rattle.exec_goal.specs.Calls.{askers_in}
use Rattle.exec_rules.specs.Close.{end, tell}
use Rattle.exec_rules.specs.World.{WorldState, goals_at}
use Rattle.exec_world.proofs.state.WorldBody.end.Goals as goal

pub returns-clause-ended : goal.returns-clause-ended
returns-clause-ended g c =
    let fits : SFits w64 c.args.value = search rules in
    let value = to_z w64 (of_z w64 c.args.value) in
    on_ok_weaker c.tell_askers.result
    (λ told. told
    ∙ ap (λ (world : WorldState). fold (λ (before : WorldState) (client : ℕ). tell c.args.server c.args.id c.status-status.result value client before) world (askers_in c.args.id (goals_at c.args.server world))) c.in_ok-add_state.ensures
    ∙ ended_told c.args.server c.args.id c.args.event value c.args.moment _ c.args.self.now c.self.view_is c.end.new.self c.in-Some.ensures.ended c.in-Some.reached c.in-Some.ensures.reached c.status-status.result c.status-status.ensures
    ∙ ap (λ (value : ℤ). end c.args.server c.args.id c.args.event value c.args.moment c.args.self.now) (to_z-of_z w64 c.args.value fits))
    c.tell_askers.ensures
