use Rattle.std.proofs.Common.{◌≡◌, ◌<◌, ◌≤◌, ◌++◌, List, length, map, slice_get, slice_index_or, refl, ap, sym, ◌∙◌, arith}
use Rattle.std.specs.List.{flat_map}
use Rattle.std.proofs.lemmas.List.{length-map, take_all}
use Rattle.std.proofs.lemmas.Option.{slice_get_read}
use Rattle.exec_goal.specs.Info.{info_of}
use Rattle.exec_goal.specs.declared.info.GoalInfo.{GoalInfo}
use Rattle.exec_entity.proofs.Joined.{goals-now}
use Rattle.exec_entity.proofs.Expiring.{any_of}
use Rattle.exec_entity.proofs.Polls.{added_next}
use Rattle.exec_rules.specs.World.{HeldGoal, records_of}
use Rattle.exec_rules.specs.declared.ready.AwakeGoal.{AwakeGoal}
use Rattle.exec_rules.specs.inner.Awake.{goal_awake}
use Rattle.exec_entity.proofs.server.Server.add_each_awake.Goals as goal

pub add_where_awake-requires : goal.add_where_awake-requires
add_where_awake-requires c =
    let told : c.infos-infos.result.now ≡ map info_of (records_of c.args.self.now.held) = c.infos-infos.ensures ∙ ap (map info_of) (goals-now c.self.invariant.0 c.self.view_is) in
    ap (λ (infos : List GoalInfo). slice_get infos c.loop-index.index) (sym told)
    ∙ slice_get_read c.infos-infos.result.now (length c.infos-infos.result.now) c.loop-index.index c.index-infos-index.result refl (omega (arith, c.loop-index-test.true)) c.index-infos-index.is

pub loop-index-preserved : goal.loop-index-preserved
loop-index-preserved c =
    let held : List HeldGoal = c.args.self.now.held in
    let told : c.infos-infos.result.now ≡ map info_of (records_of held) = c.infos-infos.ensures ∙ ap (map info_of) (goals-now c.self.invariant.0 c.self.view_is) in
    let within : c.loop-index.index < length held = omega (arith, c.loop-index-test.true, ap length told, length-map (records_of held) info_of, length-map held (λ (one : HeldGoal). one.goal)) in
    let d : HeldGoal = any_of held c.loop-index.index within in
    c.in_ok-add_where_awake.ensures d
    ∙ ap (λ (so_far : List AwakeGoal). so_far ++ goal_awake c.args.moment c.args.self.now.handler (slice_index_or held c.loop-index.index d)) c.loop-index.invariant
    ∙ added_next (goal_awake c.args.moment c.args.self.now.handler) c.args.goals.now.items held c.loop-index.index d within

pub returns : goal.returns
returns c =
    let held : List HeldGoal = c.args.self.now.held in
    let told : c.infos-infos.result.now ≡ map info_of (records_of held) = c.infos-infos.ensures ∙ ap (map info_of) (goals-now c.self.invariant.0 c.self.view_is) in
    let done : length held ≤ c.loop-index.index = omega (arith, c.loop-index-test.false, ap length told, length-map (records_of held) info_of, length-map held (λ (one : HeldGoal). one.goal)) in
    c.loop-index.invariant
    ∙ ap (λ (all : List HeldGoal). c.args.goals.now.items ++ flat_map (goal_awake c.args.moment c.args.self.now.handler) all) (take_all c.loop-index.index held done)
