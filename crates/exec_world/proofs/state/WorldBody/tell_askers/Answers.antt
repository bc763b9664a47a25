use Rattle.std.proofs.Common.{◌≡◌, ◌+◌, ℕ, ℤ, List, Some, drop, slice_get, w64, to_z, of_z, rules, ap, ◌∙◌}
use mir.Val.{SFits}
use Rattle.std.specs.List.{fold}
use Rattle.std.proofs.lemmas.Int.{to_z-of_z}
use Rattle.exec_goal.specs.Calls.{askers_in}
use Rattle.exec_entity.proofs.Closings.{left_next, left_none}
use Rattle.exec_rules.specs.Close.{tell}
use Rattle.exec_rules.specs.World.{WorldState, ServerEntry, goals_at, goals_in}
use Rattle.exec_world.proofs.state.WorldBody.tell_askers.Goals as goal

pub loop-client-preserved : goal.loop-client-preserved
loop-client-preserved g c =
    let step = λ (before : WorldState) (client : ℕ). tell c.args.server c.args.id c.args.status (to_z w64 (of_z w64 c.args.value)) client before in
    let same = ap (λ (world : WorldState). world.servers) c.self.view_is ∙ c.loop-client.invariant.servers in
    let there : Some c.in-Some.client ≡ slice_get (askers_in c.args.id (goals_at c.args.server c.args.self.now)) c.loop-client.index =
    c.in-Some.ensures ∙ ap (λ (servers : List ServerEntry). slice_get (askers_in c.args.id (goals_in c.args.server servers)) c.loop-client.index) same in
    record {
      servers = ap (λ (world : WorldState). world.servers) c.in_ok-tell.ensures ∙ c.loop-client.invariant.servers;
      left = ap (λ (index : ℕ). fold step c.tell.new.self (drop index (askers_in c.args.id (goals_at c.args.server c.args.self.now)))) c.in_ok-index.ensures.next
          ∙ left_next step (askers_in c.args.id (goals_at c.args.server c.args.self.now)) c.loop-client.index c.in-Some.client there c.loop-client.self c.tell.new.self _ c.in_ok-tell.ensures c.loop-client.invariant.left;
    }

pub returns : goal.returns
returns g c =
    let fits : SFits w64 c.args.value = search rules in
    let same = ap (λ (world : WorldState). world.servers) c.self.view_is ∙ c.loop-client.invariant.servers in
    left_none (λ (before : WorldState) (client : ℕ). tell c.args.server c.args.id c.args.status (to_z w64 (of_z w64 c.args.value)) client before) (askers_in c.args.id (goals_at c.args.server c.args.self.now)) c.loop-client.index
    (c.in_default.ensures ∙ ap (λ (servers : List ServerEntry). slice_get (askers_in c.args.id (goals_in c.args.server servers)) c.loop-client.index) same) c.loop-client.self _ c.loop-client.invariant.left
    ∙ ap (λ (value : ℤ). fold (λ (before : WorldState) (client : ℕ). tell c.args.server c.args.id c.args.status value client before) c.args.self.now (askers_in c.args.id (goals_at c.args.server c.args.self.now))) (to_z-of_z w64 c.args.value fits)
