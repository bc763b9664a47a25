use Rattle.std.proofs.Common.{◌≡◌, ◌==◌, ◌≤◌, false, length, rules, ap, ◌∙◌}
use Rattle.exec_rules.specs.Calls.{WorldData}
use Rattle.exec_world.proofs.Begun.{snapshot_kept}
use Rattle.exec_world.proofs.HandedOut.{has_handed, has_scripts}
use Rattle.exec_world.specs.inner.Rounds.{rounds_in}
use Rattle.exec_world.proofs.world.World.snapshot.Goals as goal

pub begin_round-begun-requires : goal.begin_round-begun-requires
begin_round-begun-requires g c =
    let unfailed : c.self.inside.failed ≡ false = ap (λ (world : WorldData). world.failed) c.self.view_is ∙ c.in_ok-check.ensures.ok in
    has_scripts _ c.args.self.now c.self.view_is c.deref.result.now c.args.round c.of-begins.result c.deref.ensures c.of-begins.ensures.moment (c.of-begins.ensures.begun c.self.inside.state) (c.self.invariant.3 unfailed)
    c.of-begins.result.graph.now c.of-begins.ensures.graph

pub invariant_of-self : goal.invariant_of-self
invariant_of-self g c =
    let begun : c.len-self-inside.result == 0 ≡ false → 1 ≤ c.args.round = search rules in (
      c.self.invariant.0,
      c.self.invariant.1,
      begun,
      λ unfailed. (has_handed _ c.args.self.now c.self.view_is c.deref.result.now c.args.round c.of-begins.result c.deref.ensures c.of-begins.ensures.moment (c.of-begins.ensures.begun c.self.inside.state) (c.self.invariant.3 unfailed)
          c.in-Ok.list.items c.begin_round-begun.new.self c.in-Ok.ensures.list c.in-Ok.ensures.taken).sound,
    )

pub returns-in-Ok-clause-ready : goal.returns-in-Ok-clause-ready
returns-in-Ok-clause-ready g c =
    let unfailed : c.self.inside.failed ≡ false = ap (λ (world : WorldData). world.failed) c.self.view_is ∙ c.in_ok-check.ensures.ok in
    let has = has_handed _ c.args.self.now c.self.view_is c.deref.result.now c.args.round c.of-begins.result c.deref.ensures c.of-begins.ensures.moment (c.of-begins.ensures.begun c.self.inside.state) (c.self.invariant.3 unfailed)
    c.in-Ok.list.items c.begin_round-begun.new.self c.in-Ok.ensures.list c.in-Ok.ensures.taken in
    has.ready

pub returns-in-Ok-clause-taken : goal.returns-in-Ok-clause-taken
returns-in-Ok-clause-taken g c =
    let unfailed : c.self.inside.failed ≡ false = ap (λ (world : WorldData). world.failed) c.self.view_is ∙ c.in_ok-check.ensures.ok in
    let has = has_handed _ c.args.self.now c.self.view_is c.deref.result.now c.args.round c.of-begins.result c.deref.ensures c.of-begins.ensures.moment (c.of-begins.ensures.begun c.self.inside.state) (c.self.invariant.3 unfailed)
    c.in-Ok.list.items c.begin_round-begun.new.self c.in-Ok.ensures.list c.in-Ok.ensures.taken in
    let count : c.len-self-inside.result ≡ length c.in-Ok.list.items = search rules in
    (λ i. record { plan = (c.self.view_is i).plan; state = c.begin_round-begun.new.self; rounds = rounds_in c.args.round (count i); uncommitted = count i; failed = (c.self.view_is i).failed })
    ∙ snapshot_kept c.args.self.now c.args.round c.in-Ok.list.items c.begin_round-begun.new.self (c.requires c.in_ok-check.ensures.ok).next has.ready has.taken

pub returns-in-Ok-clause-home : goal.returns-in-Ok-clause-home
returns-in-Ok-clause-home g c =
    let unfailed : c.self.inside.failed ≡ false = ap (λ (world : WorldData). world.failed) c.self.view_is ∙ c.in_ok-check.ensures.ok in
    let has = has_handed _ c.args.self.now c.self.view_is c.deref.result.now c.args.round c.of-begins.result c.deref.ensures c.of-begins.ensures.moment (c.of-begins.ensures.begun c.self.inside.state) (c.self.invariant.3 unfailed)
    c.in-Ok.list.items c.begin_round-begun.new.self c.in-Ok.ensures.list c.in-Ok.ensures.taken in
    has.home

pub returns-in-Ok-clause-variables : goal.returns-in-Ok-clause-variables
returns-in-Ok-clause-variables g c =
    let unfailed : c.self.inside.failed ≡ false = ap (λ (world : WorldData). world.failed) c.self.view_is ∙ c.in_ok-check.ensures.ok in
    let has = has_handed _ c.args.self.now c.self.view_is c.deref.result.now c.args.round c.of-begins.result c.deref.ensures c.of-begins.ensures.moment (c.of-begins.ensures.begun c.self.inside.state) (c.self.invariant.3 unfailed)
    c.in-Ok.list.items c.begin_round-begun.new.self c.in-Ok.ensures.list c.in-Ok.ensures.taken in
    has.variables
