use Rattle.std.proofs.Common.{false, ap, sym, ◌≡◌, ◌∙◌, true≢false}
use Rattle.exec_world.proofs.Begun.{round_kept}
use Rattle.exec_world.proofs.HandedOut.{has_run, has_scripts}
use Rattle.exec_world.proofs.Sound.{not_refused}
use Rattle.exec_rules.specs.Calls.{WorldData}
use Rattle.exec_world.specs.inner.Rounds.{rounds_in}
use Rattle.exec_world.proofs.world.World.run_round.Goals as goal

pub run_round-ran-requires : goal.run_round-ran-requires
run_round-ran-requires g c =
    let unfailed : c.self.inside.failed ≡ false = ap (λ (world : WorldData). world.failed) c.self.view_is ∙ c.requires.unfailed in
    has_scripts _ c.args.self.now c.self.view_is c.deref.result.now c.args.round c.of-begins.result c.deref.ensures c.of-begins.ensures.moment (c.of-begins.ensures.begun c.self.inside.state) (c.self.invariant.3 unfailed)
    c.of-begins.result.graph.now c.of-begins.ensures.graph

pub invariant_of-self-2 : goal.invariant_of-self-2
invariant_of-self-2 g c =
    let ran = not_refused _ _ (sym c.is_err.ensures.value ∙ c.if-is_err.false) c.run_round-ran.ensures in (
      c.self.invariant.0,
      c.self.invariant.1,
      (λ none. absurd (true≢false none)),
      λ unfailed. (has_run _ c.args.self.now c.self.view_is c.deref.result.now c.args.round c.of-begins.result c.deref.ensures c.of-begins.ensures.moment (c.of-begins.ensures.begun c.self.inside.state) (c.self.invariant.3 unfailed)
          c.run_round-ran.new.self ran).sound,
    )

pub returns : goal.returns
returns g c =
    let unfailed : c.self.inside.failed ≡ false = ap (λ (world : WorldData). world.failed) c.self.view_is ∙ c.requires.unfailed in
    let ran = not_refused _ _ (sym c.is_err.ensures.value ∙ c.if-is_err.false) c.run_round-ran.ensures in
    let has = has_run _ c.args.self.now c.self.view_is c.deref.result.now c.args.round c.of-begins.result c.deref.ensures c.of-begins.ensures.moment (c.of-begins.ensures.begun c.self.inside.state) (c.self.invariant.3 unfailed)
    c.run_round-ran.new.self ran in
    (λ i. record { plan = (c.self.view_is i).plan; state = c.run_round-ran.new.self; rounds = rounds_in c.args.round 0; uncommitted = 0; failed = (c.self.view_is i).failed })
    ∙ round_kept c.args.self.now c.args.round c.run_round-ran.new.self c.requires.next.next has.ran
