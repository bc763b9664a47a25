use Rattle.std.proofs.Common.{◌≡◌, length, rules, ap, subst, sym, ◌∙◌, true≢false}
use Rattle.std.specs.Arc.{arc_value}
use Rattle.exec_plan.specs.Feeding.{feeds_by_round}
use Rattle.exec_world.proofs.Sound.{first_sound}
use Rattle.exec_rules.specs.Transcript.{first_world}
use Rattle.exec_rules.specs.World.{WorldState}
use Rattle.exec_world.specs.inner.Sound.{IsSound}
use Rattle.exec_world.proofs.world.World.with_lines.Goals as goal

pub invariant_of-result : goal.invariant_of-result
invariant_of-result g c =
    let plan = arc_value c.args.plan in
    let feed : c.in_ok-feed.feed ≡ feeds_by_round (arc_value c.args.plan) = search rules in
    let rounds : length c.in_ok-feed.feed ≡ length (arc_value c.args.plan).moments = search rules in (
      feed,
      rounds,
      (λ none. absurd (true≢false none)),
      λ unfailed. subst (λ (state : WorldState). IsSound plan state) (sym (c.in_ok-state.ensures ∙ ap first_world c.deref-2.ensures)) (first_sound plan),
    )
