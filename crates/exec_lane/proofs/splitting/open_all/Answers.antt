use Rattle.std.proofs.Common.{reverse, refl, ap, sym, subst, ◌∙◌}
use Rattle.std.specs.Arc.{arc_value}
use Rattle.std.specs.List.{AllByRecursion}
use Rattle.std.proofs.lemmas.List.{reverse-reverse}
use Rattle.exec_lane.proofs.Taken.{last_all, opens_first}
use Rattle.exec_lane.specs.inner.Buffered.{entries_in}
use Rattle.exec_lane.specs.inner.Cuts.{IsUnrun, opened_entries}
use Rattle.exec_lane.proofs.splitting.open_all.Goals as goal

pub loop-lane-init : goal.loop-lane-init
loop-lane-init g c = (
  opens_first (λ lane. entries_in (arc_value c.args.list.now).items lane.value) (opened_entries c.args.world.now.state) c.in_ok-opened.opened.items c.args.lanes.items c.reverse.new.self.items c.in_ok-opened.ensures.items c.reverse.ensures.items,
  refl,
  subst (AllByRecursion (λ lane. IsUnrun (arc_value c.args.list.now).items lane.value)) (sym (ap reverse c.reverse.ensures.items ∙ reverse-reverse c.args.lanes.items)) c.requires,
)

pub open-requires : goal.open-requires
open-requires g c =
    (last_all (λ lane. IsUnrun (arc_value c.args.list.now).items lane.value) c.loop-lane.lanes.items c.pop.new.self.items c.in-Some.lane c.in-Some.ensures.items c.loop-lane.invariant.2).0
