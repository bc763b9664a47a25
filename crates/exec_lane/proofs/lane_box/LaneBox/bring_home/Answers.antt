use Rattle.std.proofs.Common.{length, ap, ◌∙◌}
use Rattle.std.specs.Arc.{arc_value}
use Rattle.exec_lane.specs.Lane.{Lane}
use Rattle.std.proofs.Common.{refl}
use Rattle.exec_lane.proofs.LanesKept.{kept_all, kept_few, kept_home, kept_ran}
use Rattle.exec_lane.specs.Gather.{ran_in}
use Rattle.exec_lane.specs.Lane.{lane_home}
use Rattle.exec_rules.specs.World.{WorldState}
use Rattle.exec_lane.proofs.lane_box.LaneBox.bring_home.Goals as goal

pub new-requires-clause-places : goal.new-requires-clause-places
new-requires-clause-places g c =
    kept_all (arc_value c.self.inside.list).items (arc_value c.self.inside.list).items c.self.inside.first.value c.self.inside.buffer.value c.self.inside.buffer.value (length c.self.inside.buffer.value.did) c.self.invariant refl refl

pub new-requires-clause-did : goal.new-requires-clause-did
new-requires-clause-did g c = kept_few (arc_value c.self.inside.list).items c.self.inside.first.value c.self.inside.buffer.value c.self.invariant

pub returns-clause-ran : goal.returns-clause-ran
returns-clause-ran g c =
    c.new.ensures.ran
    ∙ kept_ran (arc_value c.self.inside.list).items c.self.inside.first.value c.self.inside.buffer.value (length c.self.inside.buffer.value.did) c.self.invariant
    ∙ ap ran_in c.self.view_is

pub returns-clause-home : goal.returns-clause-home
returns-clause-home g c =
    c.new.ensures.home
    ∙ ap (λ (state : WorldState). record c.args.world.now { state = state }) (
    kept_home (arc_value c.self.inside.list).items c.self.inside.first.value c.self.inside.buffer.value (length c.self.inside.buffer.value.did) c.args.world.now.state c.self.invariant
    ∙ ap (λ (lane : Lane). lane_home c.args.world.now.state lane) c.self.view_is
    )
