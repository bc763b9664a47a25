use Rattle.std.proofs.Common.{◌≡◌, ◌∷◌, ◌++◌, [], List, length, map, vec_len, ap, sym, subst, ◌∙◌, arith}
use Rattle.std.specs.Arc.{arc_value}
use Rattle.exec_lane.proofs.Added.{all_at, all_set}
use Rattle.exec_lane.proofs.Joining.{as_long, finds_joined, joined_in, kept_in, place_within}
use Rattle.exec_lane.specs.Lane.{LaneCallback, entry_in}
use Rattle.exec_lane.specs.inner.Buffered.{callback_at, entries_in}
use Rattle.exec_lane.specs.inner.Cuts.{CutState, FindsLanes, IsUnrun, lane_with, place_for}
use Rattle.exec_msg.specs.Places.{change_at}
use Rattle.exec_rules.specs.declared.ready.Ready.{Ready}
use Rattle.exec_lane.proofs.cut.Cut.join.Goals as goal

pub index_mut-requires : goal.index_mut-requires
index_mut-requires g c =
    let list = (arc_value c.self.inside.list).items in
    let at = ap (λ (cut : CutState). place_for (callback_at cut.list c.args.place) cut.lanes) c.self.view_is ∙ c.requires.lane in
    let within = place_within (entry_in c.args.world.now.state (callback_at list c.args.place)) (map (λ lane. entries_in list lane.value) c.self.inside.lanes.items) c.args.lane at in
    let same = as_long (λ lane. entries_in list lane.value) c.self.inside.lanes.items in
    let counted : vec_len c.self.inside.lanes ≡ length c.self.inside.lanes.items = c.self.inside.lanes.ok.0 in
    omega (arith, within, same, counted)

pub add-requires-clause-unrun : goal.add-requires-clause-unrun
add-requires-clause-unrun g c =
    let list = (arc_value c.self.inside.list).items in
    let at = ap (λ (cut : CutState). place_for (callback_at cut.list c.args.place) cut.lanes) c.self.view_is ∙ c.requires.lane in
    let within = place_within (entry_in c.args.world.now.state (callback_at list c.args.place)) (map (λ lane. entries_in list lane.value) c.self.inside.lanes.items) c.args.lane at in
    let same = as_long (λ lane. entries_in list lane.value) c.self.inside.lanes.items in
    let lists : c.as_slice.result.now ≡ list = cc in
    subst (λ (some : List Ready). IsUnrun some c.deref_mut.result.now) (sym lists)
    (subst (IsUnrun list) (sym c.deref_mut.ensures.value)
    (all_at (λ lane. IsUnrun list lane.value) c.self.inside.lanes.items c.args.lane c.index_mut.result.now c.self.invariant.1 (omega (arith, within, same)) c.index_mut.ensures.value))

pub invariant_of-self : goal.invariant_of-self
invariant_of-self g c =
    let list = (arc_value c.self.inside.list).items in
    let at = ap (λ (cut : CutState). place_for (callback_at cut.list c.args.place) cut.lanes) c.self.view_is ∙ c.requires.lane in
    let within = place_within (entry_in c.args.world.now.state (callback_at list c.args.place)) (map (λ lane. entries_in list lane.value) c.self.inside.lanes.items) c.args.lane at in
    let long = as_long (λ lane. entries_in list lane.value) c.self.inside.lanes.items in
    let same : c.add.new.lane ≡ c.index_mut.result.now.value = c.in_err-add.ensures.unchanged ∙ c.deref_mut.ensures.value in
    let unrun = all_at (λ lane. IsUnrun list lane.value) c.self.inside.lanes.items c.args.lane c.index_mut.result.now c.self.invariant.1 (omega (arith, within, long)) c.index_mut.ensures.value in (
      subst (FindsLanes c.self.inside.of_group)
          (sym (kept_in (λ lane. entries_in list lane.value) c.self.inside.lanes.items c.args.lane c.index_mut.result.now _ c.index_mut.ensures.value (ap (entries_in list) same))) c.self.invariant.0,
      all_set (λ lane. IsUnrun list lane.value) c.self.inside.lanes.items c.args.lane _ c.self.invariant.1 (subst (IsUnrun list) (sym same) unrun),
    )

pub invariant_of-self-2 : goal.invariant_of-self-2
invariant_of-self-2 g c =
    let list = (arc_value c.self.inside.list).items in
    let entry = entry_in c.args.world.now.state (callback_at list c.args.place) in
    let at = ap (λ (cut : CutState). place_for (callback_at cut.list c.args.place) cut.lanes) c.self.view_is ∙ c.requires.lane in
    let lists : c.as_slice.result.now ≡ list = cc in
    let more : entries_in list c.add.new.lane ≡ entries_in list c.index_mut.result.now.value ++ entry ∷ [] =
    (λ i. entries_in (sym lists i) c.add.new.lane) ∙ c.in_ok-add.ensures.lane
    ∙ (λ i. lane_with (entry_in c.args.world.now.state (callback_at (lists i) c.args.place)) (entries_in (lists i) (c.deref_mut.ensures.value i))) in (
      finds_joined c.self.inside.of_group entry (map (λ lane. entries_in list lane.value) c.self.inside.lanes.items) _ c.args.lane c.self.invariant.0 at
          (joined_in (λ lane. entries_in list lane.value) c.self.inside.lanes.items c.args.lane c.index_mut.result.now _ entry c.index_mut.ensures.value more),
      all_set (λ lane. IsUnrun list lane.value) c.self.inside.lanes.items c.args.lane _ c.self.invariant.1 (subst (λ (some : List Ready). IsUnrun some c.add.new.lane) lists c.in_ok-add.ensures.unrun),
    )

pub returns-clause-cut : goal.returns-clause-cut
returns-clause-cut g c =
    let list = (arc_value c.self.inside.list).items in
    let entry = entry_in c.args.world.now.state (callback_at list c.args.place) in
    let lists : c.as_slice.result.now ≡ list = cc in
    let more : entries_in list c.add.new.lane ≡ entries_in list c.index_mut.result.now.value ++ entry ∷ [] =
    (λ i. entries_in (sym lists i) c.add.new.lane) ∙ c.in_ok-add.ensures.lane
    ∙ (λ i. lane_with (entry_in c.args.world.now.state (callback_at (lists i) c.args.place)) (entries_in (lists i) (c.deref_mut.ensures.value i))) in
    ap (λ (lanes : List (List LaneCallback)). record { list = list; lanes = lanes })
    (joined_in (λ lane. entries_in list lane.value) c.self.inside.lanes.items c.args.lane c.index_mut.result.now _ entry c.index_mut.ensures.value more)
    ∙ ap (λ (cut : CutState). record { list = cut.list; lanes = change_at c.args.lane (lane_with (entry_in c.args.world.now.state (callback_at cut.list c.args.place))) cut.lanes }) c.self.view_is
