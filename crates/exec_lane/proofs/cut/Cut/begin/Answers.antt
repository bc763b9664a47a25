use Rattle.std.proofs.Common.{◌≡◌, ◌<◌, ◌∷◌, [], List, ℕ, length, map, vec_len, ap, sym, subst, ◌∙◌, arith}
use Rattle.std.specs.Arc.{arc_value}
use Rattle.std.proofs.lemmas.List.{get_or_read}
use Rattle.exec_lane.proofs.Added.{all_push}
use Rattle.exec_lane.proofs.Joining.{as_long, finds_alone, finds_begun, one_more}
use Rattle.exec_lane.specs.Lane.{entry_in}
use Rattle.exec_lane.specs.inner.Buffered.{callback_at, entries_in, no_callback}
use Rattle.exec_lane.specs.inner.Cuts.{CutState, FindsLanes, IsUnrun, lane_with}
use Rattle.exec_msg.specs.Places.{change_at, first_noted}
use Rattle.exec_rules.specs.declared.ready.Ready.{Ready}
use Rattle.exec_world.specs.inner.Buffers.{no_callbacks}
use Rattle.exec_lane.proofs.cut.Cut.begin.Goals as goal

pub invariant_of-self-then-exclusive : goal.invariant_of-self-then-exclusive
invariant_of-self-then-exclusive g c =
    let list = (arc_value c.self.inside.list).items in
    let entry = entry_in c.args.world.now.state (callback_at list c.args.place) in
    let lists : c.as_slice.result.now ≡ list = cc in
    let again : c.as_slice-2.result.now ≡ list = cc in
    let empty : c.deref_mut.result.now ≡ no_callbacks = c.deref_mut.ensures.value ∙ c.in_ok-lane.ensures.empty in
    let world : c.take_buffer.new.self ≡ c.args.world.now = c.in_ok-lane.ensures.same in
    let alone : entries_in list c.add.new.lane ≡ entry ∷ [] =
    (λ i. entries_in (sym lists i) c.add.new.lane) ∙ c.in_ok-add.ensures.lane
    ∙ (λ i. lane_with (entry_in (world i).state (callback_at (lists i) c.args.place)) (entries_in (lists i) (empty i))) in
    let there : c.args.place < length c.as_slice-2.result.now =
    subst (λ (some : List Ready). c.args.place < length some) (ap (λ (cut : CutState). cut.list) (sym c.self.view_is) ∙ sym again) c.requires.there in
    let here : c.index-as_slice-place.result ≡ callback_at list c.args.place =
    get_or_read c.as_slice-2.result.now c.args.place _ there c.index-as_slice-place.is no_callback ∙ (λ i. callback_at (again i) c.args.place) in
    let counted : c.len-number.result ≡ length (map (λ lane. entries_in list lane.value) c.self.inside.lanes.items) =
    (let e = c.len-number.ensures in let long = as_long (λ lane. entries_in list lane.value) c.self.inside.lanes.items in let ok : vec_len c.self.inside.lanes ≡ length c.self.inside.lanes.items = c.self.inside.lanes.ok.0 in omega (arith, e, long, ok)) in (
      subst (FindsLanes c.note.new.self)
          (one_more (λ lane. entries_in list lane.value) c.self.inside.lanes.items c.push.new.self.items _ entry c.in_ok-push.ensures.items alone)
          (finds_begun c.self.inside.of_group c.reserve.new.self c.note.new.self (map (λ lane. entries_in list lane.value) c.self.inside.lanes.items) entry c.number_of-group.result c.self.invariant.0
          c.in_ok-reserve.ensures.same c.in_ok-reserve.ensures.room
          (c.number_of-group.ensures.value ∙ ap (λ (one : Ready). one.group) here)
          (ap (λ (one : Ready). one.exclusive) (sym here) ∙ c.if-exclusive.true)
          (c.note.ensures ∙ ap (λ (n : ℕ). change_at c.number_of-group.result (first_noted n) c.reserve.new.self) counted)),
      all_push (λ lane. IsUnrun list lane.value) c.self.inside.lanes.items c.push.new.self.items _ c.in_ok-push.ensures.items c.self.invariant.1
          (subst (λ (some : List Ready). IsUnrun some c.add.new.lane) lists c.in_ok-add.ensures.unrun),
    )

pub invariant_of-self-else-exclusive : goal.invariant_of-self-else-exclusive
invariant_of-self-else-exclusive g c =
    let list = (arc_value c.self.inside.list).items in
    let entry = entry_in c.args.world.now.state (callback_at list c.args.place) in
    let lists : c.as_slice.result.now ≡ list = cc in
    let again : c.as_slice-2.result.now ≡ list = cc in
    let empty : c.deref_mut.result.now ≡ no_callbacks = c.deref_mut.ensures.value ∙ c.in_ok-lane.ensures.empty in
    let world : c.take_buffer.new.self ≡ c.args.world.now = c.in_ok-lane.ensures.same in
    let alone : entries_in list c.add.new.lane ≡ entry ∷ [] =
    (λ i. entries_in (sym lists i) c.add.new.lane) ∙ c.in_ok-add.ensures.lane
    ∙ (λ i. lane_with (entry_in (world i).state (callback_at (lists i) c.args.place)) (entries_in (lists i) (empty i))) in
    let there : c.args.place < length c.as_slice-2.result.now =
    subst (λ (some : List Ready). c.args.place < length some) (ap (λ (cut : CutState). cut.list) (sym c.self.view_is) ∙ sym again) c.requires.there in
    let here : c.index-as_slice-place.result ≡ callback_at list c.args.place =
    get_or_read c.as_slice-2.result.now c.args.place _ there c.index-as_slice-place.is no_callback ∙ (λ i. callback_at (again i) c.args.place) in (
      subst (FindsLanes c.reserve.new.self)
          (one_more (λ lane. entries_in list lane.value) c.self.inside.lanes.items c.push.new.self.items _ entry c.in_ok-push.ensures.items alone)
          (finds_alone c.self.inside.of_group c.reserve.new.self (map (λ lane. entries_in list lane.value) c.self.inside.lanes.items) entry c.self.invariant.0
          c.in_ok-reserve.ensures.same (ap (λ (one : Ready). one.exclusive) (sym here) ∙ c.if-exclusive.false)),
      all_push (λ lane. IsUnrun list lane.value) c.self.inside.lanes.items c.push.new.self.items _ c.in_ok-push.ensures.items c.self.invariant.1
          (subst (λ (some : List Ready). IsUnrun some c.add.new.lane) lists c.in_ok-add.ensures.unrun),
    )
