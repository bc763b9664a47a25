use Rattle.std.proofs.Common.{ℕ, List, ◌<◌, ◌∙◌, sym, ap, subst, arith, length, leb-false, false, ◌≡◌, ◌++◌, ◌∷◌, [], rules, w64, to_z-of_z}
use mir.Val.{SFits}
use Rattle.exec_goal.proofs.Entries.{ids_decide, inserted-new}
use Rattle.exec_goal.proofs.Tallying.{tallied-fits, tallied-accepted}
use Rattle.exec_goal.specs.Info.{info_of}
use Rattle.exec_goal.specs.inner.Held.{record_of, records_of}
use Rattle.exec_goal.specs.Table.{GoalRecord, holds_id, new_goal}
use Rattle.exec_goal.specs.declared.info.GoalInfo.{GoalInfo}
use Rattle.exec_goal.specs.declared.state.State.TheVariants as state
use Rattle.exec_goal.specs.inner.Tally.{CountsMove, TellsState, IsTallied}
use Rattle.exec_msg.specs.declared.limits.TheConstants.{GOALS}
use Rattle.exec_goal.proofs.goals.Goals.accept.Goals as goal

pub returns-clause-accepted : goal.returns-clause-accepted
returns-clause-accepted c =
    let fits : SFits w64 c.args.value = search rules in
    let none : holds_id c.args.id (records_of c.self.inside.held.entries) ≡ false = ap (holds_id c.args.id) c.self.view_is ∙ sym c.holds.ensures ∙ c.if-holds.false in
    ap records_of c.in_ok-insert.ensures.entries ∙ inserted-new _ (λ a b. ids_decide a b) c.args.id _ c.self.inside.held.entries none
    ∙ ap (λ goal. records_of c.self.inside.held.entries ++ goal ∷ []) (c.new-goal.ensures.stands_for c.args.id)
    ∙ ap (λ value. records_of c.self.inside.held.entries ++ new_goal c.args.id value c.args.moment c.args.how ∷ []) (to_z-of_z fits)
    ∙ ap (λ goals. goals ++ new_goal c.args.id c.args.value c.args.moment c.args.how ∷ []) c.self.view_is

pub count_move-requires-clause-fits : goal.count_move-requires-clause-fits
count_move-requires-clause-fits c = tallied-fits c.self.inside.tally (records_of c.self.inside.held.entries) c.self.invariant

pub invariant_of-self-2 : goal.invariant_of-self-2
invariant_of-self-2 c =
    let goals : List GoalRecord = records_of c.self.inside.held.entries in
    let none : holds_id c.args.id goals ≡ false = ap (holds_id c.args.id) c.self.view_is ∙ sym c.holds.ensures ∙ c.if-holds.false in
    let room : length goals < GOALS = omega (arith, leb-false GOALS (length c.args.self.now) (sym c.is_full.ensures ∙ c.if-is_full.false), ap length c.self.view_is) in
    let told : c.push_reserved.new.self.items ≡ c.self.inside.tally.infos.items ++ info_of (record_of (c.args.id, c.new-goal.result)) ∷ [] =
    c.push_reserved.ensures.items ∙ (λ i. c.in_ok-reserve.ensures.items i ++ c.info-info.ensures i ∷ []) in
    let counted = c.count_move.ensures.counts in
    subst (λ (goals : List GoalRecord). IsTallied c.count_move.new.self goals)
    (sym (ap records_of c.in_ok-insert.ensures.entries ∙ inserted-new _ (λ a b. ids_decide a b) c.args.id _ c.self.inside.held.entries none))
    (tallied-accepted c.self.inside.tally c.count_move.new.self goals _ c.len-place.result (c.len-place.ensures.count ∙ sym (ap length c.self.view_is)) room c.count_move.ensures.ended
    (subst (λ (ended : ℕ). CountsMove state.Accepted c.new-goal.result.state ended c.self.inside.tally c.count_move.new.self) (sym (ap (λ goal. goal.ended) (c.new-goal.ensures.stands_for c.args.id)))
    (record { working = counted.working; first = counted.first; waiting = counted.waiting }))
    (subst (λ (infos : List GoalInfo). TellsState c.len-place.result c.new-goal.result.state infos c.count_move.new.self.infos.items) told c.count_move.ensures.tells)
    c.self.invariant)
