use Rattle.std.proofs.Common.{◌∙◌, refl, sym, ap, subst, List, Some, not, remove, filter, slice_get}
use Rattle.std.specs.Option.{option_map}
use Rattle.std.proofs.lemmas.Option.{slice_get-map}
use Rattle.indexmap.proofs.SetLemmas.{map-remove}
use Rattle.exec_goal.proofs.Looping.{removed-first, found-first, find-filter, filter-drop_first, others-drop_first, drop_first-none}
use Rattle.exec_goal.proofs.Tallying.{tallied-removed}
use Rattle.exec_goal.specs.inner.Places.{IsFirst}
use Rattle.exec_goal.specs.inner.Held.{record_of, records_of}
use Rattle.exec_goal.specs.Table.{GoalRecord, is_expired}
use Rattle.exec_goal.specs.declared.tally.Tally.{Tally}
use Rattle.exec_goal.specs.inner.Tally.{IsTallied}
use Rattle.exec_goal.proofs.goals.Goals.expire.Goals as goal

pub returns-in_err-index-clause-table : goal.returns-in_err-index-clause-table
returns-in_err-index-clause-table c = c.next_expired.ensures.same ∙ sym (drop_first-none (is_expired c.args.moment (Some c.args.timeout)) c.args.self.now c.in_err-index.ensures.none)

pub returns-clause-first : goal.returns-clause-first
returns-clause-first c =
    let test = is_expired c.args.moment (Some c.args.timeout) in
    let id = λ (goal : GoalRecord). goal.id in
    ap (option_map id) (ap (option_map record_of) (sym c.unwrap-id.ensures ∙ c.shift_remove_index.ensures.entry)
    ∙ sym (slice_get-map record_of c.self.inside.held.entries c.in_ok-index.index)
    ∙ ap (λ (goals : List GoalRecord). slice_get goals c.in_ok-index.index) (c.self.view_is ∙ c.next_expired.ensures.same)
    ∙ found-first test c.args.self.now c.in_ok-index.index c.in_ok-index.ensures.found)

pub returns-clause-table : goal.returns-clause-table
returns-clause-table c =
    let test = is_expired c.args.moment (Some c.args.timeout) in
    ap records_of c.shift_remove_index.ensures.entries ∙ map-remove record_of c.self.inside.held.entries c.in_ok-index.index
    ∙ ap (λ (goals : List GoalRecord). remove goals c.in_ok-index.index) (c.self.view_is ∙ c.next_expired.ensures.same)
    ∙ removed-first test c.args.self.now c.in_ok-index.index c.in_ok-index.ensures.found

pub returns-clause-left : goal.returns-clause-left
returns-clause-left c =
    let test = is_expired c.args.moment (Some c.args.timeout) in
    ap (filter test) (ap records_of c.shift_remove_index.ensures.entries ∙ map-remove record_of c.self.inside.held.entries c.in_ok-index.index
    ∙ ap (λ (goals : List GoalRecord). remove goals c.in_ok-index.index) (c.self.view_is ∙ c.next_expired.ensures.same)
    ∙ removed-first test c.args.self.now c.in_ok-index.index c.in_ok-index.ensures.found)
    ∙ filter-drop_first test c.args.self.now

pub returns-clause-kept : goal.returns-clause-kept
returns-clause-kept c =
    let test = is_expired c.args.moment (Some c.args.timeout) in
    ap (filter (λ goal. not (test goal))) (ap records_of c.shift_remove_index.ensures.entries ∙ map-remove record_of c.self.inside.held.entries c.in_ok-index.index
    ∙ ap (λ (goals : List GoalRecord). remove goals c.in_ok-index.index) (c.self.view_is ∙ c.next_expired.ensures.same)
    ∙ removed-first test c.args.self.now c.in_ok-index.index c.in_ok-index.ensures.found)
    ∙ others-drop_first test c.args.self.now

pub invariant_of-self : goal.invariant_of-self
invariant_of-self c =
    let goals : List GoalRecord = records_of c.self.inside.held.entries in
    let found : IsFirst (is_expired c.args.moment (Some c.args.timeout)) goals c.in_ok-index.index =
    subst (λ (goals : List GoalRecord). IsFirst (is_expired c.args.moment (Some c.args.timeout)) goals c.in_ok-index.index) (sym (c.self.view_is ∙ c.next_expired.ensures.same)) c.in_ok-index.ensures.found in
    let after : Tally = record c.self.inside.tally { waiting_from = 0; infos = c.remove-told.new.self } in
    subst (λ (goals : List GoalRecord). IsTallied after goals) (sym (ap records_of c.shift_remove_index.ensures.entries ∙ map-remove record_of c.self.inside.held.entries c.in_ok-index.index))
    (tallied-removed c.args.moment c.args.timeout c.self.inside.tally after goals c.in_ok-index.index found refl refl refl refl c.remove-told.ensures.items c.self.invariant)

pub returns-in_err-index-clause-found : goal.returns-in_err-index-clause-found
returns-in_err-index-clause-found c =
    let test = is_expired c.args.moment (Some c.args.timeout) in
    c.from_residual.ensures ∙ ap (option_map (λ (goal : GoalRecord). goal.id)) (sym (find-filter test c.args.self.now ∙ ap (λ (goals : List GoalRecord). slice_get goals 0) c.in_err-index.ensures.none))

pub returns-clause-found : goal.returns-clause-found
returns-clause-found c =
    let test = is_expired c.args.moment (Some c.args.timeout) in
    returns-clause-first c ∙ ap (option_map (λ (goal : GoalRecord). goal.id)) (sym (find-filter test c.args.self.now))
