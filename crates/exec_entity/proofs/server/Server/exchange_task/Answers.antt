use Rattle.std.proofs.Common.{◌≡◌, ℕ, List, Option, Some, slice_get, slice_set, ap, sym, subst, ◌∙◌, refl, rules, arith}
use Rattle.std.specs.Map.{values_of}
use Rattle.std.specs.Option.{option_map}
use Rattle.std.proofs.lemmas.List.{length-map}
use Rattle.indexmap.specs.IndexMap.{set_value_at}
use Rattle.exec_msg.specs.Lists.{change_first}
use Rattle.exec_entity.proofs.Awake.{taken_there}
use Rattle.exec_entity.proofs.Changed.{unchanged-none}
use Rattle.exec_entity.proofs.Joined.{change-now, place-now}
use Rattle.exec_entity.proofs.Placed.{kept-at, changed-at, work-placed}
use Rattle.exec_entity.proofs.Serving.{kept-same, changed-ids, kept_ids}
use Rattle.exec_entity.proofs.Wakes.{wake-set}
use Rattle.exec_rules.specs.World.{GoalWork, HeldGoal, ServerEntry, doing, is_for}
use Rattle.exec_entity.specs.inner.Server.{Kept, all_kept, is_kept_for, kept_of, work_there}
use Rattle.exec_entity.specs.inner.Polling.{IsTaken}
use Rattle.exec_task.specs.Goal.{GoalTaskState}
use Rattle.exec_task.specs.Waking.{wake_of}
use Rattle.exec_entity.specs.declared.server.KeptWithGoal.{KeptWithGoal}
use Rattle.exec_entity.proofs.server.Server.exchange_task.Goals as goal

pub returns-in_err-place-clause-taken : goal.returns-in_err-place-clause-taken
returns-in_err-place-clause-taken c =
    subst (λ (found : Option HeldGoal). IsTaken (option_map (λ held. held.work) found) c.from_residual.result) (sym c.in_err-place.ensures.none) c.from_residual.ensures

pub returns-in_err-place-clause-put : goal.returns-in_err-place-clause-put
returns-in_err-place-clause-put c =
    sym (ap (λ (held : List HeldGoal). record c.args.self.now { held = held }) (unchanged-none (is_for c.args.id) (doing (work_there c.args.task)) c.args.self.now.held c.in_err-place.ensures.none))

pub unwrap-held-requires : goal.unwrap-held-requires
unwrap-held-requires c = c.get_index_mut.ensures.found.1 (omega (arith, place-now c.self.invariant.0 c.self.view_is c.in_ok-place.place c.args.id c.in_ok-place.ensures.at, length-map c.self.inside.held.entries kept_of))

pub invariant_of-self : goal.invariant_of-self
invariant_of-self c =
    let entries = c.self.inside.held.entries in
    let one = c.unwrap-held.result.now in
    let kept : Some one ≡ slice_get (values_of entries) c.in_ok-place.place = search rules in
    let at = kept-at c.args.id one c.self.inside.goals entries c.args.self.now.held c.in_ok-place.place (ap (λ (server : ServerEntry). server.held) c.self.view_is) c.self.invariant.0 c.in_ok-place.ensures.at kept in
    let work : GoalWork = work_there c.args.task in
    let by : Kept → Kept = λ one. record one { work = work } in
    let changes : kept_of (c.args.id, c.replace_task.new.held) ≡ by (kept_of (c.args.id, one)) = ap (λ (held : KeptWithGoal). kept_of (c.args.id, held)) c.replace_task.ensures.put in
    let moved : all_kept (set_value_at entries c.in_ok-place.place c.replace_task.new.held) ≡ change_first (is_kept_for c.args.id) by (all_kept entries) = changed-at at c.replace_task.new.held by changes in
    let wake : wake_of (kept_of (0, c.replace_task.new.held)).work.task ≡ wake_of work.task = ap (λ (held : KeptWithGoal). wake_of (kept_of (0, held)).work.task) c.replace_task.ensures.put in (
      kept-same c.self.inside.goals c.self.inside.goals (all_kept entries) (all_kept (set_value_at entries c.in_ok-place.place c.replace_task.new.held)) refl
          (ap kept_ids moved ∙ changed-ids (λ (one : Kept). one.id) (is_kept_for c.args.id) by (λ one. refl) (all_kept entries)) c.self.invariant.0,
      ap (λ (wake : ℕ). slice_set c.self.inside.wakes.items c.in_ok-place.place wake) (c.wake_in.ensures ∙ sym wake)
          ∙ ap (λ (wakes : List ℕ). slice_set wakes c.in_ok-place.place (wake_of (kept_of (0, c.replace_task.new.held)).work.task)) c.self.invariant.1
          ∙ sym (wake-set entries c.in_ok-place.place c.replace_task.new.held),
    )

pub returns-clause-taken : goal.returns-clause-taken
returns-clause-taken c =
    let entries = c.self.inside.held.entries in
    let one = c.unwrap-held.result.now in
    let kept : Some one ≡ slice_get (values_of entries) c.in_ok-place.place = search rules in
    let at = kept-at c.args.id one c.self.inside.goals entries c.args.self.now.held c.in_ok-place.place (ap (λ (server : ServerEntry). server.held) c.self.view_is) c.self.invariant.0 c.in_ok-place.ensures.at kept in
    subst (λ (work : Option GoalWork). IsTaken work c.replace_task.result) (sym (work-placed at c.self.invariant.0 c.self.view_is))
    (subst (λ (task : Option GoalTaskState). IsTaken (Some (work_there task)) c.replace_task.result) c.replace_task.ensures.taken (taken_there c.replace_task.result c.replace_task.ensures.own))

pub returns-clause-put : goal.returns-clause-put
returns-clause-put c =
    let entries = c.self.inside.held.entries in
    let one = c.unwrap-held.result.now in
    let kept : Some one ≡ slice_get (values_of entries) c.in_ok-place.place = search rules in
    let at = kept-at c.args.id one c.self.inside.goals entries c.args.self.now.held c.in_ok-place.place (ap (λ (server : ServerEntry). server.held) c.self.view_is) c.self.invariant.0 c.in_ok-place.ensures.at kept in
    let work : GoalWork = work_there c.args.task in
    let by : Kept → Kept = λ one. record one { work = work } in
    let changes : kept_of (c.args.id, c.replace_task.new.held) ≡ by (kept_of (c.args.id, one)) = ap (λ (held : KeptWithGoal). kept_of (c.args.id, held)) c.replace_task.ensures.put in
    let moved : all_kept (set_value_at entries c.in_ok-place.place c.replace_task.new.held) ≡ change_first (is_kept_for c.args.id) by (all_kept entries) = changed-at at c.replace_task.new.held by changes in
    change-now c.self.invariant.0 c.self.view_is c.args.id by (doing work) (λ goal one. refl) (all_kept (set_value_at entries c.in_ok-place.place c.replace_task.new.held)) moved
