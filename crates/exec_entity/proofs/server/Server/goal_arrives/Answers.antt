use Rattle.std.proofs.Common.{◌≡◌, List, Some, slice_get, ap, sym, ◌∙◌, refl, rules, arith}
use Rattle.std.specs.Map.{values_of}
use Rattle.std.proofs.lemmas.List.{length-map}
use Rattle.indexmap.specs.IndexMap.{set_value_at}
use Rattle.exec_msg.specs.Lists.{change_first}
use Rattle.exec_entity.proofs.Changed.{unchanged-none}
use Rattle.exec_entity.proofs.Joined.{change-now, place-now}
use Rattle.exec_entity.proofs.Placed.{kept-at, changed-at}
use Rattle.exec_entity.proofs.Serving.{kept-same, changed-ids, kept_ids}
use Rattle.exec_rules.specs.World.{HeldGoal, ServerEntry, arrived, is_for}
use Rattle.exec_entity.specs.inner.Server.{Kept, all_kept, is_kept_for, kept_of}
use Rattle.exec_entity.specs.inner.Waking.{wakes_of}
use Rattle.exec_task.specs.Waking.{wake_of}
use Rattle.exec_entity.specs.declared.server.KeptWithGoal.{KeptWithGoal}
use Rattle.exec_entity.proofs.server.Server.goal_arrives.Goals as goal

pub returns-in_default : goal.returns-in_default
returns-in_default c =
    sym (ap (λ (held : List HeldGoal). record c.args.self.now { held = held }) (unchanged-none (is_for c.args.id) (arrived c.args.number) c.args.self.now.held c.in_default.ensures.none))

pub unwrap-held-requires : goal.unwrap-held-requires
unwrap-held-requires c = c.get_index_mut.ensures.found.1 (omega (arith, place-now c.self.invariant.0 c.self.view_is c.in-Some.place c.args.id c.in-Some.ensures.at, length-map c.self.inside.held.entries kept_of))

pub invariant_of-self : goal.invariant_of-self
invariant_of-self c =
    let entries = c.self.inside.held.entries in
    let one = c.unwrap-held.result.now in
    let kept : Some one ≡ slice_get (values_of entries) c.in-Some.place = search rules in
    let at = kept-at c.args.id one c.self.inside.goals entries c.args.self.now.held c.in-Some.place (ap (λ (server : ServerEntry). server.held) c.self.view_is) c.self.invariant.0 c.in-Some.ensures.at kept in
    let by : Kept → Kept = λ one. record one { arrival = c.args.number } in
    let changes : kept_of (c.args.id, c.note_arrival.new.held) ≡ by (kept_of (c.args.id, one)) = ap (λ (held : KeptWithGoal). kept_of (c.args.id, held)) c.note_arrival.ensures in
    let moved : all_kept (set_value_at entries c.in-Some.place c.note_arrival.new.held) ≡ change_first (is_kept_for c.args.id) by (all_kept entries) = changed-at at c.note_arrival.new.held by changes in (
      kept-same c.self.inside.goals c.self.inside.goals (all_kept entries) (all_kept (set_value_at entries c.in-Some.place c.note_arrival.new.held)) refl
          (ap kept_ids moved ∙ changed-ids (λ (one : Kept). one.id) (is_kept_for c.args.id) by (λ one. refl) (all_kept entries)) c.self.invariant.0,
      c.self.invariant.1
          ∙ sym (ap wakes_of moved ∙ changed-ids (λ (one : Kept). wake_of one.work.task) (is_kept_for c.args.id) by (λ one. refl) (all_kept entries)),
    )

pub returns : goal.returns
returns c =
    let entries = c.self.inside.held.entries in
    let one = c.unwrap-held.result.now in
    let kept : Some one ≡ slice_get (values_of entries) c.in-Some.place = search rules in
    let at = kept-at c.args.id one c.self.inside.goals entries c.args.self.now.held c.in-Some.place (ap (λ (server : ServerEntry). server.held) c.self.view_is) c.self.invariant.0 c.in-Some.ensures.at kept in
    let by : Kept → Kept = λ one. record one { arrival = c.args.number } in
    let changes : kept_of (c.args.id, c.note_arrival.new.held) ≡ by (kept_of (c.args.id, one)) = ap (λ (held : KeptWithGoal). kept_of (c.args.id, held)) c.note_arrival.ensures in
    let moved : all_kept (set_value_at entries c.in-Some.place c.note_arrival.new.held) ≡ change_first (is_kept_for c.args.id) by (all_kept entries) = changed-at at c.note_arrival.new.held by changes in
    change-now c.self.invariant.0 c.self.view_is c.args.id by (arrived c.args.number) (λ goal one. refl) (all_kept (set_value_at entries c.in-Some.place c.note_arrival.new.held)) moved
