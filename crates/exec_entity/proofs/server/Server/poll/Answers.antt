use Rattle.std.proofs.Common.{◌≡◌, ℕ, List, Option, IsSomeAnd, Some, true, slice_get, slice_set, ap, sym, subst, ◌∙◌, refl, rules, arith}
use Rattle.std.specs.Map.{values_of}
use Rattle.std.proofs.lemmas.List.{length-map}
use Rattle.indexmap.specs.IndexMap.{set_value_at}
use Rattle.exec_goal.proofs.Entries.{on_err}
use Rattle.exec_msg.specs.Lists.{change_first}
use Rattle.exec_task.specs.Task.{TaskState, is_awake}
use Rattle.exec_entity.proofs.Awake.{held_polled, kept_polled, left_there, polled_there, same_there, server-polled, some_there}
use Rattle.exec_entity.proofs.Changed.{unchanged_first}
use Rattle.exec_entity.proofs.Joined.{change-now, place-now}
use Rattle.exec_entity.proofs.Placed.{kept-at, changed-at, work-placed}
use Rattle.exec_entity.proofs.Serving.{kept-same, changed-ids, kept_ids}
use Rattle.exec_entity.proofs.Wakes.{wake-set}
use Rattle.exec_rules.specs.Callback.{AfterCallback, poll_listed}
use Rattle.exec_script.specs.declared.effects.Effect.{Effect}
use Rattle.exec_task.specs.Waking.{wake_of}
use Rattle.exec_rules.specs.World.{GoalWork, ServerEntry}
use Rattle.exec_entity.specs.inner.Keeping.{AreKept}
use Rattle.exec_entity.specs.inner.Polling.{server_polled}
use Rattle.exec_entity.specs.inner.Server.{Kept, all_joined, all_kept, is_kept_for, kept_of, work_there}
use Rattle.exec_entity.specs.inner.Waking.{wakes_of}
use Rattle.exec_entity.specs.declared.server.KeptWithGoal.{KeptWithGoal}
use Rattle.exec_entity.proofs.server.Server.poll.Goals as goal

pub unwrap-held-requires : goal.unwrap-held-requires
unwrap-held-requires c = c.get_index_mut.ensures.found.1 (omega (arith, place-now c.self.invariant.0 c.self.view_is c.in-Some.place c.args.goal.now.id c.in-Some.ensures.at, length-map c.self.inside.held.entries kept_of))

pub invariant_of-self : goal.invariant_of-self
invariant_of-self c =
    let entries = c.self.inside.held.entries in
    let one = c.unwrap-held.result.now in
    let kept : Some one ≡ slice_get (values_of entries) c.in-Some.place = search rules in
    let at = kept-at c.args.goal.now.id one c.self.inside.goals entries c.args.self.now.held c.in-Some.place (ap (λ (server : ServerEntry). server.held) c.self.view_is) c.self.invariant.0 c.in-Some.ensures.at kept in
    let after : KeptWithGoal = record { task = c.poll_any.new.task; client = one.client; arrival = one.arrival } in
    let changes : kept_of (c.args.goal.now.id, after) ≡ kept_of (c.args.goal.now.id, one) = ap (λ (work : GoalWork). record (kept_of (c.args.goal.now.id, one)) { work = work }) (same_there one.task c.poll_any.new.task c.in_err-close.ensures.unchanged) in
    let stays : all_kept (set_value_at entries c.in-Some.place after) ≡ all_kept entries = changed-at at after (λ (one : Kept). one) changes ∙ unchanged_first (is_kept_for c.args.goal.now.id) (all_kept entries) in
    (subst (AreKept c.self.inside.goals) (sym stays) c.self.invariant.0, c.self.invariant.1 ∙ ap wakes_of (sym stays))

pub returns-in_err-close-clause-unchanged : goal.returns-in_err-close-clause-unchanged
returns-in_err-close-clause-unchanged c =
    let entries = c.self.inside.held.entries in
    let one = c.unwrap-held.result.now in
    let kept : Some one ≡ slice_get (values_of entries) c.in-Some.place = search rules in
    let at = kept-at c.args.goal.now.id one c.self.inside.goals entries c.args.self.now.held c.in-Some.place (ap (λ (server : ServerEntry). server.held) c.self.view_is) c.self.invariant.0 c.in-Some.ensures.at kept in
    let after : KeptWithGoal = record { task = c.poll_any.new.task; client = one.client; arrival = one.arrival } in
    let changes : kept_of (c.args.goal.now.id, after) ≡ kept_of (c.args.goal.now.id, one) = ap (λ (work : GoalWork). record (kept_of (c.args.goal.now.id, one)) { work = work }) (same_there one.task c.poll_any.new.task c.in_err-close.ensures.unchanged) in
    let stays : all_kept (set_value_at entries c.in-Some.place after) ≡ all_kept entries = changed-at at after (λ (one : Kept). one) changes ∙ unchanged_first (is_kept_for c.args.goal.now.id) (all_kept entries) in
    on_err c.from_residual.result
    (ap (λ (kept : List Kept). record { handler = c.self.inside.handler; timeout = c.self.inside.timeout; held = all_joined c.self.inside.goals kept }) stays ∙ c.self.view_is)

pub invariant_of-self-2 : goal.invariant_of-self-2
invariant_of-self-2 c =
    let entries = c.self.inside.held.entries in
    let one = c.unwrap-held.result.now in
    let kept : Some one ≡ slice_get (values_of entries) c.in-Some.place = search rules in
    let at = kept-at c.args.goal.now.id one c.self.inside.goals entries c.args.self.now.held c.in-Some.place (ap (λ (server : ServerEntry). server.held) c.self.view_is) c.self.invariant.0 c.in-Some.ensures.at kept in
    let after : KeptWithGoal = record { task = c.poll_any.new.task; client = one.client; arrival = one.arrival } in
    let task : Option TaskState = (poll_listed c.args.goal.now.turn (Some (work_there one.task)) c.args.bank.now).task in
    let changes : kept_of (c.args.goal.now.id, after) ≡ kept_polled task (kept_of (c.args.goal.now.id, one)) = ap (λ (work : GoalWork). record (kept_of (c.args.goal.now.id, one)) { work = work }) (left_there c.args.goal.now.turn one.task c.poll_any.new.task c.args.bank.now c.in_ok-close.ensures.task) in
    let moved : all_kept (set_value_at entries c.in-Some.place after) ≡ change_first (is_kept_for c.args.goal.now.id) (kept_polled task) (all_kept entries) = changed-at at after (kept_polled task) changes in
    let set = ap (λ (wakes : List ℕ). slice_set wakes c.in-Some.place (wake_of (work_there c.poll_any.new.task).task)) c.self.invariant.1 ∙ sym (wake-set entries c.in-Some.place after) in (
      kept-same c.self.inside.goals c.self.inside.goals (all_kept entries) (all_kept (set_value_at entries c.in-Some.place after)) refl
          (ap kept_ids moved ∙ changed-ids (λ (one : Kept). one.id) (is_kept_for c.args.goal.now.id) (kept_polled task) (λ one. refl) (all_kept entries)) c.self.invariant.0,
      ap (λ (wake : ℕ). slice_set c.self.inside.wakes.items c.in-Some.place wake) c.wake_in.ensures ∙ set,
    )

pub returns-clause-effects : goal.returns-clause-effects
returns-clause-effects c =
    let entries = c.self.inside.held.entries in
    let one = c.unwrap-held.result.now in
    let kept : Some one ≡ slice_get (values_of entries) c.in-Some.place = search rules in
    let at = kept-at c.args.goal.now.id one c.self.inside.goals entries c.args.self.now.held c.in-Some.place (ap (λ (server : ServerEntry). server.held) c.self.view_is) c.self.invariant.0 c.in-Some.ensures.at kept in
    let work = work-placed at c.self.invariant.0 c.self.view_is in
    c.in_ok-close.ensures.effects ∙ ap (λ (done : AfterCallback (List Effect)). done.given) (polled_there c.args.goal.now.turn one.task c.args.bank.now) ∙ sym (ap (λ (work : Option GoalWork). (poll_listed c.args.goal.now.turn work c.args.bank.now).given) work)

pub returns-clause-close : goal.returns-clause-close
returns-clause-close c =
    let entries = c.self.inside.held.entries in
    let one = c.unwrap-held.result.now in
    let kept : Some one ≡ slice_get (values_of entries) c.in-Some.place = search rules in
    let at = kept-at c.args.goal.now.id one c.self.inside.goals entries c.args.self.now.held c.in-Some.place (ap (λ (server : ServerEntry). server.held) c.self.view_is) c.self.invariant.0 c.in-Some.ensures.at kept in
    let work = work-placed at c.self.invariant.0 c.self.view_is in
    c.in_ok-close.ensures.close ∙ ap (λ (done : AfterCallback (List Effect)). done.close) (polled_there c.args.goal.now.turn one.task c.args.bank.now) ∙ sym (ap (λ (work : Option GoalWork). (poll_listed c.args.goal.now.turn work c.args.bank.now).close) work)

pub returns-clause-variables : goal.returns-clause-variables
returns-clause-variables c =
    let entries = c.self.inside.held.entries in
    let one = c.unwrap-held.result.now in
    let kept : Some one ≡ slice_get (values_of entries) c.in-Some.place = search rules in
    let at = kept-at c.args.goal.now.id one c.self.inside.goals entries c.args.self.now.held c.in-Some.place (ap (λ (server : ServerEntry). server.held) c.self.view_is) c.self.invariant.0 c.in-Some.ensures.at kept in
    let work = work-placed at c.self.invariant.0 c.self.view_is in
    c.in_ok-close.ensures.variables ∙ ap (λ (done : AfterCallback (List Effect)). done.variables) (polled_there c.args.goal.now.turn one.task c.args.bank.now) ∙ sym (ap (λ (work : Option GoalWork). (poll_listed c.args.goal.now.turn work c.args.bank.now).variables) work)

pub returns-clause-task : goal.returns-clause-task
returns-clause-task c =
    let entries = c.self.inside.held.entries in
    let one = c.unwrap-held.result.now in
    let kept : Some one ≡ slice_get (values_of entries) c.in-Some.place = search rules in
    let at = kept-at c.args.goal.now.id one c.self.inside.goals entries c.args.self.now.held c.in-Some.place (ap (λ (server : ServerEntry). server.held) c.self.view_is) c.self.invariant.0 c.in-Some.ensures.at kept in
    let work = work-placed at c.self.invariant.0 c.self.view_is in
    let after : KeptWithGoal = record { task = c.poll_any.new.task; client = one.client; arrival = one.arrival } in
    let task : Option TaskState = (poll_listed c.args.goal.now.turn (Some (work_there one.task)) c.args.bank.now).task in
    let changes : kept_of (c.args.goal.now.id, after) ≡ kept_polled task (kept_of (c.args.goal.now.id, one)) = ap (λ (work : GoalWork). record (kept_of (c.args.goal.now.id, one)) { work = work }) (left_there c.args.goal.now.turn one.task c.poll_any.new.task c.args.bank.now c.in_ok-close.ensures.task) in
    let moved : all_kept (set_value_at entries c.in-Some.place after) ≡ change_first (is_kept_for c.args.goal.now.id) (kept_polled task) (all_kept entries) = changed-at at after (kept_polled task) changes in
    change-now c.self.invariant.0 c.self.view_is c.args.goal.now.id (kept_polled task) (held_polled task) (λ goal one. refl) (all_kept (set_value_at entries c.in-Some.place after)) moved
    ∙ server-polled c.args.goal.now.id task c.args.self.now
    ∙ sym (ap (λ (work : Option GoalWork). server_polled c.args.goal.now.id (poll_listed c.args.goal.now.turn work c.args.bank.now).task c.args.self.now) work)

pub returns-in_err-close-clause-memory : goal.returns-in_err-close-clause-memory
returns-in_err-close-clause-memory c =
    let entries = c.self.inside.held.entries in
    let one = c.unwrap-held.result.now in
    let kept : Some one ≡ slice_get (values_of entries) c.in-Some.place = search rules in
    let at = kept-at c.args.goal.now.id one c.self.inside.goals entries c.args.self.now.held c.in-Some.place (ap (λ (server : ServerEntry). server.held) c.self.view_is) c.self.invariant.0 c.in-Some.ensures.at kept in
    let work = work-placed at c.self.invariant.0 c.self.view_is in
    on_err c.from_residual.result (subst (λ (one : Option GoalWork). IsSomeAnd one (λ work. is_awake work.task c.args.goal.now.turn ≡ true)) (sym work) (some_there c.args.goal.now.turn one.task c.in_err-close.ensures.memory))
