-- An ending that a poll asks for is always allowed.
use Rattle.std.proofs.Common.{◌≡◌, ◌≢◌, ◌⊎◌, inl, inr, ℕ, ℤ, Bool, true, false, not, ◌&&◌, ◌||◌, List, [], ◌∷◌, ◌++◌, Option, None, Some, is_some, IfSome, refl, sym, ap, subst, ◌∙◌, true≢false}
use Rattle.std.specs.List.{AllByRecursion}
use Rattle.std.proofs.lemmas.Bool.{and_parts}
use Rattle.exec_goal.specs.Calls.{state_in, end_state, moved_to, where_terminal}
use Rattle.exec_goal.specs.Table.{GoalRecord}
use Rattle.exec_goal.specs.declared.state.State.{State}
use Rattle.exec_goal.specs.declared.state.State.TheVariants as state
use Rattle.exec_plan.specs.Plan.{PlanData}
use Rattle.exec_msg.specs.declared.goal.Event.{Event}
use Rattle.exec_msg.specs.declared.goal.Event.TheVariants as event
use Rattle.exec_script.proofs.Lasting.{resumed_ending}
use Rattle.exec_script.specs.LawWords.{IsEnding, ended_by}
use Rattle.exec_script.specs.declared.effects.Close.TheVariants as close
use Rattle.exec_script.specs.declared.effects.Effect.{Effect}
use Rattle.exec_script.specs.declared.step.Stop.{Stop}
use Rattle.exec_script.specs.declared.step.Stop.TheVariants as stop
use Rattle.exec_task.specs.Task.{TaskState, has_ended, is_reached, is_awake, ending_event, after_stop, resumption_of, task_answer, poll_input}
use Rattle.exec_task.specs.declared.wait.Ending.{Ending}
use Rattle.exec_task.specs.declared.wait.Turn.{Turn}
use Rattle.exec_laws.proofs.AtWork.{IsIn, is_in, PollsAnother, StaysAtWork, all_others_run, stays_unclosed}
use Rattle.exec_rules.proofs.Identifiers.{HasDistinct, distinct_kept, first_distinct}
use Rattle.exec_rules.proofs.Pairs.{Pairs, all_weaker}
use Rattle.exec_laws.proofs.PollsApart.{PollApart, PollsAtWork, list_polls_apart, list_at_work}
use Rattle.exec_rules.proofs.ReadyLists.{snapshot_wired}
use Rattle.exec_rules.proofs.Running.{snapshot_keeps, rounds_keep}
use Rattle.exec_rules.specs.Callback.{act, close_of_answer, poll, poll_where}
use Rattle.exec_rules.specs.Give.{give}
use Rattle.exec_msg.specs.Numbers.{GoalId, Moment}
use Rattle.exec_laws.specs.Goals.{IsTurn, may_be_polled}
use Rattle.exec_rules.specs.Run.{unclosed}
use Rattle.exec_rules.specs.Ready.{take_inputs, turn_at, run_line}
use Rattle.exec_rules.specs.Run.{work_for, variables_for, outcome_in}
use Rattle.exec_rules.specs.Transcript.{at_snapshot, first_world, rounds}
use Rattle.exec_script.specs.Script.{Variables}
use Rattle.exec_rules.specs.World.{WorldState, GoalWork, add_line, goals_at}
use Rattle.exec_rules.specs.declared.ready.Cause.{Cause}
use Rattle.exec_rules.specs.declared.ready.Cause.TheVariants as cause
use Rattle.exec_rules.specs.declared.ready.Ready.{Ready}

-- ---- what a poll ends by

-- an event that ends a goal which is polled so
abbrev EndsSo : Bool → Event → Type 0
EndsSo canceling by = (by ≡ event.Succeed) ⊎ ((by ≡ event.Abort) ⊎ ((by ≡ event.Canceled) × (canceling ≡ true)))

told_so : (canceling : Bool) (by : Event) → IsEnding by → EndsSo canceling (ending_event canceling by)
told_so canceling event.Execute (inl e) = absurd cc
told_so canceling event.Execute (inr (inl e)) = absurd cc
told_so canceling event.Execute (inr (inr e)) = absurd cc
told_so canceling event.CancelGoal (inl e) = absurd cc
told_so canceling event.CancelGoal (inr (inl e)) = absurd cc
told_so canceling event.CancelGoal (inr (inr e)) = absurd cc
told_so canceling event.Succeed e = inl refl
told_so canceling event.Abort e = inr (inl refl)
told_so true event.Canceled e = inr (inr (refl, refl))
told_so false event.Canceled e = inr (inl refl)

unended : (ending : Option Ending) → not (is_some ending) ≡ true → ending ≡ None
unended None e = refl
unended (Some ending) e = absurd (true≢false (sym e))

module _ (turn : Turn) (by : Event) (value : ℤ) where
  -- a task that hadn't ended ends as its script stops
  stopped : (stops : Stop) (task : TaskState) → task.ending ≡ None → IfSome (ended_by stops) IsEnding → close_of_answer (task_answer (after_stop turn stops task)) ≡ close.Ended by value → EndsSo turn.canceling by
  stopped (stop.Wait ticks place) task none well e = let pends : close.Pending ≡ close.Ended by value = rw none at e in absurd cc
  stopped (stop.Yield place) task none well e = let pends : close.Pending ≡ close.Ended by value = rw none at e in absurd cc
  stopped (stop.Ended asked result) task none well e =
      let same : ending_event turn.canceling asked ≡ by = cc in
      subst (λ (one : Event). EndsSo turn.canceling one) same (told_so turn.canceling asked well)
  stopped stop.End task none well e = let pends : close.Pending ≡ close.Ended by value = rw none at e in absurd cc

  -- so does a poll that ends its goal
  poll_ends : {S : Type 0} (put : Effect → S → S) (work : Option GoalWork) (variables : Variables) (given : S) → (poll put turn work variables given).close ≡ close.Ended by value → EndsSo turn.canceling by
  poll_ends put None variables given e = absurd cc
  poll_ends {S} put (Some work) variables given e = where_awake (is_awake work.task turn) refl e
    where
      where_awake : (b : Bool) → is_awake work.task turn ≡ b → (poll_where b put turn work variables given).close ≡ close.Ended by value → EndsSo turn.canceling by
      where_awake false asleep ends = absurd cc
      where_awake true awake ends =
          let none : work.task.ending ≡ None = unended work.task.ending (and_parts (not (has_ended work.task)) (is_reached work.task.waits turn.moment || (turn.canceling && not work.task.knows_canceling)) awake).0 in
          let ran = resumption_of put work.script work.value turn work.task variables given in
          let closes : close_of_answer (task_answer (after_stop turn ran.stop (record work.task { registers = ran.registers; knows_canceling = work.task.knows_canceling || turn.canceling }))) ≡ close.Ended by value = rw awake at ends in
          stopped ran.stop (record work.task { registers = ran.registers; knows_canceling = work.task.knows_canceling || turn.canceling }) none (resumed_ending put work.script work.task.place work.task.registers variables None (poll_input work.value turn) given) closes

-- such an event leads to a terminal state from one that may be polled so
leads_on : (canceling : Bool) (by : Event) (at : State) → EndsSo canceling by → may_be_polled canceling (Some at) ≡ true → is_some (where_terminal (moved_to by (Some at))) ≡ true
leads_on canceling by at (inl e) may = rw e (from canceling at may)
  where
    from : (b : Bool) (one : State) → may_be_polled b (Some one) ≡ true → is_some (where_terminal (moved_to event.Succeed (Some one))) ≡ true
    from true state.Accepted m = absurd cc
    from true state.Executing m = refl
    from true state.Canceling m = refl
    from true state.Succeeded m = absurd cc
    from true state.Canceled m = absurd cc
    from true state.Aborted m = absurd cc
    from false state.Accepted m = absurd cc
    from false state.Executing m = refl
    from false state.Canceling m = refl
    from false state.Succeeded m = absurd cc
    from false state.Canceled m = absurd cc
    from false state.Aborted m = absurd cc
leads_on canceling by at (inr (inl e)) may = rw e (from canceling at may)
  where
    from : (b : Bool) (one : State) → may_be_polled b (Some one) ≡ true → is_some (where_terminal (moved_to event.Abort (Some one))) ≡ true
    from true state.Accepted m = absurd cc
    from true state.Executing m = refl
    from true state.Canceling m = refl
    from true state.Succeeded m = absurd cc
    from true state.Canceled m = absurd cc
    from true state.Aborted m = absurd cc
    from false state.Accepted m = absurd cc
    from false state.Executing m = refl
    from false state.Canceling m = refl
    from false state.Succeeded m = absurd cc
    from false state.Canceled m = absurd cc
    from false state.Aborted m = absurd cc
leads_on canceling by at (inr (inr e)) may = rw e.0 (from at (subst (λ (b : Bool). may_be_polled b (Some at) ≡ true) e.1 may))
  where
    from : (one : State) → may_be_polled true (Some one) ≡ true → is_some (where_terminal (moved_to event.Canceled (Some one))) ≡ true
    from state.Accepted m = absurd cc
    from state.Executing m = absurd cc
    from state.Canceling m = refl
    from state.Succeeded m = absurd cc
    from state.Canceled m = absurd cc
    from state.Aborted m = absurd cc

-- ---- a turn

-- those before an element of a list in which each two are apart are apart from it
before_it : (before behind : List Ready) (one : Ready) → Pairs PollApart (before ++ one ∷ behind) → AllByRecursion (λ other. PollApart other one) before
before_it [] behind one p = tt
before_it (first ∷ before) behind one p = (reach before p.0, before_it before behind one p.1)
  where
    reach : (some : List Ready) → AllByRecursion (PollApart first) (some ++ one ∷ behind) → PollApart first one
    reach [] q = q.0
    reach (other ∷ some) q = reach some q.1

all_at : (P : Ready → Type 0) (before behind : List Ready) (one : Ready) → AllByRecursion P (before ++ one ∷ behind) → P one
all_at P [] behind one p = p.0
all_at P (first ∷ before) behind one p = all_at P before behind one p.1

module _ (plan : PlanData) (number : ℕ) (moments : List Moment) (next : ℕ) (moment : Moment) (one : Ready) (here : WorldState) (turn : IsTurn plan next moment (rounds plan number moments (first_world plan)) one here) (id : GoalId) (value : ℤ) (canceling : Bool) (polls : one.cause ≡ cause.Woke id value canceling) where
  snapshot_distinct : HasDistinct (at_snapshot plan next moment (rounds plan number moments (first_world plan)))
  snapshot_distinct = snapshot_keeps distinct_kept plan next moment _ (rounds_keep distinct_kept plan number moments (first_world plan) (first_distinct plan))

  at_turn : StaysAtWork one.entity id canceling here
  at_turn =
      let before : WorldState = at_snapshot plan next moment (rounds plan number moments (first_world plan)) in
      let wires = snapshot_wired plan number moments next moment in
      subst (λ (world : WorldState). StaysAtWork one.entity id canceling world) (sym turn.came)
      (all_others_run one.entity id canceling turn.before (take_inputs moment before)
      (all_weaker (λ other. PollApart other one) (PollsAnother one.entity id canceling) (λ other apart goal sent asked same at. apart goal sent asked id value canceling same polls at) turn.before
      (before_it turn.before turn.behind one (subst (λ (list : List Ready). Pairs PollApart list) turn.stands (list_polls_apart plan.graph moment before wires snapshot_distinct)))) (
        snapshot_distinct,
        all_at (PollsAtWork plan.graph moment before wires snapshot_distinct) turn.before turn.behind one
            (subst (λ (list : List Ready). AllByRecursion (PollsAtWork plan.graph moment before wires snapshot_distinct) list) turn.stands (list_at_work plan.graph moment before wires snapshot_distinct)) id value canceling polls,
      ))

  -- a goal that is polled may be polled so in its turn
  pub polled_at_work : may_be_polled canceling (state_in id (goals_at one.entity here)) ≡ true
  polled_at_work = at_turn.1

  -- and where its poll is closed
  pub closed_at_work : may_be_polled canceling (state_in id (goals_at one.entity (unclosed one here))) ≡ true
  closed_at_work = (stays_unclosed one.entity id canceling one here at_turn).1

  -- so an ending is allowed
  pub ending_allowed : (by : Event) (result : ℤ) → (outcome_in one here).close ≡ close.Ended by result → end_state id by (goals_at one.entity (unclosed one here)) ≢ None
  ending_allowed by result ends none =
      let goals : List GoalRecord = goals_at one.entity (unclosed one here) in
      let held : IsIn canceling (state_in id goals) = is_in canceling (state_in id goals) closed_at_work in
      let so : (act (cause.Woke id value canceling) (give one) one (work_for one.entity one.cause here) (variables_for one here) (add_line (run_line one) here)).close ≡ close.Ended by result =
      subst (λ (why : Cause). (act why (give one) one (work_for one.entity one.cause here) (variables_for one here) (add_line (run_line one) here)).close ≡ close.Ended by result) polls ends in
      let leads : is_some (where_terminal (moved_to by (state_in id goals))) ≡ true =
      ap (λ (o : Option State). is_some (where_terminal (moved_to by o))) held.is
      ∙ leads_on canceling by held.at (poll_ends (turn_at one.moment canceling) by result (give one) (work_for one.entity one.cause here) (variables_for one here) (add_line (run_line one) here) so) held.may in
      true≢false (sym leads ∙ ap (λ (o : Option State). is_some o) none)
