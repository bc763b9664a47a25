-- The transitions of a goal are those that `after` gives.
use Rattle.std.proofs.Common.{◌≡◌, Some, refl, subst}
use Rattle.exec_goal.specs.State.{Transition, execute, cancel_accepted, cancel_executing, succeed, abort, succeed_canceling, abort_canceling, canceled, after}
use Rattle.exec_goal.specs.declared.state.State.{State}
use Rattle.exec_goal.specs.declared.state.State.TheVariants as state
use Rattle.exec_msg.specs.declared.goal.Event.{Event}
use Rattle.exec_msg.specs.declared.goal.Event.TheVariants as event

-- a transition to one state is one to any that is the same
transition_at : {before : State} {by : Event} {next other : State} → Transition before by next → Some next ≡ Some other → Transition before by other
transition_at {before} {by} {next} {other} there is =
    let same : next ≡ other = cc in
    subst (λ reached. Transition before by reached) same there

pub transition_from : (before : State) (by : Event) (next : State) → after before by ≡ Some next → Transition before by next
transition_from state.Accepted event.Execute next is = transition_at execute is
transition_from state.Accepted event.CancelGoal next is = transition_at cancel_accepted is
transition_from state.Executing event.CancelGoal next is = transition_at cancel_executing is
transition_from state.Executing event.Succeed next is = transition_at succeed is
transition_from state.Executing event.Abort next is = transition_at abort is
transition_from state.Canceling event.Succeed next is = transition_at succeed_canceling is
transition_from state.Canceling event.Abort next is = transition_at abort_canceling is
transition_from state.Canceling event.Canceled next is = transition_at canceled is
transition_from _ _ next is = absurd cc

pub after_by : (before : State) (by : Event) (next : State) → Transition before by next → after before by ≡ Some next
after_by before by next execute = refl
after_by before by next cancel_accepted = refl
after_by before by next cancel_executing = refl
after_by before by next succeed = refl
after_by before by next abort = refl
after_by before by next succeed_canceling = refl
after_by before by next abort_canceling = refl
after_by before by next canceled = refl
