-- Effects that a callback lists, and that are given later one after another, do what effects do that are given at once.
use Rattle.std.proofs.Common.{◌≡◌, Bool, true, false, ℤ, List, [], ◌∷◌, Option, None, Some, refl, ap, ◌∙◌}
use Rattle.std.specs.List.{fold}
use Rattle.exec_goal.specs.declared.info.GoalInfo.{GoalInfo}
use Rattle.exec_script.specs.Instruction.{Script}
use Rattle.exec_script.proofs.Lasting.{resumed_later}
use Rattle.exec_script.specs.LawWords.{give_each}
use Rattle.exec_script.specs.Script.{ScriptState, listed, Variables}
use Rattle.exec_script.specs.Zeros.{zeros}
use Rattle.exec_script.specs.declared.effects.Effect.{Effect}
use Rattle.exec_script.specs.declared.place.Role.{Role}
use Rattle.exec_script.specs.declared.place.Role.TheVariants as role
use Rattle.exec_task.specs.LawWords.{polled_later}
use Rattle.exec_task.specs.Task.{TaskState, Polled, ran, polled_where, is_awake, poll_input}
use Rattle.exec_task.specs.declared.wait.Turn.{Turn}
use Rattle.exec_rules.specs.Callback.{AfterCallback, CancelHandling, instructions_of, closed_by, call_in, candidate_input, handled, handle_cancel, all_handled, take_item, after_poll, poll, poll_where, act, callback}
use Rattle.exec_rules.specs.Ready.{turn_at, input_of}
use Rattle.exec_rules.specs.World.{GoalWork}
use Rattle.exec_rules.specs.declared.item.Item.{Item}
use Rattle.exec_rules.specs.declared.item.Item.TheVariants as item
use Rattle.exec_rules.specs.declared.ready.Cause.{Cause}
use Rattle.exec_rules.specs.declared.ready.Cause.TheVariants as cause
use Rattle.exec_rules.specs.declared.ready.Ready.{Ready}

module _ {S : Type 0} (put : Effect → S → S) (given : S) where
  -- a callback that listed its effects, once these are given
  abbrev pub outcome_later : AfterCallback (List Effect) → AfterCallback S
  outcome_later outcome = record { variables = outcome.variables; given = give_each put outcome.given given; close = outcome.close; task = outcome.task }

  -- a cancel handler that listed them
  abbrev handling_later : CancelHandling (List Effect) → CancelHandling S
  handling_later handling = record { variables = handling.variables; given = give_each put handling.given given; decisions = handling.decisions }

  in_role_later : (role : Role) (one : Ready) (variables : Variables) → call_in role put one variables given ≡ outcome_later (call_in role listed one variables [])
  in_role_later role one variables =
      ap (λ (state : ScriptState S). closed_by role state) (resumed_later put (instructions_of one.script) 0 zeros variables None (input_of one) [] given)

  handled_later : (one : Ready) (candidates : List GoalInfo) (handling : CancelHandling (List Effect)) → fold (handle_cancel put one) (handling_later handling) candidates ≡ handling_later (fold (handle_cancel listed one) handling candidates)
  handled_later one [] handling = refl
  handled_later one (candidate ∷ candidates) handling =
      ap (λ (state : ScriptState S). fold (handle_cancel put one) (handled candidate handling.decisions state) candidates)
      (resumed_later put (instructions_of one.script) 0 zeros handling.variables None (candidate_input one.moment candidate) handling.given given)
      ∙ handled_later one candidates (handle_cancel listed one handling candidate)

  take_later : (taken : Item) (one : Ready) (variables : Variables) → take_item taken put one variables given ≡ outcome_later (take_item taken listed one variables [])
  take_later (item.Message value) one variables = in_role_later role.Callback one variables
  take_later (item.Request client number value) one variables = in_role_later role.Service one variables
  take_later (item.Reply number value) one variables = in_role_later role.Callback one variables
  take_later (item.Goal id client value) one variables = in_role_later role.GoalHandler one variables
  take_later (item.Cancel request client) one variables =
      ap (λ (handling : CancelHandling S). all_handled handling) (handled_later one one.candidates (record { variables = variables; given = []; decisions = [] }))
  take_later (item.Ask id client) one variables = in_role_later role.Callback one variables
  take_later (item.Response id accepted) one variables = in_role_later role.Callback one variables
  take_later (item.Code returned moved) one variables = in_role_later role.Callback one variables
  take_later (item.Feedback id value) one variables = in_role_later role.Callback one variables
  take_later (item.Result id status value) one variables = in_role_later role.Callback one variables

  polled_once_later : (b : Bool) (script : Script) (value : ℤ) (turn : Turn) (task : TaskState) (variables : Variables) → polled_where b put script value turn task variables given ≡ polled_later put given (polled_where b listed script value turn task variables [])
  polled_once_later true script value turn task variables =
      ap (λ (state : ScriptState S). ran turn task state) (resumed_later put script task.place task.registers variables None (poll_input value turn) [] given)
  polled_once_later false script value turn task variables = refl

  poll_where_later : (b : Bool) (turn : Turn) (work : GoalWork) (variables : Variables) → poll_where b put turn work variables given ≡ outcome_later (poll_where b listed turn work variables [])
  poll_where_later true turn work variables =
      ap (λ (one : Polled S). after_poll one) (polled_once_later (is_awake work.task turn) work.script work.value turn work.task variables)
  poll_where_later false turn work variables = refl

  poll_later : (turn : Turn) (work : Option GoalWork) (variables : Variables) → poll put turn work variables given ≡ outcome_later (poll listed turn work variables [])
  poll_later turn None variables = refl
  poll_later turn (Some work) variables = poll_where_later (is_awake work.task turn) turn work variables

  act_later : (why : Cause) (one : Ready) (work : Option GoalWork) (variables : Variables) → act why put one work variables given ≡ outcome_later (act why listed one work variables [])
  act_later cause.Due one work variables = in_role_later role.Callback one variables
  act_later (cause.Took taken) one work variables = take_later taken one variables
  act_later (cause.Woke id value canceling) one work variables = poll_later (turn_at one.moment canceling) work variables

  pub callback_later : (one : Ready) (work : Option GoalWork) (variables : Variables) → callback put one work variables given ≡ outcome_later (callback listed one work variables [])
  callback_later one work variables = act_later one.cause one work variables
