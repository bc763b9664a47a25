use Rattle.std.proofs.Common.{◌≡◌, ℕ, ◌≤◌, List, ◌==◌, ap, subst, sym, ◌∙◌, rules}
use Rattle.std.specs.List.{All}
use Rattle.std.specs.Map.{keys_of}
use Rattle.std.specs.Option.{is_some}
use Rattle.exec_msg.specs.Lists.{drop_first}
use Rattle.exec_entity.proofs.Pending.{IsNew, keys_less, below_less, new_less, found_new, pended}
use Rattle.exec_entity.specs.Calls.{has_pending}
use Rattle.exec_rules.specs.World.{ClientEntry}
use Rattle.exec_task.specs.Call.{new_call}
use Rattle.exec_entity.proofs.client.Client.complete.Goals as goal

pub invariant_of-self : goal.invariant_of-self
invariant_of-self c = (
  subst (λ (keys : List ℕ). All (λ number. number ≤ c.self.inside.calls) keys)
      (sym (ap (λ es. keys_of es) c.shift_remove.ensures.entries ∙ keys_less c.args.number c.self.inside.pending.entries))
      (below_less c.self.inside.calls c.args.number (keys_of c.self.inside.pending.entries) c.self.invariant.0),
  subst (All IsNew) (sym c.shift_remove.ensures.entries) (new_less c.args.number c.self.inside.pending.entries c.self.invariant.1),
  c.self.invariant.2,
)

pub invariant_of-self-2 : goal.invariant_of-self-2
invariant_of-self-2 c = (
  subst (λ (keys : List ℕ). All (λ number. number ≤ c.self.inside.calls) keys)
      (sym (ap (λ es. keys_of es) c.shift_remove.ensures.entries ∙ keys_less c.args.number c.self.inside.pending.entries))
      (below_less c.self.inside.calls c.args.number (keys_of c.self.inside.pending.entries) c.self.invariant.0),
  subst (All IsNew) (sym c.shift_remove.ensures.entries) (new_less c.args.number c.self.inside.pending.entries c.self.invariant.1),
  c.self.invariant.2,
)

pub returns-in_err-call-clause-answered : goal.returns-in_err-call-clause-answered
returns-in_err-call-clause-answered c =
    ap (λ (keys : List ℕ). record { entity = c.self.inside.entity; service = c.self.inside.service; calls = c.self.inside.calls; pending = keys })
    (ap (λ es. keys_of es) c.shift_remove.ensures.entries ∙ keys_less c.args.number c.self.inside.pending.entries)
    ∙ ap (λ (entry : ClientEntry). record entry { pending = drop_first (λ call. call == c.args.number) entry.pending }) c.self.view_is

pub returns-clause-answered : goal.returns-clause-answered
returns-clause-answered c =
    ap (λ (keys : List ℕ). record { entity = c.self.inside.entity; service = c.self.inside.service; calls = c.self.inside.calls; pending = keys })
    (ap (λ es. keys_of es) c.shift_remove.ensures.entries ∙ keys_less c.args.number c.self.inside.pending.entries)
    ∙ ap (λ (entry : ClientEntry). record entry { pending = drop_first (λ call. call == c.args.number) entry.pending }) c.self.view_is

pub returns-in_err-call-clause-pended : goal.returns-in_err-call-clause-pended
returns-in_err-call-clause-pended c =
    ap is_some (c.from_residual.ensures ∙ sym c.in_err-call.was) ∙ pended c.args.number c.self.inside.pending.entries c.shift_remove.result c.shift_remove.ensures.value ∙ ap (has_pending c.args.number) c.self.view_is

pub returns-clause-pended : goal.returns-clause-pended
returns-clause-pended c =
    ap is_some (sym c.in_ok-call.was) ∙ pended c.args.number c.self.inside.pending.entries c.shift_remove.result c.shift_remove.ensures.value ∙ ap (has_pending c.args.number) c.self.view_is

pub returns-clause-call : goal.returns-clause-call
returns-clause-call c =
    let found : c.in_ok-call.call.call ≡ new_call c.args.number = found_new c.args.number c.self.inside.pending.entries c.in_ok-call.call c.self.invariant.1 (sym c.shift_remove.ensures.value ∙ c.in_ok-call.was) in
    search rules
