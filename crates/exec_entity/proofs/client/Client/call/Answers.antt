use Rattle.std.proofs.Common.{◌≡◌, ℕ, ◌+◌, ◌<◌, ◌≤◌, List, [], ◌∷◌, ◌++◌, ap, subst, sym, ◌∙◌, arith, rules}
use Rattle.std.specs.List.{All}
use Rattle.std.specs.Map.{keys_of}
use Rattle.exec_entity.proofs.Pending.{IsNew, keys_more, below_more, new_more}
use Rattle.exec_rules.specs.World.{client_called}
use Rattle.exec_entity.proofs.client.Client.call.Goals as goal

pub invariant_of-self-2 : goal.invariant_of-self-2
invariant_of-self-2 c =
    let calls : ℕ = c.self.inside.calls in
    let next : c.in_ok-number.number ≡ calls + 1 = search rules in
    let above : calls < c.in_ok-number.number = omega (arith, next) in (
      subst (λ (keys : List ℕ). All (λ number. number ≤ c.in_ok-number.number) keys)
          (sym (ap (λ es. keys_of es) c.in_ok-insert.ensures.entries ∙ keys_more calls c.in_ok-number.number _ c.self.inside.pending.entries above c.self.invariant.0))
          (subst (λ (number : ℕ). All (λ other. other ≤ number) (keys_of c.self.inside.pending.entries ++ number ∷ [])) (sym next) (below_more calls (keys_of c.self.inside.pending.entries) c.self.invariant.0)),
      subst (All IsNew) (sym c.in_ok-insert.ensures.entries)
          (new_more calls c.in_ok-number.number _ c.self.inside.pending.entries above c.self.invariant.0 c.new.ensures.call c.self.invariant.1),
      c.in_ok-number.ensures.bound,
    )

pub returns-clause-called : goal.returns-clause-called
returns-clause-called c =
    let calls : ℕ = c.self.inside.calls in
    let next : c.in_ok-number.number ≡ calls + 1 = search rules in
    let above : calls < c.in_ok-number.number = omega (arith, next) in
    ap (λ (keys : List ℕ). record { entity = c.self.inside.entity; service = c.self.inside.service; calls = c.in_ok-number.number; pending = keys })
    (ap (λ es. keys_of es) c.in_ok-insert.ensures.entries ∙ keys_more calls c.in_ok-number.number _ c.self.inside.pending.entries above c.self.invariant.0)
    ∙ (λ i. record { entity = c.self.inside.entity; service = c.self.inside.service; calls = next i; pending = keys_of c.self.inside.pending.entries ++ next i ∷ [] })
    ∙ ap client_called c.self.view_is
