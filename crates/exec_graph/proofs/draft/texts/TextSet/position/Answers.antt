use Rattle.std.proofs.Common.{◌≡◌, ◌∙◌, ◌<◌, List, ℕ, Option, None, Some, IfSome, ap, sym, subst, length, zero-add, bytes_eq}
use Rattle.std.specs.List.{position_from}
use Rattle.exec_graph.proofs.TextPlaces.{found_within}
use Rattle.exec_graph.proofs.draft.texts.TextSet.position.Goals as goal

pub returns-clause-place : goal.returns-clause-place
returns-clause-place c =
    c.copied.ensures ∙ c.get.ensures.value ∙ c.self.invariant c.args.text.now
    ∙ ap (position_from (λ other. bytes_eq other c.args.text.now) 0) c.self.view_is

within : (texts : List (List ℕ)) (name : List ℕ) (found : Option ℕ) → found ≡ position_from (λ other. bytes_eq other name) 0 texts → IfSome found (λ place. place < length texts)
within texts name None is = tt
within texts name (Some place) is = subst (λ (bound : ℕ). place < bound) (zero-add (length texts)) (found_within (λ other. bytes_eq other name) 0 texts place (sym is))

pub returns-clause-within : goal.returns-clause-within
returns-clause-within c =
    within c.args.self.now c.args.text.now c.copied.result
    (c.copied.ensures ∙ c.get.ensures.value ∙ c.self.invariant c.args.text.now
    ∙ ap (position_from (λ other. bytes_eq other c.args.text.now) 0) c.self.view_is)
