use Rattle.std.proofs.Common.{◌≡◌, ◌∙◌, ap, sym, subst, map, length, List, ℕ, ◌∷◌, [], ◌++◌, Some, bytes_eq, nat_cmp}
use Rattle.std.specs.Borrow.{Bor}
use Rattle.std.specs.BTreeMap.{get_by}
use Rattle.std.specs.Cmp.Lexicographic.{slice_cmp}
use Rattle.std.specs.List.{list_any}
use Rattle.std.specs.Map.{update}
use Rattle.std.proofs.lemmas.List.{map-append}
use Rattle.std.proofs.lemmas.Map.Text.{btree_map_updates_str}
use Rattle.exec_graph.specs.inner.Places.{FindsPlaces}
use Rattle.exec_graph.proofs.TextPlaces.{finds_more}
use Rattle.exec_graph.proofs.draft.texts.TextSet.append.Goals as goal

pub invariant_of-self-2 : goal.invariant_of-self-2
invariant_of-self-2 c =
    let texts = map (λ (text : Bor (List ℕ)). text.now) c.self.inside.texts.items in
    let more : map (λ text. text.now) c.push_reserved.new.self.items ≡ texts ++ c.args.text.now ∷ [] =
    ap (map (λ (text : Bor (List ℕ)). text.now)) (c.push_reserved.ensures.items ∙ ap (λ (texts : List (Bor (List ℕ))). texts ++ c.args.text ∷ []) c.in_ok-reserve.ensures.items)
    ∙ map-append (λ (text : Bor (List ℕ)). text.now) c.self.inside.texts.items (c.args.text ∷ []) in
    let place : c.len-place.result ≡ length texts = c.len-place.ensures ∙ ap length (sym c.self.view_is) in
    subst (FindsPlaces c.insert.new.self) (sym more)
    (finds_more c.self.inside.places c.insert.new.self texts c.args.text.now c.self.invariant
    (ap (list_any (λ other. bytes_eq other c.args.text.now)) c.self.view_is ∙ c.requires)
    (λ name. btree_map_updates_str c.args.text.now c.self.inside.places c.insert.new.self (Some c.len-place.result) c.in_ok-insert.ensures.updates name
    ∙ ap (λ (place : ℕ). update bytes_eq (λ other. get_by (λ key. slice_cmp nat_cmp other key.now) c.self.inside.places) c.args.text.now (Some place) name) place))
