use Rattle.std.proofs.Common.{◌==◌, refl, of_calls}
use Rattle.exec_entity.proofs.FoundByNumber.{unfound, found_at, changed_at, finds_set}
use Rattle.exec_entity.proofs.by_number.ByNumber.change.Goals as goal

pub returns-in_default : goal.returns-in_default
returns-in_default g c =
    (unfound (λ entry. g.E.Numbered.number_of entry == c.args.entity) c.self.inside.entries.items c.args.self.now c.place-place.result c.self.view_is c.place-place.ensures c.in_default.ensures.item.0, c.self.view_is)

pub change-requires : goal.change-requires
change-requires g c =
    let found = found_at (λ entry. g.E.Numbered.number_of entry == c.args.entity) c.self.inside.entries.items c.args.self.now c.place-place.result c.self.view_is c.place-place.ensures c.in-Some.entry.now c.in-Some.ensures.item.0 c.in-Some.ensures.value in
    let takes = c.requires.callable c.in-Some.entry.now found in
    search (of_calls, takes) parts 8

pub invariant_of-self-2 : goal.invariant_of-self-2
invariant_of-self-2 g c =
    finds_set g.E.Numbered.number_of c.self.inside.places c.self.inside.entries.items c.place-place.result c.in-Some.entry.now c.change.new.arg2 c.self.invariant c.in-Some.ensures.value
    (c.requires.numbered c.in-Some.entry.now c.change.result c.change.new.arg2 (record { shown = _; shows = refl; left = _; met = c.change.ensures; leaves = refl }))

pub returns : goal.returns
returns g c = (
  c.in-Some.entry.now,
  c.change.new.arg2,
  found_at (λ entry. g.E.Numbered.number_of entry == c.args.entity) c.self.inside.entries.items c.args.self.now c.place-place.result c.self.view_is c.place-place.ensures c.in-Some.entry.now c.in-Some.ensures.item.0 c.in-Some.ensures.value,
  record { shown = _; shows = refl; left = _; met = c.change.ensures; leaves = refl },
  changed_at (λ entry. g.E.Numbered.number_of entry == c.args.entity) c.self.inside.entries.items c.args.self.now c.place-place.result c.self.view_is c.place-place.ensures (λ _. c.change.new.arg2) c.in-Some.entry.now c.change.new.arg2 c.in-Some.ensures.item.0 c.in-Some.ensures.value refl,
)
