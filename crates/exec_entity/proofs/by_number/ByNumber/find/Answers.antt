use Rattle.std.proofs.Common.{◌==◌, ◌∙◌}
use Rattle.exec_entity.proofs.FoundByNumber.{find_read}
use Rattle.exec_entity.proofs.by_number.ByNumber.find.Goals as goal

pub returns : goal.returns
returns g c =
    find_read (λ entry. g.E.Numbered.number_of entry == c.args.entity) c.deref.result.now c.args.self.now c.place.result c.get.result (c.deref.ensures.value ∙ c.self.view_is) c.place.ensures
    c.get.ensures.lookup.0 c.get.ensures.lookup.1
