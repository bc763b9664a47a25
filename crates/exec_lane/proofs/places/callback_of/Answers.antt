use Rattle.std.proofs.Common.{sym, ◌∙◌}
use Rattle.std.proofs.lemmas.List.{get_or_read}
use Rattle.exec_lane.proofs.LanesKept.{callback_there, place_there}
use Rattle.exec_lane.specs.inner.Buffered.{no_callback}
use Rattle.exec_lane.proofs.places.callback_of.Goals as goal

pub bounds-list-place : goal.bounds-list-place
bounds-list-place c = place_there c.args.list.now c.args.lane.now.places c.args.index c.place.result c.requires.places c.place.ensures

pub returns : goal.returns
returns c =
    let there = place_there c.args.list.now c.args.lane.now.places c.args.index c.place.result c.requires.places c.place.ensures in
    get_or_read c.args.list.now c.place.result _ there c.index-list-place.is no_callback
    ∙ sym (callback_there c.args.list.now c.args.lane.now.places c.args.index c.place.result c.place.ensures)
