use Rattle.std.proofs.Common.{Some, ap}
use Rattle.exec_msg.proofs.FirstPlaces.{written, change_at-beyond}
use Rattle.exec_msg.specs.Places.{first_noted}
use Rattle.exec_msg.proofs.place_table.note_place.Goals as goal

pub returns-in-Some : goal.returns-in-Some
returns-in-Some c = written (first_noted c.args.place) c.args.slots.now.items c.args.number c.in-Some.found.now _ c.in-Some.ensures.value (ap Some c.unwrap_or.ensures)

pub returns-in_default : goal.returns-in_default
returns-in_default c = change_at-beyond (first_noted c.args.place) c.args.slots.now.items c.args.number c.in_default.ensures.item.0
