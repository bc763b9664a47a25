use Rattle.std.proofs.Common.{None, length, slice_get, ap, sym, ◌∙◌, arith}
use Rattle.std.proofs.lemmas.Bool.{ltb-false}
use Rattle.std.specs.Option.{option_map_or}
use Rattle.exec_msg.specs.KeepLast.{displaced}
use Rattle.exec_msg.proofs.FirstPlaces.{written, change_at-beyond, read_at, none_beyond}
use Rattle.exec_rules.specs.World.{queue_after}
use Rattle.exec_queue.proofs.Filled.{filled_written}
use Rattle.exec_queue.proofs.queue.send_at.Goals as goal

pub returns-in-None-clause-ok : goal.returns-in-None-clause-ok
returns-in-None-clause-ok g c = change_at-beyond (queue_after g.args.number.now g.args.item) g.args.entries.now.items g.args.place g.in-None.ensures.item.0 c

pub returns-in-None-clause-lost : goal.returns-in-None-clause-lost
returns-in-None-clause-lost g c =
    ap (λ found. option_map_or (λ queue. slice_get (displaced queue.depth g.args.item queue.items) 0) found None) (sym (none_beyond g.args.entries.now.items g.args.place g.in-None.ensures.item.0)) c

pub returns-in_ok-lost-in-Some-clause-ok : goal.returns-in_ok-lost-in-Some-clause-ok
returns-in_ok-lost-in-Some-clause-ok g c =
    written (queue_after g.args.number.now g.args.item) g.args.entries.now.items g.args.place g.in-Some.entry.now _ g.in-Some.ensures.value g.in_ok-lost-in-Some.ensures.ok c

pub returns-in_ok-lost-in-Some-clause-lost : goal.returns-in_ok-lost-in-Some-clause-lost
returns-in_ok-lost-in-Some-clause-lost g c =
    (g.in_ok-lost-in-Some.ensures.lost
    ∙ ap (λ found. option_map_or (λ queue. slice_get (displaced queue.depth g.args.item queue.items) 0) found None) (sym (read_at g.args.entries.now.items g.args.place g.in-Some.entry.now g.in-Some.ensures.item.0 g.in-Some.ensures.value))) c

pub returns-in-None-clause-filled : goal.returns-in-None-clause-filled
returns-in-None-clause-filled g within =
    let past = ltb-false g.args.place (length g.args.entries.now.items) (sym g.in-None.ensures.item.0) in
    absurd (omega (arith, past, within))

pub returns-in_ok-lost-in-Some-clause-filled : goal.returns-in_ok-lost-in-Some-clause-filled
returns-in_ok-lost-in-Some-clause-filled g within = filled_written g.args.entries.now.items g.args.place g.send_to.new.entry g.in_ok-lost-in-Some.ensures.has within
