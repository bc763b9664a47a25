use Rattle.exec_msg.proofs.FirstPlaces.{written, change_at-beyond}
use Rattle.exec_rules.specs.Ready.{queue_taken}
use Rattle.exec_queue.proofs.queue.take_at.Goals as goal

pub returns-in-Some : goal.returns-in-Some
returns-in-Some c = written queue_taken c.args.entries.now.items c.args.place c.in-Some.entry.now _ c.in-Some.ensures.value c.take.ensures

pub returns-in_default : goal.returns-in_default
returns-in_default c = change_at-beyond queue_taken c.args.entries.now.items c.args.place c.in_default.ensures.item.0
