use Rattle.exec_doc.proofs.Lists.{list_changed}
use Rattle.exec_doc.proofs.upgrading.keeping.changed_list.Goals as goal

pub returns-in_ok-changed_items-in-Array : goal.returns-in_ok-changed_items-in-Array
returns-in_ok-changed_items-in-Array g c =
    let made = c.in_ok-changed_items-in-Array in
    list_changed (g.C.Change.becomes c.args.by.now) c.in-Array.values made.field-0 c.args.value c.in-Array.is made.ensures
