use Rattle.exec_doc.proofs.Sets.{set_read}
use Rattle.exec_doc.proofs.forms.scripts.listed_set.Goals as goal

pub returns : goal.returns
returns c = set_read c.set_with.result c.args.values.now c.name-item.result c.destination-item.result c.operation-item.result c.left-item.result c.right-item.result
    c.in-len5.len_at_least c.in-len5.len_below c.name-item.is c.destination-item.is c.operation-item.is c.left-item.is c.right-item.is
    (c.begins_set.ensures c.if-not-begins_set.false) c.set_with.ensures
