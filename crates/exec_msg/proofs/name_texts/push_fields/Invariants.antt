use Rattle.std.proofs.Common.{◌≡◌, length, map, string_bytes}
use Rattle.exec_msg.specs.inner.NameTexts.{AreFieldsOf}
use Rattle.exec_msg.proofs.name_texts.push_fields.Given as goal

-- the fields so far are those of the first names
abbrev pub invariant-loop-name : goal.invariant-loop-name
invariant-loop-name l = AreFieldsOf (map string_bytes l.names) l.fields.items × (length l.fields.items ≡ l.name-index)
