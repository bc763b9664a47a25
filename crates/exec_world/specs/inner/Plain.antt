-- Callbacks that run their script once, that nothing closes, and whose line has no identifier.
use Rattle.std.specs.Prelude.{Bool, true, false}
use Rattle.exec_rules.specs.declared.item.Item.TheVariants as item
use Rattle.exec_rules.specs.declared.ready.Cause.{Cause}
use Rattle.exec_rules.specs.declared.ready.Cause.TheVariants as cause

-- whether a callback that is ready for a cause is one of these
abbrev pub is_plain : Cause → Bool
is_plain cause.Due = true
is_plain (cause.Took (item.Message value)) = true
is_plain (cause.Took (item.Reply number value)) = true
is_plain _ = false
