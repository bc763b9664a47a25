use Rattle.std.proofs.Common.{◌≡◌}
use Rattle.exec_doc.specs.inner.Picking.{seen}
use Rattle.exec_doc.proofs.Picks.{picked}
use Rattle.exec_doc.proofs.forms.picked.EntryFields.of.Given as goal

-- what is left leaves of the fields what all leave of them at first
abbrev pub invariant-loop-name : goal.invariant-loop-name
invariant-loop-name l = picked (seen l.fields) l.name-iterator ≡ picked (seen l.initial.fields) l.initial.name-iterator
