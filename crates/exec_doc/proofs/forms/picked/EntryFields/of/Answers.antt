use Rattle.std.proofs.Common.{◌≡◌, sym, ap, ◌∙◌, rules}
use Rattle.serde_json.proofs.Views.{view-Object}
use Rattle.serde_json.specs.View.{view}
use Rattle.serde_json.specs.declared.value.Value.{Value}
use Rattle.exec_doc.specs.Forms.{entry_fields}
use Rattle.exec_doc.specs.inner.Picking.{seen}
use Rattle.exec_doc.proofs.Picks.{picked, none_yet, all_picked}
use Rattle.exec_doc.proofs.forms.picked.EntryFields.of.Goals as goal

pub returns-in-None : goal.returns-in-None
returns-in-None c =
    let members = c.in-Object.members in
    let all : c.into_iter-name-iterator.result ≡ members.entries = search rules in
    ap (picked (seen c.loop-name.fields)) (sym c.in-None.ensures.steps.0)
    ∙ c.loop-name.invariant
    ∙ ap (picked none_yet) all
    ∙ all_picked members.entries c.iter-name-items.ensures.ordered
    ∙ ap entry_fields (sym (view-Object members))
    ∙ sym (ap (λ (value : Value). entry_fields (view value)) c.in-Object.is)
