use Rattle.std.proofs.Common.{Some, ap, sym, ◌∙◌}
use Rattle.serde_json.specs.Written.{compact_text}
use Rattle.std.specs.Option.{option_map}
use Rattle.exec_doc.proofs.Bytes.{has_value}
use Rattle.exec_doc.proofs.Upgrades.{has_no_float, is_flat, says_same, is_its_own}
use Rattle.exec_doc.specs.Document.{plan_in}
use Rattle.exec_doc.specs.Refusals.{document_value}
use Rattle.exec_doc.specs.Upgrade.{upgraded_in}
use Rattle.exec_doc.proofs.upgrading.upgrade.Goals as goal

pub returns-clause-text : goal.returns-clause-text
returns-clause-text c =
    let made = c.in_ok-upgraded_value.ensures.value in
    let floatless = has_no_float (document_value c.args.document.now) _ made in
    rw made (ap Some (sym (c.in_ok-to_vec.ensures.text floatless)))

pub returns-clause-plan : goal.returns-clause-plan
returns-clause-plan c =
    let made = c.in_ok-upgraded_value.ensures.value in
    let read = document_value c.args.document.now in
    let written = c.in_ok-to_vec.ensures in
    ap plan_in (has_value c.in_ok-to_vec.field-0.items _ written.utf8 (written.reads_back (is_flat read _ made))) ∙ says_same read _ made

pub returns-clause-again : goal.returns-clause-again
returns-clause-again c =
    let made = c.in_ok-upgraded_value.ensures.value in
    let read = document_value c.args.document.now in
    let written = c.in_ok-to_vec.ensures in
    ap (option_map compact_text) (ap upgraded_in (has_value c.in_ok-to_vec.field-0.items _ written.utf8 (written.reads_back (is_flat read _ made))) ∙ is_its_own read _ made)
    ∙ ap Some (sym (written.text (has_no_float read _ made)))
