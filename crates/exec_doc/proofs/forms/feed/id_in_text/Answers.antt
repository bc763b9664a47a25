use Rattle.std.proofs.Common.{sym}
use Rattle.std.specs.Int.{from_be_bytes, w128}
use Rattle.uuid.specs.Text.{parsed}
use Rattle.exec_doc.proofs.Bytes.{none_made}
use Rattle.exec_doc.proofs.forms.feed.id_in_text.Goals as goal

pub returns-in-Err : goal.returns-in-Err
returns-in-Err c =
    sym (none_made (from_be_bytes w128) (parsed c.args.text.now) c.in-Err.ensures.ok.1)
