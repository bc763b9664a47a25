use Rattle.std.proofs.Common.{inr, refl}
use Rattle.exec_doc.proofs.Bytes.{has_value, has_none}
use Rattle.exec_doc.proofs.document.document_value.Goals as goal

pub returns-in-Ok-clause-value : goal.returns-in-Ok-clause-value
returns-in-Ok-clause-value c = has_value c.args.bytes.now _ c.in-Ok.ensures.ok.0 c.in-Ok.ensures.ok.1

pub returns-in-Err-2-clause-refused : goal.returns-in-Err-2-clause-refused
returns-in-Err-2-clause-refused c =
    inr (refl, has_none c.args.bytes.now (λ utf8. c.in-Err.ensures.err (λ memory. let e = c.if-is_memory.ensures.1 memory in absurd cc) utf8))
