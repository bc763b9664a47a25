use Rattle.std.proofs.Common.{[], inl, inr, refl}
use Rattle.exec_doc.specs.Refusals.{refused_number}
use Rattle.exec_serve.proofs.answering.answer.Goals as goal

pub returns-in-Ok : goal.returns-in-Ok
returns-in-Ok g c =
    let says = c.in-Ok.ensures.text in
    record {
      exchange = record { document = c.args.document.now; status = 0; text = c.in-Ok.text.items };
      same = refl;
      answered = inl (says.0, says.1, refl, says.2);
      put = rw c.as_slice.ensures.value at c.put_answer.ensures;
    }

pub returns-in-Err : goal.returns-in-Err
returns-in-Err g c = record {
  exchange = record { document = c.args.document.now; status = refused_number c.in-Err.code; text = [] };
  same = refl;
  answered = inr (c.in-Err.code, c.in-Err.ensures.refused, refl, refl);
  put = c.refuse.ensures;
}
