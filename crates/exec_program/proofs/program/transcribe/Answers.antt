use Rattle.std.proofs.Common.{◌≤◌, length, refl, ap, arith, rules}
use Rattle.exec_msg.specs.declared.limits.TheConstants.{DOCUMENT}
use Rattle.exec_program.proofs.Runs.{after_document}
use Rattle.exec_program.specs.Program.{AreGoodWords}
use Rattle.exec_program.proofs.program.transcribe.Goals as goal

pub returns : goal.returns
returns g c =
    let lawful = rw c.deref.ensures.value at (c.from_words.ensures.lawful.0 (rw c.in_ok-settings.ensures.ok_part refl)) in
    let good : AreGoodWords c.args.words = rw c.in_ok-words.was lawful in
    let taken = c.in_ok-document.ensures.taken in
    let fits : length c.in_ok-document.document.items ≤ DOCUMENT = omega (arith, c.in_ok-document.ensures.fits, c.deref-2.ensures.len, ap length c.deref-2.ensures.value) in
    after_document _ _ _ _ c.write_transcript.result c.in_ok-document.document.items (record {
      good = good;
      sound = search rules;
      taken = (taken.0, taken.1, taken.2);
      whole = c.in_ok-document.ensures.whole;
      fits = fits;
      end = c.in_ok-document.ensures.end;
    }) (rw c.deref-2.ensures.value at c.write_transcript.ensures)
