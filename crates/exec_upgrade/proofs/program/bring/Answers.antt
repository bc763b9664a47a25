use Rattle.std.proofs.Common.{◌≡◌, ◌≤◌, [], length, ap, arith, rules}
use Rattle.exec_msg.specs.declared.limits.TheConstants.{DOCUMENT}
use Rattle.exec_upgrade.proofs.Runs.{after_document, no_length}
use Rattle.exec_upgrade.specs.Program.{AreGoodWords}
use Rattle.exec_upgrade.proofs.program.bring.Goals as goal

pub returns : goal.returns
returns g c =
    let short : length c.in_ok-words.words.items ≡ 0 = search rules in
    let none : c.in_ok-words.words.items ≡ [] = no_length c.in_ok-words.words.items short in
    let good : AreGoodWords c.args.words = rw c.in_ok-words.was none in
    let taken = c.in_ok-document.ensures.taken in
    let fits : length c.in_ok-document.document.items ≤ DOCUMENT = omega (arith, c.in_ok-document.ensures.fits, c.deref.ensures.len, ap length c.deref.ensures.value) in
    after_document _ _ _ _ c.write_upgrade.result c.in_ok-document.document.items (record {
      good = good;
      sound = search rules;
      taken = (taken.0, taken.1, taken.2);
      whole = c.in_ok-document.ensures.whole;
      fits = fits;
      end = c.in_ok-document.ensures.end;
    }) (rw c.deref.ensures.value at c.write_upgrade.ensures)
