-- What a run of the program comes to once its document was read.
use Rattle.std.proofs.Common.{◌≡◌, ◌≢◌, ℕ, ◌+◌, ◌<◌, ◌≤◌, List, length, take, Bool, true, Option, None, Some, Result, Ok, Err, IfSome, refl, sym, ap, subst, ◌∙◌, arith, rules}
use Rattle.std.specs.declared.alloc.Global.{Global}
use Rattle.std.specs.Global.{Vec}
use Rattle.std.proofs.Math.Seq.{take-length}
use Rattle.std.specs.Prelude.{IsErrAnd, String}
use Rattle.std.specs.Io.KnownBytes.{Appends, IsAtEnd, Keeps}
use Rattle.exec_doc.specs.Document.{document_of}
use Rattle.exec_doc.specs.declared.refused.Refused.{Refused}
use Rattle.exec_doc.specs.declared.refused.Refused.TheVariants as refused
use Rattle.exec_plan.specs.Plan.{PlanData}
use Rattle.exec_msg.specs.declared.limits.TheConstants.{DOCUMENT}
use Rattle.exec_round.specs.Run.{IsRefusalOf}
use Rattle.exec_program.specs.Program.{Appended, AreGoodWords, Consumed, HasRun, StreamRun, Unchanged}
use Rattle.exec_program.specs.inner.Writing.{HasWritten}
use Rattle.exec_program.specs.declared.program.Failure.{Failure}
use Rattle.exec_program.specs.declared.program.Failure.TheVariants as failure
use Rattle.exec_io.specs.declared.words.WordsFault.{WordsFault}
use Rattle.exec_io.specs.declared.words.WordsFault.TheVariants as words_fault
use Rattle.exec_rules.specs.Transcript.{text_of}

-- the words were good, and a document was read whole
pub record HasRead (words : Result (Vec (String Global)) WordsFault) (input : StreamRun) (document : List ℕ) : Type 0 where
  pub good : AreGoodWords words
  pub sound : words ≢ Err words_fault.Memory
  pub taken : (bytes : List ℕ) × Consumed input bytes × (length bytes ≤ DOCUMENT + 1)
  pub whole : IfSome input.before (λ bytes. document ≡ bytes)
  pub fits : length document ≤ DOCUMENT
  pub end : IsAtEnd input.after

-- where the bytes that were read are known, this is their fault
known_refusal : (known : Option (List ℕ)) (document : List ℕ) (code : Refused) → IfSome known (λ bytes. document ≡ bytes) → IsRefusalOf document code → IfSome known (λ bytes. IsRefusalOf bytes code)
known_refusal None document code whole is = tt
known_refusal (Some bytes) document code whole is = subst (λ (read : List ℕ). IsRefusalOf read code) whole is

-- and they say this plan
known_plan : (known : Option (List ℕ)) (document : List ℕ) (P : PlanData → Type 0) → IfSome known (λ bytes. document ≡ bytes) → (plan : PlanData) → document_of document ≡ Some plan → P plan → IfSome known (λ bytes. (one : PlanData) × (document_of bytes ≡ Some one) × P one)
known_plan None document P whole plan says holds = tt
known_plan (Some bytes) document P whole plan says holds = (plan, subst (λ (read : List ℕ). document_of read ≡ Some plan) whole says, holds)

known_front : (known : Option (List ℕ)) (document : List ℕ) (P : PlanData → ℕ → Type 0) → IfSome known (λ bytes. document ≡ bytes) → (plan : PlanData) (count : ℕ) → document_of document ≡ Some plan → P plan count → IfSome known (λ bytes. (one : PlanData) × (some : ℕ) × (document_of bytes ≡ Some one) × P one some)
known_front None document P whole plan count says holds = tt
known_front (Some bytes) document P whole plan count says holds = (plan, count, subst (λ (read : List ℕ). document_of read ≡ Some plan) whole says, holds)

-- and a document that was read isn't too long
fits_so : (P : Type 0) (known : Option (List ℕ)) (document : List ℕ) → IfSome known (λ bytes. document ≡ bytes) → length document ≤ DOCUMENT → IfSome known (λ bytes. DOCUMENT < length bytes → P)
fits_so P None document whole fits = tt
fits_so P (Some bytes) document whole fits = λ over. absurd (omega (arith, over, fits, ap length whole))

-- a run whose document was refused
pub after_refusal : (words : Result (Vec (String Global)) WordsFault) (input output : StreamRun) (flushed : Bool) (outcome : Result (Unit {0}) Failure) (document : List ℕ) (code : Refused)
    → outcome ≡ Err (failure.Refused code) → HasRead words input document → Unchanged output → IsRefusalOf document code → HasRun words input output flushed outcome
after_refusal words input output flushed outcome document code is read left refusal =
    let good = read.good in
    let sound = read.sound in
    subst (λ (one : Result (Unit {0}) Failure). HasRun words input output flushed one) (sym is) (record {
      usage = search rules;
      no_memory_for_words = λ none. absurd (sound none);
      words_first = λ wrong. absurd (wrong good);
      taken = read.taken;
      too_long = λ _. fits_so _ input.before document read.whole read.fits;
      read_failed = search rules;
      refused = λ told is_told other.
          let same : code ≡ told = search rules in (
            good,
            known_refusal input.before document told read.whole (subst (IsRefusalOf document) same refusal),
          );
      whole_document = tt;
      written = tt;
      flushed_then = tt;
      cut_off = search rules;
      write_failed = search rules;
      unwritten = λ _. left;
    })

-- a run whose output failed behind a front of the text
pub after_cut_off : (words : Result (Vec (String Global)) WordsFault) (input output : StreamRun) (flushed : Bool) (outcome : Result (Unit {0}) Failure) (document text : List ℕ) (plan : PlanData) (count : ℕ)
    → outcome ≡ Err failure.WriteFailed → HasRead words input document → document_of document ≡ Some plan → text ≡ text_of plan → Appended output (take count text) → output.failed ≡ true → HasRun words input output flushed outcome
after_cut_off words input output flushed outcome document text plan count is read says is_text gave failed =
    let good = read.good in
    let sound = read.sound in
    subst (λ (one : Result (Unit {0}) Failure). HasRun words input output flushed one) (sym is) (record {
      usage = search rules;
      no_memory_for_words = λ none. absurd (sound none);
      words_first = λ wrong. absurd (wrong good);
      taken = read.taken;
      too_long = λ _. fits_so _ input.before document read.whole read.fits;
      read_failed = search rules;
      refused = search rules;
      whole_document = tt;
      written = tt;
      flushed_then = tt;
      cut_off = λ _. known_front input.before document (λ one some. Appended output (take some (text_of one))) read.whole plan count says (subst (λ (whole : List ℕ). Appended output (take count whole)) is_text gave);
      write_failed = λ _. failed;
      unwritten = λ other. absurd (other refl);
    })

-- a run that wrote the whole text
pub after_all : (words : Result (Vec (String Global)) WordsFault) (input output : StreamRun) (flushed : Bool) (document text : List ℕ) (plan : PlanData) (unit : Unit {0})
    → HasRead words input document → document_of document ≡ Some plan → text ≡ text_of plan → Appended output text → flushed ≡ true → HasRun words input output flushed (Ok unit)
after_all words input output flushed document text plan unit read says is_text gave is_flushed =
    let good = read.good in
    let sound = read.sound in
    record {
      usage = search rules;
      no_memory_for_words = λ none. absurd (sound none);
      words_first = λ wrong. absurd (wrong good);
      taken = read.taken;
      too_long = λ _. fits_so _ input.before document read.whole read.fits;
      read_failed = search rules;
      refused = search rules;
      whole_document = read.end;
      written = known_plan input.before document (λ one. Appended output (text_of one)) read.whole plan says (subst (λ (whole : List ℕ). Appended output whole) is_text gave);
      flushed_then = is_flushed;
      cut_off = search rules;
      write_failed = search rules;
      unwritten = tt;
    }

-- a run that came to run its document and to write the transcript
pub after_document : (words : Result (Vec (String Global)) WordsFault) (input output : StreamRun) (flushed : Bool) (outcome : Result (Unit {0}) Failure) (document : List ℕ) → HasRead words input document → HasWritten document output flushed outcome → HasRun words input output flushed outcome
after_document words input output flushed (Ok unit) document read wrote = after_all words input output flushed document (text_of wrote.1.0) wrote.1.0 unit read wrote.1.1 refl wrote.1.2 wrote.0
after_document words input output flushed (Err (failure.Refused code)) document read wrote = after_refusal words input output flushed (Err (failure.Refused code)) document code refl read wrote.1 wrote.0
after_document words input output flushed (Err failure.WriteFailed) document read wrote =
    after_cut_off words input output flushed (Err failure.WriteFailed) document (text_of wrote.1.0) wrote.1.0 wrote.1.2.0 refl read wrote.1.1 refl wrote.1.2.1 wrote.0
after_document words input output flushed (Err failure.Usage) document read wrote = absurd wrote
after_document words input output flushed (Err failure.ReadFailed) document read wrote = absurd wrote

-- a stream that was given a text and keeps it was given the text
kept_whole : (before written after : Option (List ℕ)) (text : List ℕ) → Appends before written text → Keeps written after → Appends before after text
kept_whole None written after text given kept = tt
kept_whole (Some u) None after text given kept = absurd given
kept_whole (Some u) (Some v) None text given kept = absurd kept
kept_whole (Some u) (Some v) (Some w) text given kept = kept ∙ given

-- a text that was written whole is a front of itself, if the flush after it failed
pub after_failed_flush : (document : List ℕ) (before written after : Option (List ℕ)) (failed flushed : Bool) (outcome : Result (Unit {0}) Failure)
    → ((plan : PlanData) × (document_of document ≡ Some plan) × Appends before written (text_of plan)) → Keeps written after → failed ≡ true → IsErrAnd outcome (λ told. told ≡ failure.WriteFailed)
    → HasWritten document (record { before = before; after = after; failed = failed }) flushed outcome
after_failed_flush document before written after failed flushed (Ok unit) wrote kept broken wrong = absurd wrong
after_failed_flush document before written after failed flushed (Err told) wrote kept broken wrong =
    let text = text_of wrote.0 in
    let whole = kept_whole before written after text wrote.2 kept in
    subst (λ (one : Failure). HasWritten {Value = Unit {0}} document (record { before = before; after = after; failed = failed }) flushed (Err one)) (sym wrong)
    (broken, (wrote.0, wrote.1, (length text, subst (Appends before after) (sym (take-length text)) whole)))
