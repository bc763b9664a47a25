-- What a run of the program comes to once its document was read.
use Rattle.std.proofs.Common.{◌≡◌, ◌≢◌, ℕ, ◌+◌, ◌<◌, ◌≤◌, List, [], ◌∷◌, length, take, Bool, true, Option, None, Some, Result, Ok, Err, IfSome, refl, sym, ap, subst, arith, rules}
use Rattle.std.specs.declared.alloc.Global.{Global}
use Rattle.std.specs.Global.{Vec}
use Rattle.std.specs.Prelude.{String}
use Rattle.std.specs.Io.KnownBytes.{IsAtEnd}
use Rattle.exec_doc.specs.Upgrade.{upgraded_text}
use Rattle.exec_doc.specs.declared.refused.Refused.{Refused}
use Rattle.exec_msg.specs.declared.limits.TheConstants.{DOCUMENT}
use Rattle.exec_upgrade.specs.Program.{Appended, AreGoodWords, Consumed, HasUpgraded, IsRefusalOf, StreamRun, Unchanged}
use Rattle.exec_upgrade.specs.inner.Writing.{HasWritten}
use Rattle.exec_upgrade.specs.declared.program.Failure.{Failure}
use Rattle.exec_upgrade.specs.declared.program.Failure.TheVariants as failure
use Rattle.exec_io.specs.declared.words.WordsFault.{WordsFault}
use Rattle.exec_io.specs.declared.words.WordsFault.TheVariants as words_fault

-- the words were good, and a document was read whole
pub record HasRead (words : Result (Vec (String Global)) WordsFault) (input : StreamRun) (document : List ℕ) : Type 0 where
  pub good : AreGoodWords words
  pub sound : words ≢ Err words_fault.Memory
  pub taken : (bytes : List ℕ) × Consumed input bytes × (length bytes ≤ DOCUMENT + 1)
  pub whole : IfSome input.before (λ bytes. document ≡ bytes)
  pub fits : length document ≤ DOCUMENT
  pub end : IsAtEnd input.after

-- where the bytes that were read are known, this is their fault
known_refusal : (known : Option (List ℕ)) (document : List ℕ) (code : Refused) → IfSome known (λ bytes. document ≡ bytes) → IsRefusalOf document code → IfSome known (λ bytes. IsRefusalOf bytes code)
known_refusal None document code whole is = tt
known_refusal (Some bytes) document code whole is = subst (λ (read : List ℕ). IsRefusalOf read code) whole is

-- and this is the text of their upgrade
known_text : (known : Option (List ℕ)) (document : List ℕ) (P : List ℕ → Type 0) → IfSome known (λ bytes. document ≡ bytes) → (text : List ℕ) → upgraded_text document ≡ Some text → P text → IfSome known (λ bytes. (one : List ℕ) × (upgraded_text bytes ≡ Some one) × P one)
known_text None document P whole text says holds = tt
known_text (Some bytes) document P whole text says holds = (text, subst (λ (read : List ℕ). upgraded_text read ≡ Some text) whole says, holds)

known_front : (known : Option (List ℕ)) (document : List ℕ) (P : List ℕ → ℕ → Type 0) → IfSome known (λ bytes. document ≡ bytes) → (text : List ℕ) (count : ℕ) → upgraded_text document ≡ Some text → P text count → IfSome known (λ bytes. (one : List ℕ) × (some : ℕ) × (upgraded_text bytes ≡ Some one) × P one some)
known_front None document P whole text count says holds = tt
known_front (Some bytes) document P whole text count says holds = (text, count, subst (λ (read : List ℕ). upgraded_text read ≡ Some text) whole says, holds)

-- and a document that was read isn't too long
fits_so : (P : Type 0) (known : Option (List ℕ)) (document : List ℕ) → IfSome known (λ bytes. document ≡ bytes) → length document ≤ DOCUMENT → IfSome known (λ bytes. DOCUMENT < length bytes → P)
fits_so P None document whole fits = tt
fits_so P (Some bytes) document whole fits = λ over. absurd (omega (arith, over, fits, ap length whole))

-- a run whose document was refused
pub after_refusal : (words : Result (Vec (String Global)) WordsFault) (input output : StreamRun) (flushed : Bool) (outcome : Result (Unit {0}) Failure) (document : List ℕ) (code : Refused)
    → outcome ≡ Err (failure.Refused code) → HasRead words input document → Unchanged output → IsRefusalOf document code → HasUpgraded words input output flushed outcome
after_refusal words input output flushed outcome document code is read left refusal =
    let good = read.good in
    let sound = read.sound in
    subst (λ (one : Result (Unit {0}) Failure). HasUpgraded words input output flushed one) (sym is) (record {
      usage = search rules;
      no_memory_for_words = λ none. absurd (sound none);
      words_first = λ wrong. absurd (wrong good);
      taken = read.taken;
      too_long = λ _. fits_so _ input.before document read.whole read.fits;
      read_failed = search rules;
      refused = λ told is_told other.
          let same : code ≡ told = search rules in (
            good,
            known_refusal input.before document told read.whole (subst (IsRefusalOf document) same refusal),
          );
      whole_document = tt;
      written = tt;
      flushed_then = tt;
      cut_off = search rules;
      write_failed = search rules;
      unwritten = λ _. left;
    })

-- a run whose output failed behind a front of the text
pub after_cut_off : (words : Result (Vec (String Global)) WordsFault) (input output : StreamRun) (flushed : Bool) (outcome : Result (Unit {0}) Failure) (document text : List ℕ) (count : ℕ)
    → outcome ≡ Err failure.WriteFailed → HasRead words input document → upgraded_text document ≡ Some text → Appended output (take count text) → output.failed ≡ true → HasUpgraded words input output flushed outcome
after_cut_off words input output flushed outcome document text count is read says gave failed =
    let good = read.good in
    let sound = read.sound in
    subst (λ (one : Result (Unit {0}) Failure). HasUpgraded words input output flushed one) (sym is) (record {
      usage = search rules;
      no_memory_for_words = λ none. absurd (sound none);
      words_first = λ wrong. absurd (wrong good);
      taken = read.taken;
      too_long = λ _. fits_so _ input.before document read.whole read.fits;
      read_failed = search rules;
      refused = search rules;
      whole_document = tt;
      written = tt;
      flushed_then = tt;
      cut_off = λ _. known_front input.before document (λ one some. Appended output (take some one)) read.whole text count says gave;
      write_failed = λ _. failed;
      unwritten = λ other. absurd (other refl);
    })

-- a run that wrote the whole text
pub after_all : (words : Result (Vec (String Global)) WordsFault) (input output : StreamRun) (flushed : Bool) (document text : List ℕ) (unit : Unit {0})
    → HasRead words input document → upgraded_text document ≡ Some text → Appended output text → flushed ≡ true → HasUpgraded words input output flushed (Ok unit)
after_all words input output flushed document text unit read says gave is_flushed =
    let good = read.good in
    let sound = read.sound in
    record {
      usage = search rules;
      no_memory_for_words = λ none. absurd (sound none);
      words_first = λ wrong. absurd (wrong good);
      taken = read.taken;
      too_long = λ _. fits_so _ input.before document read.whole read.fits;
      read_failed = search rules;
      refused = search rules;
      whole_document = read.end;
      written = known_text input.before document (λ one. Appended output one) read.whole text says gave;
      flushed_then = is_flushed;
      cut_off = search rules;
      write_failed = search rules;
      unwritten = tt;
    }

-- a run that came to upgrade its document and to write the text
pub after_document : (words : Result (Vec (String Global)) WordsFault) (input output : StreamRun) (flushed : Bool) (outcome : Result (Unit {0}) Failure) (document : List ℕ) → HasRead words input document → HasWritten document output flushed outcome → HasUpgraded words input output flushed outcome
after_document words input output flushed (Ok unit) document read wrote = after_all words input output flushed document wrote.1.0 unit read wrote.1.1 wrote.1.2 wrote.0
after_document words input output flushed (Err (failure.Refused code)) document read wrote = after_refusal words input output flushed (Err (failure.Refused code)) document code refl read wrote.1 wrote.0
after_document words input output flushed (Err failure.WriteFailed) document read wrote =
    after_cut_off words input output flushed (Err failure.WriteFailed) document wrote.1.0 wrote.1.2.0 refl read wrote.1.1 wrote.1.2.1 wrote.0
after_document words input output flushed (Err failure.Usage) document read wrote = absurd wrote
after_document words input output flushed (Err failure.ReadFailed) document read wrote = absurd wrote

-- a list of no length is empty
pub no_length : {A : Type 0} (list : List A) → length list ≡ 0 → list ≡ []
no_length [] none = refl
no_length (a ∷ others) none = absurd cc
