-- Documents that are answered one after another.
use Rattle.std.proofs.Common.{◌≡◌, ◌⊎◌, ℕ, List, [], ◌∷◌, ◌++◌, take, Bool, true, Option, Result, Ok, Err, refl, sym, ap, subst, ◌∙◌, append-nil, inl, inr, rules}
use Rattle.std.specs.List.{flat_map}
use Rattle.std.proofs.lemmas.Grind.{flat_map-append}
use Rattle.std.proofs.lemmas.List.Elements.{All-append}
use Rattle.std.specs.Io.KnownBytes.{Appends, Consumes, IsAtEnd}
use Rattle.exec_io.specs.Streams.{ReaderState, Stream}
use Rattle.std.specs.declared.alloc.Global.{Global}
use Rattle.std.specs.Global.{Vec}
use Rattle.std.specs.Prelude.{IfErr, String, ◌≢◌}
use Rattle.exec_io.specs.declared.words.WordsFault.{WordsFault}
use Rattle.exec_io.specs.declared.words.WordsFault.TheVariants as words_fault
use Rattle.exec_program.specs.Program.{AreGoodWords, StreamRun}
use Rattle.exec_program.specs.declared.program.Failure.{Failure}
use Rattle.exec_program.specs.declared.program.Failure.TheVariants as failure
use Rattle.exec_serve.specs.Serving.{Exchange, HasServed, HasServedBy, IsServed, answer_bytes, request_bytes}
use Rattle.exec_serve.specs.inner.Served.{HasFailed, HasServedSo}
use Rattle.exec_serve.proofs.Bytes.{Appends-then, Consumes-then}

-- one more behind others, as bytes
one_behind : (f : Exchange → List ℕ) (some : List Exchange) (one : Exchange) → flat_map f some ++ f one ≡ flat_map f (some ++ one ∷ [])
one_behind f some one = sym (flat_map-append f some (one ∷ []) ∙ ap (λ (l : List ℕ). flat_map f some ++ l) (append-nil (f one)))

pub one_more : (before between after from via to : Option (List ℕ)) (flushed : Bool) (one : Exchange) → HasServedSo before between from via flushed → IsServed one → Consumes between after (request_bytes one) → Appends via to (answer_bytes one) → HasServedSo before after from to true
one_more before between after from via to flushed one so served read written = record {
  exchanges = so.exchanges ++ one ∷ [];
  served = All-append IsServed so.exchanges (one ∷ []) so.served (search rules);
  read = subst (Consumes before after) (one_behind request_bytes so.exchanges one) (Consumes-then before between after _ _ so.read read);
  written = subst (Appends from to) (one_behind answer_bytes so.exchanges one) (Appends-then from via to _ _ so.written written);
  flushed_then = inr refl;
}

-- the input ended behind the last one
pub served_to_the_end : (before between after from to : Option (List ℕ)) (read_failed write_failed flushed : Bool) (outcome : Result (Unit {0}) Failure) → outcome ≡ Ok tt → HasServedSo before between from to flushed → Consumes between after [] → IsAtEnd after
    → HasServed (record { before = before; after = after; failed = read_failed }) (record { before = from; after = to; failed = write_failed }) flushed outcome
served_to_the_end before between after from to read_failed write_failed flushed outcome is so nothing end =
    subst (λ (one : Result (Unit {0}) Failure). HasServed (record { before = before; after = after; failed = read_failed }) (record { before = from; after = to; failed = write_failed }) flushed one) (sym is) (record {
      exchanges = so.exchanges;
      served = so.served;
      taken = [];
      given = [];
      read = Consumes-then before between after _ _ so.read nothing;
      written = subst (Appends from to) (sym (append-nil (flat_map answer_bytes so.exchanges))) so.written;
      flushed_then = λ _. so.flushed_then;
      ended = (end, refl, refl);
      failed = tt;
      read_failed = search rules;
      write_failed = search rules;
    })

-- or the next one couldn't be read or answered
pub served_until_a_failure : (first before after : ReaderState) (origin from to : Stream) (outcome : Result (Unit {0}) Failure) (why : Failure) → outcome ≡ Err why → HasServedSo first.remaining before.remaining origin.sink.contents from.sink.contents from.flushed → HasFailed before after from to why
    → HasServed (record { before = first.remaining; after = after.remaining; failed = after.failed }) (record { before = origin.sink.contents; after = to.sink.contents; failed = to.sink.failed }) to.flushed outcome
served_until_a_failure first before after origin from to outcome (failure.Refused code) is so failed = absurd failed
served_until_a_failure first before after origin from to outcome failure.Usage is so failed = absurd failed
served_until_a_failure first before after origin from to outcome failure.ReadFailed is so (same, (taken, read, how)) =
    subst (λ (one : Result (Unit {0}) Failure). HasServed (record { before = first.remaining; after = after.remaining; failed = after.failed }) (record { before = origin.sink.contents; after = to.sink.contents; failed = to.sink.failed }) to.flushed one) (sym is) (record {
      exchanges = so.exchanges;
      served = so.served;
      taken = taken;
      given = [];
      read = Consumes-then _ before.remaining _ _ _ so.read read;
      written = subst (Appends origin.sink.contents to.sink.contents) (sym (append-nil (flat_map answer_bytes so.exchanges))) (subst (λ (one : Stream). Appends origin.sink.contents one.sink.contents (flat_map answer_bytes so.exchanges)) (sym same) so.written);
      flushed_then = λ _. subst (λ (one : Stream). (so.exchanges ≡ []) ⊎ (one.flushed ≡ true)) (sym same) so.flushed_then;
      ended = tt;
      failed = inl refl;
      read_failed = λ _. (refl, how);
      write_failed = search rules;
    })
served_until_a_failure first before after origin from to outcome failure.WriteFailed is so (failed, (one, count, served, read, written)) =
    subst (λ (one : Result (Unit {0}) Failure). HasServed (record { before = first.remaining; after = after.remaining; failed = after.failed }) (record { before = origin.sink.contents; after = to.sink.contents; failed = to.sink.failed }) to.flushed one) (sym is) (record {
      exchanges = so.exchanges;
      served = so.served;
      taken = request_bytes one;
      given = take count (answer_bytes one);
      read = Consumes-then _ before.remaining _ _ _ so.read read;
      written = Appends-then _ from.sink.contents _ _ _ so.written written;
      flushed_then = λ other. absurd (other refl);
      ended = tt;
      failed = inr refl;
      read_failed = search rules;
      write_failed = λ _. (failed, (one, count, served, refl, refl));
    })

-- good words come first
pub served_by : (words : Result (Vec (String Global)) WordsFault) (input output : StreamRun) (flushed : Bool) (outcome : Result (Unit {0}) Failure) → AreGoodWords words → words ≢ Err words_fault.Memory → HasServed input output flushed outcome → HasServedBy words input output flushed outcome
served_by words input output flushed outcome good sound served = record {
  usage = (λ usage. absurd (other outcome served.failed usage), λ (wrong, _). absurd (wrong good));
  no_memory_for_words = λ none. absurd (sound none);
  words_first = λ wrong. absurd (wrong good);
  served = λ _. served;
}
  where
    other : (one : Result (Unit {0}) Failure) → IfErr one (λ told. (told ≡ failure.ReadFailed) ⊎ (told ≡ failure.WriteFailed)) → one ≡ Err failure.Usage → ⊥
    other one failed usage = search rules
