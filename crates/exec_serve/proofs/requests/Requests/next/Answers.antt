use Rattle.std.proofs.Common.{rules, ◌≡◌, length, take, arith, sym, subst, ap, ◌∙◌, length-take, inr, refl}
use Rattle.std.proofs.Math.Seq.{take-length}
use Rattle.exec_serve.specs.Serving.{number_bytes}
use Rattle.exec_serve.specs.inner.Requests.{HasEnded, Takes}
use Rattle.exec_serve.proofs.CutOff.{ended_in_document, ended_in_length, failed_in_length, read_behind}
use Rattle.exec_serve.proofs.Outcomes.{if_ok, on_err}
use Rattle.exec_serve.proofs.requests.Requests.next.Goals as goal

pub returns-in_err-count-clause-ended : goal.returns-in_err-count-clause-ended
returns-in_err-count-clause-ended g c =
    let part = c.in_err-count.ensures.part in
    let ended : HasEnded c.args.self.now c.fill.new.self = failed_in_length c.args.self.now c.fill.new.self part.0 part.2 part.1 c.in_err-count.ensures.failed in
    search rules

pub returns-then-count-lt-LENGTH-clause-ended : goal.returns-then-count-lt-LENGTH-clause-ended
returns-then-count-lt-LENGTH-clause-ended g c =
    let count = c.in_ok-count.count in
    let long = length-take count c.fill.new.buffer in
    let end = c.in_ok-count.ensures.end (omega (arith, c.in_ok-count.ensures.same_length, c.if-count-lt-LENGTH.true)) in
    ended_in_length c.args.self.now c.fill.new.self (take count c.fill.new.buffer) c.in_ok-count.ensures.taken (omega (arith, long, c.in_ok-count.ensures.within, c.if-count-eq0.false)) (omega (arith, long, c.in_ok-count.ensures.within, c.if-count-lt-LENGTH.true)) end

pub returns-then-size-clause-ended : goal.returns-then-size-clause-ended
returns-then-size-clause-ended g c =
    let buffer = c.fill.new.buffer in
    let whole : c.in_ok-count.count ≡ length buffer = omega (arith, c.in_ok-count.ensures.same_length, c.in_ok-count.ensures.within, c.if-count-lt-LENGTH.false) in
    let same : take c.in_ok-count.count buffer ≡ buffer = ap (λ n. take n buffer) whole ∙ take-length buffer in
    let taken = subst (Takes c.args.self.now c.fill.new.self) (same ∙ sym c.number-size.ensures) c.in_ok-count.ensures.taken in
    (number_bytes c.number-size.result, taken, inr (inr (c.number-size.result, c.if-size.true, c.number-size.type_inv, refl)))

pub returns-clause-taken : goal.returns-clause-taken
returns-clause-taken g c =
    let buffer = c.fill.new.buffer in
    let whole : c.in_ok-count.count ≡ length buffer = omega (arith, c.in_ok-count.ensures.same_length, c.in_ok-count.ensures.within, c.if-count-lt-LENGTH.false) in
    let same : take c.in_ok-count.count buffer ≡ buffer = ap (λ n. take n buffer) whole ∙ take-length buffer in
    if_ok c.document.result (λ request read. read_behind c.args.self.now c.fill.new.self c.document.new.self (take c.in_ok-count.count buffer) read.0 request (same ∙ sym c.number-size.ensures ∙ ap number_bytes (sym read.1)) (omega (arith, read.1, c.if-size.false)) c.in_ok-count.ensures.taken read.2 read.3) c.document.ensures.taken

pub returns-clause-ended : goal.returns-clause-ended
returns-clause-ended g c =
    let buffer = c.fill.new.buffer in
    let whole : c.in_ok-count.count ≡ length buffer = omega (arith, c.in_ok-count.ensures.same_length, c.in_ok-count.ensures.within, c.if-count-lt-LENGTH.false) in
    let same : take c.in_ok-count.count buffer ≡ buffer = ap (λ n. take n buffer) whole ∙ take-length buffer in
    on_err c.document.result (ended_in_document c.args.self.now c.fill.new.self c.document.new.self c.number-size.result (take c.in_ok-count.count buffer) (same ∙ sym c.number-size.ensures) (omega (arith, c.if-size.false)) c.in_ok-count.ensures.taken) c.document.ensures.ended
