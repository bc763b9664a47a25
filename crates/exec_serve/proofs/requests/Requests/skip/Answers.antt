use Rattle.std.proofs.Common.{rules, ◌≡◌, ◌++◌, length, take, arith, length-append, length-take, inl, inr}
use Rattle.exec_serve.specs.inner.Requests.{IsShort}
use Rattle.exec_serve.proofs.Bytes.{Consumes-then}
use Rattle.exec_serve.proofs.CutOff.{short_behind}
use Rattle.exec_serve.proofs.requests.Requests.skip.Goals as goal

pub returns-in_err-fill-clause-ended : goal.returns-in_err-fill-clause-ended
returns-in_err-fill-clause-ended g c =
    let taken = c.loop-left.invariant.taken in
    let part = c.in_err-fill.ensures.part in
    let whole : length (take c.min-most.result c.loop-left.part) ≡ c.min-most.result = search rules in
    let short : IsShort c.args.self.now c.fill.new.self c.args.size = short_behind c.args.self.now c.loop-left.self c.fill.new.self taken.0 c.args.size c.loop-left.left taken.2 (omega (arith, taken.1)) (inl c.in_err-fill.ensures.failed, (part.0, omega (arith, part.1, whole, c.min-most.ensures), part.2)) in
    search rules

pub returns-then-branch-most-clause-ended : goal.returns-then-branch-most-clause-ended
returns-then-branch-most-clause-ended g c =
    let taken = c.loop-left.invariant.taken in
    let whole : length c.fill.new.buffer ≡ c.min-most.result = search rules in
    let more = take c.in_ok-fill.field-0 c.fill.new.buffer in
    let end = c.in_ok-fill.ensures.end (omega (arith, whole, c.if-branch-most.true)) in
    short_behind c.args.self.now c.loop-left.self c.fill.new.self taken.0 c.args.size c.loop-left.left taken.2 (omega (arith, taken.1)) (inr end, (more, omega (arith, whole, length-take c.in_ok-fill.field-0 c.fill.new.buffer, c.if-branch-most.true, c.min-most.ensures), c.in_ok-fill.ensures.taken))

pub loop-left-preserved : goal.loop-left-preserved
loop-left-preserved g c =
    let taken = c.loop-left.invariant.taken in
    let whole : length c.fill.new.buffer ≡ c.min-most.result = search rules in
    let more = take c.in_ok-fill.field-0 c.fill.new.buffer in
    record {
      within = omega (arith, c.loop-left.invariant.within);
      taken = (
        taken.0 ++ more,
        omega (arith, taken.1, whole, length-append taken.0 more, length-take c.in_ok-fill.field-0 c.fill.new.buffer, c.in_ok-fill.ensures.within, c.if-branch-most.false, c.min-most.ensures),
        Consumes-then _ _ _ _ _ taken.2 c.in_ok-fill.ensures.taken,
      );
    }
