use Rattle.std.proofs.Common.{◌≡◌, ℕ, List, ◌+◌, ◌-◌, ◌++◌, ◌≤◌, length, take, sym, subst, ◌∙◌, arith}
use Rattle.exec_msg.specs.Line.{line_room, transcript_text}
use Rattle.exec_io.proofs.KnownBytes.{Appends-front, Appends-piece, front_and_rest, front_written}
use Rattle.exec_io.proofs.writing.put_pieces.Goals as goal

pub loop-end-preserved : goal.loop-end-preserved
loop-end-preserved g c =
    let w = c.loop-end.invariant.0 in
    let names = c.loop-end.invariant.1 in
    let behind : ℕ = c.bytes_behind-at.result in
    let all : List ℕ = take c.in-Some.end c.fill.new.buffer in
    let front : List ℕ = take (c.in-Some.end - behind) c.fill.new.buffer in
    let before : List ℕ = take c.loop-end.at c.loop-end.buffer in
    let lines : List ℕ = transcript_text c.args.reader.now.names c.loop-end.reader.lines in
    let rest : List ℕ = transcript_text c.args.reader.now.names c.fill.new.self.lines in
    let text : before ++ lines ≡ all ++ rest = rw names at c.in-Some.ensures.text in (
      (
        (w.0 ++ front),
        Appends-piece _ _ _ w.0 front w.1 c.in_ok-put_front.ensures.ok,
        front_written w.0 front (take behind c.put_front.new.buffer) all rest before lines _ c.in_ok-put_front.ensures.moved text w.2,
      ),
      c.in-Some.ensures.names ∙ names,
      c.in_ok-put_front.ensures.sound ∙ c.loop-end.invariant.2,
      subst (λ (n : ℕ). behind + line_room c.args.reader.now.names ≤ n) (sym c.in_ok-put_front.ensures.same_length) (rw (c.in-Some.ensures.names ∙ names) at c.bytes_behind-at.ensures.room),
    )

pub returns-in_err-put_front-clause-front : goal.returns-in_err-put_front-clause-front
returns-in_err-put_front-clause-front g c =
    let w = c.loop-end.invariant.0 in
    let names = c.loop-end.invariant.1 in
    let count : ℕ = c.in-Some.end - c.bytes_behind-at.result in
    let buffer : List ℕ = c.fill.new.buffer in
    let before : List ℕ = take c.loop-end.at c.loop-end.buffer in
    let lines : List ℕ = transcript_text c.args.reader.now.names c.loop-end.reader.lines in
    let rest : List ℕ = transcript_text c.args.reader.now.names c.fill.new.self.lines in
    let text : before ++ lines ≡ take c.in-Some.end buffer ++ rest = rw names at c.in-Some.ensures.text in
    let front = c.in_err-put_front.ensures.front in
    (length w.0 + front.0, Appends-front _ _ _ w.0 (take count buffer) _ _ front.0 (front_and_rest w.0 buffer rest before lines _ count c.in-Some.end (omega arith) text w.2) front.1 w.1 front.2)

pub returns-clause-front : goal.returns-clause-front
returns-clause-front g c =
    let w = c.loop-end.invariant.0 in
    let front = rw c.in_default.ensures.same_buffer at c.put_all.ensures.front in
    (length w.0 + front.0, Appends-front _ _ _ w.0 (take c.loop-end.at c.loop-end.buffer) _ _ front.0 w.2 front.1 w.1 front.2)
