use Rattle.std.proofs.Common.{rules, ◌∷◌, length}
use Rattle.std.specs.Io.KnownBytes.{Appends}
use Rattle.exec_serve.specs.Serving.{number_bytes}
use Rattle.exec_serve.proofs.Outcomes.{on_ok}
use Rattle.exec_serve.proofs.Put.{front_behind_head, front_of_head}
use Rattle.exec_serve.proofs.Bytes.{Appends-then}
use Rattle.exec_serve.proofs.answering.put_answer.Goals as goal

pub returns-in_err-write_text : goal.returns-in_err-write_text
returns-in_err-write_text g c =
    let front = rw c.head-head.ensures at c.in_err-write_text.ensures.front in
    record {
      whole = search rules;
      flushed_then = search rules;
      failed = search rules;
      front = front_of_head c.args.output.now.sink.contents c.write_text.new.through.sink.contents (c.args.status ∷ number_bytes (length c.args.text.now)) c.args.text.now front.0 front.1;
    }

pub returns : goal.returns
returns g c =
    let from = c.args.output.now.sink.contents in
    let via = c.write_text.new.through.sink.contents in
    let to = c.write_text-2.new.through.sink.contents in
    let head = c.args.status ∷ number_bytes (length c.args.text.now) in
    let one : Appends from via head = rw c.head-head.ensures at c.in_ok-write_text.ensures.ok in
    let front = c.write_text-2.ensures.front in
    record {
      whole = on_ok c.write_text-2.result (λ other. Appends-then from via to head c.args.text.now one other) c.write_text-2.ensures.ok;
      flushed_then = search rules;
      failed = search rules;
      front = front_behind_head from via to head c.args.text.now front.0 one front.1;
    }
