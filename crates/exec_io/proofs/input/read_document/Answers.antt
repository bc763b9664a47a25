use Rattle.std.proofs.Common.{◌≡◌, arith, rules, length, take, drop, ◌++◌}
use Rattle.std.proofs.lemmas.List.{take_at}
use Rattle.exec_io.proofs.KnownBytes.{Consumes-more}
use Rattle.exec_io.proofs.input.read_document.Goals as goal

pub loop-filled-preserved : goal.loop-filled-preserved
loop-filled-preserved g c =
    let buffer = c.read.new.buffer in
    let len = c.make_room.new.buffer.len in
    let items = c.make_room.new.buffer.items in
    let filled = c.loop-filled.filled in
    let full : length buffer ≡ len = search rules in
    let whole : take len (buffer ++ drop (length buffer) items) ≡ buffer = take_at buffer _ len full in
    let front : take filled buffer ≡ take filled c.loop-filled.document.items = search rules in
    record {
      within = omega (arith, c.in_ok-count.ensures.fits, full);
      bound = c.make_room.ensures.bound;
      front = rw whole (Consumes-more _ _ _ c.loop-filled.document.items buffer filled c.in_ok-count.count front c.loop-filled.invariant.front c.in_ok-count.ensures.ok);
    }
