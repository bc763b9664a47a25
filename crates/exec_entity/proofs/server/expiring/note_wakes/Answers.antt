use Rattle.std.proofs.Common.{ℕ, ◌∙◌, ap, sym, arith, rules}
use Rattle.std.specs.Option.{option_map}
use Rattle.exec_goal.proofs.Looping.{written-next, written-all}
use Rattle.exec_entity.proofs.Wakes.{wake-at, length-wakes}
use Rattle.exec_entity.specs.declared.server.KeptWithGoal.{KeptWithGoal}
use Rattle.exec_entity.specs.inner.Server.{all_kept}
use Rattle.exec_entity.specs.inner.Waking.{wakes_of}
use Rattle.exec_entity.proofs.server.expiring.note_wakes.Goals as goal

pub loop-place-preserved : goal.loop-place-preserved
loop-place-preserved c =
    let entries = c.args.held.now.entries in
    let entry : ℕ × KeptWithGoal = (c.unwrap.result.0.now, c.unwrap.result.1.now) in
    let there = sym c.get_index.ensures.entry ∙ ap (option_map (λ p. (p.0.now, p.1.now))) c.unwrap.ensures in
    record {
      written = written-next (wakes_of (all_kept entries)) c.loop-place.wakes.items c.loop-place.place c.wake_in.result (wake-at entries c.loop-place.place c.wake_in.result entry there c.wake_in.ensures)
          (omega (arith, c.loop-place-test.true, c.len-place-end.ensures.len, c.requires, c.loop-place.invariant.long)) c.loop-place.invariant.written;
      long = search rules;
    }

pub returns : goal.returns
returns c =
    let entries = c.args.held.now.entries in
    c.truncate.ensures.items
    ∙ written-all (wakes_of (all_kept entries)) c.loop-place.wakes.items c.len.result c.loop-place.place (omega (arith, c.len.ensures.len, length-wakes entries))
    (omega (arith, c.loop-place-test.false, c.len-place-end.ensures.len, length-wakes entries)) (omega (arith, c.loop-place.auto.place-end, c.len-place-end.ensures.len, c.len.ensures.len)) c.loop-place.invariant.written
