use Rattle.std.proofs.Common.{ℕ, ◌∙◌, ap, sym, arith, map, rules}
use Rattle.std.specs.Option.{option_map}
use Rattle.exec_goal.proofs.Looping.{written-next, written-all, info-at, length-infos}
use Rattle.exec_goal.specs.Info.{info_of}
use Rattle.exec_goal.specs.declared.held.GoalEntry.{GoalEntry}
use Rattle.exec_goal.specs.inner.Held.{records_of}
use Rattle.exec_goal.proofs.goals.expiring.note_infos.Goals as goal

pub loop-place-preserved : goal.loop-place-preserved
loop-place-preserved c =
    let entries = c.args.held.now.entries in
    let entry : ℕ × GoalEntry = (c.unwrap.result.0.now, c.unwrap.result.1.now) in
    let there = sym c.get_index.ensures.entry ∙ ap (option_map (λ p. (p.0.now, p.1.now))) c.unwrap.ensures in
    record {
      written = written-next (map info_of (records_of entries)) c.loop-place.infos.items c.loop-place.place c.info.result (info-at entries c.loop-place.place entry c.info.result there c.info.ensures)
          (omega (arith, c.loop-place-test.true, c.len-place-end.ensures.len, c.requires, c.loop-place.invariant.long)) c.loop-place.invariant.written;
      long = search rules;
    }

pub returns : goal.returns
returns c =
    let entries = c.args.held.now.entries in
    c.truncate.ensures.items
    ∙ written-all (map info_of (records_of entries)) c.loop-place.infos.items c.len.result c.loop-place.place (omega (arith, c.len.ensures.len, length-infos entries))
    (omega (arith, c.loop-place-test.false, c.len-place-end.ensures.len, length-infos entries)) (omega (arith, c.loop-place.auto.place-end, c.len-place-end.ensures.len, c.len.ensures.len)) c.loop-place.invariant.written
