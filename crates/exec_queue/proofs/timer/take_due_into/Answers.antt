use Rattle.std.proofs.Common.{◌<◌, slice_set, length, ap, sym, ◌∙◌, arith}
use Rattle.std.proofs.lemmas.List.Edits.{map_over_more}
use Rattle.exec_rules.specs.Ready.{due_ready, timer_taken}
use Rattle.exec_rules.specs.World.{TimerEntry}
use Rattle.exec_rules.specs.inner.Listing.{listed_behind}
use Rattle.exec_rules.proofs.Listing.{next_is, listed_next}
use Rattle.exec_queue.proofs.timer.take_due_into.Goals as goal

pub loop-place-preserved : goal.loop-place-preserved
loop-place-preserved c =
    let entry = c.index-timers-place.result in
    let place = c.loop-place.place in
    let within : place < length c.args.timers.now = omega arith in
    let read = c.index-timers-place.is in
    let there = next_is (timer_taken c.args.now) c.args.timers.now c.loop-place.timers place entry within c.loop-place.invariant.0 read in (
      ap (λ (one : TimerEntry). slice_set c.loop-place.timers place one) (c.in_ok-take_into.ensures.timer ∙ ap (timer_taken c.args.now) (sym read))
          ∙ map_over_more (timer_taken c.args.now) c.args.timers.now c.loop-place.timers place entry within c.loop-place.invariant.0 read,
      listed_next (due_ready c.args.now) c.args.timers.now place entry c.loop-place.list _ _ within
          (c.in_ok-take_into.ensures.listed ∙ ap (λ (one : TimerEntry). listed_behind c.loop-place.list (due_ready c.args.now one)) (sym read ∙ there)) c.loop-place.invariant.1,
    )
