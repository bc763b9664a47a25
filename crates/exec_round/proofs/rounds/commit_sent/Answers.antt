use Rattle.std.proofs.Common.{◌≡◌, ◌+◌, ◌<◌, All, List, ℕ, drop, get_or, length, ap, subst, sym, ◌∙◌, arith}
use Rattle.std.proofs.lemmas.List.{drop_more, get_or_read}
use Rattle.exec_lane.specs.Gather.{Ran, outcome_of}
use Rattle.exec_lane.specs.declared.outcome.Outcome.{Outcome}
use Rattle.exec_lane.specs.inner.Spots.{no_ran, ran_at}
use Rattle.exec_round.proofs.Sends.{each_among, found_is}
use Rattle.exec_round.specs.inner.Commits.{after_commits}
use Rattle.exec_stream.specs.Sent.{IsAmong, outcome_at}
use Rattle.exec_rules.specs.Calls.{WorldData, after_commit}
use Rattle.exec_round.proofs.rounds.commit_sent.Goals as goal

pub places-requires : goal.places-requires
places-requires g c =
    subst (λ (count : ℕ). All (IsAmong count) c.args.sent.now) (sym c.len.ensures) (each_among c.args.all c.args.sent.now c.requires.order c.requires.sent)

pub at-requires : goal.at-requires
at-requires g c =
    let places = c.in_ok-places.places.items in
    let index = c.loop-index.index in
    let before = c.loop-index-test.true in
    let end = c.len-index-end.ensures in
    let count = c.len.ensures in
    let long = c.in_ok-places.ensures.len in
    let place : c.index.result.now ≡ get_or places index 0 = get_or_read places index c.index.result.now (omega (arith, before, end, count, long)) c.index.ensures 0 in
    let its = found_is c.args.all c.args.sent.now places index c.requires.order c.requires.sent c.in_ok-places.ensures.found (omega (arith, before, end)) in
    subst (λ (i : ℕ). i < length c.args.sent.now) (sym place) its.there

pub loop-index-preserved : goal.loop-index-preserved
loop-index-preserved g c =
    let places = c.in_ok-places.places.items in
    let index = c.loop-index.index in
    let world : WorldData = c.loop-index.world in
    let so = c.loop-index.invariant in
    let before = c.loop-index-test.true in
    let end = c.len-index-end.ensures in
    let count = c.len.ensures in
    let long = c.in_ok-places.ensures.len in
    let within : index < length c.args.all = omega (arith, before, end) in
    let place : c.index.result.now ≡ get_or places index 0 = get_or_read places index c.index.result.now (omega (arith, before, end, count, long)) c.index.ensures 0 in
    let its = found_is c.args.all c.args.sent.now places index c.requires.order c.requires.sent c.in_ok-places.ensures.found within in
    let outcome : c.at.result.now ≡ outcome_of (ran_at c.args.all index) = c.at.ensures ∙ ap (outcome_at c.args.sent.now) place ∙ its.same in
    let next : c.commit_given.new.self ≡ after_commit (ran_at c.args.all index).ready (ran_at c.args.all index).effects world =
    c.in_ok-commit_given.ensures.committed
    ∙ (λ i. after_commit (c.ready.ensures i) (record { list = c.list.ensures i; close = c.close.ensures i }) world)
    ∙ ap (λ (one : Outcome). after_commit (ran_at c.args.all index).ready one.effects world) outcome in
    let less = so.1 in
    let fewer = ap (λ (after : WorldData). after.uncommitted) next in (
      ap (after_commits (drop (index + 1) c.args.all)) next
          ∙ sym (ap (λ (all : List Ran). after_commits all world) (drop_more c.args.all index no_ran within))
          ∙ so.0,
      omega (arith, less, fewer, within),
    )
