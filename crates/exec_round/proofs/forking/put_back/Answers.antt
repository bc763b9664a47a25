use Rattle.std.proofs.Common.{[], ◌∷◌, map, option_to_list, reverse, refl, ap, sym, ◌∙◌}
use Rattle.std.proofs.lemmas.List.{reverse-append}
use Rattle.exec_round.specs.inner.Shares.{put_back}
use Rattle.exec_round.proofs.Dealing.{puts_next}
use Rattle.exec_round.proofs.forking.put_back.Goals as goal

pub loop-left-preserved-in-Continue-1 : goal.loop-left-preserved-in-Continue-1
loop-left-preserved-in-Continue-1 c =
    let on = c.loop-left.invariant in (
      puts_next c.len-count.result c.loop-left.left (map (λ share. share.items) c.loop-left.shares.items) (map (λ share. share.items) c.take_last.new.shares.items) (c.in-Some.lane ∷ []) c.loop-left.lanes.items c.push.new.self.items
          (put_back c.len-count.result c.args.number (map (λ share. share.items) c.args.shares.items)) c.loop-left-test.true c.take_last.ensures.left
          (ap option_to_list (sym c.in-Some.is) ∙ c.take_last.ensures.last) (ap reverse c.in_ok-push.ensures.items ∙ reverse-append c.loop-left.lanes.items (c.in-Some.lane ∷ [])) on.0,
      c.take_last.ensures.len ∙ on.1,
    )

pub loop-left-preserved : goal.loop-left-preserved
loop-left-preserved c =
    let on = c.loop-left.invariant in (
      puts_next c.len-count.result c.loop-left.left (map (λ share. share.items) c.loop-left.shares.items) (map (λ share. share.items) c.take_last.new.shares.items) [] c.loop-left.lanes.items c.loop-left.lanes.items
          (put_back c.len-count.result c.args.number (map (λ share. share.items) c.args.shares.items)) c.loop-left-test.true c.take_last.ensures.left
          (ap option_to_list (sym c.in_default.is) ∙ c.take_last.ensures.last) refl on.0,
      c.take_last.ensures.len ∙ on.1,
    )
