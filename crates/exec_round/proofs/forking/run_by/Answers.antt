use Rattle.std.proofs.Common.{◌<◌, length, map, ap, ◌∙◌, arith}
use Rattle.std.proofs.lemmas.Result.{IfOk-weaker}
use Rattle.exec_round.proofs.Dealing.{back_same}
use Rattle.exec_round.specs.inner.Running.{AreRun, as_left, as_wanted}
use Rattle.exec_round.specs.inner.Shares.{put_back}
use Rattle.exec_round.proofs.forking.run_by.Goals as goal

pub returns : goal.returns
returns g c =
    let more = c.if-count-lt2.false in
    let some : 0 < c.min-count.result = omega (arith, more) in
    IfOk-weaker c.put_back.result _ (λ ran. AreRun c.args.lanes.items ran.items)
    (λ ran is.
    ap (map as_left) is
    ∙ ap (λ count. map as_left (put_back count (length c.as_slice-number.result.now) (map (λ share. share.items) c.run_shares.new.shares.items))) (c.run_shares.ensures.len ∙ c.in_ok-shares.ensures.len)
    ∙ back_same (λ share. share.items) as_left as_wanted c.min-count.result (length c.as_slice-number.result.now) c.in_ok-shares.shares.items c.run_shares.new.shares.items c.args.lanes.items some
    (ap length c.as_slice-number.ensures.value) c.in_ok-shares.ensures.dealt c.run_shares.ensures.run)
    c.put_back.ensures
