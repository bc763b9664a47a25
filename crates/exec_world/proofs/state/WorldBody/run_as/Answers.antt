use Rattle.std.proofs.Common.{◌∙◌}
use Rattle.std.proofs.lemmas.Result.{on_ok_weaker}
use Rattle.exec_world.proofs.Committed.{committed}
use Rattle.exec_world.proofs.state.WorldBody.run_as.Goals as goal

pub returns : goal.returns
returns g c =
    on_ok_weaker c.commit_as.result (λ given. given
    ∙ committed _ c.args.self.now c.run_apart.new.state c.as_slice.result.now c.in_ok-close.close
    (c.as_slice.ensures ∙ c.in_ok-close.ensures.effects) c.in_ok-close.ensures.close c.in_ok-close.ensures.home)
    c.commit_as.ensures
