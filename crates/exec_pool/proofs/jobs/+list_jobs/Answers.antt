use Rattle.std.specs.Arc.{arc_value}
use Rattle.std.specs.Prelude.{Ok}
use Rattle.std.proofs.lemmas.Result.{on_ok_weaker}
use Rattle.exec_pool.proofs.Following.{listed_more}
use Rattle.exec_pool.proofs.jobs.+list_jobs.Goals as goal

pub returns-then-count-lt2-clause-follow : goal.returns-then-count-lt2-clause-follow
returns-then-count-lt2-clause-follow t c = λ share follow next.
    listed_more share c.args.jobs.now.items c.push.new.self.items (arc_value c.args.stream.now) (record { stream = c.in_ok-stream.stream; runner = c.args.runner; ended = Ok (record {}) }) c.in_ok-push.ensures.items c.in_ok-stream.ensures.cases follow next

pub returns-clause-may : goal.returns-clause-may
returns-clause-may t c = on_ok_weaker c.list_jobs-2.result (λ more may. more (c.in_ok-list_jobs.ensures.may may)) c.list_jobs-2.ensures.may
