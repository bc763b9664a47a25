use Rattle.std.proofs.Common.{subst}
use Rattle.std.specs.Arc.{arc_value}
use Rattle.exec_pool.proofs.Following.{before_all, begins_list, whole_again}
use Rattle.exec_stream.specs.Sending.{queue_id}
use Rattle.exec_stream.specs.Streams.{IsRunnerAt}
use Rattle.exec_stream.specs.declared.streaming.StreamedRound.{StreamedRound}
use Rattle.exec_pool.proofs.pool.Pool.run.Goals as goal

pub run_jobs-runner-requires-clause-follow : goal.run_jobs-runner-requires-clause-follow
run_jobs-runner-requires-clause-follow g c κs within =
    let stream = arc_value c.args.stream.now in
    let before = begins_list stream c.args.runner c.new-jobs.result.items c.new-jobs.ensures.items in
    (before_all stream c.args.runner, (c.in_ok-list_jobs.ensures.follow (before_all stream c.args.runner) before.0 before.1).0, c.requires.collector)

pub returns-clause-at : goal.returns-clause-at
returns-clause-at g c =
    let stream = arc_value c.args.stream.now in
    let before = begins_list stream c.args.runner c.new-jobs.result.items c.new-jobs.ensures.items in
    let listed = c.in_ok-list_jobs.ensures.follow (before_all stream c.args.runner) before.0 before.1 in
    let next = c.run_jobs-runner.ensures.next (before_all stream c.args.runner) listed.0 in
    subst (λ (s : StreamedRound). IsRunnerAt s.board (queue_id s.queue) c.run_jobs-runner.result.runner) next.stream c.run_jobs-runner.ensures.may.at

pub returns-clause-share : goal.returns-clause-share
returns-clause-share g c =
    let stream = arc_value c.args.stream.now in
    let before = begins_list stream c.args.runner c.new-jobs.result.items c.new-jobs.ensures.items in
    let listed = c.in_ok-list_jobs.ensures.follow (before_all stream c.args.runner) before.0 before.1 in
    whole_again stream c.args.runner c.new-jobs.result.items c.list_jobs.new.jobs.items c.run_jobs-runner.result c.new-jobs.ensures.items c.run_jobs-runner.ensures.may
    (record { next = c.run_jobs-runner.ensures.next (before_all stream c.args.runner) listed.0; same = c.run_jobs-runner.ensures.joined (before_all stream c.args.runner) listed.0 }) listed.1
