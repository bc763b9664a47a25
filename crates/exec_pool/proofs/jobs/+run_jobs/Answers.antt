use Rattle.exec_pool.proofs.Following.{all_are_one, callers_again, front_follows, last_is_next, posted_ran}
use Rattle.exec_pool.proofs.jobs.+run_jobs.Goals as goal

pub run_jobs-first-requires-clause-follow : goal.run_jobs-first-requires-clause-follow
run_jobs-first-requires-clause-follow g t c κs within =
    let was = c.requires.follow in
    (was.0, (front_follows was.0 c.args.jobs.items c.pop.new.self.items c.in-Some.job c.in-Some.ensures.items was.1).0, was.2)

pub join-requires-clause-next : goal.join-requires-clause-next
join-requires-clause-next g t c =
    last_is_next c.requires.follow.0 c.args.jobs.items c.pop.new.self.items c.in-Some.job c.run_jobs-first.result c.finish-job.result c.in-Some.ensures.items c.requires.follow.1 c.run_jobs-first.ensures.next c.run_jobs-first.ensures.joined
    (posted_ran c.post.new.self c.in-Some.job c.finish-job.result c.post.ensures c.finish-job.ensures.back)

pub returns-clause-next : goal.returns-clause-next
returns-clause-next g t c = λ share follow. (
    all_are_one share c.args.jobs.items c.pop.new.self.items c.in-Some.job c.run_jobs-first.result c.finish-job.result c.join.result c.in-Some.ensures.items follow c.run_jobs-first.ensures.next c.run_jobs-first.ensures.joined
    (posted_ran c.post.new.self c.in-Some.job c.finish-job.result c.post.ensures c.finish-job.ensures.back) c.join.ensures.joined
    ).next

pub returns-clause-joined : goal.returns-clause-joined
returns-clause-joined g t c = λ share follow. (
    all_are_one share c.args.jobs.items c.pop.new.self.items c.in-Some.job c.run_jobs-first.result c.finish-job.result c.join.result c.in-Some.ensures.items follow c.run_jobs-first.ensures.next c.run_jobs-first.ensures.joined
    (posted_ran c.post.new.self c.in-Some.job c.finish-job.result c.post.ensures c.finish-job.ensures.back) c.join.ensures.joined
    ).same

pub returns-clause-callers : goal.returns-clause-callers
returns-clause-callers g t c =
    callers_again c.args.callers.now.items c.pop-2.new.self.items c.run_jobs-first.new.callers.items c.push_reserved.new.self.items c.in-Some-pop.caller c.finish-job.new.self
    c.in-Some-pop.ensures.items c.requires.idle c.run_jobs-first.ensures.callers c.finish-job.ensures.home c.push_reserved.ensures.items
