use Rattle.exec_stream.proofs.GoingOn.{joined_sent}
use Rattle.exec_stream.proofs.streaming.Runner.join.Goals as goal

pub returns-clause-sent : goal.returns-clause-sent
returns-clause-sent c = joined_sent c.args.self c.args.other (record { pass = c.join-pass.result; sender = c.join-joined.new.self }) c.join-joined.result c.join-pass.ensures.joined c.join-joined.ensures.joined c.join-joined.ensures.kept
