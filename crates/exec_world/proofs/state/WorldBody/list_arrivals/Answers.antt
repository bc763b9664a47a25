use Rattle.std.proofs.Common.{◌++◌, map, arith}
use Rattle.std.proofs.lemmas.Grind.{common_steps}
use Rattle.exec_rules.specs.inner.Awake.{poll_at}
use Rattle.exec_rules.specs.inner.Listing.{with_script_of}
use Rattle.exec_world.proofs.InArrival.{listed_so}
use Rattle.exec_world.proofs.state.WorldBody.list_arrivals.Goals as goal

pub returns-clause-arrivals : goal.returns-clause-arrivals
returns-clause-arrivals g c graph =
    listed_so c.args.self.now.order c.args.self.now (map (with_script_of graph) c.args.scratch.now.list ++ map (poll_at c.args.moment) c.args.scratch.now.goals.items) c.sort_arrivals.new.arrivals.items (grind (arith, common_steps))
