use Rattle.std.proofs.Common.{◌≡◌, ap, rules}
use Rattle.exec_entity.proofs.Joined.{goals-now}
use Rattle.exec_rules.specs.World.{has_room_for, records_of}
use Rattle.exec_entity.proofs.server.Server.has_room_for.Goals as goal

pub returns : goal.returns
returns c =
    let same : has_room_for c.args.id c.self.inside.goals ≡ has_room_for c.args.id (records_of c.args.self.now.held) = ap (has_room_for c.args.id) (goals-now c.self.invariant.0 c.self.view_is) in
    search (rules, same)
