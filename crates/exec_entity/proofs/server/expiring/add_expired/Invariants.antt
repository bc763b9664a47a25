use Rattle.std.proofs.Common.{◌≡◌, ◌++◌, map, drop}
use Rattle.std.specs.List.{filter}
use Rattle.exec_goal.specs.Table.{GoalRecord, is_expired}
use Rattle.exec_msg.specs.declared.line.Line.TheVariants as line
use Rattle.exec_rules.specs.Transcript.{expire_lines}
use Rattle.exec_rules.specs.World.{records_of}
use Rattle.exec_entity.proofs.server.expiring.add_expired.Given as goal

-- the lines so far, with those of the goals from here on, are all
abbrev pub invariant-loop-index : goal.invariant-loop-index
invariant-loop-index g l =
    g.L.Lines.lines l.lines ++ map (λ (goal : GoalRecord). line.Expire l.server.handler.entity goal.id) (filter (is_expired l.moment l.server.timeout) (drop l.index (records_of l.server.held)))
    ≡ g.L.Lines.lines l.initial.lines ++ expire_lines l.moment l.server
