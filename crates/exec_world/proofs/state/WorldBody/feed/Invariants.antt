use Rattle.std.proofs.Common.{◌≡◌, take}
use Rattle.exec_rules.specs.Transcript.{feed}
use Rattle.exec_world.proofs.state.WorldBody.feed.Given as goal

-- the entries so far are fed
abbrev pub invariant-loop-entry : goal.invariant-loop-entry
invariant-loop-entry g l = l.self ≡ feed (take l.entry-index l.entries) l.initial.self
