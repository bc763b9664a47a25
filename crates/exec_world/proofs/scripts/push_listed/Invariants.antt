use Rattle.std.proofs.Common.{◌≡◌, map, take}
use Rattle.exec_rules.specs.inner.Listing.{with_script_of}
use Rattle.exec_world.specs.inner.Snapshots.{placed_behind}
use Rattle.exec_world.proofs.scripts.push_listed.Given as goal

-- those so far are at their places
abbrev pub invariant-loop-listed : goal.invariant-loop-listed
invariant-loop-listed l = l.all.items ≡ placed_behind l.fn.all.items (map (with_script_of l.graph) (take l.listed-index l.list))
