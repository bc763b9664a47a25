use Rattle.std.proofs.Common.{◌≡◌, drop}
use Rattle.exec_script.specs.Legality.{skips_end_within}
use Rattle.exec_script.proofs.place.skips_end_within.Given as goal

-- the whole script is in order where what is left of it is
abbrev pub invariant-loop-i : goal.invariant-loop-i
invariant-loop-i l = skips_end_within (drop l.i l.script) ≡ skips_end_within l.script
