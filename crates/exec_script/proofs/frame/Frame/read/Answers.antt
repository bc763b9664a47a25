use Rattle.std.proofs.Common.{get_or, pos, w64, refl, rules}
use mir.Val.{SFits}
use Rattle.exec_script.proofs.Frames.{read_is}
use Rattle.exec_script.proofs.frame.Frame.read.Goals as goal

pub returns : goal.returns
returns c =
    let held : SFits w64 (get_or c.self.inside.values c.place.inside.0 (pos 0)) = search rules in
    read_is c.self.inside.values c.place.inside.0 c.args.place c.args.constant (get_or c.self.inside.values c.place.inside.0 (pos 0)) c.args.self.now c.place.invariant c.self.invariant c.self.view_is c.place.view_is refl held c.ranges.constant c.requires
