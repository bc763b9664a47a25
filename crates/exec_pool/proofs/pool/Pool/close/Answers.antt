use Rattle.std.proofs.Common.{subst}
use Rattle.exec_pool.proofs.Following.{AreIdle, front_idle, last_idle}
use Rattle.exec_pool.proofs.pool.Pool.close.Goals as goal

pub loop-caller-init : goal.loop-caller-init
loop-caller-init c = c.args.self.idle

pub close-requires : goal.close-requires
close-requires c = last_idle c.pop.new.self.items c.in-Some.caller (subst AreIdle c.in-Some.ensures.items c.loop-caller.invariant)

pub loop-caller-preserved : goal.loop-caller-preserved
loop-caller-preserved c = front_idle c.pop.new.self.items c.in-Some.caller (subst AreIdle c.in-Some.ensures.items c.loop-caller.invariant)
