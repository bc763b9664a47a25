-- What a callback did, copied.
use Rattle.std.specs.Prelude.{List, []}
use Rattle.exec_lane.specs.declared.outcome.Few.{Few}
use Rattle.exec_lane.specs.declared.outcome.Few.TheVariants as few
use Rattle.exec_script.specs.declared.effects.Effect.{Effect}

abbrev pub effects_in : Few → List Effect
effects_in few.None = []
effects_in (few.One effects) = effects
effects_in (few.Two effects) = effects
effects_in (few.Many effects) = effects.items
