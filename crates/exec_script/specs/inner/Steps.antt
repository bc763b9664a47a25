-- Steps of a script, one at a time.
use Rattle.std.specs.Prelude.{◌<◌, ⊤}
use Rattle.exec_msg.specs.Numbers.{Ticks}
use Rattle.exec_script.specs.declared.step.Step.{Step}
use Rattle.exec_script.specs.declared.step.Step.TheVariants as step

-- a step that waits does so for fewer ticks than a bound
abbrev pub PausesWithin : Ticks → Step → Type 0
PausesWithin bound (step.Wait ticks) = ticks < bound
PausesWithin bound _ = ⊤
