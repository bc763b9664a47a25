-- What a world's calls answer that came to nothing.
use Rattle.std.specs.Prelude.{◌≡◌, ℕ, true, false}
use Rattle.exec_rules.specs.Calls.{WorldData}
use Rattle.exec_world.specs.declared.fault.WorldFault.{WorldFault}
use Rattle.exec_world.specs.declared.fault.WorldFault.TheVariants as fault

-- what a call answers that came to nothing: a failed world says so and is left as it was, and one that is refused memory has
-- failed from then on
abbrev pub HasFailed : WorldFault → WorldData → WorldData → Type 0
HasFailed fault.Memory before after = (before.failed ≡ false) × (after.failed ≡ true)
HasFailed fault.Failed before after = (before.failed ≡ true) × (after ≡ before)

-- the number of a fault
abbrev pub world_fault_number : WorldFault → ℕ
world_fault_number fault.Memory = 1
world_fault_number fault.Failed = 2
