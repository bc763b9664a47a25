-- The variables of callback groups, lent.
use Rattle.std.specs.Prelude.{List, Bool}
use Rattle.std.specs.Borrow.{Lends, MutBor, Fml}
use Rattle.exec_plan.specs.Graph.{GroupNo}
use Rattle.exec_script.specs.Script.{Variables}
use Rattle.exec_script.specs.contracts.cells.Bank.{the_row as bank_row}
use Rattle.exec_world.specs.contracts.banks.Banks.{the_row}
use Rattle.exec_world.specs.inner.Banks.{left_by}

-- they end with what was left
abbrev pub LendsBank : MutBor (List Variables) → Bool → GroupNo → MutBor Variables → Fml
LendsBank banks exclusive group result = Lends the_row bank_row banks result (λ (left : Variables). left_by exclusive group left banks.now)
