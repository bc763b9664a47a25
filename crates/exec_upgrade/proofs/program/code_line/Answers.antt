use Rattle.std.proofs.Common.{refl}
use Rattle.std.specs.Fmt.{digits}
use Rattle.exec_upgrade.proofs.program.code_line.Goals as goal

pub returns-in-NotJson : goal.returns-in-NotJson
unfolding digits
returns-in-NotJson c = rw c.in-NotJson.is refl

pub returns-in-Shape : goal.returns-in-Shape
unfolding digits
returns-in-Shape c = rw c.in-Shape.is refl

pub returns-in-Version : goal.returns-in-Version
unfolding digits
returns-in-Version c = rw c.in-Version.is refl

pub returns-in-Name : goal.returns-in-Name
unfolding digits
returns-in-Name c = rw c.in-Name.is refl

pub returns-in-Limit : goal.returns-in-Limit
unfolding digits
returns-in-Limit c = rw c.in-Limit.is refl

pub returns-in-Script : goal.returns-in-Script
unfolding digits
returns-in-Script c = rw c.in-Script.is refl

pub returns-in-GroupVariable : goal.returns-in-GroupVariable
unfolding digits
returns-in-GroupVariable c = rw c.in-GroupVariable.is refl

pub returns-in-Clock : goal.returns-in-Clock
unfolding digits
returns-in-Clock c = rw c.in-Clock.is refl

pub returns-in-Id : goal.returns-in-Id
unfolding digits
returns-in-Id c = rw c.in-Id.is refl

pub returns-in-Memory : goal.returns-in-Memory
unfolding digits
returns-in-Memory c = rw c.in-Memory.is refl
