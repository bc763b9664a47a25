-- What holds of an outcome, and more because of it.
use Rattle.std.proofs.Common.{Result, Ok, Err}
use Rattle.std.specs.Prelude.{IfOk, OnErr, OnOk}

pub if_ok : {A E : Type 0} (outcome : Result A E) {P Q : A → Type 0} → ((value : A) → P value → Q value) → IfOk outcome P → IfOk outcome Q
if_ok (Ok value) so held = so value held
if_ok (Err _) so held = tt

pub on_ok : {A E P Q : Type 0} (outcome : Result A E) → (P → Q) → OnOk outcome P → OnOk outcome Q
on_ok (Ok _) so held = so held
on_ok (Err _) so held = tt

pub on_err : {A E P Q : Type 0} (outcome : Result A E) → (P → Q) → OnErr outcome P → OnErr outcome Q
on_err (Ok _) so held = tt
on_err (Err _) so held = so held
