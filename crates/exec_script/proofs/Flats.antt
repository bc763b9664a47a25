-- Instructions and their flat forms.
use Rattle.std.proofs.Common.{◌≡◌, ℕ, ◌%◌, ℤ, pos, [], ◌∷◌, get_or, of_z, to_z, w64, refl, sym, ap, ◌∙◌, subst, arith}
use Rattle.std.proofs.Math.Facts.{sfits_to_z}
use Rattle.std.proofs.lemmas.Int.{to_z-of_z}
use mir.Val.{SFits}
use Rattle.exec_script.specs.Script.{result_of}
use Rattle.exec_script.specs.declared.instr.Operation.{Operation}
use Rattle.exec_script.specs.declared.instr.Operation.TheVariants as operation
use Rattle.exec_script.specs.inner.Flat.{operation_number}
use Rattle.exec_script.specs.declared.instr.Operand.{Operand}
use Rattle.exec_script.specs.declared.instr.Operand.TheVariants as operand
use Rattle.exec_script.specs.inner.Cells.{cell_operand, cell_of, constant_of}

-- an operand is its cell and its constant
pub operand_is : (o : Operand) → cell_operand (cell_of o) (constant_of o) ≡ o
operand_is (operand.Value value) = refl
operand_is (operand.Register slot) = refl
operand_is (operand.Variable slot) = refl
operand_is operand.In = refl
operand_is operand.Aux = refl
operand_is operand.Now = refl

-- a result as it comes to stand among all
pub stored_is : (does : Operation) (left right found : ℤ) → SFits w64 left → SFits w64 right → SFits w64 found → found ≡ result_of does (to_z w64 (of_z w64 left)) (to_z w64 (of_z w64 right)) → to_z w64 (of_z w64 found) ≡ result_of does left right
stored_is does left right found l r f h =
    to_z-of_z w64 found f ∙ h
    ∙ ap (λ (x : ℤ). result_of does x (to_z w64 (of_z w64 right))) (to_z-of_z w64 left l)
    ∙ ap (result_of does left) (to_z-of_z w64 right r)

pub stored_fits : (x : ℤ) → SFits w64 x → SFits w64 (to_z w64 (of_z w64 x))
stored_fits x h = subst (SFits w64) (sym (to_z-of_z w64 x h)) h

pub remainder_fits : (n : ℕ) → SFits w64 (to_z w64 (n % 18446744073709551616))
remainder_fits n = sfits_to_z (omega arith)

-- of all results, the one at an operation's place is its own
pub picked_is : (does : Operation) (left right sum difference product least most less equal : ℤ) (place : ℕ) → place ≡ operation_number does →
    SFits w64 sum → SFits w64 difference → SFits w64 product → SFits w64 least → SFits w64 most → SFits w64 less → SFits w64 equal →
    sum ≡ result_of operation.Add left right → difference ≡ result_of operation.Sub left right → product ≡ result_of operation.Mul left right → least ≡ result_of operation.Min left right → most ≡ result_of operation.Max left right → less ≡ result_of operation.Lt left right → equal ≡ result_of operation.Eq left right →
    to_z w64 (of_z w64 (get_or (sum ∷ difference ∷ product ∷ least ∷ most ∷ less ∷ equal ∷ []) place (pos 0))) ≡ result_of does left right
picked_is does left right sum difference product least most less equal place h fa fb fc fd fe ff fg a b c d e f g =
    ap (λ (n : ℕ). to_z w64 (of_z w64 (get_or (sum ∷ difference ∷ product ∷ least ∷ most ∷ less ∷ equal ∷ []) n (pos 0)))) h ∙ own does
  where
    own : (does : Operation) → to_z w64 (of_z w64 (get_or (sum ∷ difference ∷ product ∷ least ∷ most ∷ less ∷ equal ∷ []) (operation_number does) (pos 0))) ≡ result_of does left right
    own operation.Add = to_z-of_z w64 sum fa ∙ a
    own operation.Sub = to_z-of_z w64 difference fb ∙ b
    own operation.Mul = to_z-of_z w64 product fc ∙ c
    own operation.Min = to_z-of_z w64 least fd ∙ d
    own operation.Max = to_z-of_z w64 most fe ∙ e
    own operation.Lt = to_z-of_z w64 less ff ∙ f
    own operation.Eq = to_z-of_z w64 equal fg ∙ g
