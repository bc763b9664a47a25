-- The upgrade of what was read: which it is, that it is plain, and that it says the same plan.
use Rattle.std.proofs.Common.{◌≡◌, ◌≤◌, false, Option, None, Some, option_map, refl, ap, sym, ◌∙◌, subst, arith}
use Rattle.std.proofs.lemmas.Option.{same_Some}
use Rattle.serde_json.specs.Data.{Data, depth}
use Rattle.serde_json.specs.Read.{max_depth}
use Rattle.serde_json.specs.Written.{has_float}
use Rattle.exec_doc.proofs.Plain.{IsPlain, upgraded_plain}
use Rattle.exec_doc.proofs.SamePlan.{said_by, same_plan}
use Rattle.exec_doc.proofs.Twice.{upgraded_again}
use Rattle.exec_doc.specs.Document.{plan_in}
use Rattle.exec_doc.specs.Draft.{DocumentDraft}
use Rattle.exec_doc.specs.Forms.{draft_of}
use Rattle.exec_doc.specs.Upgrade.{upgraded, upgraded_in}
use Rattle.exec_msg.specs.Options.{◌>>=◌}
use Rattle.exec_plan.proofs.Reading.{then_read}
use Rattle.exec_plan.specs.Plan.{PlanData}
use Rattle.exec_plan.specs.declared.order.Order.{Order}

with_order : (planned : Option PlanData) (under : Order) (value made : Data) → option_map (λ plan. plan.order) planned ≡ Some under → made ≡ upgraded under value
    → (planned >>= (λ plan. Some (upgraded plan.order value))) ≡ Some made
with_order None under value made ordered is = absurd cc
with_order (Some plan) under value made ordered is = rw (is, same_Some plan.order under ordered) refl

-- a value that says a plan of this order has this upgrade
pub upgraded_by : (read : Option Data) (under : Order) (value made : Data) → read ≡ Some value → option_map (λ plan. plan.order) (plan_in read) ≡ Some under → made ≡ upgraded under value
    → upgraded_in read ≡ Some made
upgraded_by read under value made there ordered is =
    rw there (with_order (plan_in (Some value)) under value made (subst (λ (found : Option Data). option_map (λ plan. plan.order) (plan_in found) ≡ Some under) there ordered) is)

drafted_plain : (drafted : Option DocumentDraft) (value : Data) (plan : PlanData) → draft_of value ≡ drafted → said_by drafted ≡ Some plan → IsPlain 7 (upgraded plan.order value)
drafted_plain None value plan is e = absurd cc
drafted_plain (Some draft) value plan is e = upgraded_plain plan.order value draft is

plain : (read : Option Data) (made : Data) → upgraded_in read ≡ Some made → IsPlain 7 made
plain read made e =
    then_read _ read _ made e (λ value there e1.
    then_read _ (plan_in (Some value)) _ made e1 (λ plan says e2.
    subst (IsPlain 7) (same_Some (upgraded plan.order value) made e2) (drafted_plain (draft_of value) value plan refl says)))

-- an upgrade has no float
pub has_no_float : (read : Option Data) (made : Data) → upgraded_in read ≡ Some made → has_float made ≡ false
has_no_float read made e = (plain read made e).floatless

-- an upgrade isn't too deep to be read
pub is_flat : (read : Option Data) (made : Data) → upgraded_in read ≡ Some made → depth made ≤ max_depth
is_flat read made e = omega (arith, (plain read made e).flat)

-- an upgrade says the plan of what was read
pub says_same : (read : Option Data) (made : Data) → upgraded_in read ≡ Some made → plan_in (Some made) ≡ plan_in read
says_same read made e =
    then_read _ read _ made e (λ value there e1.
    then_read _ (plan_in (Some value)) _ made e1 (λ plan says e2.
    ap (λ (some : Data). plan_in (Some some)) (sym (same_Some (upgraded plan.order value) made e2)) ∙ same_plan value plan says ∙ sym says ∙ ap plan_in (sym there)))

-- an upgrade is its own upgrade
pub is_its_own : (read : Option Data) (made : Data) → upgraded_in read ≡ Some made → upgraded_in (Some made) ≡ Some made
is_its_own read made e =
    then_read _ read _ made e (λ value there e1.
    then_read _ (plan_in (Some value)) _ made e1 (λ plan says e2.
    subst (λ (some : Data). upgraded_in (Some some) ≡ Some some) (same_Some (upgraded plan.order value) made e2)
    (rw (same_plan value plan says) (ap (λ (some : Data). Some some) (upgraded_again plan.order value)))))
