use Rattle.std.proofs.Common.{◌≡◌, ◌∙◌, None, sym, subst}
use Rattle.std.specs.List.{list_all}
use Rattle.exec_plan.specs.Feeding.{has_128_bits}
use Rattle.exec_plan.specs.Lawful.{IsLawful}
use Rattle.exec_plan.specs.Schedule.{plan_fault_in}
use Rattle.exec_plan.proofs.Reading.{nothing_else}
use Rattle.exec_plan.proofs.Scheduled.{plan_lawful}
use Rattle.exec_plan.proofs.plan.Plan.new.Goals as goal

pub invariant_of-result : goal.invariant_of-result
invariant_of-result c =
    let none = nothing_else c.fault_of.result c.in_default.not-Some in
    let faultless : plan_fault_in c.args.moments.items c.args.feed.items ≡ None =
    sym (λ i. plan_fault_in (c.deref.ensures.value i) (c.deref-2.ensures.value i)) ∙ sym c.fault_of.ensures.fault ∙ none in
    let bits = sym (λ i. list_all (λ entry. has_128_bits entry.fed) (c.deref-2.ensures.value i)) ∙ c.fault_of.ensures.bits none in
    plan_lawful c.args.graph c.args.order c.args.moments.items c.args.feed.items (subst IsLawful c.graph.view_is c.graph.invariant.0) c.requires bits faultless
