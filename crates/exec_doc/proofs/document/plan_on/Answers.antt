use Rattle.std.proofs.Common.{inr, ap, sym, false, is_some, nat_le, ◌≡◌, ◌∙◌}
use Rattle.std.specs.List.{list_all}
use Rattle.std.proofs.lemmas.Result.{err_from_is_err_and}
use Rattle.exec_doc.specs.Document.{plan_of}
use Rattle.exec_msg.specs.declared.limits.TheConstants.{TICKS}
use Rattle.exec_doc.proofs.Placed.{goes_all}
use Rattle.exec_doc.proofs.Ready.{with_moments, ready_there, ready_limit, ready_fault, ready_plan, ready_id, ready_cancels, by_name}
use Rattle.exec_doc.proofs.Refusing.{there_where, only_there}
use Rattle.exec_doc.proofs.document.plan_on.Goals as goal

pub returns-in_err-feed : goal.returns-in_err-feed
returns-in_err-feed c = λ document ready under.
    let p = err_from_is_err_and c.from_residual.result c.from_residual.ensures.1 in
    rw (p.1, p.2) (by_name _ (plan_of document) _ c.in_err-feed.ensures.refused (λ none. ready_there document _ _ _ ready none))

pub returns-in_default : goal.returns-in_default
returns-in_default c = λ document ready under.
    let late : list_all (λ moment. nat_le moment TICKS) c.args.moments.now ≡ false = sym (there_where _ _ _ _ c.in_ok-moments.ensures.moments) ∙ ap is_some c.in_default.is in
    inr (ready_limit document _ _ _ _ ready c.in_ok-feed.ensures.feed late)

pub returns-in_err-plan : goal.returns-in_err-plan
returns-in_err-plan c = λ document ready under.
    let p = err_from_is_err_and c.from_residual-in_err-plan.result c.from_residual-in_err-plan.ensures.1 in
    let same : c.args.moments.now ≡ c.in-Some.moments.items = only_there _ _ _ _ _ c.in_ok-moments.ensures.moments c.in-Some.is in
    rw (p.1, p.2) (inr (ready_fault document _ _ _ _ _ (with_moments document _ _ _ _ same ready) c.in_ok-feed.ensures.feed c.in_err-plan.ensures.fault))

pub returns-then-are_cancels_identified : goal.returns-then-are_cancels_identified
returns-then-are_cancels_identified c = λ document ready under.
    let same : c.args.moments.now ≡ c.in-Some.moments.items = only_there _ _ _ _ _ c.in_ok-moments.ensures.moments c.in-Some.is in
    ready_plan document _ _ _ _ _ _ (with_moments document _ _ _ _ same ready) c.in_ok-feed.ensures.feed under c.in_ok-plan.ensures.plan.0 c.in_ok-plan.ensures.plan.1 (ready_cancels c.args.graph c.in-Some.moments.items c.args.entries.now c.in_ok-feed.feed.items c.in_ok-feed.ensures.feed c.in_ok-plan.ensures.plan.0 ∙ sym c.are_cancels_identified.ensures ∙ c.if-are_cancels_identified.true)

pub returns-else-are_cancels_identified : goal.returns-else-are_cancels_identified
returns-else-are_cancels_identified c = λ document ready under.
    let same : c.args.moments.now ≡ c.in-Some.moments.items = only_there _ _ _ _ _ c.in_ok-moments.ensures.moments c.in-Some.is in
    inr (ready_id document _ _ _ _ (with_moments document _ _ _ _ same ready) c.in_ok-feed.ensures.feed c.in_ok-plan.ensures.plan.0 (ready_cancels c.args.graph c.in-Some.moments.items c.args.entries.now c.in_ok-feed.feed.items c.in_ok-feed.ensures.feed c.in_ok-plan.ensures.plan.0 ∙ sym c.are_cancels_identified.ensures ∙ c.if-are_cancels_identified.false))

pub new-requires : goal.new-requires
new-requires c = goes_all c.args.graph _ _ c.in_ok-feed.ensures.feed
