use Rattle.std.proofs.Common.{Bool, List, [], ◌∷◌, Some, None, true, if◌then◌else◌, ap, sym, ◌∙◌}
use Rattle.exec_rules.specs.Ready.{due_ready, ready_for}
use Rattle.exec_rules.specs.World.{TimerEntry}
use Rattle.exec_rules.specs.declared.ready.Cause.TheVariants as cause
use Rattle.exec_rules.specs.declared.ready.Ready.{Ready}
use Rattle.exec_rules.specs.inner.Listing.{listed_behind}
use Rattle.exec_queue.proofs.timer.EntityTimer.take_into.Goals as goal

pub returns-in_ok-push-clause-listed : goal.returns-in_ok-push-clause-listed
returns-in_ok-push-clause-listed c =
    let handler = c.self.inside.handler in
    let one : Ready = ready_for c.args.now handler cause.Due [] (Some handler.script) in
    let due : List Ready = one ∷ [] in
    c.in_ok-push.ensures.listed one (sym (c.listed.ensures ∙ ap (λ (infos : List _). record { ready = ready_for c.args.now handler cause.Due infos None; runs = true }) c.new.ensures))
    ∙ ap (λ (is_due : Bool). listed_behind c.args.list.now (if is_due then due else [])) (sym c.if-due.true ∙ c.due.ensures)
    ∙ ap (λ (entry : TimerEntry). listed_behind c.args.list.now (due_ready c.args.now entry)) c.self.view_is
