use Rattle.std.proofs.Common.{◌++◌, List, length, ap, ◌∙◌}
use Rattle.std.specs.List.{flat_map}
use Rattle.std.proofs.lemmas.List.{take_all}
use Rattle.exec_msg.specs.declared.line.Line.{Line}
use Rattle.exec_entity.proofs.Closings.{lines_more}
use Rattle.exec_rules.specs.Transcript.{pending_by}
use Rattle.exec_rules.specs.World.{ClientEntry}
use Rattle.exec_world.specs.inner.Mail.{MailState}
use Rattle.exec_world.proofs.state.round.add_pending.Goals as goal

pub loop-client-preserved : goal.loop-client-preserved
loop-client-preserved g c =
    let lines_of = λ (entry : ClientEntry). pending_by entry.entity (length entry.pending) in
    c.in_ok-add_pending_of.ensures
    ∙ ap (λ (mail : MailState). record mail { lines = mail.lines ++ lines_of c.client-item.result }) c.loop-client.invariant
    ∙ ap (λ (lines : List Line). record c.args.mail.now { lines = lines }) (lines_more lines_of c.args.mail.now.lines c.args.clients.now c.loop-client.client-index c.client-item.result c.loop-client-test.true c.client-item.is)

pub returns : goal.returns
returns g c =
    c.loop-client.invariant
    ∙ ap (λ (all : List ClientEntry). record c.args.mail.now { lines = c.args.mail.now.lines ++ flat_map (λ (entry : ClientEntry). pending_by entry.entity (length entry.pending)) all })
    (take_all c.loop-client.client-index c.args.clients.now c.loop-client-test.false)
