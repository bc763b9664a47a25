use Rattle.std.proofs.Common.{ap, sym, ◌∙◌}
use Rattle.exec_stream.proofs.SentOn.{has_put}
use Rattle.exec_stream.specs.Outcomes.{having_put}
use Rattle.exec_stream.specs.Sending.{SenderView}
use Rattle.exec_stream.proofs.sending.Sender.send.Goals as goal

pub returns-in_default : goal.returns-in_default
returns-in_default g c =
    has_put c.args.outcome c.args.self.now _ (c.in_default.ensures.queue.0 ∙ sym c.requires.queue.at) (c.in_default.ensures.put ∙ ap (λ (sender : SenderView). having_put c.args.outcome sender.hand) c.self.view_is)
    (ap (λ (sender : SenderView). sender.kept) c.self.view_is)
