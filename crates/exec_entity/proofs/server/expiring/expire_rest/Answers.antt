use Rattle.std.proofs.Common.{◌∙◌, ◌++◌, List, ap, sym}
use Rattle.std.proofs.lemmas.List.{append-nil}
use Rattle.exec_entity.proofs.Expiring.{no_lines}
use Rattle.exec_msg.specs.declared.line.Line.{Line}
use Rattle.exec_entity.proofs.server.expiring.expire_rest.Goals as goal

pub returns-then-not-has_expired-clause-server : goal.returns-then-not-has_expired-clause-server
returns-then-not-has_expired-clause-server g c = c.has_expired.ensures.same ∙ sym (c.has_expired.ensures.settled c.if-not-has_expired.true)

pub returns-then-not-has_expired-clause-lines : goal.returns-then-not-has_expired-clause-lines
returns-then-not-has_expired-clause-lines g c =
    let none = no_lines c.args.moment c.args.server.now (sym c.has_expired.ensures.found ∙ c.if-not-has_expired.true) in
    sym (append-nil (g.L.Lines.lines c.args.lines.now)) ∙ ap (λ (more : List Line). g.L.Lines.lines c.args.lines.now ++ more) (sym none)
