use Rattle.exec_doc.proofs.Upgrades.{upgraded_by}
use Rattle.exec_doc.specs.Refusals.{document_value}
use Rattle.exec_doc.proofs.upgrading.upgraded_value.Goals as goal

pub returns-clause-value : goal.returns-clause-value
returns-clause-value c =
    upgraded_by (document_value c.args.document.now) _ _ _ c.in_ok-value.ensures.value c.in_ok-order.ensures.order c.in_ok-upgraded.ensures
