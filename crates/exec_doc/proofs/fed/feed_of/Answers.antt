use Rattle.std.proofs.Common.{List, ap, sym, ◌∙◌, ◌++◌, Some}
use Rattle.std.proofs.lemmas.List.{drop_all, append-nil}
use Rattle.exec_doc.specs.inner.Placing.{entry_by}
use Rattle.exec_doc.specs.Draft.{EntryDraft}
use Rattle.exec_msg.specs.Options.{◌>>=◌, each}
use Rattle.exec_plan.specs.Plan.{Feed}
use Rattle.exec_doc.proofs.Placed.{goes}
use Rattle.exec_doc.proofs.fed.feed_of.Goals as goal

pub returns-clause-goes : goal.returns-clause-goes
returns-clause-goes c =
    goes c.args.graph.now c.args.entries.now c.loop-entry.feed.items
    (sym c.loop-entry.invariant
    ∙ ap (λ (entries : List EntryDraft). each (entry_by c.args.graph.now) entries >>= (λ rest. Some (c.loop-entry.feed.items ++ rest))) (drop_all c.loop-entry.entry-index c.args.entries.now c.loop-entry-test.false)
    ∙ ap (λ (feed : List Feed). Some feed) (append-nil c.loop-entry.feed.items))
