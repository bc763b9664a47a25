use Rattle.exec_doc.proofs.Gathered.{goes_on_by}
use Rattle.exec_doc.proofs.upgrading.keeping.keep_all.Goals as goal

pub loop-name-preserved : goal.loop-name-preserved
loop-name-preserved c =
    goes_on_by c.args.names.now c.loop-name.name-index _ _ _ _ _ _ c.loop-name-test.true c.keep.ensures.left c.in_ok-keep.ensures.kept c.loop-name.invariant
