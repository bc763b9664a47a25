use Rattle.std.proofs.Common.{◌+◌, List, [], ◌∷◌, ◌++◌, length, ap, ◌∙◌}
use Rattle.exec_rules.specs.declared.ready.Ready.{Ready}
use Rattle.exec_rules.specs.inner.Listing.{positioned, with_script_of}
use Rattle.exec_world.proofs.Arranged.{behind_next}
use Rattle.exec_world.proofs.scripts.push_listed.Goals as goal

pub loop-listed-preserved : goal.loop-listed-preserved
loop-listed-preserved c =
    c.in_ok-push.ensures.items
    ∙ ap (λ (one : Ready). c.loop-listed.all.items ++ one ∷ [])
    (c.in_ok-with_script.ensures ∙ ap (λ (some : List Ready). positioned (length some + 1) (with_script_of c.args.graph.now c.listed-item.result)) c.as_slice.ensures.value)
    ∙ behind_next (with_script_of c.args.graph.now) c.args.list.now c.loop-listed.listed-index c.listed-item.result c.args.all.now.items c.loop-listed.all.items c.loop-listed-test.true c.listed-item.is c.loop-listed.invariant
