use Rattle.std.proofs.Common.{List, map, ap, ◌∙◌}
use Rattle.std.proofs.lemmas.List.{take_all}
use Rattle.exec_rules.proofs.PolledAlike.{run_more}
use Rattle.exec_rules.specs.Run.{run}
use Rattle.exec_rules.specs.Transcript.{run_all}
use Rattle.exec_rules.specs.World.{WorldState}
use Rattle.exec_rules.specs.declared.listed.Listed.{Listed}
use Rattle.exec_rules.specs.inner.Listing.{with_script_of}
use Rattle.exec_world.proofs.state.WorldBody.run_each.Goals as goal

pub loop-listed-preserved : goal.loop-listed-preserved
loop-listed-preserved g c =
    c.in_ok-run_listed_callback.ensures
    ∙ ap (λ (world : WorldState). run (with_script_of c.args.graph.now c.listed-item.result) world) c.loop-listed.invariant
    ∙ run_more (with_script_of c.args.graph.now) c.args.list.now c.loop-listed.listed-index c.listed-item.result c.args.self.now c.loop-listed-test.true c.listed-item.is

pub returns : goal.returns
returns g c =
    c.loop-listed.invariant
    ∙ ap (λ (all : List Listed). run_all (map (with_script_of c.args.graph.now) all) c.args.self.now) (take_all c.loop-listed.listed-index c.args.list.now c.loop-listed-test.false)
