use Rattle.std.proofs.Common.{◌∙◌, ap, is_some}
use Rattle.exec_graph.specs.inner.Directory.{DirectoryData, number_in}
use Rattle.exec_graph.specs.declared.draft.GraphDraft.{GraphDraft}
use Rattle.exec_graph.specs.Numbers.{topic_named}
use Rattle.exec_plan.specs.declared.entity.parts.Referent.TheVariants as referent
use Rattle.exec_graph.proofs.Assembled.{directory_is, distinct}
use Rattle.exec_graph.proofs.Lookups.{number_same}
use Rattle.exec_graph.proofs.draft.named.NamedGraph.topic_named.Goals as goal

pub returns : goal.returns
returns c =
    let draft : GraphDraft = c.self.inside.draft.now in
    c.is_some.ensures
    ∙ ap is_some (c.number.ensures.number
    ∙ ap (λ (directory : DirectoryData). number_in directory referent.Topic c.args.name.now) (directory_is draft c.self.inside.directory c.self.invariant.0)
    ∙ number_same draft (distinct draft c.self.inside.directory c.self.invariant.0) referent.Topic c.args.name.now)
    ∙ ap (λ (draft : GraphDraft). is_some (topic_named draft c.args.name.now)) c.self.view_is
