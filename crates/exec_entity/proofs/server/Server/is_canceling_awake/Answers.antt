use Rattle.std.proofs.Common.{ap, sym, ◌∙◌, true, arith}
use Rattle.std.specs.Prelude.{slice_index_or}
use Rattle.exec_rules.specs.Ready.{turn_at}
use Rattle.exec_task.specs.Task.{is_awake}
use Rattle.exec_rules.specs.World.{GoalWork, ServerEntry}
use Rattle.std.proofs.lemmas.List.{length-map}
use Rattle.exec_entity.proofs.Joined.{length-kept}
use Rattle.exec_entity.specs.inner.Server.{kept_of}
use Rattle.exec_entity.proofs.Wakes.{work-there}
use Rattle.exec_entity.proofs.server.Server.is_canceling_awake.Goals as goal

pub unwrap-entry-requires : goal.unwrap-entry-requires
unwrap-entry-requires c = c.get_index.ensures.found.1 (omega (arith, c.requires, length-kept c.self.invariant.0 c.self.view_is, length-map c.self.inside.held.entries kept_of))

pub returns : goal.returns
returns c = λ d.
    let there = rw c.unwrap-entry.ensures at c.get_index.ensures.entry in
    c.is_any_awake.ensures
    ∙ sym (ap (λ (work : GoalWork). is_awake work.task (turn_at c.args.moment true))
    (ap (λ (server : ServerEntry). (slice_index_or server.held c.args.index d).work) (sym c.self.view_is) ∙ work-there c.self.inside.goals c.self.inside.held.entries c.args.index _ d c.self.invariant.0.same there))
