use Rattle.std.proofs.Common.{refl, List, length, ap, arith}
use Rattle.std.proofs.lemmas.List.{length-map}
use Rattle.exec_goal.proofs.Tallying.{unexpired-length, tallied-unexpired}
use Rattle.exec_goal.specs.Info.{info_of}
use Rattle.exec_goal.specs.Table.{GoalRecord}
use Rattle.exec_goal.specs.inner.Held.{record_of, records_of}
use Rattle.exec_goal.specs.declared.tally.Tally.{Tally}
use Rattle.exec_goal.proofs.goals.Goals.forget_expired.Goals as goal

pub note_infos-requires : goal.note_infos-requires
note_infos-requires c =
    let goals : List GoalRecord = records_of c.self.inside.held.entries in
    omega (arith, length-map c.keep_unexpired.new.held.entries record_of, ap length c.keep_unexpired.ensures, unexpired-length c.args.moment c.args.timeout goals, ap length c.self.invariant.infos, length-map goals info_of)

pub invariant_of-self : goal.invariant_of-self
invariant_of-self c =
    let goals : List GoalRecord = records_of c.self.inside.held.entries in
    let after : Tally = record c.self.inside.tally { waiting_from = 0; ended_from = 0; infos = c.note_infos.new.infos } in
    tallied-unexpired c.args.moment c.args.timeout c.self.inside.tally after goals (records_of c.keep_unexpired.new.held.entries) c.keep_unexpired.ensures refl refl refl refl c.note_infos.ensures c.self.invariant
