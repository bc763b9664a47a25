use Rattle.std.proofs.Common.{◌≡◌, ◌∙◌, None, Some, List, length, not, refl, ap, sym, arith}
use Rattle.std.proofs.lemmas.List.{length-map}
use Rattle.std.proofs.lemmas.List.Filters.{length-filter_both}
use Rattle.exec_entity.proofs.Expiring.{lasting-in, settled, kept-filtered, forgotten}
use Rattle.exec_goal.specs.Table.{holds_id, is_expired}
use Rattle.exec_rules.specs.World.{ServerEntry, records_of}
use Rattle.exec_entity.specs.inner.Server.{Kept, all_kept, kept_of}
use Rattle.exec_task.specs.Waking.{wake_of}
use Rattle.exec_rules.specs.Transcript.{server_expired}
use Rattle.exec_entity.proofs.server.Server.forget_expired.Goals as goal

pub returns-in_default : goal.returns-in_default
returns-in_default c =
    let none : c.args.self.now.timeout ≡ None = sym (ap (λ (server : ServerEntry). server.timeout) c.self.view_is) ∙ c.in_default.is in
    sym (settled c.args.moment c.args.self.now (lasting-in c.args.moment c.args.self.now.timeout (records_of c.args.self.now.held) none))

pub note_wakes-requires : goal.note_wakes-requires
note_wakes-requires c =
    let kept : List Kept = all_kept c.self.inside.held.entries in
    omega (arith, length-map c.keep_held.new.held.entries kept_of, ap length c.keep_held.ensures, length-filter_both (λ (one : Kept). holds_id one.id c.forget_expired.new.self) (λ one. not (holds_id one.id c.forget_expired.new.self)) (λ one. refl) kept, ap length c.self.invariant.1, length-map kept (λ (one : Kept). wake_of one.work.task))

pub invariant_of-self : goal.invariant_of-self
invariant_of-self c =
    let gone = is_expired c.args.moment (Some c.in-Some.timeout) in (
      kept-filtered (λ goal. not (gone goal)) c.self.inside.goals c.forget_expired.new.self (all_kept c.self.inside.held.entries) (all_kept c.keep_held.new.held.entries)
          c.forget_expired.ensures c.keep_held.ensures c.self.invariant.0,
      c.note_wakes.ensures,
    )

pub returns : goal.returns
returns c =
    forgotten c.args.moment c.self.inside.handler c.self.inside.timeout c.self.inside.goals c.forget_expired.new.self (all_kept c.self.inside.held.entries) (all_kept c.keep_held.new.held.entries)
    c.in-Some.timeout c.in-Some.is c.forget_expired.ensures c.keep_held.ensures c.self.invariant.0
    ∙ ap (server_expired c.args.moment) c.self.view_is
