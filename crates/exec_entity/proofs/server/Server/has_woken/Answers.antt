use Rattle.std.proofs.Common.{◌<◌, ◌-◌, ◌^◌, List, ℕ, length, nat_le, slice_index_or, ap, sym, subst, ◌∙◌, arith, false}
use Rattle.exec_rules.specs.Ready.{turn_at}
use Rattle.exec_task.specs.Task.{is_awake}
use Rattle.exec_rules.specs.World.{ServerEntry}
use Rattle.std.proofs.lemmas.List.{length-map}
use Rattle.exec_entity.proofs.Joined.{length-kept}
use Rattle.exec_entity.proofs.Wakes.{told-by-wake}
use Rattle.exec_entity.specs.inner.Server.{Kept, all_joined, all_kept}
use Rattle.exec_task.specs.Waking.{wake_of}
use Rattle.exec_entity.proofs.server.Server.has_woken.Goals as goal

pub index-requires : goal.index-requires
index-requires c =
    let kept = all_kept c.self.inside.held.entries in
    omega (arith, c.requires, ap length c.self.invariant.1, length-map kept (λ (one : Kept). wake_of one.work.task), length-kept c.self.invariant.0 c.self.view_is)

pub returns : goal.returns
returns c = λ d.
    let kept = all_kept c.self.inside.held.entries in
    let before : c.args.moment < 2 ^ 64 - 1 = omega (arith, c.ticks.ensures.bound, c.ticks.ensures.value) in
    let within : c.args.index < length (all_joined c.self.inside.goals kept) = subst (λ (server : ServerEntry). c.args.index < length server.held) (sym c.self.view_is) c.requires in
    ap (λ (moment : ℕ). nat_le c.index.result.now moment) c.ticks.ensures.value
    ∙ ap (λ (wake : ℕ). nat_le wake c.args.moment) (c.index.ensures ∙ ap (λ (wakes : List ℕ). slice_index_or wakes c.args.index c.index.result.now) c.self.invariant.1)
    ∙ sym (told-by-wake c.args.moment before c.self.inside.goals kept c.args.index c.index.result.now d c.self.invariant.0.same within)
    ∙ ap (λ (server : ServerEntry). is_awake (slice_index_or server.held c.args.index d).work.task (turn_at c.args.moment false)) c.self.view_is
