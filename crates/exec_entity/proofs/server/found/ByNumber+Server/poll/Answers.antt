use Rattle.std.proofs.Common.{◌≡◌, Option, IsSomeAnd, ap, subst, sym, true, ◌∙◌}
use Rattle.exec_goal.proofs.Entries.{on_err}
use Rattle.exec_task.specs.Task.{is_awake}
use Rattle.exec_entity.proofs.FoundByNumber.{unchanged, finds_set}
use Rattle.exec_entity.proofs.FoundServers.{number_of, number_polled, work_absent, work_found, polls}
use Rattle.exec_rules.specs.World.{GoalWork, is_server_at, work_in}
use Rattle.exec_rules.specs.Callback.{poll_listed}
use Rattle.exec_entity.specs.inner.Polling.{goal_polled, server_polled}
use Rattle.exec_entity.proofs.server.found.ByNumber+Server.poll.Goals as goal

pub returns-in_default-clause-effects : goal.returns-in_default-clause-effects
returns-in_default-clause-effects c =
    c.clear.ensures
    ∙ sym (ap (λ (work : Option GoalWork). (poll_listed c.args.goal.now.turn work c.args.bank.now).given) (work_absent c.args.goal.now.server c.self.inside.entries.items c.args.self.now c.place-place.result c.self.view_is c.place-place.ensures c.args.goal.now.id c.in_default.ensures.item.0))

pub returns-in_default-clause-close : goal.returns-in_default-clause-close
returns-in_default-clause-close c =
    sym (ap (λ (work : Option GoalWork). (poll_listed c.args.goal.now.turn work c.args.bank.now).close) (work_absent c.args.goal.now.server c.self.inside.entries.items c.args.self.now c.place-place.result c.self.view_is c.place-place.ensures c.args.goal.now.id c.in_default.ensures.item.0))

pub returns-in_default-clause-variables : goal.returns-in_default-clause-variables
returns-in_default-clause-variables c =
    sym (ap (λ (work : Option GoalWork). (poll_listed c.args.goal.now.turn work c.args.bank.now).variables) (work_absent c.args.goal.now.server c.self.inside.entries.items c.args.self.now c.place-place.result c.self.view_is c.place-place.ensures c.args.goal.now.id c.in_default.ensures.item.0))

pub returns-in_default-clause-task : goal.returns-in_default-clause-task
returns-in_default-clause-task c =
    unchanged (is_server_at c.args.goal.now.server) c.self.inside.entries.items c.args.self.now c.place-place.result c.self.view_is c.place-place.ensures
    (server_polled c.args.goal.now.id (poll_listed c.args.goal.now.turn (work_in c.args.goal.now.server c.args.goal.now.id c.args.self.now) c.args.bank.now).task) c.in_default.ensures.item.0

pub invariant_of-self-2 : goal.invariant_of-self-2
invariant_of-self-2 c =
    finds_set number_of c.self.inside.places c.self.inside.entries.items c.place-place.result c.in-Some.entry.now c.poll.new.self c.self.invariant c.in-Some.ensures.value
    (ap number_of c.in_ok-close.ensures.task ∙ number_polled c.args.goal.now.id (goal_polled c.args.goal.now.turn c.args.goal.now.id c.in-Some.entry.now c.args.bank.now).task c.in-Some.entry.now)

pub returns-clause-effects : goal.returns-clause-effects
returns-clause-effects c =
    c.in_ok-close.ensures.effects
    ∙ sym (ap (λ (work : Option GoalWork). (poll_listed c.args.goal.now.turn work c.args.bank.now).given) (work_found c.args.goal.now.server c.self.inside.entries.items c.args.self.now c.place-place.result c.self.view_is c.place-place.ensures c.in-Some.entry.now c.in-Some.ensures.item.0 c.in-Some.ensures.value c.args.goal.now.id))

pub returns-clause-close : goal.returns-clause-close
returns-clause-close c =
    c.in_ok-close.ensures.close
    ∙ sym (ap (λ (work : Option GoalWork). (poll_listed c.args.goal.now.turn work c.args.bank.now).close) (work_found c.args.goal.now.server c.self.inside.entries.items c.args.self.now c.place-place.result c.self.view_is c.place-place.ensures c.in-Some.entry.now c.in-Some.ensures.item.0 c.in-Some.ensures.value c.args.goal.now.id))

pub returns-clause-variables : goal.returns-clause-variables
returns-clause-variables c =
    c.in_ok-close.ensures.variables
    ∙ sym (ap (λ (work : Option GoalWork). (poll_listed c.args.goal.now.turn work c.args.bank.now).variables) (work_found c.args.goal.now.server c.self.inside.entries.items c.args.self.now c.place-place.result c.self.view_is c.place-place.ensures c.in-Some.entry.now c.in-Some.ensures.item.0 c.in-Some.ensures.value c.args.goal.now.id))

pub returns-clause-task : goal.returns-clause-task
returns-clause-task c =
    polls c.args.goal.now.server c.self.inside.entries.items c.args.self.now c.place-place.result c.self.view_is c.place-place.ensures c.in-Some.entry.now c.in-Some.ensures.item.0 c.in-Some.ensures.value
    c.args.goal.now.id (λ (work : Option GoalWork). (poll_listed c.args.goal.now.turn work c.args.bank.now).task) c.poll.new.self c.in_ok-close.ensures.task

pub returns-in_err-close-clause-memory : goal.returns-in_err-close-clause-memory
returns-in_err-close-clause-memory c =
    let found = work_found c.args.goal.now.server c.self.inside.entries.items c.args.self.now c.place-place.result c.self.view_is c.place-place.ensures c.in-Some.entry.now c.in-Some.ensures.item.0 c.in-Some.ensures.value c.args.goal.now.id in
    on_err c.from_residual.result (subst (λ (one : Option GoalWork). IsSomeAnd one (λ work. is_awake work.task c.args.goal.now.turn ≡ true)) (sym found) c.in_err-close.ensures.memory)
