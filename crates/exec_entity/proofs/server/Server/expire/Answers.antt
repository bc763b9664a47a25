use Rattle.std.proofs.Common.{◌≡◌, List, None, Some, ap, sym, ◌∙◌, rules, drop, slice_get}
use Rattle.std.specs.List.{find}
use Rattle.std.specs.Option.{option_map}
use Rattle.exec_goal.specs.Table.{GoalRecord, expired, is_expired}
use Rattle.exec_entity.proofs.Expiring.{never-expired, lasting-in, settled, settled-in, on_none, undropped-goals, kept-dropped, forgets-dropped}
use Rattle.exec_entity.proofs.Joined.{goals-now, records-joined}
use Rattle.exec_rules.specs.Transcript.{server_expired}
use Rattle.exec_rules.specs.World.{ServerEntry, records_of}
use Rattle.exec_entity.specs.inner.Server.{all_joined, all_kept}
use Rattle.exec_entity.proofs.server.Server.expire.Goals as goal

pub returns-in_err-timeout-clause-first : goal.returns-in_err-timeout-clause-first
returns-in_err-timeout-clause-first c =
    let none : c.self.inside.timeout ≡ None = search rules in
    c.from_residual.ensures
    ∙ sym (ap (λ (goals : List GoalRecord). option_map (λ goal. goal.id) (slice_get goals 0)) (never-expired c.args.moment c.args.self.now.timeout (records_of c.args.self.now.held) (sym (ap (λ (server : ServerEntry). server.timeout) c.self.view_is) ∙ none)))

pub returns-in_err-timeout-clause-left : goal.returns-in_err-timeout-clause-left
returns-in_err-timeout-clause-left c =
    let none : c.self.inside.timeout ≡ None = search rules in
    let never = never-expired c.args.moment c.args.self.now.timeout (records_of c.args.self.now.held) (sym (ap (λ (server : ServerEntry). server.timeout) c.self.view_is) ∙ none) in
    never ∙ sym (ap (drop 1) never)

pub returns-in_err-timeout-clause-settled : goal.returns-in_err-timeout-clause-settled
returns-in_err-timeout-clause-settled c =
    let none : c.self.inside.timeout ≡ None = search rules in
    on_none c.from_residual.result (sym (settled c.args.moment c.args.self.now (lasting-in c.args.moment c.args.self.now.timeout (records_of c.args.self.now.held) (sym (ap (λ (server : ServerEntry). server.timeout) c.self.view_is) ∙ none))))

pub invariant_of-self : goal.invariant_of-self
invariant_of-self c =
    let same : c.expire.new.self ≡ c.self.inside.goals = undropped-goals (is_expired c.args.moment (Some c.in_ok-timeout.timeout)) c.self.inside.goals c.expire.new.self c.in_err-id.ensures.found c.in_err-id.ensures.table in
    (rw same c.self.invariant.0, c.self.invariant.1)

pub returns-in_err-id-clause-first : goal.returns-in_err-id-clause-first
returns-in_err-id-clause-first c =
    let some : c.self.inside.timeout ≡ Some c.in_ok-timeout.timeout = search rules in
    let lasts : Some c.in_ok-timeout.timeout ≡ c.args.self.now.timeout = sym some ∙ ap (λ (server : ServerEntry). server.timeout) c.self.view_is in
    c.from_residual-in_err-id.ensures ∙ c.in_err-id.ensures.first ∙ (λ i. option_map (λ (goal : GoalRecord). goal.id) (slice_get (expired c.args.moment (lasts i) (goals-now c.self.invariant.0 c.self.view_is i)) 0))

pub returns-in_err-id-clause-left : goal.returns-in_err-id-clause-left
returns-in_err-id-clause-left c =
    let some : c.self.inside.timeout ≡ Some c.in_ok-timeout.timeout = search rules in
    let lasts : Some c.in_ok-timeout.timeout ≡ c.args.self.now.timeout = sym some ∙ ap (λ (server : ServerEntry). server.timeout) c.self.view_is in
    (λ i. expired c.args.moment (some i) (records-joined c.expire.new.self (all_kept c.self.inside.held.entries) (invariant_of-self c).0.same i))
    ∙ c.in_err-id.ensures.left ∙ ap (drop 1) (λ i. expired c.args.moment (lasts i) (goals-now c.self.invariant.0 c.self.view_is i))

pub returns-in_err-id-clause-kept : goal.returns-in_err-id-clause-kept
returns-in_err-id-clause-kept c =
    let same : c.expire.new.self ≡ c.self.inside.goals = undropped-goals (is_expired c.args.moment (Some c.in_ok-timeout.timeout)) c.self.inside.goals c.expire.new.self c.in_err-id.ensures.found c.in_err-id.ensures.table in
    ap (server_expired c.args.moment) (ap (λ (goals : List GoalRecord). record { handler = c.self.inside.handler; timeout = c.self.inside.timeout; held = all_joined goals (all_kept c.self.inside.held.entries) }) same ∙ c.self.view_is)

pub returns-in_err-id-clause-settled : goal.returns-in_err-id-clause-settled
returns-in_err-id-clause-settled c =
    let same : c.expire.new.self ≡ c.self.inside.goals = undropped-goals (is_expired c.args.moment (Some c.in_ok-timeout.timeout)) c.self.inside.goals c.expire.new.self c.in_err-id.ensures.found c.in_err-id.ensures.table in
    let some : c.self.inside.timeout ≡ Some c.in_ok-timeout.timeout = search rules in
    let lasts : c.args.self.now.timeout ≡ Some c.in_ok-timeout.timeout = sym (ap (λ (server : ServerEntry). server.timeout) c.self.view_is) ∙ some in
    let none = c.in_err-id.ensures.found ∙ ap (λ (goals : List GoalRecord). option_map (λ goal. goal.id) (find (is_expired c.args.moment (Some c.in_ok-timeout.timeout)) goals)) (goals-now c.self.invariant.0 c.self.view_is) in
    on_none c.from_residual-in_err-id.result
    (ap (λ (goals : List GoalRecord). record { handler = c.self.inside.handler; timeout = c.self.inside.timeout; held = all_joined goals (all_kept c.self.inside.held.entries) }) same
    ∙ c.self.view_is ∙ sym (settled-in c.args.moment c.args.self.now (Some c.in_ok-timeout.timeout) lasts none))

pub invariant_of-self-2 : goal.invariant_of-self-2
invariant_of-self-2 c = (
  kept-dropped (is_expired c.args.moment (Some c.in_ok-timeout.timeout)) c.self.inside.goals c.expire.new.self (all_kept c.self.inside.held.entries) (all_kept c.remove.new.held.entries)
      c.in_ok-id.id c.in_ok-id.ensures.found c.in_ok-id.ensures.table c.remove.ensures.held c.self.invariant.0,
  c.remove.ensures.wakes,
)

pub returns-clause-kept : goal.returns-clause-kept
returns-clause-kept c =
    let some : c.self.inside.timeout ≡ Some c.in_ok-timeout.timeout = search rules in
    forgets-dropped c.args.moment c.self.inside.handler c.self.inside.timeout c.self.inside.goals c.expire.new.self (all_kept c.self.inside.held.entries) (all_kept c.remove.new.held.entries)
    c.in_ok-id.id c.in_ok-timeout.timeout some c.in_ok-id.ensures.found c.in_ok-id.ensures.table c.remove.ensures.held c.self.invariant.0
    ∙ ap (server_expired c.args.moment) c.self.view_is

pub returns-clause-first : goal.returns-clause-first
returns-clause-first c =
    let some : c.self.inside.timeout ≡ Some c.in_ok-timeout.timeout = search rules in
    let lasts : Some c.in_ok-timeout.timeout ≡ c.args.self.now.timeout = sym some ∙ ap (λ (server : ServerEntry). server.timeout) c.self.view_is in
    c.in_ok-id.ensures.first ∙ (λ i. option_map (λ (goal : GoalRecord). goal.id) (slice_get (expired c.args.moment (lasts i) (goals-now c.self.invariant.0 c.self.view_is i)) 0))

pub returns-clause-left : goal.returns-clause-left
returns-clause-left c =
    let some : c.self.inside.timeout ≡ Some c.in_ok-timeout.timeout = search rules in
    let lasts : Some c.in_ok-timeout.timeout ≡ c.args.self.now.timeout = sym some ∙ ap (λ (server : ServerEntry). server.timeout) c.self.view_is in
    (λ i. expired c.args.moment (some i) (records-joined c.expire.new.self (all_kept c.remove.new.held.entries) (invariant_of-self-2 c).0.same i))
    ∙ c.in_ok-id.ensures.left ∙ ap (drop 1) (λ i. expired c.args.moment (lasts i) (goals-now c.self.invariant.0 c.self.view_is i))
