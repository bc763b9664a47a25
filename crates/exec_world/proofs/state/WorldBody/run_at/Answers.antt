use Rattle.std.proofs.Common.{◌≡◌, ℕ, ◌-◌, length, map, ap, sym, ◌∙◌, arith}
use Rattle.std.proofs.lemmas.List.{length-map}
use Rattle.std.proofs.lemmas.Result.{on_ok_weaker}
use Rattle.exec_rules.specs.inner.Awake.{poll_at}
use Rattle.exec_rules.specs.inner.Listing.{with_script_of}
use Rattle.exec_world.proofs.InArrival.{none_listed, polls_listed, runs_scripted}
use Rattle.exec_world.proofs.state.WorldBody.run_at.Goals as goal

pub returns-then-place-count : goal.returns-then-place-count
returns-then-place-count g c =
    let parts = c.parts.inside in
    on_ok_weaker c.run_each.result
    (λ is. is ∙ runs_scripted c.args.self.now (with_script_of parts.graph.now) parts.list.now (map (poll_at parts.moment) parts.goals.now) c.args.parts.now c.args.place c.parts.view_is c.if-place-count.true)
    c.run_each.ensures

pub returns-then-at-parts : goal.returns-then-at-parts
returns-then-at-parts g c =
    let parts = c.parts.inside in
    let place = c.args.place in
    let list = map (with_script_of parts.graph.now) parts.list.now in
    let count : length list ≡ length parts.list.now = length-map parts.list.now (with_script_of parts.graph.now) in
    on_ok_weaker c.run_polls.result
    (λ is. is ∙ polls_listed c.args.self.now list c.args.parts.now parts.moment parts.goals.now place _ c.parts.view_is (omega (arith, count, c.if-place-count.false)) (ap (λ (n : ℕ). place - n) (sym count)) c.if-at-parts.true)
    c.run_polls.ensures

pub returns : goal.returns
returns g c =
    let parts = c.parts.inside in
    let place = c.args.place in
    let list = map (with_script_of parts.graph.now) parts.list.now in
    let count : length list ≡ length parts.list.now = length-map parts.list.now (with_script_of parts.graph.now) in
    none_listed c.args.self.now list c.args.parts.now parts.moment parts.goals.now place _ c.parts.view_is (omega (arith, count, c.if-place-count.false)) (ap (λ (n : ℕ). place - n) (sym count)) c.if-at-parts.false
