-- The lines of a world only grow.
use Rattle.std.proofs.Common.{◌≡◌, ℕ, ◌+◌, List, [], ◌∷◌, ◌++◌, length, take, sym, ap, ◌∙◌, append_assoc, length-append}
use Rattle.std.specs.List.{flat_map}
use Rattle.std.proofs.lemmas.List.{append-nil}
use Rattle.std.proofs.Math.Seq.{take-append_seam}
use Rattle.exec_plan.specs.Plan.{PlanData}
use Rattle.exec_msg.specs.declared.line.Line.{Line}
use Rattle.exec_msg.specs.declared.line.Line.TheVariants as line
use Rattle.exec_rules.proofs.Running.{KeptByRounds, round_keeps, rounds_keep}
use Rattle.exec_rules.specs.Transcript.{expire_lines, round, rounds}
use Rattle.exec_rules.specs.World.{WorldState}

-- a world has these lines and then more
abbrev Begins : List Line → WorldState → Type 0
Begins before world = (more : List Line) × (world.lines ≡ before ++ more)

more_lines : (before lines some : List Line) → (more : List Line) × (some ≡ before ++ more) → (more : List Line) × (some ++ lines ≡ before ++ more)
more_lines before lines some p = (p.0 ++ lines, ap (λ (all : List Line). all ++ lines) p.1 ∙ append_assoc before p.0 lines)

begins_kept : (before : List Line) → KeptByRounds (Begins before)
begins_kept before = record {
  basic = record {
    lines_kept = λ lines world p. more_lines before lines world.lines p;
    queues_kept = λ entity new world p. p;
    goals_kept = λ server change world same p. p;
    tasks_kept = λ server id task world p. p;
    arrivals_kept = λ server id world p. p;
    calls_kept = λ client world p. p;
    sending_kept = λ client world p. p;
    variables_kept = λ group variables world p. p;
  };
  accepts_kept = λ server moment how request world room p. more_lines before _ world.lines p;
  expiry_kept = λ moment world p. more_lines before (flat_map (expire_lines moment) world.servers) world.lines p;
  snapshot_kept = λ moment world p. p;
}

front : (before all : List Line) → (more : List Line) × (all ≡ before ++ more) → take (length before) all ≡ before
front before all p = ap (λ (some : List Line). take (length before) some) p.1 ∙ take-append_seam before p.0

pub round_grows : (plan : PlanData) (number moment : ℕ) (world : WorldState) → take (length world.lines + 1) (round plan number moment world).lines ≡ world.lines ++ line.Round number moment ∷ []
round_grows plan number moment world =
    let before : List Line = world.lines ++ line.Round number moment ∷ [] in
    ap (λ (n : ℕ). take n (round plan number moment world).lines) (sym (length-append world.lines (line.Round number moment ∷ [])))
    ∙ front before _ (round_keeps (begins_kept before) plan number moment world ([], sym (append-nil before)))

pub rounds_grow : (plan : PlanData) (number : ℕ) (moments : List ℕ) (world : WorldState) → take (length world.lines) (rounds plan number moments world).lines ≡ world.lines
rounds_grow plan number moments world =
    front world.lines _ (rounds_keep (begins_kept world.lines) plan number moments world ([], sym (append-nil world.lines)))
