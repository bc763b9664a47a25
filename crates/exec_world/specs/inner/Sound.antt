-- What every world keeps, whatever its calls are handed.
use Rattle.std.specs.Prelude.{◌≡◌, ◌==◌, map}
use Rattle.std.specs.List.{All, AllByRecursion, IsDistinct}
use Rattle.exec_msg.specs.Numbers.{EntityNo}
use Rattle.exec_plan.specs.Plan.{PlanData}
use Rattle.exec_rules.specs.Item.{taker_of}
use Rattle.exec_rules.specs.Shape.{shape_of}
use Rattle.exec_rules.specs.Transcript.{first_world}
use Rattle.exec_rules.specs.World.{WorldState, goals_at}

-- a world has the shape of its plan, its queues hold items of their kinds, and no two goals of one server have one identifier
pub record IsSound (plan : PlanData) (world : WorldState) : Type 0 where
  pub shape : shape_of world ≡ shape_of (first_world plan)
  pub kinds : AllByRecursion (λ queue. All (λ one. taker_of one ≡ queue.kind) queue.items) world.queues
  pub identifiers : (server : EntityNo) → IsDistinct (λ one other. one == other) (map (λ goal. goal.id) (goals_at server world))
