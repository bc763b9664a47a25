-- The callback that takes from the queue at a place.
use Rattle.std.proofs.Common.{◌≡◌, List, [], ◌∷◌, Option, Some, slice_get, sym, ap, ◌∙◌}
use Rattle.std.proofs.lemmas.Option.{none-some, same_Some}
use Rattle.std.specs.Option.{option_map_or}
use Rattle.exec_goal.specs.Table.{GoalRecord}
use Rattle.exec_msg.specs.Numbers.{Moment}
use Rattle.exec_rules.specs.Ready.{candidates_for, item_ready, ready_for, script_to_take}
use Rattle.exec_rules.specs.World.{Handler, Queue, ServerEntry, goals_in}
use Rattle.exec_rules.specs.declared.item.Item.{Item}
use Rattle.exec_rules.specs.declared.ready.Cause.TheVariants as cause
use Rattle.exec_world.specs.inner.Snapshots.{front_of}

first_ready : (moment : Moment) (handler : Handler) (goals : List GoalRecord) (one : Item) (items : List Item) → Some one ≡ slice_get items 0 →
    ready_for moment handler (cause.Took one) (candidates_for one goals) (script_to_take one goals handler.script) ∷ [] ≡ item_ready moment handler goals items
first_ready moment handler goals one [] first = absurd (none-some one (sym first))
first_ready moment handler goals one (other ∷ items) first =
    ap (λ (it : Item). ready_for moment handler (cause.Took it) (candidates_for it goals) (script_to_take it goals handler.script) ∷ []) (same_Some one other first)

-- what was read of the queue at a place makes the callback that takes from it
pub front_listed : (moment : Moment) (servers : List ServerEntry) (found : Option Queue) (queue : Queue) (one : Item) (handler : Handler) (goals : List GoalRecord) →
    Some queue ≡ found → Some one ≡ slice_get queue.items 0 → goals ≡ goals_in queue.handler.entity servers → handler ≡ queue.handler →
    ready_for moment handler (cause.Took one) (candidates_for one goals) (script_to_take one goals handler.script) ∷ [] ≡ option_map_or (front_of moment servers) found []
front_listed moment servers found queue one handler goals there first held own =
    (λ i. ready_for moment (own i) (cause.Took one) (candidates_for one (held i)) (script_to_take one (held i) (own i).script) ∷ [])
    ∙ first_ready moment queue.handler (goals_in queue.handler.entity servers) one queue.items first
    ∙ ap (λ (it : Option Queue). option_map_or (front_of moment servers) it []) there
