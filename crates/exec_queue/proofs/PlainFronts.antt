-- The callback that takes from the queue at a place, listed.
use Rattle.std.proofs.Common.{◌≡◌, List, [], ◌∷◌, Option, Some, None, slice_get, sym, ap, ◌∙◌, append-nil}
use Rattle.std.proofs.lemmas.Option.{none-some, same_Some}
use Rattle.std.specs.Option.{option_map_or}
use Rattle.exec_rules.specs.Ready.{candidates_for, item_ready, ready_for, script_to_take}
use Rattle.exec_rules.specs.declared.item.Item.{Item}
use Rattle.exec_rules.specs.declared.ready.Cause.TheVariants as cause
use Rattle.exec_msg.specs.Numbers.{Moment}
use Rattle.exec_rules.specs.World.{Handler, Queue}
use Rattle.exec_rules.specs.declared.listed.Listed.{Listed}
use Rattle.exec_rules.specs.inner.Listing.{listed_behind}

-- where there is no queue, nothing is listed
pub nothing_listed : (moment : Moment) (goals : Handler → List _) (found : Option Queue) (list : List Listed) → found ≡ None →
    list ≡ listed_behind list (option_map_or (λ (queue : Queue). item_ready moment queue.handler (goals queue.handler) queue.items) found [])
nothing_listed moment goals found list none =
    sym (append-nil list)
    ∙ ap (λ (it : Option Queue). listed_behind list (option_map_or (λ (queue : Queue). item_ready moment queue.handler (goals queue.handler) queue.items) it [])) (sym none)

-- what is listed of the queue that stands there
pub front_listed : (moment : Moment) (goals : Handler → List _) (found : Option Queue) (queue : Queue) (list after : List Listed) → found ≡ Some queue →
    after ≡ listed_behind list (item_ready moment queue.handler (goals queue.handler) queue.items) →
    after ≡ listed_behind list (option_map_or (λ (queue : Queue). item_ready moment queue.handler (goals queue.handler) queue.items) found [])
front_listed moment goals found queue list after there is =
    is ∙ ap (λ (it : Option Queue). listed_behind list (option_map_or (λ (queue : Queue). item_ready moment queue.handler (goals queue.handler) queue.items) it [])) (sym there)

-- what is listed of the first of these items
pub first_listed : (moment : Moment) (handler : Handler) (goals : List _) (items : List Item) (first : Item) (list after : List Listed) → slice_get items 0 ≡ Some first →
    after ≡ listed_behind list (ready_for moment handler (cause.Took first) (candidates_for first goals) (script_to_take first goals handler.script) ∷ []) →
    after ≡ listed_behind list (item_ready moment handler goals items)
first_listed moment handler goals [] first list after there is = absurd (none-some first there)
first_listed moment handler goals (one ∷ items) first list after there is =
    is ∙ ap (λ (it : Item). listed_behind list (ready_for moment handler (cause.Took it) (candidates_for it goals) (script_to_take it goals handler.script) ∷ [])) (sym (same_Some one first there))
