use Rattle.std.proofs.Common.{◌≡◌, ◌++◌, [], List, ℕ, Option, drop, map, sym, take, ap, ◌∙◌}
use Rattle.std.proofs.lemmas.List.{map-append, take-append-drop}
use Rattle.std.specs.Option.{option_map}
use Rattle.exec_rules.specs.World.{GoalWork, work_of}
use Rattle.exec_world.specs.inner.Buffers.{BufferState}
use Rattle.exec_world.proofs.lane_buffer.LaneBuffer.rewind.Goals as goal

-- a list is its front and what comes after it
both : {A B : Type 0} (f : A → B) (n : ℕ) (xs : List A) → map f xs ≡ map f (take n xs) ++ map f (drop n xs)
both f n xs = ap (map f) (sym (take-append-drop n xs)) ∙ map-append f (take n xs) (drop n xs)

pub returns : goal.returns
returns c =
    (λ i. record { places = c.self.inside.places.items; variables = c.self.inside.bank; waiting = both (option_map work_of) c.self.inside.polled c.self.inside.tasks.items i; polled = []; did = take c.self.inside.done c.self.inside.did.items })
    ∙ ap (λ (lane : BufferState). record lane { waiting = lane.polled ++ lane.waiting; polled = [] }) c.self.view_is
