-- From when on goals are awake, kept at the places of what is kept beside them.
use Rattle.std.proofs.Common.{◌≡◌, ℕ, zero, suc, ◌-◌, ◌^◌, ◌<◌, List, [], ◌∷◌, ◌++◌, length, drop, get_or, Bool, true, false, cond, nat_le, Some, slice_get, slice_index_or, slice_set, refl, ap, sym, ◌∙◌, arith}
use Rattle.std.specs.List.{position, remove}
use Rattle.std.specs.Map.{keys_of, remove_entry}
use Rattle.std.proofs.lemmas.List.{length-map, map_push}
use Rattle.std.proofs.lemmas.List.Quantifiers.{position-Some}
use Rattle.indexmap.specs.IndexMap.{set_value_at}
use Rattle.exec_goal.specs.Table.{GoalRecord}
use Rattle.exec_task.proofs.Moments.{awake-from}
use Rattle.exec_task.specs.Task.{is_awake}
use Rattle.exec_task.specs.Waking.{wake_of}
use Rattle.exec_rules.specs.Ready.{turn_at}
use Rattle.exec_rules.specs.World.{HeldGoal}
use Rattle.exec_entity.proofs.Serving.{goal_ids, kept_ids}
use Rattle.exec_entity.specs.declared.server.KeptWithGoal.{KeptWithGoal}
use Rattle.exec_entity.specs.inner.Server.{Kept, all_joined, all_kept, kept_of}
use Rattle.exec_entity.specs.inner.Waking.{wakes_of}

-- ---- one moment tells whether it is awake

-- what stands at a goal's place tells it
pub told-by-wake : (moment : ℕ) → moment < 2 ^ 64 - 1 → (goals : List GoalRecord) (kept : List Kept) (i wake : ℕ) (d : HeldGoal) → goal_ids goals ≡ kept_ids kept → i < length (all_joined goals kept) →
    is_awake (slice_index_or (all_joined goals kept) i d).work.task (turn_at moment false) ≡ nat_le (slice_index_or (wakes_of kept) i wake) moment
told-by-wake moment before [] kept i wake d same within = absurd (omega (arith, within))
told-by-wake moment before (goal ∷ goals) [] i wake d same within = absurd cc
told-by-wake moment before (goal ∷ goals) (one ∷ kept) zero wake d same within = awake-from one.work.task moment before
told-by-wake moment before (goal ∷ goals) (one ∷ kept) (suc i) wake d same within = told-by-wake moment before goals kept i wake d (ap (drop 1) same) (omega (arith, within))

-- the work of the goal at an entry's place
pub work-there : (goals : List GoalRecord) (entries : List (ℕ × KeptWithGoal)) (i : ℕ) (entry : ℕ × KeptWithGoal) (d : HeldGoal) → goal_ids goals ≡ kept_ids (all_kept entries) → Some entry ≡ slice_get entries i → (slice_index_or (all_joined goals (all_kept entries)) i d).work ≡ (kept_of entry).work
work-there goals [] i entry d same at = absurd cc
work-there [] (one ∷ entries) i entry d same at = absurd cc
work-there (goal ∷ goals) (one ∷ entries) zero entry d same at =
    let first : entry ≡ one = cc in
    ap (λ (it : ℕ × KeptWithGoal). (kept_of it).work) (sym first)
work-there (goal ∷ goals) (one ∷ entries) (suc i) entry d same at = work-there goals entries i entry d (ap (drop 1) same) at

-- ---- entries change

-- a value that is set at a place sets what stands there
pub wake-set : (entries : List (ℕ × KeptWithGoal)) (place : ℕ) (after : KeptWithGoal) → wakes_of (all_kept (set_value_at entries place after)) ≡ slice_set (wakes_of (all_kept entries)) place (wake_of (kept_of (0, after)).work.task)
wake-set [] place after = refl
wake-set (entry ∷ entries) zero after = refl
wake-set (entry ∷ entries) (suc place) after = ap (λ (wakes : List ℕ). wake_of (kept_of entry).work.task ∷ wakes) (wake-set entries place after)

-- where an entry is removed, what stands at its place is
wake-removed : (test : ℕ → Bool) (entries : List (ℕ × KeptWithGoal)) (place : ℕ) → place < length (keys_of entries) → test (get_or (keys_of entries) place 0) ≡ true → ((k : ℕ) → k < place → test (get_or (keys_of entries) k 0) ≡ false) →
    wakes_of (all_kept (remove_entry test entries)) ≡ remove (wakes_of (all_kept entries)) place
wake-removed test [] place within passes others = absurd (omega (arith, within))
wake-removed test (entry ∷ entries) zero within passes others =
    ap (λ (b : Bool). wakes_of (all_kept (cond b entries (entry ∷ remove_entry test entries)))) passes
wake-removed test (entry ∷ entries) (suc place) within passes others =
    ap (λ (b : Bool). wakes_of (all_kept (cond b entries (entry ∷ remove_entry test entries)))) (others 0 (omega arith))
    ∙ ap (λ (wakes : List ℕ). wake_of (kept_of entry).work.task ∷ wakes) (wake-removed test entries place (omega (arith, within)) passes (λ k before. others (suc k) (omega (arith, before))))

pub wake-removed-at : (test : ℕ → Bool) (entries : List (ℕ × KeptWithGoal)) (place : ℕ) → Some place ≡ position test (keys_of entries) → wakes_of (all_kept (remove_entry test entries)) ≡ remove (wakes_of (all_kept entries)) place
wake-removed-at test entries place is =
    let first = position-Some test (keys_of entries) place 0 (sym is) in
    wake-removed test entries place first.0 first.1 first.2

-- from when on the task of an entry is awake
pub wake-at : (entries : List (ℕ × KeptWithGoal)) (place wake : ℕ) (entry : ℕ × KeptWithGoal) → slice_get entries place ≡ Some entry → wake ≡ wake_of (kept_of entry).work.task → slice_get (wakes_of (all_kept entries)) place ≡ Some wake
wake-at [] place wake entry there is = absurd cc
wake-at (first ∷ entries) zero wake entry there is =
    let same : first ≡ entry = cc in
    ap Some (ap (λ (entry : ℕ × KeptWithGoal). wake_of (kept_of entry).work.task) same ∙ sym is)
wake-at (first ∷ entries) (suc place) wake entry there is = wake-at entries place wake entry there is

pub length-wakes : (entries : List (ℕ × KeptWithGoal)) → length (wakes_of (all_kept entries)) ≡ length entries
length-wakes entries = length-map (all_kept entries) (λ (one : Kept). wake_of one.work.task) ∙ length-map entries kept_of

-- what is kept before its first poll, behind all others, is awake from the start
pub wake-added : (held before left : List Kept) (one : Kept) → before ≡ held → left ≡ before ++ one ∷ [] → wake_of one.work.task ≡ 0 → wakes_of left ≡ wakes_of held ++ 0 ∷ []
wake-added held before left one is stays starts =
    ap wakes_of (stays ∙ ap (λ (held : List Kept). held ++ one ∷ []) is) ∙ map_push (λ (one : Kept). wake_of one.work.task) held one ∙ ap (λ (wake : ℕ). wakes_of held ++ wake ∷ []) starts
