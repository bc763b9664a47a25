-- What is found in a list of servers, and what changes there.
use Rattle.std.proofs.Common.{◌≡◌, ℕ, true, false, List, [], ◌∷◌, Option, None, Some, length, find, nat_lt, get_or, slice_set, refl, sym, ap, ◌∙◌}
use Rattle.std.specs.Option.{option_map, option_map_or}
use Rattle.exec_goal.specs.Calls.{noted}
use Rattle.exec_goal.specs.Table.{GoalRecord, Asked, told, later, unknown}
use Rattle.exec_msg.specs.Lists.{change_first}
use Rattle.exec_task.specs.Task.{TaskState}
use Rattle.exec_entity.proofs.Changed.{unchanged_first}
use Rattle.exec_entity.proofs.FoundByNumber.{unfound, found_at, changed_at}
use Rattle.exec_msg.specs.Numbers.{GoalId}
use Rattle.exec_rules.specs.World.{GoalWork, HeldGoal, ServerEntry, is_for, is_server_at, records_of, with_goals, with_records, work_in}
use Rattle.exec_entity.specs.inner.Keeping.{executed}
use Rattle.exec_rules.specs.inner.Places.{place_in}
use Rattle.exec_entity.specs.inner.Polling.{server_polled}
use Rattle.exec_entity.specs.inner.Servers.{asked_in, executed_in}

-- the number by which a server is found
abbrev pub number_of : ServerEntry → ℕ
number_of entry = entry.handler.entity

-- a poll keeps it
pub number_polled : (id : GoalId) (task : Option TaskState) (entry : ServerEntry) → (server_polled id task entry).handler.entity ≡ entry.handler.entity
number_polled id None entry = refl
number_polled id (Some task) entry = refl

module _ (server : ℕ) (xs held : List ServerEntry) (i : ℕ) (same : xs ≡ held) (at : i ≡ place_in (is_server_at server) held) where
  -- ---- a server that isn't there

  pub work_absent : (id : GoalId) → false ≡ nat_lt i (length xs) → work_in server id held ≡ None
  work_absent id past = ap (λ (found : Option ServerEntry). option_map (λ (kept : HeldGoal). kept.work) (find (is_for id) (option_map_or (λ entry. entry.held) found []))) (unfound (is_server_at server) xs held i same at past)

  -- ---- one that is

  module _ (entry : ServerEntry) (within : true ≡ nat_lt i (length xs)) (reads : entry ≡ get_or xs i entry) where
    found : find (is_server_at server) held ≡ Some entry
    found = found_at (is_server_at server) xs held i same at entry within reads

    pub work_found : (id : GoalId) → work_in server id held ≡ option_map (λ (kept : HeldGoal). kept.work) (find (is_for id) entry.held)
    work_found id = ap (λ (one : Option ServerEntry). option_map (λ (kept : HeldGoal). kept.work) (find (is_for id) (option_map_or (λ entry. entry.held) one []))) found

    -- it polls a goal
    pub polls : (id : GoalId) (task : Option GoalWork → Option TaskState) (after : ServerEntry) → after ≡ server_polled id (task (option_map (λ (kept : HeldGoal). kept.work) (find (is_for id) entry.held))) entry
        → slice_set xs i after ≡ change_first (is_server_at server) (server_polled id (task (work_in server id held))) held
    polls id task after is = changed_at (is_server_at server) xs held i same at (server_polled id (task (work_in server id held))) entry after within reads (is ∙ ap (λ (work : Option GoalWork). server_polled id (task work) entry) (sym (work_found id)))

-- ---- what a server does only sometimes, as a change of its goals

-- goals that are given the records that they have
given_own : (held : List HeldGoal) → with_records (records_of held) held ≡ held
given_own [] = refl
given_own (one ∷ held) = ap (λ (others : List HeldGoal). one ∷ others) (given_own held)

module _ (server : ℕ) (held : List ServerEntry) where
  kept_all : change_first (is_server_at server) (with_goals (λ goals. goals)) held ≡ held
  kept_all =
      ap (λ (change : ServerEntry → ServerEntry). change_first (is_server_at server) change held) (λ i entry. record entry { held = given_own entry.held i })
      ∙ unchanged_first (is_server_at server) held

  pub executed_each : (goal : Option GoalRecord) → executed_in server goal held ≡ change_first (is_server_at server) (with_goals (executed goal)) held
  executed_each None = sym kept_all
  executed_each (Some goal) = refl

  pub asked_each : (asked : Asked) (id : GoalId) (client : ℕ) → asked_in asked server id client held ≡ change_first (is_server_at server) (with_goals (noted asked id client)) held
  asked_each (told status value) id client = sym kept_all
  asked_each later id client = refl
  asked_each unknown id client = sym kept_all
