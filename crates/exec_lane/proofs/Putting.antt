-- Works and variables that are put into a world, one after another.
use Rattle.std.proofs.Common.{◌≡◌, ◌≢◌, ℕ, ◌<◌, ◌&&◌, ◌==◌, Bool, true, false, if◌then◌else◌, List, [], ◌∷◌, Option, None, Some, find, length, refl, sym, ap, ◌∙◌, true≢false}
use Rattle.std.specs.Option.{option_map, option_map_or}
use Rattle.std.proofs.lemmas.Bool.{both_ways, eqb-true, eq-eqb}
use Rattle.std.proofs.lemmas.List.{get_or-set_other, get_or-set_same, set-set, set_comm}
use Rattle.exec_msg.specs.Numbers.{EntityNo, GoalId}
use Rattle.exec_lane.specs.Lane.{is_beside, task_home, without_task}
use Rattle.exec_msg.specs.Lists.{change_first}
use Rattle.exec_script.specs.Zeros.{zeros}
use Rattle.exec_task.specs.Task.{TaskState}
use Rattle.exec_rules.specs.Calls.{polls_same_of, wakes, away}
use Rattle.exec_rules.specs.Run.{variables_for, with_polled, with_variables_for, work_after, work_for}
use Rattle.exec_script.specs.Script.{Variables}
use Rattle.exec_rules.specs.World.{GoalWork, HeldGoal, ServerEntry, WorldState, doing, is_for, is_server_at, standing, with_held, with_work, work_at}
use Rattle.exec_rules.specs.declared.ready.Cause.{Cause}
use Rattle.exec_rules.specs.declared.ready.Cause.TheVariants as cause
use Rattle.exec_rules.specs.declared.ready.Ready.{Ready}

-- ---- changes of a list's first element

-- two changes may be turned round that leave each other's test alone, and that may be on an element that passes both
changes_turned : {A : Type 0} (test other : A → Bool) (change another : A → A) → ((x : A) → test (another x) ≡ test x) → ((x : A) → other (change x) ≡ other x) →
    ((x : A) → test x ≡ true → other x ≡ true → change (another x) ≡ another (change x)) → (xs : List A) → change_first test change (change_first other another xs) ≡ change_first other another (change_first test change xs)
changes_turned test other change another keeps keeps_too both [] = refl
changes_turned test other change another keeps keeps_too both (x ∷ xs) = by (test x) refl (other x) refl (changes_turned test other change another keeps keeps_too both xs)
  where
    by : (b : Bool) → test x ≡ b → (d : Bool) → other x ≡ d → change_first test change (change_first other another xs) ≡ change_first other another (change_first test change xs) →
        change_first test change (change_first other another (x ∷ xs)) ≡ change_first other another (change_first test change (x ∷ xs))
    by true e true f rest = rw (f, keeps x, e, keeps_too x, f) (ap (λ y. y ∷ xs) (both x e f))
    by true e false f rest = rw (f, e, keeps_too x, f) refl
    by false e true f rest = rw (f, e, keeps x, e, f) refl
    by false e false f rest = rw (f, e, f) (ap (λ ys. x ∷ ys) rest)

changed_twice : {A : Type 0} (test : A → Bool) (first then_so : A → A) → ((x : A) → test (first x) ≡ test x) → (xs : List A) → change_first test then_so (change_first test first xs) ≡ change_first test (λ x. then_so (first x)) xs
changed_twice test first then_so keeps [] = refl
changed_twice test first then_so keeps (x ∷ xs) = by (test x) refl (changed_twice test first then_so keeps xs)
  where
    by : (b : Bool) → test x ≡ b → change_first test then_so (change_first test first xs) ≡ change_first test (λ x. then_so (first x)) xs →
        change_first test then_so (change_first test first (x ∷ xs)) ≡ change_first test (λ x. then_so (first x)) (x ∷ xs)
    by true e rest = rw (e, keeps x, e) refl
    by false e rest = rw (e, e) (ap (λ ys. x ∷ ys) rest)

-- changes that do the same to the element that is found
changed_so : {A : Type 0} (test : A → Bool) (change another : A → A) (xs : List A) → ((x : A) → find test xs ≡ Some x → change x ≡ another x) → change_first test change xs ≡ change_first test another xs
changed_so test change another [] same = refl
changed_so test change another (x ∷ xs) same = by (test x) refl (changed_so test change another xs)
  where
    by : (b : Bool) → test x ≡ b → (((y : _) → find test xs ≡ Some y → change y ≡ another y) → change_first test change xs ≡ change_first test another xs) → change_first test change (x ∷ xs) ≡ change_first test another (x ∷ xs)
    by true e rest = rw e (ap (λ y. y ∷ xs) (same x (rw e refl)))
    by false e rest = rw e (ap (λ ys. x ∷ ys) (rest (λ y found. same y (rw e found))))

unchanged : {A : Type 0} (test : A → Bool) (xs : List A) → change_first test (λ x. x) xs ≡ xs
unchanged test [] = refl
unchanged test (x ∷ xs) = by (test x) (unchanged test xs)
  where
    by : (b : Bool) → change_first test (λ x. x) xs ≡ xs → (if b then x ∷ xs else x ∷ change_first test (λ x. x) xs) ≡ x ∷ xs
    by true rest = refl
    by false rest = ap (λ ys. x ∷ ys) rest

-- ---- works of goals

-- the works of two goals may be put in either order
works_turned : (server : EntityNo) (id : GoalId) (work : GoalWork) (other_server : EntityNo) (other : GoalId) (another : GoalWork) (world : WorldState) → ((id == other) && (server == other_server)) ≡ false →
    with_work server id work (with_work other_server other another world) ≡ with_work other_server other another (with_work server id work world)
works_turned server id work other_server other another world apart =
    ap (λ (servers : List ServerEntry). record world { servers = servers })
    (changes_turned (is_server_at server) (is_server_at other_server) (with_held id (doing work)) (with_held other (doing another)) (λ x. refl) (λ x. refl)
    (λ x one two. inside x (sym (eqb-true x.handler.entity server one) ∙ eqb-true x.handler.entity other_server two)) world.servers)
  where
    differ : server ≡ other_server → (held : HeldGoal) → is_for id held ≡ true → is_for other held ≡ true → doing work (doing another held) ≡ doing another (doing work held)
    differ same held one two =
        absurd (true≢false (sym (λ i. eq-eqb id other (sym (eqb-true held.goal.id id one) ∙ eqb-true held.goal.id other two) i && eq-eqb server other_server same i) ∙ apart))

    inside : (x : ServerEntry) → server ≡ other_server → with_held id (doing work) (with_held other (doing another) x) ≡ with_held other (doing another) (with_held id (doing work) x)
    inside x same =
        ap (λ (held : List HeldGoal). record x { held = held }) (changes_turned (is_for id) (is_for other) (doing work) (doing another) (λ h. refl) (λ h. refl) (differ same) x.held)

-- a work that is put in the place of another one
pub work_twice : (server : EntityNo) (id : GoalId) (first work : GoalWork) (world : WorldState) → with_work server id work (with_work server id first world) ≡ with_work server id work world
work_twice server id first work world =
    ap (λ (servers : List ServerEntry). record world { servers = servers })
    (changed_twice (is_server_at server) (with_held id (doing first)) (with_held id (doing work)) (λ x. refl) world.servers
    ∙ (λ i. change_first (is_server_at server) (λ (x : ServerEntry). record x { held = changed_twice (is_for id) (doing first) (doing work) (λ h. refl) x.held i }) world.servers))

-- what a world has of a goal when a server is found
work_found : (server : EntityNo) (id : GoalId) (world : WorldState) (entry : ServerEntry) → find (is_server_at server) world.servers ≡ Some entry → work_at server id world ≡ option_map (λ held. held.work) (find (is_for id) entry.held)
work_found server id world entry found =
    ap (λ (some : Option ServerEntry). option_map (λ (held : HeldGoal). held.work) (find (is_for id) (option_map_or (λ one. one.held) some []))) found

-- what is found where something else is changed
found_apart : {A B : Type 0} (test other : A → Bool) (change : A → A) (read : Option A → B) → ((x : A) → test (change x) ≡ test x) → ((x : A) → other x ≡ true → test x ≡ true → read (Some (change x)) ≡ read (Some x)) →
    (xs : List A) → read (find test (change_first other change xs)) ≡ read (find test xs)
found_apart test other change read keeps same [] = refl
found_apart test other change read keeps same (x ∷ xs) = by (other x) refl (test x) refl (found_apart test other change read keeps same xs)
  where
    by : (b : Bool) → other x ≡ b → (d : Bool) → test x ≡ d → read (find test (change_first other change xs)) ≡ read (find test xs) → read (find test (change_first other change (x ∷ xs))) ≡ read (find test (x ∷ xs))
    by true e true f rest = rw (e, keeps x, f) (same x e f)
    by true e false f rest = rw (e, keeps x, f) refl
    by false e true f rest = rw (e, f) refl
    by false e false f rest = rw (e, f) rest

abbrev work_in : GoalId → Option ServerEntry → Option GoalWork
work_in id found = option_map (λ held. held.work) (find (is_for id) (option_map_or (λ entry. entry.held) found []))

abbrev work_held : Option HeldGoal → Option GoalWork
work_held found = option_map (λ held. held.work) found

apart_held : (id other : GoalId) (work : GoalWork) → (id == other) ≡ false → (xs : List HeldGoal) → work_held (find (is_for other) (change_first (is_for id) (doing work) xs)) ≡ work_held (find (is_for other) xs)
apart_held id other work apart xs =
    found_apart (is_for other) (is_for id) (doing work) work_held (λ x. refl)
    (λ x one two. absurd (both_ways (id == other) apart (eq-eqb id other (sym (eqb-true x.goal.id id one) ∙ eqb-true x.goal.id other two)))) xs

-- the work of another goal stays
pub apart_work : (server : EntityNo) (id : GoalId) (work : GoalWork) (other_server : EntityNo) (other : GoalId) (world : WorldState) → ((id == other) && (server == other_server)) ≡ false →
    work_at other_server other (with_work server id work world) ≡ work_at other_server other world
apart_work server id work other_server other world apart =
    found_apart (is_server_at other_server) (is_server_at server) (with_held id (doing work)) (work_in other) (λ x. refl)
    (λ x one two. by (eqb-true x.handler.entity server one) (eqb-true x.handler.entity other_server two) x) world.servers
  where
    by : {here : ℕ} → here ≡ server → here ≡ other_server → (x : ServerEntry) → work_in other (Some (with_held id (doing work) x)) ≡ work_in other (Some x)
    by first second x = apart_held id other work (again (id == other) refl) x.held
      where
        again : (b : Bool) → (id == other) ≡ b → (id == other) ≡ false
        again false e = e
        again true e = absurd (true≢false (sym (λ i. e i && eq-eqb server other_server (sym first ∙ second) i) ∙ apart))

-- the work that a world has of a goal is the found goal's
its_work : (server : EntityNo) (id : GoalId) (work : GoalWork) (world : WorldState) (entry : ServerEntry) (held : HeldGoal) → work_at server id world ≡ Some work → find (is_server_at server) world.servers ≡ Some entry → find (is_for id) entry.held ≡ Some held → work ≡ held.work
its_work server id work world entry held is found at =
    let same : Some work ≡ Some held.work = sym is ∙ work_found server id world entry found ∙ ap (λ (some : Option HeldGoal). option_map (λ (held : HeldGoal). held.work) some) at in
    cc

-- a goal's work that comes home as a poll left it, comes home as the poll brings it
pub polled_home : (server : EntityNo) (id : GoalId) (work : GoalWork) (task : Option TaskState) (value : _) (canceling : Bool) (world : WorldState) → work_at server id world ≡ Some work →
    with_work server id (work_after task work) world ≡ with_polled server (cause.Woke id value canceling) task world
polled_home server id work None value canceling world is =
    ap (λ (servers : List ServerEntry). record world { servers = servers })
    (changed_so (is_server_at server) (with_held id (doing work)) (λ x. x) world.servers
    (λ x found.
    ap (λ (held : List HeldGoal). record x { held = held })
    (changed_so (is_for id) (doing work) (λ h. h) x.held (λ h at. ap (λ (some : GoalWork). doing some h) (its_work server id work world x h is found at)) ∙ unchanged (is_for id) x.held))
    ∙ unchanged (is_server_at server) world.servers)
polled_home server id work (Some task) value canceling world is =
    ap (λ (servers : List ServerEntry). record world { servers = servers })
    (changed_so (is_server_at server) (with_held id (doing (record work { task = task }))) (with_held id (standing task)) world.servers
    (λ x found.
    ap (λ (held : List HeldGoal). record x { held = held })
    (changed_so (is_for id) (doing (record work { task = task })) (standing task) x.held
    (λ h at. ap (λ (some : GoalWork). doing (record some { task = task }) h) (its_work server id work world x h is found at)))))

-- ---- the work of the goal that a callback polls

-- it is put so, if the callback polls one
abbrev pub task_put : EntityNo → Cause → GoalWork → WorldState → WorldState
task_put server (cause.Woke id value canceling) work world = with_work server id work world
task_put server _ work world = world

-- and may be put before or behind what comes home of another goal
pub put_past : (server : EntityNo) (of : Cause) (home : Option GoalWork) (one : Ready) (work : GoalWork) (world : WorldState) → polls_same_of server of one ≡ false →
    task_home server of home (task_put one.entity one.cause work world) ≡ task_put one.entity one.cause work (task_home server of home world)
put_past server cause.Due home one work world apart = refl
put_past server (cause.Took item) home one work world apart = refl
put_past server (cause.Woke id value canceling) None one work world apart = refl
put_past server (cause.Woke id value canceling) (Some home) one work world apart = by one.entity one.cause apart
  where
    by : (at : EntityNo) (why : Cause) → (wakes id why && (server == at)) ≡ false → with_work server id home (task_put at why work world) ≡ task_put at why work (with_work server id home world)
    by at cause.Due apart = refl
    by at (cause.Took item) apart = refl
    by at (cause.Woke other value canceling) apart = works_turned server id home at other work world apart

-- what is taken out leaves another work in its place
pub out_is : (server : EntityNo) (of : Cause) (world : WorldState) → without_task server of world ≡ task_put server of away world
out_is server cause.Due world = refl
out_is server (cause.Took item) world = refl
out_is server (cause.Woke id value canceling) world = refl

-- another goal's work stays where it is put, and where it comes home
pub left_by_put : (server : EntityNo) (of : Cause) (work : GoalWork) (other : Ready) (world : WorldState) → polls_same_of server of other ≡ false →
    work_for other.entity other.cause (task_put server of work world) ≡ work_for other.entity other.cause world
left_by_put server cause.Due work other world apart = refl
left_by_put server (cause.Took item) work other world apart = refl
left_by_put server (cause.Woke id value canceling) work other world apart = by other.entity other.cause apart
  where
    by : (at : EntityNo) (why : Cause) → (wakes id why && (server == at)) ≡ false → work_for at why (with_work server id work world) ≡ work_for at why world
    by at cause.Due apart = refl
    by at (cause.Took item) apart = refl
    by at (cause.Woke another value canceling) apart = apart_work server id work at another world apart

pub left_by_home : (server : EntityNo) (of : Cause) (work : Option GoalWork) (other : Ready) (world : WorldState) → polls_same_of server of other ≡ false →
    work_for other.entity other.cause (task_home server of work world) ≡ work_for other.entity other.cause world
left_by_home server cause.Due work other world apart = refl
left_by_home server (cause.Took item) work other world apart = refl
left_by_home server (cause.Woke id value canceling) None other world apart = refl
left_by_home server (cause.Woke id value canceling) (Some work) other world apart = left_by_put server (cause.Woke id value canceling) work other world apart

-- ---- the variables of the group that a callback is of

pub not_equal : (one other : ℕ) → (one == other) ≡ false → one ≢ other
not_equal one other differ same = true≢false (sym (eq-eqb one other same) ∙ differ)

-- those of callbacks that aren't beside each other may be put in either order
pub variables_turned : (one other : Ready) (variables another : Variables) (world : WorldState) → is_beside one other ≡ false →
    with_variables_for other another (with_variables_for one variables world) ≡ with_variables_for one variables (with_variables_for other another world)
variables_turned one other variables another world apart = by one.exclusive refl other.exclusive refl
  where
    by : (b : Bool) → one.exclusive ≡ b → (d : Bool) → other.exclusive ≡ d → with_variables_for other another (with_variables_for one variables world) ≡ with_variables_for one variables (with_variables_for other another world)
    by true e true f =
        let differ : (one.group == other.group) ≡ false = rw (e, f) at apart in
        rw (e, f) (ap (λ (all : List Variables). record world { variables = all }) (set_comm world.variables one.group other.group variables another (not_equal one.group other.group differ)))
    by true e false f = rw (e, f) refl
    by false e true f = rw (e, f) refl
    by false e false f = rw (e, f) refl

-- and leave each other
pub variables_left : (one other : Ready) (another : Variables) (world : WorldState) → is_beside one other ≡ false → variables_for one (with_variables_for other another world) ≡ variables_for one world
variables_left one other another world apart = by one.exclusive refl other.exclusive refl
  where
    by : (b : Bool) → one.exclusive ≡ b → (d : Bool) → other.exclusive ≡ d → variables_for one (with_variables_for other another world) ≡ variables_for one world
    by true e true f =
        let differ : (one.group == other.group) ≡ false = rw (e, f) at apart in
        rw (e, f) (get_or-set_other world.variables other.group one.group another zeros (not_equal one.group other.group differ))
    by true e false f = rw (e, f) refl
    by false e d f = rw e refl

-- those that are put in the place of others
pub variables_twice : (one : Ready) (first variables : Variables) (world : WorldState) → with_variables_for one variables (with_variables_for one first world) ≡ with_variables_for one variables world
variables_twice one first variables world = by one.exclusive refl
  where
    by : (b : Bool) → one.exclusive ≡ b → with_variables_for one variables (with_variables_for one first world) ≡ with_variables_for one variables world
    by true e = rw e (ap (λ (all : List Variables). record world { variables = all }) (set-set world.variables one.group first variables))
    by false e = rw e refl

-- those that were put are found, where the world has the group
pub variables_put : (one : Ready) (variables : Variables) (world : WorldState) → one.exclusive ≡ true → one.group < length world.variables → variables_for one (with_variables_for one variables world) ≡ variables
variables_put one variables world exclusive within = rw exclusive (get_or-set_same world.variables one.group variables zeros within)
