-- What an entity has of the one of which it is read, and when it can be read.
use Rattle.std.proofs.Common.{◌≡◌, Bool, true, ◌&&◌, is_some, Option, None, Some, option_map, refl, ap, subst}
use Rattle.std.specs.List.{list_all}
use Rattle.std.proofs.lemmas.Bool.{and_parts}
use Rattle.std.proofs.lemmas.Option.{same_Some}
use Rattle.exec_plan.specs.Entity.{RoleScriptData, kind_of_entity, refers, is_within, result_scripts, scripts_of, if_there, read_by}
use Rattle.exec_plan.specs.declared.entity.EntityKind.TheVariants as entity_kind
use Rattle.exec_plan.specs.declared.entity.EntityOf.{EntityOf}
use Rattle.exec_plan.specs.declared.entity.EntityOf.TheVariants.{Timer, Subscription, Service, Client, Server, ActionClient}
use Rattle.exec_plan.specs.declared.entity.parts.Referent.{Referent}
use Rattle.exec_plan.specs.declared.entity.parts.Referent.TheVariants as referent
use Rattle.exec_script.specs.declared.place.Role.{Role}
use Rattle.exec_script.specs.declared.place.Role.TheVariants as role
use Rattle.exec_plan.proofs.Reading.{then_read, goes_on, AreRead, some_mapped}

-- a script with its role
abbrev pub roled : {S : Type 0} → Role → S → RoleScriptData S
roled runs script = record { role = runs; script = script }

-- a script with its role, where it can be read
abbrev pub roled_by : {S T : Type 0} → (S → Option T) → RoleScriptData S → Option (RoleScriptData T)
roled_by read from = option_map (roled from.role) (read from.script)

-- what an entity has of the one of which it is read
pub record IsReadBy {N S M T : Type 0} (name : Referent → N → Option M) (read : S → Option T) (from : EntityOf N S) (is : EntityOf M T) : Type 0 where
  pub kind : kind_of_entity is ≡ kind_of_entity from
  pub within : is_within is ≡ is_within from
  pub scripts : AreRead (roled_by read) (scripts_of from) (scripts_of is)
  pub referring : (test : Referent → M → Bool) → ((to : Referent) (text : N) (found : M) → name to text ≡ Some found → test to found ≡ true) → refers test is ≡ true

script_as : {S T : Type 0} (read : S → Option T) (runs : Role) (from : S) (script : T) → read from ≡ Some script → roled_by read (roled runs from) ≡ Some (roled runs script)
script_as {S} {T} read runs from script is = ap (option_map (roled {S = T} runs)) is

result_as : {S T : Type 0} (read : S → Option T) (from : Option S) (script : Option T) → if_there read from ≡ Some script → AreRead (roled_by read) (result_scripts from) (result_scripts script)
result_as read None None is = tt
result_as read None (Some script) is = absurd cc
result_as {S} {T} read (Some from) None is = absurd (never (read from) is) where
  never : (o : Option T) → option_map (λ (s : T). Some s) o ≡ Some None → ⊥
  never None e = absurd cc
  never (Some s) e = absurd cc
result_as {S} {T} read (Some from) (Some script) is = (script_as read role.Callback from script (same (read from) is), tt) where
  same : (o : Option T) → option_map (λ (s : T). Some s) o ≡ Some (Some script) → o ≡ Some script
  same None e = absurd cc
  same (Some s) e = cc

pub read_has : {N S M T : Type 0} (name : Referent → N → Option M) (read : S → Option T) (from : EntityOf N S) (is : EntityOf M T) → read_by name read from ≡ Some is → IsReadBy name read from is
read_has name read (Timer entity) is e =
    then_read _ (read entity.script) _ is e (λ script found e1.
    subst (IsReadBy name read (Timer entity)) (same_Some (Timer (record { period = entity.period; script = script })) is e1)
    (record { kind = refl; within = refl; scripts = (script_as read role.Callback entity.script script found, tt); referring = λ test holds. refl }))
read_has name read (Subscription entity) is e =
    then_read _ (name referent.Topic entity.topic) _ is e (λ topic named e1.
    then_read _ (read entity.script) _ is e1 (λ script found e2.
    subst (IsReadBy name read (Subscription entity)) (same_Some (Subscription (record { topic = topic; depth = entity.depth; script = script })) is e2)
    (record { kind = refl; within = refl; scripts = (script_as read role.Callback entity.script script found, tt); referring = λ test holds. holds referent.Topic entity.topic topic named })))
read_has name read (Service entity) is e =
    then_read _ (read entity.script) _ is e (λ script found e1.
    subst (IsReadBy name read (Service entity)) (same_Some (Service (record { depth = entity.depth; script = script })) is e1)
    (record { kind = refl; within = refl; scripts = (script_as read role.Service entity.script script found, tt); referring = λ test holds. refl }))
read_has name read (Client entity) is e =
    then_read _ (name (referent.Entity entity_kind.Service) entity.service) _ is e (λ service named e1.
    then_read _ (read entity.script) _ is e1 (λ script found e2.
    subst (IsReadBy name read (Client entity)) (same_Some (Client (record { service = service; depth = entity.depth; script = script })) is e2)
    (record { kind = refl; within = refl; scripts = (script_as read role.Callback entity.script script found, tt); referring = λ test holds. holds (referent.Entity entity_kind.Service) entity.service service named })))
read_has name read (Server entity) is e =
    then_read _ (read entity.on_goal) _ is e (λ on_goal first e1.
    then_read _ (read entity.on_cancel) _ is e1 (λ on_cancel second e2.
    then_read _ (read entity.script) _ is e2 (λ script third e3.
    subst (IsReadBy name read (Server entity)) (same_Some (Server (record { depth = entity.depth; result_timeout = entity.result_timeout; on_goal = on_goal; on_cancel = on_cancel; script = script })) is e3)
    (record {
      kind = refl;
      within = refl;
      scripts = (
        script_as read role.GoalHandler entity.on_goal on_goal first,
        (script_as read role.CancelHandler entity.on_cancel on_cancel second, (script_as read role.Goal entity.script script third, tt)),
      );
      referring = λ test holds. refl;
    }))))
read_has name read (ActionClient entity) is e =
    then_read _ (name (referent.Entity entity_kind.Server) entity.server) _ is e (λ server named e1.
    then_read _ (read entity.on_response) _ is e1 (λ on_response first e2.
    then_read _ (read entity.on_code) _ is e2 (λ on_code second e3.
    then_read _ (read entity.on_feedback) _ is e3 (λ on_feedback third e4.
    then_read _ (if_there read entity.on_result) _ is e4 (λ on_result last e5.
    subst (IsReadBy name read (ActionClient entity)) (same_Some (ActionClient (record { server = server; depth = entity.depth; on_response = on_response; on_code = on_code; on_feedback = on_feedback; on_result = on_result })) is e5)
    (record {
      kind = refl;
      within = refl;
      scripts = (
        script_as read role.Callback entity.on_response on_response first,
        (
          script_as read role.Callback entity.on_code on_code second,
          (script_as read role.Callback entity.on_feedback on_feedback third, result_as read entity.on_result on_result last),
        ),
      );
      referring = λ test holds. holds (referent.Entity entity_kind.Server) entity.server server named;
    }))))))

-- ---- what can be read

-- whether a script can be read
abbrev can_read : {S T : Type 0} → (S → Option T) → RoleScriptData S → Bool
can_read read from = is_some (read from.script)

result_readable : {S T : Type 0} (read : S → Option T) (from : Option S) → list_all (can_read read) (result_scripts from) ≡ true → is_some (if_there read from) ≡ true
result_readable read None all = refl
result_readable {S} {T} read (Some from) all = some_mapped (λ (script : T). Some script) (read from) (and_parts (is_some (read from)) true all).0

-- an entity can be read where what it refers to and each of its scripts can
pub readable : {N S M T : Type 0} (name : Referent → N → Option M) (read : S → Option T) (from : EntityOf N S) → refers (λ to text. is_some (name to text)) from ≡ true → list_all (λ script. is_some (read script.script)) (scripts_of from) ≡ true → is_some (read_by name read from) ≡ true
readable name read (Timer entity) referring all =
    goes_on (read entity.script) _ (and_parts (is_some (read entity.script)) true all).0 (λ script. refl)
readable name read (Subscription entity) referring all =
    goes_on (name referent.Topic entity.topic) _ referring (λ topic.
    goes_on (read entity.script) _ (and_parts (is_some (read entity.script)) true all).0 (λ script. refl))
readable name read (Service entity) referring all =
    goes_on (read entity.script) _ (and_parts (is_some (read entity.script)) true all).0 (λ script. refl)
readable name read (Client entity) referring all =
    goes_on (name (referent.Entity entity_kind.Service) entity.service) _ referring (λ service.
    goes_on (read entity.script) _ (and_parts (is_some (read entity.script)) true all).0 (λ script. refl))
readable name read (Server entity) referring all =
    let third = is_some (read entity.script) && true in
    let second = is_some (read entity.on_cancel) && third in
    let others = (and_parts (is_some (read entity.on_goal)) second all).1 in
    goes_on (read entity.on_goal) _ (and_parts (is_some (read entity.on_goal)) second all).0 (λ on_goal.
    goes_on (read entity.on_cancel) _ (and_parts (is_some (read entity.on_cancel)) third others).0 (λ on_cancel.
    goes_on (read entity.script) _ (and_parts (is_some (read entity.script)) true (and_parts (is_some (read entity.on_cancel)) third others).1).0 (λ script. refl)))
readable name read (ActionClient entity) referring all =
    let last = list_all (can_read read) (result_scripts entity.on_result) in
    let third = is_some (read entity.on_feedback) && last in
    let second = is_some (read entity.on_code) && third in
    let others = (and_parts (is_some (read entity.on_response)) second all).1 in
    let more = (and_parts (is_some (read entity.on_code)) third others).1 in
    goes_on (name (referent.Entity entity_kind.Server) entity.server) _ referring (λ server.
    goes_on (read entity.on_response) _ (and_parts (is_some (read entity.on_response)) second all).0 (λ on_response.
    goes_on (read entity.on_code) _ (and_parts (is_some (read entity.on_code)) third others).0 (λ on_code.
    goes_on (read entity.on_feedback) _ (and_parts (is_some (read entity.on_feedback)) last more).0 (λ on_feedback.
    goes_on (if_there read entity.on_result) _ (result_readable read entity.on_result (and_parts (is_some (read entity.on_feedback)) last more).1) (λ on_result. refl)))))
