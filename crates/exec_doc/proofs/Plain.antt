-- What an upgrade keeps has no float and doesn't nest deep: each field has a form.
use Rattle.std.proofs.Common.{◌≡◌, ℕ, suc, ◌≤◌, List, [], ◌∷◌, codes, Bool, true, false, Float, Option, None, Some, option_map, Ordering, Less, Equal, Greater, refl, ap, subst, arith}
use Rattle.std.specs.Cmp.Lexicographic.{slice_cmp}
use Rattle.std.specs.Ordering.{nat_cmp, match_ordering}
use Rattle.std.specs.Prelude.{⊤}
use Rattle.serde_json.specs.Data.{Data, Num, unsigned, negative, float, null, boolean, number, string, array, object, Items, no_items, item, Members, no_members, member, put, depth, items_depth, members_depth}
use Rattle.serde_json.specs.Find.{get, as_number, as_u64, as_i64}
use Rattle.serde_json.specs.Written.{has_float, items_have_float, members_have_float}
use Rattle.exec_doc.specs.Draft.{DocumentDraft, FedDraft}
use Rattle.exec_doc.specs.Forms.{text, count, integer, id_in_text, identifier, values_of, list_of, field_value, or_default, required_field, optional_field, list, depth_field, word, script, script_field, group_kind, exclusive_named, group, form_of, entity, node, entry_fields as fields_in, form_in, fed_draft_in, entry, has_order, order_in, declarations, draft_of}
use Rattle.exec_doc.specs.Upgrade.{Keeping, changed_items, changed_list, kept_field, with_field, unchanged, kept_members, only, group_fields, entity_fields, fed_fields, node_fields, document_fields, upgraded_group, upgraded_entity, upgraded_node, upgraded_entry, name_of_order, upgraded}
use Rattle.exec_graph.specs.declared.draft.EntityDraft.{EntityDraft}
use Rattle.exec_msg.specs.Options.{◌>>=◌, each}
use Rattle.exec_plan.proofs.Reading.{then_read, mapped_read}
use Rattle.exec_plan.specs.Entity.{Drafted, Spelled, if_there}
use Rattle.exec_plan.specs.declared.entity.EntityKind.{EntityKind}
use Rattle.exec_plan.specs.declared.entity.EntityKind.TheVariants as kind
use Rattle.exec_plan.specs.declared.order.Order.{Order}

-- a value without a float that nests at most so deep
pub record IsPlain (most : ℕ) (value : Data) : Type 0 where
  pub floatless : has_float value ≡ false
  pub flat : depth value ≤ most

-- such values, each of them a field of an object
abbrev ArePlain : ℕ → Members → Type 0
ArePlain most no_members = ⊤
ArePlain most (member name value others) = IsPlain most value × ArePlain most others

-- a field that is such a value, if it is there
abbrev MayBePlain : ℕ → Option Data → Type 0
MayBePlain most None = ⊤
MayBePlain most (Some value) = IsPlain most value

-- what a form takes is such a value after it was changed
abbrev MakesPlain : {A : Type 0} → ℕ → (Data → Option A) → (Data → Data) → Type 0
MakesPlain {A} most form change = (value : Data) (a : A) → form value ≡ Some a → IsPlain most (change value)

-- what a form takes is such a value
abbrev TakesPlain : {A : Type 0} → ℕ → (Data → Option A) → Type 0
TakesPlain most form = MakesPlain most form (λ value. value)

-- ---- objects

choose : (most : ℕ) (o : Ordering) (a b c : Members) → ArePlain most a → ArePlain most b → ArePlain most c → ArePlain most (match_ordering o a b c)
choose most Less a b c p q r = p
choose most Equal a b c p q r = q
choose most Greater a b c p q r = r

put_plain : (most : ℕ) (name : List ℕ) (value : Data) (within : Members) → IsPlain most value → ArePlain most within → ArePlain most (put name value within)
put_plain most name value no_members is are = (is, tt)
put_plain most name value (member other there others) is are =
    choose most (slice_cmp nat_cmp name other) (member name value (member other there others)) (member other value others) (member other there (put name value others))
    (is, are) (is, are.1) (are.0, put_plain most name value others is are.1)

with_plain : (most : ℕ) (name : List ℕ) (field : Option Data) (within : Members) → MayBePlain most field → ArePlain most within → ArePlain most (with_field name field within)
with_plain most name None within is are = are
with_plain most name (Some value) within is are = put_plain most name value within is are

-- each field that is kept is such a value, if it is there
abbrev FieldsPlain : ℕ → List (List ℕ × Keeping) → Data → Type 0
FieldsPlain most [] value = ⊤
FieldsPlain most (named ∷ others) value = MayBePlain most (kept_field named.1 (get named.0 value)) × FieldsPlain most others value

kept_plain : (most : ℕ) (fields : List (List ℕ × Keeping)) (value : Data) → FieldsPlain most fields value → ArePlain most (kept_members fields value)
kept_plain most [] value are = tt
kept_plain most (named ∷ others) value are = with_plain most named.0 (kept_field named.1 (get named.0 value)) (kept_members others value) are.0 (kept_plain most others value are.1)

members_floatless : (most : ℕ) (within : Members) → ArePlain most within → members_have_float within ≡ false
members_floatless most no_members are = refl
members_floatless most (member name value others) are = rw (are.0.floatless) (members_floatless most others are.1)

members_flat : (most : ℕ) (within : Members) → ArePlain most within → members_depth within ≤ most
members_flat most no_members are = omega arith
members_flat most (member name value others) are = omega (arith, are.0.flat, members_flat most others are.1)

object_plain : (most : ℕ) (within : Members) → ArePlain most within → IsPlain (suc most) (object within)
object_plain most within are = record { floatless = members_floatless most within are; flat = omega (arith, members_flat most within are) }

only_plain : (most : ℕ) (fields : List (List ℕ × Keeping)) (value : Data) → FieldsPlain most fields value → IsPlain (suc most) (only fields value)
only_plain most fields value are = object_plain most (kept_members fields value) (kept_plain most fields value are)

-- ---- values

text_plain : (most : ℕ) → TakesPlain most text
text_plain most null a e = absurd cc
text_plain most (boolean b) a e = absurd cc
text_plain most (number n) a e = absurd cc
text_plain most (string s) a e = record { floatless = refl; flat = omega arith }
text_plain most (array items) a e = absurd cc
text_plain most (object within) a e = absurd cc

number_plain : {A : Type 0} (most : ℕ) (read : Num → Option A) → ((x : Float) → read (float x) ≡ None) → (n : Num) (a : A) → read n ≡ Some a → IsPlain most (number n)
number_plain most read never (unsigned n) a e = record { floatless = refl; flat = omega arith }
number_plain most read never (negative z) a e = record { floatless = refl; flat = omega arith }
number_plain most read never (float x) a e = let none = never x in absurd cc

numeric_plain : {A : Type 0} (most : ℕ) (read : Num → Option A) → ((x : Float) → read (float x) ≡ None) → TakesPlain most (λ value. as_number value >>= read)
numeric_plain most read never null a e = absurd cc
numeric_plain most read never (boolean b) a e = absurd cc
numeric_plain most read never (number n) a e = number_plain most read never n a e
numeric_plain most read never (string s) a e = absurd cc
numeric_plain most read never (array items) a e = absurd cc
numeric_plain most read never (object within) a e = absurd cc

count_plain : (most : ℕ) → TakesPlain most count
count_plain most = numeric_plain most as_u64 (λ x. refl)

integer_plain : (most : ℕ) → TakesPlain most integer
integer_plain most = numeric_plain most as_i64 (λ x. refl)

identifier_plain : (most : ℕ) → TakesPlain most identifier
identifier_plain most value a e = mapped_read _ (text value) id_in_text a e (λ said is f. text_plain most value said is)

kind_plain : (most : ℕ) → TakesPlain most group_kind
kind_plain most value a e = then_read _ (text value) exclusive_named a e (λ said is f. text_plain most value said is)

word_plain : (most : ℕ) → TakesPlain most word
word_plain most null a e = absurd cc
word_plain most (boolean b) a e = absurd cc
word_plain most (number n) a e = mapped_read _ (as_i64 n) _ a e (λ z is f. number_plain most as_i64 (λ x. refl) n z is)
word_plain most (string s) a e = record { floatless = refl; flat = omega arith }
word_plain most (array items) a e = absurd cc
word_plain most (object within) a e = absurd cc

-- ---- lists

items_floatless : {A : Type 0} (most : ℕ) (form : Data → Option A) (change : Data → Data) → MakesPlain most form change → (values : Items) (all : List A) → each form (values_of values) ≡ Some all → items_have_float (changed_items change values) ≡ false
items_floatless most form change makes no_items all e = refl
items_floatless most form change makes (item value values) all e =
    then_read _ (form value) _ all e (λ a is e1.
    then_read _ (each form (values_of values)) _ all e1 (λ rest are e2.
    rw ((makes value a is).floatless) (items_floatless most form change makes values rest are)))

items_flat : {A : Type 0} (most : ℕ) (form : Data → Option A) (change : Data → Data) → MakesPlain most form change → (values : Items) (all : List A) → each form (values_of values) ≡ Some all → items_depth (changed_items change values) ≤ most
items_flat most form change makes no_items all e = omega arith
items_flat most form change makes (item value values) all e =
    then_read _ (form value) _ all e (λ a is e1.
    then_read _ (each form (values_of values)) _ all e1 (λ rest are e2.
    omega (arith, (makes value a is).flat, items_flat most form change makes values rest are)))

list_plain : {A : Type 0} (most : ℕ) (form : Data → Option A) (change : Data → Data) → MakesPlain most form change → MakesPlain (suc most) (list_of form) (changed_list change)
list_plain most form change makes null a e = absurd cc
list_plain most form change makes (boolean b) a e = absurd cc
list_plain most form change makes (number n) a e = absurd cc
list_plain most form change makes (string s) a e = absurd cc
list_plain most form change makes (array values) a e = record {
  floatless = items_floatless most form change makes values a e;
  flat = omega (arith, items_flat most form change makes values a e);
}
list_plain most form change makes (object within) a e = absurd cc

items_same : (values : Items) → changed_items (λ value. value) values ≡ values
items_same no_items = refl
items_same (item value values) = ap (item value) (items_same values)

list_same : (value : Data) → changed_list (λ value. value) value ≡ value
list_same null = refl
list_same (boolean b) = refl
list_same (number n) = refl
list_same (string s) = refl
list_same (array values) = ap array (items_same values)
list_same (object within) = refl

taken_list_plain : {A : Type 0} (most : ℕ) (form : Data → Option A) → TakesPlain most form → TakesPlain (suc most) (list_of form)
taken_list_plain most form takes value a e = subst (IsPlain (suc most)) (list_same value) (list_plain most form (λ value. value) takes value a e)

script_plain : (most : ℕ) → TakesPlain (suc (suc most)) script
script_plain most = taken_list_plain (suc most) (list_of word) (taken_list_plain most word (word_plain most))

-- ---- fields

needed : {A : Type 0} (most : ℕ) (form : Data → Option A) → TakesPlain most form → (field : Option Data) (a : A) → field_value form field ≡ Some a → MayBePlain most field
needed most form takes None a e = tt
needed most form takes (Some value) a e = takes value a e

optional : {A : Type 0} (most : ℕ) (form : Data → Option A) → TakesPlain most form → (field : Option Data) (a : Option A) → if_there form field ≡ Some a → MayBePlain most field
optional most form takes None a e = tt
optional most form takes (Some value) a e = mapped_read _ (form value) _ a e (λ b is f. takes value b is)

defaulted : {A : Type 0} (most : ℕ) (form : Data → Option A) (default : A) → TakesPlain most form → (field : Option Data) (a : A) → or_default form default field ≡ Some a → MayBePlain most field
defaulted most form default takes field a e = mapped_read _ (if_there form field) _ a e (λ b is f. optional most form takes field b is)

listed : {A : Type 0} (most : ℕ) (form : Data → Option A) (change : Data → Data) → MakesPlain most form change → (field : Option Data) (all : List A) → or_default (list_of form) [] field ≡ Some all → MayBePlain (suc most) (option_map (changed_list change) field)
listed most form change makes None all e = tt
listed {A} most form change makes (Some value) all e =
    mapped_read _ (if_there (list_of form) (Some value)) _ all e (λ (found : Option (List A)) is f.
    mapped_read _ (list_of form value) _ found is (λ (read : List A) there g. list_plain most form change makes value read there))

-- ---- each object

-- two levels, which a script has
abbrev two : ℕ → ℕ
two most = suc (suc most)

scripted : (most : ℕ) (name : List ℕ) (value : Data) (a : Spelled) → script_field name value ≡ Some a → MayBePlain (two most) (get name value)
scripted most name value a e = defaulted (two most) script [] (script_plain most) (get name value) a e

deep : (most : ℕ) (value : Data) (a : ℕ) → depth_field value ≡ Some a → MayBePlain (two most) (get (codes "depth") value)
deep most value a e = defaulted (two most) count _ (count_plain (two most)) (get (codes "depth") value) a e

texted : (most : ℕ) (name : List ℕ) (value : Data) (a : List ℕ) → required_field text name value ≡ Some a → MayBePlain most (get name value)
texted most name value a e = needed most text (text_plain most) (get name value) a e

group_plain : (most : ℕ) → MakesPlain (suc (two most)) group upgraded_group
group_plain most value a e =
    then_read _ (required_field text (codes "name") value) _ a e (λ name n e1.
    then_read _ (required_field group_kind (codes "kind") value) _ a e1 (λ kind k e2.
    only_plain (two most) (unchanged group_fields) value
    (texted (two most) (codes "name") value name n, (needed (two most) group_kind (kind_plain (two most)) (get (codes "kind") value) kind k, tt))))

entity_fields_plain : (most : ℕ) (kind : EntityKind) (value : Data) (is : Drafted) → MayBePlain (two most) (get (codes "name") value) → MayBePlain (two most) (get (codes "group") value)
    → form_of kind value ≡ Some is → FieldsPlain (two most) (unchanged (entity_fields kind)) value
entity_fields_plain most kind.Timer value is n g e =
    then_read _ (required_field count (codes "period") value) _ is e (λ period p e1.
    then_read _ (script_field (codes "script") value) _ is e1 (λ called s e2.
    (n, (needed (two most) count (count_plain (two most)) (get (codes "period") value) period p, (g, (scripted most (codes "script") value called s, tt))))))
entity_fields_plain most kind.Subscription value is n g e =
    then_read _ (required_field text (codes "topic") value) _ is e (λ topic t e1.
    then_read _ (depth_field value) _ is e1 (λ depth d e2.
    then_read _ (script_field (codes "script") value) _ is e2 (λ called s e3.
    (n, (texted (two most) (codes "topic") value topic t, (g, (deep most value depth d, (scripted most (codes "script") value called s, tt))))))))
entity_fields_plain most kind.Service value is n g e =
    then_read _ (depth_field value) _ is e (λ depth d e1.
    then_read _ (script_field (codes "script") value) _ is e1 (λ called s e2.
    (n, (g, (deep most value depth d, (scripted most (codes "script") value called s, tt))))))
entity_fields_plain most kind.Client value is n g e =
    then_read _ (required_field text (codes "service") value) _ is e (λ service t e1.
    then_read _ (depth_field value) _ is e1 (λ depth d e2.
    then_read _ (script_field (codes "script") value) _ is e2 (λ called s e3.
    (n, (texted (two most) (codes "service") value service t, (g, (deep most value depth d, (scripted most (codes "script") value called s, tt))))))))
entity_fields_plain most kind.Server value is n g e =
    then_read _ (depth_field value) _ is e (λ depth d e1.
    then_read _ (optional_field count (codes "result_timeout") value) _ is e1 (λ timeout t e2.
    then_read _ (script_field (codes "on_goal") value) _ is e2 (λ on_goal s3 e3.
    then_read _ (script_field (codes "on_cancel") value) _ is e3 (λ on_cancel s4 e4.
    then_read _ (script_field (codes "script") value) _ is e4 (λ called s5 e5. (
      n,
      (
        g,
        (
          deep most value depth d,
          (
            optional (two most) count (count_plain (two most)) (get (codes "result_timeout") value) timeout t,
            (scripted most (codes "on_goal") value on_goal s3, (scripted most (codes "on_cancel") value on_cancel s4, (scripted most (codes "script") value called s5, tt))),
          ),
        ),
      ),
    ))))))
entity_fields_plain most kind.ActionClient value is n g e =
    then_read _ (required_field text (codes "action") value) _ is e (λ action t e1.
    then_read _ (depth_field value) _ is e1 (λ depth d e2.
    then_read _ (script_field (codes "on_response") value) _ is e2 (λ on_response s3 e3.
    then_read _ (script_field (codes "on_code") value) _ is e3 (λ on_code s4 e4.
    then_read _ (script_field (codes "on_feedback") value) _ is e4 (λ on_feedback s5 e5.
    then_read _ (optional_field script (codes "on_result") value) _ is e5 (λ on_result s6 e6. (
      n,
      (
        texted (two most) (codes "action") value action t,
        (
          g,
          (
            deep most value depth d,
            (
              scripted most (codes "on_response") value on_response s3,
              (
                scripted most (codes "on_code") value on_code s4,
                (scripted most (codes "on_feedback") value on_feedback s5, (optional (two most) script (script_plain most) (get (codes "on_result") value) on_result s6, tt)),
              ),
            ),
          ),
        ),
      ),
    )))))))

entity_plain : (most : ℕ) (kind : EntityKind) → MakesPlain (suc (two most)) (entity (form_of kind)) (upgraded_entity kind)
entity_plain most kind value a e =
    then_read _ (required_field text (codes "name") value) _ a e (λ name n e1.
    then_read _ (optional_field text (codes "group") value) _ a e1 (λ group g e2.
    then_read _ (form_of kind value) _ a e2 (λ is i e3.
    only_plain (two most) (unchanged (entity_fields kind)) value
    (entity_fields_plain most kind value is (texted (two most) (codes "name") value name n) (optional (two most) text (text_plain (two most)) (get (codes "group") value) group g) i))))

node_plain : (most : ℕ) → MakesPlain (suc (two (two most))) node upgraded_node
node_plain most value a e =
    let entities = λ (kind : EntityKind) (name : List ℕ) (drafts : List EntityDraft) (is : list (entity (form_of kind)) name value ≡ Some drafts).
    listed (suc (two most)) (entity (form_of kind)) (upgraded_entity kind) (entity_plain most kind) (get name value) drafts is in
    then_read _ (required_field text (codes "name") value) _ a e (λ name n e1.
    then_read _ (list group (codes "groups") value) _ a e1 (λ groups r2 e2.
    then_read _ (list (entity (form_of kind.Timer)) (codes "timers") value) _ a e2 (λ timers r3 e3.
    then_read _ (list (entity (form_of kind.Subscription)) (codes "subscriptions") value) _ a e3 (λ subscriptions r4 e4.
    then_read _ (list (entity (form_of kind.Service)) (codes "services") value) _ a e4 (λ services r5 e5.
    then_read _ (list (entity (form_of kind.Client)) (codes "clients") value) _ a e5 (λ clients r6 e6.
    then_read _ (list (entity (form_of kind.Server)) (codes "actions") value) _ a e6 (λ servers r7 e7.
    then_read _ (list (entity (form_of kind.ActionClient)) (codes "action_clients") value) _ a e7 (λ action_clients r8 e8.
    only_plain (two (two most)) node_fields value (
      texted (two (two most)) (codes "name") value name n,
      (
        listed (suc (two most)) group upgraded_group (group_plain most) (get (codes "groups") value) groups r2,
        (
          entities kind.Timer (codes "timers") timers r3,
          (
            entities kind.Subscription (codes "subscriptions") subscriptions r4,
            (
              entities kind.Service (codes "services") services r5,
              (
                entities kind.Client (codes "clients") clients r6,
                (
                  entities kind.Server (codes "actions") servers r7,
                  (entities kind.ActionClient (codes "action_clients") action_clients r8, tt),
                ),
              ),
            ),
          ),
        ),
      ),
    )))))))))

fed_plain : (most : ℕ) (topic goal cancel : Bool) (value : Data) (fed : FedDraft) → MayBePlain most (get (codes "round") value) → form_in topic goal cancel (fields_in value) ≡ Some fed
    → FieldsPlain most (unchanged (fed_fields topic goal cancel)) value
fed_plain most true false false value fed r e =
    then_read _ (field_value text (get (codes "topic") value)) _ fed e (λ topic t e1.
    then_read _ (field_value integer (get (codes "value") value)) _ fed e1 (λ sent v e2.
    (r, (texted most (codes "topic") value topic t, (needed most integer (integer_plain most) (get (codes "value") value) sent v, tt)))))
fed_plain most false true false value fed r e =
    then_read _ (field_value text (get (codes "action") value)) _ fed e (λ action t e1.
    then_read _ (field_value identifier (get (codes "goal") value)) _ fed e1 (λ id i e2.
    then_read _ (field_value integer (get (codes "value") value)) _ fed e2 (λ sent v e3. (
      r,
      (
        texted most (codes "action") value action t,
        (
          needed most identifier (identifier_plain most) (get (codes "goal") value) id i,
          (needed most integer (integer_plain most) (get (codes "value") value) sent v, tt),
        ),
      ),
    ))))
fed_plain most false false true value fed r e =
    then_read _ (field_value text (get (codes "action") value)) _ fed e (λ action t e1.
    then_read _ (field_value identifier (get (codes "cancel") value)) _ fed e1 (λ id i e2.
    then_read _ (or_default count 0 (get (codes "stamp") value)) _ fed e2 (λ stamp s e3. (
      r,
      (
        texted most (codes "action") value action t,
        (
          needed most identifier (identifier_plain most) (get (codes "cancel") value) id i,
          (defaulted most count 0 (count_plain most) (get (codes "stamp") value) stamp s, tt),
        ),
      ),
    ))))
fed_plain most false false false value fed r e = tt
fed_plain most true true cancel value fed r e = tt
fed_plain most true false true value fed r e = tt
fed_plain most false true true value fed r e = tt

entry_plain : (most : ℕ) → MakesPlain (suc most) entry upgraded_entry
entry_plain most value a e =
    then_read _ (field_value count (get (codes "round") value)) _ a e (λ round r e1.
    then_read _ (fed_draft_in (fields_in value)) _ a e1 (λ fed f e2.
    only_plain most (unchanged (fed_fields _ _ _)) value (fed_plain most _ _ _ value fed (needed most count (count_plain most) (get (codes "round") value) round r) f)))

-- ---- the document

-- an upgrade has no float, and nests at most seven levels deep
pub upgraded_plain : (under : Order) (value : Data) (draft : DocumentDraft) → draft_of value ≡ Some draft → IsPlain 7 (upgraded under value)
upgraded_plain under value draft e =
    then_read _ (required_field count (codes "version") value) _ draft e (λ version v e1.
    then_read _ (order_in (has_order version) value) _ draft e1 (λ said u e2.
    then_read _ (declarations value) _ draft e2 (λ graph g e3.
    then_read _ (list count (codes "moments") value) _ draft e3 (λ moments m e4.
    then_read _ (list entry (codes "feed") value) _ draft e4 (λ feed f e5.
    then_read _ (list text (codes "topics") value) _ graph g (λ topics t g1.
    then_read _ (list node (codes "nodes") value) _ graph g1 (λ nodes n g2.
    object_plain 6 _ (put_plain 6 (codes "version") (number (unsigned 2)) _ (record { floatless = refl; flat = omega arith })
    (put_plain 6 (codes "order") (string (name_of_order under)) _ (record { floatless = refl; flat = omega arith })
    (kept_plain 6 document_fields value (
      defaulted 6 (list_of text) [] (taken_list_plain 5 text (text_plain 5)) (get (codes "topics") value) topics t,
      (
        listed 5 node upgraded_node (node_plain 0) (get (codes "nodes") value) nodes n,
        (
          defaulted 6 (list_of count) [] (taken_list_plain 5 count (count_plain 5)) (get (codes "moments") value) moments m,
          (listed 5 entry upgraded_entry (entry_plain 4) (get (codes "feed") value) feed f, tt),
        ),
      ),
    )))))))))))
