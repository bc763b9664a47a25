-- The identifiers of a document have 128 bits.
use Rattle.std.proofs.Common.{◌≡◌, ℕ, ◌-◌, ◌^◌, Bool, true, false, nat_le, codes, List, [], ◌∷◌, Option, None, Some, option_map, refl, ap, sym, ◌∙◌, subst}
use Rattle.std.specs.List.{list_all}
use Rattle.std.specs.Option.{unwrap_or}
use Rattle.std.proofs.lemmas.Bool.{le-leb, and_parts, and_from}
use Rattle.std.proofs.lemmas.Option.{same_Some}
use Rattle.serde_json.specs.Data.{Data}
use Rattle.serde_json.specs.Find.{as_array, get}
use Rattle.exec_doc.specs.Document.{resolved_fed, resolved_entry}
use Rattle.exec_doc.specs.Draft.{DocumentDraft, EntryDraft, FedDraft}
use Rattle.exec_doc.specs.Forms.{id_in_text, text, count, integer, identifier, values_of, list_of, field_value, or_default, required_field, list, has_order, order_in, Fields, entry_fields, message_in, goal_in, cancel_in, form_in, fed_draft_in, entry, declarations, draft_of}
use Rattle.exec_plan.specs.Entity.{if_there}
use Rattle.exec_graph.specs.declared.draft.GraphDraft.{GraphDraft}
use Rattle.exec_plan.specs.Feeding.{has_128_bits}
use Rattle.exec_graph.specs.Numbers.{topic_named, server_named}
use Rattle.exec_plan.specs.Plan.{Fed, Feed}
use Rattle.exec_plan.specs.declared.plan.FedOf.TheVariants.{Message, Goal, Cancel}
use Rattle.exec_plan.proofs.Reading.{then_read, AreRead, are_read}
use Rattle.exec_doc.proofs.Feeding.{all_read}
use Rattle.exec_doc.proofs.Identifiers.{id_below}

-- an identifier that is there has 128 bits
abbrev pub small_id : Option ℕ → Bool
small_id None = true
small_id (Some id) = nat_le id (2 ^ 128 - 1)

-- so has that of what is said to be fed
abbrev pub has_bits : FedDraft → Bool
has_bits (Message name value) = true
has_bits (Goal name id value) = small_id id
has_bits (Cancel name id stamp) = small_id id

-- ---- what a document says

small_of : (said : List ℕ) (id : Option ℕ) → id_in_text said ≡ id → small_id id ≡ true
small_of said None is = refl
small_of said (Some id) is = le-leb id (2 ^ 128 - 1) (id_below said id is)

small_said : (said : Option (List ℕ)) (id : Option ℕ) → option_map id_in_text said ≡ Some id → small_id id ≡ true
small_said None id e = absurd cc
small_said (Some said) id e = subst (λ (id : Option ℕ). small_id id ≡ true) (same_Some (id_in_text said) id e) (small_of said (id_in_text said) refl)

small_field : (field : Option Data) (id : Option ℕ) → field_value identifier field ≡ Some id → small_id id ≡ true
small_field field id e = then_read _ field _ id e (λ value there said. small_said (text value) id said)

goal_small : (fields : Fields) (fed : FedDraft) → goal_in fields ≡ Some fed → has_bits fed ≡ true
goal_small fields fed e =
    then_read _ (field_value text fields.action) _ fed e (λ action found e1.
    then_read _ (field_value identifier fields.goal) _ fed e1 (λ id said e2.
    then_read _ (field_value integer fields.value) _ fed e2 (λ sent given e3.
    subst (λ (fed : FedDraft). has_bits fed ≡ true) (same_Some (Goal action id sent) fed e3) (small_field fields.goal id said))))

cancel_small : (fields : Fields) (fed : FedDraft) → cancel_in fields ≡ Some fed → has_bits fed ≡ true
cancel_small fields fed e =
    then_read _ (field_value text fields.action) _ fed e (λ action found e1.
    then_read _ (field_value identifier fields.cancel) _ fed e1 (λ id said e2.
    then_read _ (or_default count 0 fields.stamp) _ fed e2 (λ stamp given e3.
    subst (λ (fed : FedDraft). has_bits fed ≡ true) (same_Some (Cancel action id stamp) fed e3) (small_field fields.cancel id said))))

message_small : (fields : Fields) (fed : FedDraft) → message_in fields ≡ Some fed → has_bits fed ≡ true
message_small fields fed e =
    then_read _ (field_value text fields.topic) _ fed e (λ topic found e1.
    then_read _ (field_value integer fields.value) _ fed e1 (λ sent given e2.
    subst (λ (fed : FedDraft). has_bits fed ≡ true) (same_Some (Message topic sent) fed e2) refl))

form_small : (topic goal cancel : Bool) (fields : Fields) (fed : FedDraft) → form_in topic goal cancel fields ≡ Some fed → has_bits fed ≡ true
form_small true false false fields fed e = message_small fields fed e
form_small false true false fields fed e = goal_small fields fed e
form_small false false true fields fed e = cancel_small fields fed e
form_small true true true fields fed e = absurd cc
form_small true true false fields fed e = absurd cc
form_small true false true fields fed e = absurd cc
form_small false true true fields fed e = absurd cc
form_small false false false fields fed e = absurd cc

entry_small : (value : Data) (drafted : EntryDraft) → entry value ≡ Some drafted → has_bits drafted.fed ≡ true
entry_small value drafted e =
    let fields : Fields = entry_fields value in
    then_read _ (field_value count fields.round) _ drafted e (λ round found e1.
    then_read _ (fed_draft_in fields) _ drafted e1 (λ is said e2.
    subst (λ (drafted : EntryDraft). has_bits drafted.fed ≡ true) (same_Some (record { round = round; fed = is }) drafted e2) (form_small _ _ _ fields is said)))

-- all entries' have
abbrev AreSmall : List EntryDraft → Type 0
AreSmall feed = list_all (λ entry. has_bits entry.fed) feed ≡ true

listed_small : (values : Data) (feed : List EntryDraft) → list_of entry values ≡ Some feed → AreSmall feed
listed_small values feed e =
    then_read _ (as_array values) _ feed e (λ items there e1.
    all_read entry (λ entry. has_bits entry.fed) (values_of items) feed entry_small (are_read entry (values_of items) feed e1))

field_small : (field : Option Data) (feed : List EntryDraft) → option_map (λ found. unwrap_or found []) (if_there (list_of entry) field) ≡ Some feed → AreSmall feed
field_small None feed e = let empty : List EntryDraft = [] in subst AreSmall (same_Some empty feed e) refl
field_small (Some values) feed e = given (list_of entry values) refl e where
  given : (found : Option (List EntryDraft)) → list_of entry values ≡ found → option_map (λ found. unwrap_or found []) (option_map Some found) ≡ Some feed → AreSmall feed
  given None is e = absurd cc
  given (Some entries) is e = subst AreSmall (same_Some entries feed e) (listed_small values entries is)

-- the identifiers of a document's draft have 128 bits
pub draft_small : (value : Data) (document : DocumentDraft) → draft_of value ≡ Some document → list_all (λ entry. has_bits entry.fed) document.feed ≡ true
draft_small value document e =
    then_read _ (required_field count (codes "version") value) _ document e (λ version found e1.
    then_read _ (order_in (has_order version) value) _ document e1 (λ under named e2.
    then_read _ (declarations value) _ document e2 (λ graph is e3.
    then_read _ (list count (codes "moments") value) _ document e3 (λ moments given e4.
    then_read _ (list entry (codes "feed") value) _ document e4 (λ feed said e5.
    subst (λ (document : DocumentDraft). AreSmall document.feed) (same_Some (record { version = version; order = under; graph = graph; moments = moments; feed = feed }) document e5)
    (field_small (get (codes "feed") value) feed said))))))

-- ---- what is fed

fed_small : (source : GraphDraft) (drafted : FedDraft) (given : Fed) → has_bits drafted ≡ true → resolved_fed source drafted ≡ Some given → has_128_bits given ≡ true
fed_small source (Message name value) given small e =
    then_read _ (topic_named source name) _ given e (λ topic found e1.
    subst (λ (fed : Fed). has_128_bits fed ≡ true) (same_Some (Message topic value) given e1) refl)
fed_small source (Goal name said value) given small e =
    then_read _ (server_named source name) _ given e (λ server found e1.
    then_read _ said _ given e1 (λ id is e2.
    subst (λ (fed : Fed). has_128_bits fed ≡ true) (same_Some (Goal server id value) given e2) (ap small_id (sym is) ∙ small)))
fed_small source (Cancel name said stamp) given small e =
    then_read _ (server_named source name) _ given e (λ server found e1.
    then_read _ said _ given e1 (λ id is e2.
    subst (λ (fed : Fed). has_128_bits fed ≡ true) (same_Some (Cancel server id stamp) given e2) (ap small_id (sym is) ∙ small)))

-- what is read of such a feed has identifiers of 128 bits
pub feed_small : (source : GraphDraft) (drafted : List EntryDraft) (feed : List Feed) → list_all (λ entry. has_bits entry.fed) drafted ≡ true → AreRead (resolved_entry source) drafted feed → list_all (λ entry. has_128_bits entry.fed) feed ≡ true
feed_small source [] [] small reads = refl
feed_small source [] (entry ∷ feed) small reads = absurd reads
feed_small source (d ∷ drafted) [] small reads = absurd reads
feed_small source (d ∷ drafted) (entry ∷ feed) small reads =
    and_from (has_128_bits entry.fed) (list_all (λ entry. has_128_bits entry.fed) feed)
    (then_read _ (resolved_fed source d.fed) _ entry reads.0 (λ given is e.
    subst (λ (entry : Feed). has_128_bits entry.fed ≡ true) (same_Some (record { round = d.round; fed = given }) entry e) (fed_small source d.fed given (and_parts (has_bits d.fed) (list_all (λ entry. has_bits entry.fed) drafted) small).0 is)))
    (feed_small source drafted feed (and_parts (has_bits d.fed) (list_all (λ entry. has_bits entry.fed) drafted) small).1 reads.1)
