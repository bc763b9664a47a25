-- What a graph is fed by a draft.
use Rattle.std.proofs.Common.{◌≡◌, ℕ, Bool, true, false, ◌&&◌, length, map, IsTrue, List, [], ◌∷◌, Option, None, Some, All, is_some, unwrap_or, nat_le, bytes_eq, refl, ap, ap₂, sym, ◌∙◌, subst}
use Rattle.std.specs.List.{list_all}
use Rattle.std.specs.Option.{option_map_or}
use Rattle.std.proofs.lemmas.Bool.{and_parts, and_from}
use Rattle.std.proofs.lemmas.List.Elements.{All-nil, All-cons}
use Rattle.exec_doc.specs.Document.{resolved_fed, resolved_entry}
use Rattle.exec_doc.specs.Draft.{FedDraft, EntryDraft}
use Rattle.exec_doc.specs.inner.Placing.{fed_by, entry_by, is_cancel_identified}
use Rattle.exec_doc.specs.Refusals.{feeds, has_identifier}
use Rattle.exec_graph.specs.declared.draft.GraphDraft.{GraphDraft}
use Rattle.exec_plan.specs.Feeding.{goes_somewhere}
use Rattle.exec_plan.specs.Graph.{GraphData, is_topic, is_server, topic_at, server_at}
use Rattle.exec_plan.specs.Lawful.{is_at}
use Rattle.exec_graph.specs.Numbers.{topic_named, server_named}
use Rattle.exec_msg.specs.Options.{each}
use Rattle.exec_graph.specs.Resolved.{resolved_graph}
use Rattle.exec_plan.specs.Schedule.{stamp_of, is_identified}
use Rattle.exec_plan.specs.Plan.{Fed, Feed}
use Rattle.exec_plan.specs.declared.plan.FedOf.TheVariants.{Message, Goal, Cancel}
use Rattle.exec_graph.proofs.Found.{Finds, finds}
use Rattle.exec_plan.proofs.FoundThere.{found_there}
use Rattle.exec_plan.proofs.Reading.{AreRead, are_read, as_many, seen_alike, each_some, mapped_read, some_mapped}

-- ---- what is found in a graph

topic_there : (made : GraphData) (name : List ℕ) (number : ℕ) → topic_at made name ≡ Some number → is_at is_topic made number ≡ true
topic_there made name number found = found_there (λ entity. is_topic entity.is) (λ entity. bytes_eq entity.name name) made.entities number found

server_there : (made : GraphData) (name : List ℕ) (number : ℕ) → server_at made name ≡ Some number → is_at is_server made number ≡ true
server_there made name number found = found_there (λ entity. is_server entity.is) (λ entity. bytes_eq entity.name name) made.entities number found

-- ---- what is fed to a graph

-- what is fed to a graph has the stamp of its draft, and goes to what is there
record IsPlaced (made : GraphData) (drafted : FedDraft) (fed : Fed) : Type 0 where
  pub stamp : stamp_of fed ≡ stamp_of drafted
  pub goes : goes_somewhere made fed ≡ true

fed_placed : (made : GraphData) (drafted : FedDraft) (fed : Fed) → fed_by made drafted ≡ Some fed → IsPlaced made drafted fed
fed_placed made (Message name value) fed e =
    mapped_read _ (topic_at made name) _ fed e (λ topic found is.
    subst (IsPlaced made (Message name value)) is (record { stamp = refl; goes = topic_there made name topic found }))
fed_placed made (Goal name id value) fed e =
    mapped_read _ (server_at made name) _ fed e (λ server found is.
    subst (IsPlaced made (Goal name id value)) is (record { stamp = refl; goes = server_there made name server found }))
fed_placed made (Cancel name id stamp) fed e =
    mapped_read _ (server_at made name) _ fed e (λ server found is.
    subst (IsPlaced made (Cancel name id stamp)) is (record { stamp = refl; goes = server_there made name server found }))

-- an entry has its draft's round
record IsEntry (made : GraphData) (drafted : EntryDraft) (entry : Feed) : Type 0 where
  pub round : entry.round ≡ drafted.round
  pub fed : fed_by made drafted.fed ≡ Some entry.fed

entry_placed : (made : GraphData) (drafted : EntryDraft) (entry : Feed) → entry_by made drafted ≡ Some entry → IsEntry made drafted entry
entry_placed made drafted entry e =
    mapped_read _ (fed_by made drafted.fed) _ entry e (λ fed found is.
    subst (IsEntry made drafted) is (record { round = refl; fed = found }))

-- all that is fed goes to what is there
goes_each : (made : GraphData) (drafted : List EntryDraft) (feed : List Feed) → AreRead (entry_by made) drafted feed → All (λ entry. IsTrue (goes_somewhere made entry.fed)) feed
goes_each made [] [] reads = All-nil (λ entry. IsTrue (goes_somewhere made entry.fed))
goes_each made [] (entry ∷ feed) reads = absurd reads
goes_each made (d ∷ drafted) [] reads = absurd reads
goes_each made (d ∷ drafted) (entry ∷ feed) reads =
    All-cons (λ entry. IsTrue (goes_somewhere made entry.fed)) entry feed
    (fed_placed made d.fed entry.fed (entry_placed made d entry reads.0).fed).goes
    (goes_each made drafted feed reads.1)

pub goes : (made : GraphData) (drafted : List EntryDraft) (feed : List Feed) → each (entry_by made) drafted ≡ Some feed → All (λ entry. IsTrue (goes_somewhere made entry.fed)) feed
goes made drafted feed e = goes_each made drafted feed (are_read (entry_by made) drafted feed e)

goes_tested : (made : GraphData) (drafted : List EntryDraft) (feed : List Feed) → AreRead (entry_by made) drafted feed → list_all (λ entry. goes_somewhere made entry.fed) feed ≡ true
goes_tested made [] [] reads = refl
goes_tested made [] (entry ∷ feed) reads = absurd reads
goes_tested made (d ∷ drafted) [] reads = absurd reads
goes_tested made (d ∷ drafted) (entry ∷ feed) reads =
    and_from (goes_somewhere made entry.fed) (list_all (λ entry. goes_somewhere made entry.fed) feed)
    (fed_placed made d.fed entry.fed (entry_placed made d entry reads.0).fed).goes
    (goes_tested made drafted feed reads.1)

-- so the test of it holds
pub goes_all : (made : GraphData) (drafted : List EntryDraft) (feed : List Feed) → each (entry_by made) drafted ≡ Some feed → list_all (λ entry. goes_somewhere made entry.fed) feed ≡ true
goes_all made drafted feed e = goes_tested made drafted feed (are_read (entry_by made) drafted feed e)

-- what is fed has the schedule of its draft
pub record HasSchedule (drafted : List EntryDraft) (feed : List Feed) : Type 0 where
  pub many : length feed ≡ length drafted
  pub rounds : map (λ entry. entry.round) feed ≡ map (λ entry. entry.round) drafted
  pub stamps : map (λ entry. stamp_of entry.fed) feed ≡ map (λ entry. stamp_of entry.fed) drafted

pub has_schedule : (made : GraphData) (drafted : List EntryDraft) (feed : List Feed) → each (entry_by made) drafted ≡ Some feed → HasSchedule drafted feed
has_schedule made drafted feed e =
    let reads = are_read (entry_by made) drafted feed e in
    record {
      many = as_many (entry_by made) drafted feed reads;
      rounds = seen_alike (entry_by made) (λ entry. entry.round) (λ entry. entry.round) drafted feed (λ d entry h. (entry_placed made d entry h).round) reads;
      stamps = seen_alike (entry_by made) (λ entry. stamp_of entry.fed) (λ entry. stamp_of entry.fed) drafted feed (λ d entry h. (fed_placed made d.fed entry.fed (entry_placed made d entry h).fed).stamp) reads;
    }

-- ---- the feed of the draft

fed_there : (source : GraphDraft) (made : GraphData) → Finds source made → (drafted : FedDraft) → feeds source drafted ≡ true → is_some (fed_by made drafted) ≡ true
fed_there source made find (Message name value) e = some_mapped _ (topic_at made name) (ap is_some (find.topic name) ∙ e)
fed_there source made find (Goal name id value) e = some_mapped _ (server_at made name) (ap is_some (find.server name) ∙ e)
fed_there source made find (Cancel name id stamp) e = some_mapped _ (server_at made name) (ap is_some (find.server name) ∙ e)

entries_there : (source : GraphDraft) (made : GraphData) → Finds source made → (drafted : List EntryDraft) → list_all (λ entry. feeds source entry.fed) drafted ≡ true → list_all (λ entry. is_some (entry_by made entry)) drafted ≡ true
entries_there source made find [] e = refl
entries_there source made find (d ∷ drafted) e =
    and_from (is_some (entry_by made d)) (list_all (λ entry. is_some (entry_by made entry)) drafted)
    (some_mapped _ (fed_by made d.fed) (fed_there source made find d.fed (and_parts (feeds source d.fed) (list_all (λ entry. feeds source entry.fed) drafted) e).0))
    (entries_there source made find drafted (and_parts (feeds source d.fed) (list_all (λ entry. feeds source entry.fed) drafted) e).1)

-- what is declared is there
pub feed_there : (source : GraphDraft) (made : GraphData) (drafted : List EntryDraft) → resolved_graph source ≡ Some made → list_all (λ entry. feeds source entry.fed) drafted ≡ true → each (entry_by made) drafted ≡ None → ⊥
feed_there source made drafted e fed none =
    let there = each_some (entry_by made) drafted (entries_there source made (finds source made e) drafted fed) in
    let same = ap is_some none in
    absurd cc

-- what is fed is declared
fed_feeds : (source : GraphDraft) (made : GraphData) → Finds source made → (drafted : FedDraft) (fed : Fed) → fed_by made drafted ≡ Some fed → feeds source drafted ≡ true
fed_feeds source made find (Message name value) fed e = mapped_read _ (topic_at made name) _ fed e (λ topic found is. ap is_some (sym (find.topic name) ∙ found))
fed_feeds source made find (Goal name id value) fed e = mapped_read _ (server_at made name) _ fed e (λ server found is. ap is_some (sym (find.server name) ∙ found))
fed_feeds source made find (Cancel name id stamp) fed e = mapped_read _ (server_at made name) _ fed e (λ server found is. ap is_some (sym (find.server name) ∙ found))

each_feeds : (source : GraphDraft) (made : GraphData) → Finds source made → (drafted : List EntryDraft) (feed : List Feed) → AreRead (entry_by made) drafted feed → list_all (λ entry. feeds source entry.fed) drafted ≡ true
each_feeds source made find [] [] reads = refl
each_feeds source made find [] (entry ∷ feed) reads = absurd reads
each_feeds source made find (d ∷ drafted) [] reads = absurd reads
each_feeds source made find (d ∷ drafted) (entry ∷ feed) reads =
    and_from (feeds source d.fed) (list_all (λ entry. feeds source entry.fed) drafted)
    (fed_feeds source made find d.fed entry.fed (entry_placed made d entry reads.0).fed)
    (each_feeds source made find drafted feed reads.1)

pub are_declared : (source : GraphDraft) (made : GraphData) (drafted : List EntryDraft) (feed : List Feed) → resolved_graph source ≡ Some made → each (entry_by made) drafted ≡ Some feed → list_all (λ entry. feeds source entry.fed) drafted ≡ true
are_declared source made drafted feed e read = each_feeds source made (finds source made e) drafted feed (are_read (entry_by made) drafted feed read)

-- what is fed to a graph is what its draft says, where that is identified, and goals have identifiers
record IsSaid (source : GraphDraft) (drafted : FedDraft) (fed : Fed) : Type 0 where
  pub said : resolved_fed source drafted ≡ Some fed
  pub identified : is_identified Some fed ≡ true

fed_said : (source : GraphDraft) (made : GraphData) → Finds source made → (drafted : FedDraft) (fed : Fed) → fed_by made drafted ≡ Some fed → has_identifier drafted ≡ true → IsSaid source drafted fed
fed_said source made find (Message name value) fed e identified =
    mapped_read _ (topic_at made name) _ fed e (λ topic found is.
    let named : topic_named source name ≡ Some topic = sym (find.topic name) ∙ found in
    subst (IsSaid source (Message name value)) is (record { said = rw named refl; identified = refl }))
fed_said source made find (Goal name said value) fed e identified =
    mapped_read _ (server_at made name) _ fed e (λ server found is.
    let named : server_named source name ≡ Some server = sym (find.server name) ∙ found in
    subst (IsSaid source (Goal name said value)) is (goal server named said refl identified)) where
      goal : (server : ℕ) → server_named source name ≡ Some server → (id : Option ℕ) → said ≡ id → option_map_or (λ n. nat_le 1 n) id false ≡ true → IsSaid source (Goal name said value) (Goal server (unwrap_or said 0) value)
      goal server named None is e = absurd cc
      goal server named (Some id) is e = record { said = rw (named, is) refl; identified = rw is e }
fed_said source made find (Cancel name said stamp) fed e identified =
    mapped_read _ (server_at made name) _ fed e (λ server found is.
    let named : server_named source name ≡ Some server = sym (find.server name) ∙ found in
    subst (IsSaid source (Cancel name said stamp)) is (cancel server named said refl identified)) where
      cancel : (server : ℕ) → server_named source name ≡ Some server → (id : Option ℕ) → said ≡ id → is_some id ≡ true → IsSaid source (Cancel name said stamp) (Cancel server (unwrap_or said 0) stamp)
      cancel server named None is e = absurd cc
      cancel server named (Some id) is e = record { said = rw (named, is) refl; identified = refl }

-- so is the feed
pub record AreSaid (source : GraphDraft) (drafted : List EntryDraft) (feed : List Feed) : Type 0 where
  pub said : each (resolved_entry source) drafted ≡ Some feed
  pub identified : list_all (λ entry. is_identified Some entry.fed) feed ≡ true

entry_said : (source : GraphDraft) (d : EntryDraft) (entry : Feed) → entry.round ≡ d.round → resolved_fed source d.fed ≡ Some entry.fed → resolved_entry source d ≡ Some entry
entry_said source d entry round said = rw said (rw (← round) refl)

each_said : (source : GraphDraft) (made : GraphData) → Finds source made → (drafted : List EntryDraft) (feed : List Feed) → AreRead (entry_by made) drafted feed → list_all (λ entry. has_identifier entry.fed) drafted ≡ true → AreSaid source drafted feed
each_said source made find [] [] reads e = record { said = refl; identified = refl }
each_said source made find [] (entry ∷ feed) reads e = absurd reads
each_said source made find (d ∷ drafted) [] reads e = absurd reads
each_said source made find (d ∷ drafted) (entry ∷ feed) reads e =
    let at = entry_placed made d entry reads.0 in
    let here = fed_said source made find d.fed entry.fed at.fed (and_parts (has_identifier d.fed) (list_all (λ entry. has_identifier entry.fed) drafted) e).0 in
    let others = each_said source made find drafted feed reads.1 (and_parts (has_identifier d.fed) (list_all (λ entry. has_identifier entry.fed) drafted) e).1 in
    record {
      said = rw (entry_said source d entry at.round here.said, others.said) refl;
      identified = and_from (is_identified Some entry.fed) (list_all (λ entry. is_identified Some entry.fed) feed) here.identified others.identified;
    }

pub are_said : (source : GraphDraft) (made : GraphData) (drafted : List EntryDraft) (feed : List Feed) → resolved_graph source ≡ Some made → each (entry_by made) drafted ≡ Some feed → list_all (λ entry. has_identifier entry.fed) drafted ≡ true → AreSaid source drafted feed
are_said source made drafted feed e read identified = each_said source made (finds source made e) drafted feed (are_read (entry_by made) drafted feed read) identified

-- ---- identifiers

-- what is fed to a graph with the identifier that it needs has it of its draft, unless it is a cancel request
cancel_decides : (made : GraphData) (drafted : FedDraft) (fed : Fed) → fed_by made drafted ≡ Some fed → is_identified Some fed ≡ true → has_identifier drafted ≡ is_cancel_identified drafted
cancel_decides made (Message name value) fed e has = refl
cancel_decides made (Cancel name id stamp) fed e has = refl
cancel_decides made (Goal name id value) fed e has =
    mapped_read _ (server_at made name) _ fed e (λ server found is.
    by id (subst (λ (fed : Fed). is_identified Some fed ≡ true) (sym is) has))
  where
    by : (id : Option ℕ) → nat_le 1 (unwrap_or id 0) ≡ true → option_map_or (nat_le 1) id false ≡ true
    by None has = has
    by (Some id) has = has

each_decides : (made : GraphData) (drafted : List EntryDraft) (feed : List Feed) → AreRead (entry_by made) drafted feed → list_all (λ entry. is_identified Some entry.fed) feed ≡ true
    → list_all (λ entry. has_identifier entry.fed) drafted ≡ list_all (λ entry. is_cancel_identified entry.fed) drafted
each_decides made [] [] reads has = refl
each_decides made [] (entry ∷ feed) reads has = absurd reads
each_decides made (d ∷ drafted) [] reads has = absurd reads
each_decides made (d ∷ drafted) (entry ∷ feed) reads has =
    let parts = and_parts (is_identified Some entry.fed) (list_all (λ entry. is_identified Some entry.fed) feed) has in
    ap₂ (λ (a b : Bool). a && b) (cancel_decides made d.fed entry.fed (entry_placed made d entry reads.0).fed parts.0) (each_decides made drafted feed reads.1 parts.1)

-- so cancel requests decide it of a feed
pub cancels_decide : (made : GraphData) (drafted : List EntryDraft) (feed : List Feed) → each (entry_by made) drafted ≡ Some feed → list_all (λ entry. is_identified Some entry.fed) feed ≡ true
    → list_all (λ entry. has_identifier entry.fed) drafted ≡ list_all (λ entry. is_cancel_identified entry.fed) drafted
cancels_decide made drafted feed e has = each_decides made drafted feed (are_read (entry_by made) drafted feed e) has
