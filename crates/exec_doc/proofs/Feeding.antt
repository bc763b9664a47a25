-- What is read of a feed keeps what its draft keeps.
use Rattle.std.proofs.Common.{◌≡◌, ℕ, Bool, true, false, ◌&&◌, nat_le, length, map, List, [], ◌∷◌, Option, None, Some, is_some, refl, ap, ap₂, sym, ◌∙◌, subst}
use Rattle.std.specs.List.{list_all}
use Rattle.std.specs.Option.{option_map_or}
use Rattle.std.proofs.lemmas.Bool.{and_from}
use Rattle.std.proofs.lemmas.Option.{same_Some}
use Rattle.exec_doc.specs.Document.{resolved_fed, resolved_entry}
use Rattle.exec_doc.specs.Draft.{DocumentDraft, FedDraft, EntryDraft}
use Rattle.exec_doc.specs.Refusals.{has_identifier}
use Rattle.exec_graph.specs.declared.draft.GraphDraft.{GraphDraft}
use Rattle.exec_plan.specs.Feeding.{goes_somewhere}
use Rattle.exec_plan.specs.Graph.{GraphData, is_topic, is_server}
use Rattle.exec_plan.specs.Lawful.{is_at}
use Rattle.exec_graph.specs.Numbers.{topic_named, server_named}
use Rattle.exec_plan.specs.Schedule.{schedule_fits, greatest, stamp_of, is_in_order, is_identified, plan_fault_in}
use Rattle.exec_plan.specs.Plan.{Fed, Feed}
use Rattle.exec_plan.specs.declared.plan.FedOf.TheVariants.{Message, Goal, Cancel}
use Rattle.exec_plan.proofs.Reading.{then_read, AreRead, as_many, seen_alike}
use Rattle.exec_doc.proofs.Kept.{IsKept}

not_zero : (read : Option ℕ) (id : ℕ) → read ≡ Some id → option_map_or (λ id. nat_le 1 id) read false ≡ nat_le 1 id
not_zero None id is = absurd cc
not_zero (Some n) id is = ap (nat_le 1) (same_Some n id is)

-- what is fed, read of its draft: its stamp and whether it is identified are the draft's, and it goes where its draft's name is
-- declared
pub record IsFed (made : GraphData) (drafted : FedDraft) (fed : Fed) : Type 0 where
  pub stamp : stamp_of fed ≡ stamp_of drafted
  pub identified : is_identified Some fed ≡ has_identifier drafted
  pub goes : goes_somewhere made fed ≡ true

-- an entry, read of its draft
pub record IsEntry (made : GraphData) (drafted : EntryDraft) (entry : Feed) : Type 0 where
  pub round : entry.round ≡ drafted.round
  pub fed : IsFed made drafted.fed entry.fed

-- a feed, read of its draft: it has the draft's schedule and goes to what is there
pub record IsFeed (made : GraphData) (drafted : List EntryDraft) (feed : List Feed) : Type 0 where
  pub many : length feed ≡ length drafted
  pub rounds : map (λ entry. entry.round) feed ≡ map (λ entry. entry.round) drafted
  pub stamps : map (λ entry. stamp_of entry.fed) feed ≡ map (λ entry. stamp_of entry.fed) drafted
  pub identified : list_all (λ entry. is_identified Some entry.fed) feed ≡ list_all (λ entry. has_identifier entry.fed) drafted
  pub goes : list_all (λ entry. goes_somewhere made entry.fed) feed ≡ true

-- tests that agree on each element and what is read of it agree on all
all_alike : {A B : Type 0} (f : A → Option B) (test : A → Bool) (other : B → Bool) (xs : List A) (ys : List B) → ((x : A) (y : B) → f x ≡ Some y → other y ≡ test x) → AreRead f xs ys → list_all other ys ≡ list_all test xs
all_alike f test other [] [] alike reads = refl
all_alike f test other [] (y ∷ ys) alike reads = absurd reads
all_alike f test other (x ∷ xs) [] alike reads = absurd reads
all_alike f test other (x ∷ xs) (y ∷ ys) alike reads = ap₂ (λ (a b : Bool). a && b) (alike x y reads.0) (all_alike f test other xs ys alike reads.1)

-- a test that all passes that is read of elements holds of a list that is read
pub all_read : {A B : Type 0} (f : A → Option B) (test : B → Bool) (xs : List A) (ys : List B) → ((x : A) (y : B) → f x ≡ Some y → test y ≡ true) → AreRead f xs ys → list_all test ys ≡ true
all_read f test [] [] passes reads = refl
all_read f test [] (y ∷ ys) passes reads = absurd reads
all_read f test (x ∷ xs) [] passes reads = absurd reads
all_read f test (x ∷ xs) (y ∷ ys) passes reads = and_from (test y) (list_all test ys) (passes x y reads.0) (all_read f test xs ys passes reads.1)

module _ (source : GraphDraft) (made : GraphData)
    (topic_there : (name : List ℕ) (number : ℕ) → topic_named source name ≡ Some number → is_at is_topic made number ≡ true)
    (server_there : (name : List ℕ) (number : ℕ) → server_named source name ≡ Some number → is_at is_server made number ≡ true) where
  fed_of : (drafted : FedDraft) (fed : Fed) → resolved_fed source drafted ≡ Some fed → IsFed made drafted fed
  fed_of (Message name value) fed e =
      then_read _ (topic_named source name) _ fed e (λ topic found e1.
      subst (IsFed made (Message name value)) (same_Some (Message topic value) fed e1)
      (record { stamp = refl; identified = refl; goes = topic_there name topic found }))
  fed_of (Goal name said value) fed e =
      then_read _ (server_named source name) _ fed e (λ server found e1.
      then_read _ said _ fed e1 (λ id read e2.
      subst (IsFed made (Goal name said value)) (same_Some (Goal server id value) fed e2)
      (record { stamp = refl; identified = sym (not_zero said id read); goes = server_there name server found })))
  fed_of (Cancel name said stamp) fed e =
      then_read _ (server_named source name) _ fed e (λ server found e1.
      then_read _ said _ fed e1 (λ id read e2.
      subst (IsFed made (Cancel name said stamp)) (same_Some (Cancel server id stamp) fed e2)
      (record { stamp = refl; identified = sym (ap is_some read); goes = server_there name server found })))

  entry_of : (drafted : EntryDraft) (entry : Feed) → resolved_entry source drafted ≡ Some entry → IsEntry made drafted entry
  entry_of drafted entry e =
      then_read _ (resolved_fed source drafted.fed) _ entry e (λ fed read e1.
      subst (IsEntry made drafted) (same_Some (record { round = drafted.round; fed = fed }) entry e1) (record { round = refl; fed = fed_of drafted.fed fed read }))

  -- what is read of a feed has the schedule of its draft, and goes to what is there
  pub feed_of : (drafted : List EntryDraft) (feed : List Feed) → AreRead (resolved_entry source) drafted feed → IsFeed made drafted feed
  feed_of drafted feed reads = record {
    many = as_many (resolved_entry source) drafted feed reads;
    rounds = seen_alike (resolved_entry source) (λ entry. entry.round) (λ entry. entry.round) drafted feed (λ d entry e. (entry_of d entry e).round) reads;
    stamps = seen_alike (resolved_entry source) (λ entry. stamp_of entry.fed) (λ entry. stamp_of entry.fed) drafted feed (λ d entry e. (entry_of d entry e).fed.stamp) reads;
    identified = all_alike (resolved_entry source) (λ entry. has_identifier entry.fed) (λ entry. is_identified Some entry.fed) drafted feed (λ d entry e. (entry_of d entry e).fed.identified) reads;
    goes = all_read (resolved_entry source) (λ entry. goes_somewhere made entry.fed) drafted feed (λ d entry e. (entry_of d entry e).fed.goes) reads;
  }

-- moments and a feed that keep what each of their faults asks have none
without_fault : (moments : List ℕ) (feed : List Feed) → schedule_fits moments (length feed) (greatest (map (λ entry. stamp_of entry.fed) feed)) ≡ true →
    is_in_order moments (map (λ entry. entry.round) feed) ≡ true → list_all (λ entry. is_identified Some entry.fed) feed ≡ true → plan_fault_in moments feed ≡ None
without_fault moments feed fits ordered identified = rw fits (rw ordered (rw identified refl))

-- where a document keeps what each code asks, its moments and what is read of its feed have no fault
pub feed_without_fault : (made : GraphData) (document : DocumentDraft) (feed : List Feed) → IsFeed made document.feed feed → IsKept document → plan_fault_in document.moments feed ≡ None
feed_without_fault made document feed read kept =
    without_fault document.moments feed
    (ap₂ (λ (entries : ℕ) (stamps : List ℕ). schedule_fits document.moments entries (greatest stamps)) read.many read.stamps ∙ kept.within)
    (ap (is_in_order document.moments) read.rounds ∙ kept.clock)
    (read.identified ∙ kept.identified)
