-- The laws of keep-last queues.
use Rattle.std.proofs.Common.{◌≡◌, ℕ, ◌+◌, ◌-◌, ◌≤◌, List, [], ◌∷◌, ◌++◌, ◌∙◌, ap, sym, length, drop, arith, append_assoc, length-drop}
use Rattle.std.proofs.lemmas.List.{append-nil, drop-append-le, drop-drop, length_push}
use Rattle.std.proofs.Math.Seq.{drop-nil}
use Rattle.std.specs.List.{fold}
use Rattle.exec_msg.specs.KeepLast.{excess, sent}

-- a queue that holds the last of a history holds the last of the longer history after a send
last_of-sent : {A : Type 0} (depth : ℕ) (item : A) (history : List A) → sent depth item (drop (excess depth history) history) ≡ drop (excess depth (history ++ item ∷ [])) (history ++ item ∷ [])
last_of-sent depth item history =
    let held = drop (excess depth history) history in
    let fits : excess depth history ≤ length history = omega arith in
    let joined : held ++ item ∷ [] ≡ drop (excess depth history) (history ++ item ∷ []) = sym (drop-append-le (excess depth history) history (item ∷ []) fits) in
    let whole : excess depth history + excess depth (held ++ item ∷ []) ≡ excess depth (history ++ item ∷ []) = omega (arith, length_push held item, length-drop (excess depth history) history, length_push history item) in
    ap (drop (excess depth (held ++ item ∷ []))) joined
    ∙ drop-drop (excess depth (held ++ item ∷ [])) (excess depth history) (history ++ item ∷ [])
    ∙ ap (λ (lost : ℕ). drop lost (history ++ item ∷ [])) whole

-- more is sent to a queue that holds the last of what came before
sent_after : {A : Type 0} (depth : ℕ) (before more : List A) → fold (λ items item. sent depth item items) (drop (excess depth before) before) more ≡ drop (excess depth (before ++ more)) (before ++ more)
sent_after depth before [] = ap (λ all. drop (excess depth all) all) (sym (append-nil before))
sent_after depth before (item ∷ more) =
    ap (λ held. fold (λ items next. sent depth next items) held more) (last_of-sent depth item before)
    ∙ sent_after depth (before ++ item ∷ []) more
    ∙ ap (λ all. drop (excess depth all) all) (append_assoc before (item ∷ []) more)

pub fold-sent : {A : Type 0} (depth : ℕ) (history : List A) → fold (λ items item. sent depth item items) [] history ≡ drop (length history - depth) history
fold-sent {A} depth history =
    ap (λ (held : List A). fold (λ items item. sent depth item items) held history) (sym (drop-nil (0 - depth)))
    ∙ sent_after depth [] history
