use Rattle.exec_serve.proofs.requests.Requests.document.Goals as goal

pub returns-in_default-clause-taken : goal.returns-in_default-clause-taken
returns-in_default-clause-taken g c =
    let taken = c.in_ok-skip.ensures.taken in
    (taken.0, taken.1, taken.2, tt)
