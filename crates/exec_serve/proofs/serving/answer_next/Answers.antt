use Rattle.std.proofs.Common.{rules, [], inl, inr, refl}
use Rattle.exec_doc.specs.Refusals.{refused_number}
use Rattle.exec_doc.specs.declared.refused.Refused.TheVariants as refused
use Rattle.exec_program.specs.declared.program.Failure.TheVariants as failure
use Rattle.exec_serve.specs.Serving.{Exchange, IsServed}
use Rattle.exec_serve.specs.inner.Served.{HasFailed}
use Rattle.exec_serve.proofs.serving.answer_next.Goals as goal

pub returns-in_err-refuse-in-NoMemory-clause-failed : goal.returns-in_err-refuse-in-NoMemory-clause-failed
returns-in_err-refuse-in-NoMemory-clause-failed g c =
    let taken = rw c.in-NoMemory.is at c.in_ok-next.ensures.taken in
    let one : Exchange = record { document = taken.0; status = refused_number refused.Memory; text = [] } in
    let served : IsServed one = (taken.1, inr (refused.Memory, inl refl, refl, refl)) in
    let put = c.in_err-refuse-in-NoMemory.ensures in
    let failed : HasFailed c.args.input.now c.next.new.self c.args.output.now c.refuse.new.output failure.WriteFailed = (put.failed, (one, put.front.0, served, taken.2, put.front.1)) in
    search rules

pub returns-in_ok-refuse-in-NoMemory-clause-one : goal.returns-in_ok-refuse-in-NoMemory-clause-one
returns-in_ok-refuse-in-NoMemory-clause-one g c =
    let taken = rw c.in-NoMemory.is at c.in_ok-next.ensures.taken in
    let one : Exchange = record { document = taken.0; status = refused_number refused.Memory; text = [] } in
    let served : IsServed one = (taken.1, inr (refused.Memory, inl refl, refl, refl)) in
    let put = c.in_ok-refuse-in-NoMemory.ensures in
    λ _. ((one, served, taken.2, put.whole), put.flushed_then)
