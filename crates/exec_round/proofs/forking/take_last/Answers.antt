use Rattle.std.proofs.Common.{option_to_list, vec_len, arith}
use Rattle.exec_round.proofs.Dealing.{last_in, taken_in}
use Rattle.exec_round.proofs.forking.take_last.Goals as goal

pub returns-clause-left : goal.returns-clause-left
returns-clause-left c =
    let long = c.args.shares.now.ok.0 in
    let within = c.requires in
    taken_in (λ share. share.items) c.args.shares.now.items c.args.place (vec_len c.index_mut.result.now) c.index_mut.result.now c.pop.new.self (omega (arith, within, long)) c.index_mut.ensures.value c.index_mut.result.now.ok.0 c.pop.ensures.rest

pub returns-clause-last : goal.returns-clause-last
returns-clause-last c =
    let long = c.args.shares.now.ok.0 in
    let within = c.requires in
    last_in (λ share. share.items) c.args.shares.now.items c.args.place (vec_len c.index_mut.result.now) c.index_mut.result.now c.pop.new.self (option_to_list c.pop.result) (omega (arith, within, long)) c.index_mut.ensures.value c.index_mut.result.now.ok.0 c.pop.ensures.rest c.pop.ensures.items
