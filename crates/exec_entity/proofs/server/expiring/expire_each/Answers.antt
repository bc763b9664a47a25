use Rattle.std.proofs.Common.{◌++◌, ◌<◌, List, length, slice_set, ap, sym, ◌∙◌, arith}
use Rattle.std.proofs.lemmas.List.Edits.{map_over_more}
use Rattle.exec_msg.specs.declared.line.Line.{Line}
use Rattle.exec_entity.proofs.Closings.{lines_more, mapped_set}
use Rattle.exec_rules.proofs.Listing.{next_is}
use Rattle.exec_rules.specs.Transcript.{expire_lines, server_expired}
use Rattle.exec_rules.specs.World.{ServerEntry}
use Rattle.exec_entity.proofs.server.expiring.expire_each.Goals as goal

pub loop-place-preserved : goal.loop-place-preserved
loop-place-preserved g c =
    let within : c.loop-place.place < length c.args.servers.now = omega arith in
    let number = λ (server : ServerEntry). server.handler.entity in
    record {
      servers = ap (slice_set c.loop-place.servers c.loop-place.place) (c.in_ok-expire_goals.ensures.server ∙ ap (server_expired c.args.moment) (sym c.index-servers-place.is))
          ∙ map_over_more (server_expired c.args.moment) c.args.servers.now c.loop-place.servers c.loop-place.place c.index-servers-place.result within c.loop-place.invariant.servers c.index-servers-place.is;
      lines = c.in_ok-expire_goals.ensures.lines
          ∙ ap (λ (server : ServerEntry). g.L.Lines.lines c.loop-place.lines ++ expire_lines c.args.moment server) (sym c.index-servers-place.is)
          ∙ ap (λ (lines : List Line). lines ++ expire_lines c.args.moment c.index-servers-place.result) c.loop-place.invariant.lines
          ∙ lines_more (expire_lines c.args.moment) (g.L.Lines.lines c.args.lines.now) c.args.servers.now c.loop-place.place c.index-servers-place.result within
          (next_is (server_expired c.args.moment) c.args.servers.now c.loop-place.servers c.loop-place.place c.index-servers-place.result within c.loop-place.invariant.servers c.index-servers-place.is);
      numbers = mapped_set number c.loop-place.servers c.loop-place.place c.index-servers-place.result c.expire_goals.new.server c.index-servers-place.is (c.expire_goals.ensures.number ∙ ap number (sym c.index-servers-place.is))
          ∙ c.loop-place.invariant.numbers;
    }

pub returns-in_err-expire_goals-clause-numbers : goal.returns-in_err-expire_goals-clause-numbers
returns-in_err-expire_goals-clause-numbers g c =
    let number = λ (server : ServerEntry). server.handler.entity in
    mapped_set number c.loop-place.servers c.loop-place.place c.index-servers-place.result c.expire_goals.new.server c.index-servers-place.is (c.expire_goals.ensures.number ∙ ap number (sym c.index-servers-place.is))
    ∙ c.loop-place.invariant.numbers
