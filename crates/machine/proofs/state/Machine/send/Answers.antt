use Rattle.std.proofs.Common.{refl, arith, rules}
use Rattle.machine.proofs.RoomLaws.{send_first, send_more, send_all}
use Rattle.machine.proofs.state.Machine.send.Goals as goal

pub loop-k-init : goal.loop-k-init
loop-k-init c = record { stays = search rules; table = refl; sent = send_first c.args.self.now.laid c.requires _ c.word-k.ensures }

pub loop-k-preserved : goal.loop-k-preserved
loop-k-preserved c =
    let same = c.loop-k.invariant.stays.links in
    let put = rw same at c.put_waiting.ensures.puts.room in
    let then = rw (c.put_waiting.ensures.stays.links, same) at c.word-k-in-loop-k.ensures in
    record {
      stays = search rules;
      table = search rules;
      sent = send_more c.args.self.now.laid c.requires _ c.loop-k.invariant.sent (omega (arith, same)) c.partner.ensures put then;
    }

pub returns-clause-sent : goal.returns-clause-sent
returns-clause-sent c = send_all c.loop-k.invariant.sent (omega (arith, c.loop-k.invariant.stays.links))
