use Rattle.std.proofs.Common.{rules, Option, subst}
use Rattle.std.specs.Prelude.{IfSome}
use Rattle.ether_peel.specs.declared.start.Start.{Start}
use Rattle.ether_packet.specs.Packet.{packet_start}
use Rattle.ether_c.specs.Replacing.{GivesReplaceArp, passed}
use Rattle.ether_c.proofs.replacing.etherpeel_replace_arp.Goals as goal

pub returns-in-Ok-clause-given : goal.returns-in-Ok-clause-given
returns-in-Ok-clause-given c =
    let replaced = c.replace_arp.ensures in
    subst (λ (o : Option Start). IfSome o (λ s. GivesReplaceArp (packet_start s) c.args.header.now c.args.bytes.now
    c.args.frame.now c.replace_arp.new.frame c.args.error.now c.answer.new.error c.answer.result)) c.in-Some.ensures
    (passed c.in-Ok.packet c.in-Ok.ensures.arp record {
      replaced = c.replace_arp.result;
      ok = replaced.ok;
      refused = replaced.refused;
      kept = search (rules, replaced.kept);
      kept_error = c.answer.ensures.kept;
      given = c.answer.ensures.error;
      status_done = c.answer.ensures.done;
      status_error = c.answer.ensures.status;
    })
