use Rattle.std.proofs.Common.{sym, subst, ◌∙◌, refl, arith, rules}
use Rattle.std.specs.Prelude.{Option, IfSome}
use Rattle.ether_peel.specs.declared.start.Start.{Start}
use Rattle.ether_c.specs.declared.ether_headers.EtherHeaders.{EtherHeaders}
use Rattle.ether_c.specs.Numbers.{done}
use Rattle.ether_c.specs.Packet.{GivesPacket}
use Rattle.ether_c.proofs.PacketGiven.{few_units, few_ids, gives_packet}
use Rattle.ether_c.proofs.reading_packet.etherpeel_packet.Goals as goal

pub shared_ref_as_front-packet_facts : goal.shared_ref_as_front-packet_facts
shared_ref_as_front-packet_facts c = search (rules, few_units)

pub packet_facts-facts-requires : goal.packet_facts-facts-requires
packet_facts-facts-requires c = search (rules, few_ids)

pub returns-clause-given : goal.returns-clause-given
returns-clause-given c =
    let f = c.packet_facts-facts.ensures in
    let facts = c.packet_facts-facts.result in
    let new : EtherHeaders = record {
      units = c.walked-found.new.units;
      found = c.set.new.self;
      min_snap_len = facts.min_snap_len;
      vlan_ids = facts.vlan_ids;
      vlan_count = facts.vlan_count;
    } in
    subst
    (λ (o : Option Start). IfSome o (λ s. GivesPacket s c.args.bytes.now c.args.headers.now.units new done))
    (sym (sym c.start_of.ensures ∙ c.in-Some.is))
    (gives_packet c.in-Some.start c.args.bytes.now c.args.bytes c.args.headers.now.units new c.walked-found.result done
    c.walked-found.ensures.units (λ i. omega (arith, c.type_inv.bytes i)) c.walked-found.ensures.summary (omega arith)
    refl c.set.ensures f.ids f.count f.snap)
