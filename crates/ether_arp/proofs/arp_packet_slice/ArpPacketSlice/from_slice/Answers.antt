use Rattle.std.proofs.Common.{ℕ, List, refl, sym, subst, arith}
use Rattle.ether_base.specs.declared.len_source.LenSource.TheVariants as sources
use Rattle.ether_base.specs.Formats.Arp.{arp_front_in, arp_len, arp_of}
use Rattle.ether_base.specs.Formats.Header as headers
use Rattle.ether_base.specs.Formats.Header.{Means}
use Rattle.ether_arp.proofs.Reading.{arp_accepted, means_part}
use Rattle.ether_arp.proofs.arp_packet_slice.ArpPacketSlice.from_slice.Goals as goal

pub returns-clause-accepted : goal.returns-clause-accepted
returns-clause-accepted c =
    arp_accepted sources.Slice c.args.slice.now (λ i. omega (arith, c.type_inv.slice i)) c.in_ok-packet.ensures.begins

pub returns-clause-value : goal.returns-clause-value
returns-clause-value c =
    let bytes = c.args.slice.now in
    let means =
    means_part bytes (arp_len (arp_front_in bytes)) (λ i. omega (arith, c.type_inv.slice i))
    c.in_ok-packet.ensures.begins refl in
    subst (λ (l : List ℕ). Means bytes (headers.Arp (arp_of l))) (sym c.in_ok-packet.ensures.bytes) means
