use Rattle.std.proofs.Common.{ap, arith, ◌∙◌}
use Rattle.etherparse.specs.Ethernet2.{Frame, ethernet2_of}
use Rattle.etherparse.specs.LinuxSll.{linux_sll_of}
use Rattle.etherparse.specs.Kind as kinds
use Rattle.etherparse.specs.Types.LinkHeader.TheVariants as links
use Rattle.ether_peel.specs.Grammar.Expectation.{announced}
use Rattle.ether_peel.specs.Walker.Start.{start_with}
use Rattle.ether_peel.specs.declared.start.Start.{Start}
use Rattle.ether_packet.specs.ReplacingLink.{protocol_in}
use Rattle.ether_packet.proofs.Links.{begins_link}
use Rattle.ether_packet.proofs.replacing.link_of.Goals as goal

pub returns-in-Ok-clause-found : goal.returns-in-Ok-clause-found
returns-in-Ok-clause-found c limit hs e walk =
    let at = c.in-Ok in
    let is = c.to_header.ensures.value ∙ ap (λ (f : Frame). ethernet2_of f.bytes) at.ensures.frame in
    begins_link (start_with c.args.start limit) kinds.Ethernet2 c.args.frame.now hs e
    (links.Ethernet2 c.to_header.result) (λ i. omega (arith, c.type_inv.frame i))
    (ap (λ (s : Start). announced (start_with s limit)) c.in-Ethernet2.is) at.ensures.accepted is walk

pub returns-in-Ok-from_slice_with_crc32_fcs-clause-found : goal.returns-in-Ok-from_slice_with_crc32_fcs-clause-found
returns-in-Ok-from_slice_with_crc32_fcs-clause-found c limit hs e walk =
    let at = c.in-Ok-from_slice_with_crc32_fcs in
    let header = c.to_header-in-Ok-from_slice_with_crc32_fcs in
    let is = header.ensures.value ∙ ap (λ (f : Frame). ethernet2_of f.bytes) at.ensures.frame in
    begins_link (start_with c.args.start limit) kinds.Ethernet2Fcs c.args.frame.now hs e (links.Ethernet2 header.result)
    (λ i. omega (arith, c.type_inv.frame i))
    (ap (λ (s : Start). announced (start_with s limit)) c.in-Ethernet2Fcs.is) at.ensures.accepted is walk

pub returns-in-Ok-from_slice-clause-found : goal.returns-in-Ok-from_slice-clause-found
returns-in-Ok-from_slice-clause-found c limit hs e walk =
    let at = c.in-Ok-from_slice in
    let header = c.to_header-in-Ok-from_slice in
    let of_list = ap linux_sll_of at.ensures.bytes in
    begins_link (start_with c.args.start limit) kinds.LinuxSll c.args.frame.now hs e (links.LinuxSll header.result)
    (λ i. omega (arith, c.type_inv.frame i)) (ap (λ (s : Start). announced (start_with s limit)) c.in-LinuxSll.is)
    at.ensures.accepted (header.ensures.view ∙ of_list, header.ensures.protocol ∙ ap protocol_in of_list) walk
