use Rattle.std.proofs.Common.{ap, arith, ◌∙◌, refl, rules}
use Rattle.etherparse.specs.Ethernet2.{Frame, ethernet2_of}
use Rattle.etherparse.specs.Kind as kinds
use Rattle.ether_peel.specs.Grammar.Expectation.{announced}
use Rattle.ether_peel.specs.Walker.Start.{start_of}
use Rattle.ether_peel.specs.declared.start.Start.{Start}
use Rattle.ether_packet.specs.TypedLink.{link_len}
use Rattle.ether_packet.proofs.TypedLinks.{is_typed, is_captured, refused_link, other_link, unlinked, with_fcs}
use Rattle.ether_packet.proofs.typed_link.typed_link.Goals as goal

pub returns-in-Ok-clause-ok : goal.returns-in-Ok-clause-ok
returns-in-Ok-clause-ok c hs e walk =
    let at = c.in-Ok in
    let le = at.ensures.value.whole in
    is_typed c.args.start kinds.Ethernet2 c.args.frame.now hs e _ (λ i. omega (arith, c.type_inv.frame i))
    (ap (λ (s : Start). announced (start_of s)) c.in-Ethernet2.is) at.ensures.accepted refl refl
    (ap link_len c.in-Ethernet2.is) (let n = ap link_len c.in-Ethernet2.is in omega (arith, le, n))
    (c.ether_type.ensures ∙ ap (λ (f : Frame). (ethernet2_of f.bytes).ether_type) at.ensures.frame) walk

pub returns-in-Err-clause-refused : goal.returns-in-Err-clause-refused
returns-in-Err-clause-refused c hs e walk = search (rules, refused_link)

pub returns-in-Ok-from_slice_with_crc32_fcs-clause-ok :
    goal.returns-in-Ok-from_slice_with_crc32_fcs-clause-ok
returns-in-Ok-from_slice_with_crc32_fcs-clause-ok c hs e walk =
    let at = c.in-Ok-from_slice_with_crc32_fcs in
    let le = with_fcs c.args.frame.now at.ensures.accepted in
    is_typed c.args.start kinds.Ethernet2Fcs c.args.frame.now hs e _ (λ i. omega (arith, c.type_inv.frame i))
    (ap (λ (s : Start). announced (start_of s)) c.in-Ethernet2Fcs.is) at.ensures.accepted refl refl
    (ap link_len c.in-Ethernet2Fcs.is) (let n = ap link_len c.in-Ethernet2Fcs.is in omega (arith, le, n))
    (c.ether_type-in-Ok-from_slice_with_crc32_fcs.ensures
    ∙ ap (λ (f : Frame). (ethernet2_of f.bytes).ether_type) at.ensures.frame)
    walk

pub returns-in-Err-from_slice_with_crc32_fcs-clause-refused :
    goal.returns-in-Err-from_slice_with_crc32_fcs-clause-refused
returns-in-Err-from_slice_with_crc32_fcs-clause-refused c hs e walk =
    refused_link c.args.start kinds.Ethernet2Fcs c.args.frame.now _ hs e
    (ap (λ (s : Start). announced (start_of s)) c.in-Ethernet2Fcs.is)
    c.in-Err-from_slice_with_crc32_fcs.ensures.refused.row walk

pub returns-in-LinuxSll-clause-ok : goal.returns-in-LinuxSll-clause-ok
returns-in-LinuxSll-clause-ok c hs e walk = search (rules, is_captured)

pub returns-in-Some-clause-refused : goal.returns-in-Some-clause-refused
returns-in-Some-clause-refused c hs e walk = search (rules, other_link)

pub returns-in-None-clause-refused : goal.returns-in-None-clause-refused
returns-in-None-clause-refused c hs e walk = search (rules, refused_link)

pub returns-in-EtherType-clause-refused : goal.returns-in-EtherType-clause-refused
returns-in-EtherType-clause-refused c hs e walk =
    unlinked c.args.start c.in-EtherType.field-0 c.args.frame.now hs e c.in-EtherType.is walk
