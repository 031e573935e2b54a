use Rattle.std.proofs.Common.{ap, ◌∙◌}
use Rattle.etherparse.specs.Ethernet2.{Frame, ethernet2_of}
use Rattle.etherparse.specs.LinuxSll.{linux_sll_of, protocol_type_of_header}
use Rattle.etherparse.specs.Kind as kinds
use Rattle.ether_packet.specs.Places.{link_unit, link_units}
use Rattle.ether_packet.proofs.packet_units.link_header.Goals as goal

pub returns-in-Ethernet2 : goal.returns-in-Ethernet2
returns-in-Ethernet2 c =
    let frame = c.args.frame.now in (
      link_unit frame kinds.Ethernet2,
      ap (link_units frame) c.in-Ethernet2.is,
      c.to_header.ensures.value ∙ ap (λ (f : Frame). ethernet2_of f.bytes) c.frame_of.ensures,
    )

pub returns-in-Ethernet2Fcs : goal.returns-in-Ethernet2Fcs
returns-in-Ethernet2Fcs c =
    let frame = c.args.frame.now in (
      link_unit frame kinds.Ethernet2Fcs,
      ap (link_units frame) c.in-Ethernet2Fcs.is,
      c.to_header-in-Ethernet2Fcs.ensures.value
          ∙ ap (λ (f : Frame). ethernet2_of f.bytes) c.frame_with_fcs_of.ensures,
    )

pub returns-in-LinuxSll : goal.returns-in-LinuxSll
returns-in-LinuxSll c =
    let frame = c.args.frame.now in
    let header = c.to_header-in-LinuxSll.ensures in (
      link_unit frame kinds.LinuxSll,
      ap (link_units frame) c.in-LinuxSll.is,
      (
        header.view ∙ ap linux_sll_of c.linux_sll_slice.ensures,
        header.protocol ∙ ap protocol_type_of_header c.linux_sll_slice.ensures,
      ),
    )
