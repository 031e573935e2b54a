use Rattle.std.proofs.Common.{List, ℕ, ◌++◌, sym, ap, inl, inr}
use Rattle.std.specs.Prelude.{codes}
use Rattle.etherparse.specs.Types.LinuxSllProtocolType.{LinuxSllProtocolType}
use Rattle.ether_text.specs.Lines.{protocol_text}
use Rattle.ether_output.proofs.OutputBufferLemmas.{Takes-then, Takes-same}
use Rattle.ether_text.proofs.write_lines.write_protocol.Goals as goal

abbrev spaced_text : LinuxSllProtocolType → List ℕ
spaced_text p = codes " " ++ protocol_text p

pub returns-in-Ignored : goal.returns-in-Ignored
unfolding protocol_text
returns-in-Ignored g c =
    Takes-same (ap spaced_text (sym c.in-Ignored.is))
    (Takes-then c.append.ensures (Takes-same c.hex_type.ensures c.append-in-Ignored.ensures))

pub returns-in-NetlinkProtocolType : goal.returns-in-NetlinkProtocolType
unfolding protocol_text
returns-in-NetlinkProtocolType g c =
    Takes-same (ap spaced_text (sym c.in-NetlinkProtocolType.is))
    (Takes-then c.append-in-NetlinkProtocolType.ensures
    (Takes-same c.hex_type-in-NetlinkProtocolType.ensures c.append-in-NetlinkProtocolType-2.ensures))

pub returns-in-GenericRoutingEncapsulationProtocolType : goal.returns-in-GenericRoutingEncapsulationProtocolType
unfolding protocol_text
returns-in-GenericRoutingEncapsulationProtocolType g c =
    Takes-same (ap spaced_text (sym c.in-GenericRoutingEncapsulationProtocolType.is))
    (Takes-then c.append-in-GenericRoutingEncapsulationProtocolType.ensures
    (Takes-same c.hex_type-in-GenericRoutingEncapsulationProtocolType.ensures
    c.append-in-GenericRoutingEncapsulationProtocolType-2.ensures))

pub returns-in-EtherType : goal.returns-in-EtherType
unfolding protocol_text
returns-in-EtherType g c = elim c.in-EtherType.is [
  | inl h ↦ Takes-same (ap spaced_text (sym h.1)) c.append-in-EtherType.ensures
  | inr h ↦ Takes-same (ap spaced_text (sym h.1)) c.append-in-EtherType.ensures
]
