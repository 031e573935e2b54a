-- The units of a walk as structs of C.
use Rattle.std.specs.Prelude.{ℕ, ◌+◌, ◌*◌, List, [], ◌∷◌, length, replicate, unwrap_or}
use Rattle.etherparse.specs.Bytes.{bit, spelled}
use Rattle.etherparse.specs.Macsec.{encrypted_of, changed_of, sci_present_of, readable_type}
use Rattle.etherparse.specs.Header.{Header, header_len}
use Rattle.etherparse.specs.Header as headers
use Rattle.ether_peel.specs.Grammar.Window.{Window, payload}
use Rattle.ether_c.specs.declared.ether_unit.EtherEthernet2.{EtherEthernet2}
use Rattle.ether_c.specs.declared.ether_unit.EtherLinuxSll.{EtherLinuxSll}
use Rattle.ether_c.specs.declared.ether_unit.EtherVlan.{EtherVlan}
use Rattle.ether_c.specs.declared.ether_unit.EtherMacsec.{EtherMacsec}
use Rattle.ether_c.specs.declared.ether_unit.EtherArp.{EtherArp}
use Rattle.ether_c.specs.declared.ether_unit.EtherUnit.{EtherUnit}

-- ---- fields of headers, each 0 in a unit of another kind

abbrev pub c_ethernet2 : Header → EtherEthernet2
c_ethernet2 (headers.Ethernet2 e) = record {
  destination = spelled 6 e.destination;
  source = spelled 6 e.source;
  ether_type = e.ether_type;
  has_fcs = 0;
}
c_ethernet2 (headers.Ethernet2Fcs e) = record {
  destination = spelled 6 e.destination;
  source = spelled 6 e.source;
  ether_type = e.ether_type;
  has_fcs = 1;
}
c_ethernet2 _ = record {
  destination = replicate 6 0;
  source = replicate 6 0;
  ether_type = 0;
  has_fcs = 0;
}

abbrev pub c_linux_sll : Header → EtherLinuxSll
c_linux_sll (headers.LinuxSll s) = record {
  packet_type = s.packet_type;
  hardware_type = s.hardware_type;
  address_len = s.address_len;
  address = spelled 8 s.address;
  protocol = s.protocol;
}
c_linux_sll _ = record {
  packet_type = 0;
  hardware_type = 0;
  address_len = 0;
  address = replicate 8 0;
  protocol = 0;
}

abbrev pub c_vlan : Header → EtherVlan
c_vlan (headers.Vlan v) = record {
  vid = v.vid;
  ether_type = v.ether_type;
  pcp = v.pcp;
  dei = v.dei;
}
c_vlan _ = record {
  vid = 0;
  ether_type = 0;
  pcp = 0;
  dei = 0;
}

-- the ether type and the SCI are 0 if there is none
abbrev pub c_macsec : Header → EtherMacsec
c_macsec (headers.Macsec t) = record {
  sci = unwrap_or t.sci 0;
  packet_number = t.packet_number;
  ether_type = unwrap_or (readable_type t.payload_type) 0;
  end_station = t.end_station;
  sci_present = sci_present_of t.sci;
  single_copy_broadcast = t.single_copy_broadcast;
  encrypted = encrypted_of t.payload_type;
  changed = changed_of t.payload_type;
  association_number = t.association_number;
  short_len = t.short_len;
}
c_macsec _ = record {
  sci = 0;
  packet_number = 0;
  ether_type = 0;
  end_station = 0;
  sci_present = 0;
  single_copy_broadcast = 0;
  encrypted = 0;
  changed = 0;
  association_number = 0;
  short_len = 0;
}

-- .. with the offsets of the four addresses in the frame
abbrev pub c_arp : (start : ℕ) → Header → EtherArp
c_arp start (headers.Arp a) = record {
  sender_hardware = start + 8;
  sender_protocol = start + 8 + length a.sender_hardware;
  target_hardware = start + 8 + length a.sender_hardware + length a.sender_protocol;
  target_protocol = start + 8 + 2 * length a.sender_hardware + length a.sender_protocol;
  hardware_type = a.hardware_type;
  protocol_type = a.protocol_type;
  operation = a.operation;
  hardware_size = length a.sender_hardware;
  protocol_size = length a.sender_protocol;
}
c_arp start _ = record {
  sender_hardware = 0;
  sender_protocol = 0;
  target_hardware = 0;
  target_protocol = 0;
  hardware_type = 0;
  protocol_type = 0;
  operation = 0;
  hardware_size = 0;
  protocol_size = 0;
}

-- ---- units

-- a frame check sequence does not make a kind of its own
abbrev pub header_number : Header → ℕ
header_number (headers.Ethernet2 e) = 1
header_number (headers.Ethernet2Fcs e) = 1
header_number (headers.LinuxSll s) = 2
header_number (headers.Vlan v) = 3
header_number (headers.Macsec t) = 4
header_number (headers.Arp a) = 5

-- a header at the start of a window, and the window of its payload
abbrev pub c_unit : Window → Header → EtherUnit
c_unit w h = record {
  offset = w.start;
  header_len = header_len h;
  payload_start = (payload w h).start;
  payload_end = (payload w h).finish;
  kind = header_number h;
  closed = bit (payload w h).closed;
  ethernet2 = c_ethernet2 h;
  linux_sll = c_linux_sll h;
  vlan = c_vlan h;
  macsec = c_macsec h;
  arp = c_arp w.start h;
}

-- the headers of a stack, each in the payload of the one before it
abbrev pub c_units : Window → List Header → List EtherUnit
c_units w [] = []
c_units w (h ∷ hs) = c_unit w h ∷ c_units (payload w h) hs
