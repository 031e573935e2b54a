-- The header that the view of a unit means, and its struct of C with offsets: for the contracts of private functions.
use Rattle.std.specs.Prelude.{ℕ, ◌-◌, Bool, if◌then◌else◌}
use Rattle.etherparse.specs.Bytes.{bit}
use Rattle.etherparse.specs.Ethernet2.{Frame, ethernet2_of}
use Rattle.etherparse.specs.Header.{Header}
use Rattle.etherparse.specs.Header as headers
use Rattle.ether_peel.specs.Walker.UnitHeader.{unit_header}
use Rattle.ether_peel.specs.declared.peel_unit.PeelUnit.{PeelUnit}
use Rattle.ether_c.specs.declared.ether_unit.EtherUnit.{EtherUnit}
use Rattle.ether_c.specs.Units.{header_number, c_ethernet2, c_linux_sll, c_vlan, c_macsec, c_arp}

abbrev pub ethernet2_header : Frame → Header
ethernet2_header f =
    if f.has_fcs then headers.Ethernet2Fcs (ethernet2_of f.bytes)
    else headers.Ethernet2 (ethernet2_of f.bytes)

-- a header at this offset, with the offsets of its payload and whether that is closed
abbrev pub c_placed : Header → (offset start finish : ℕ) → (closed : Bool) → EtherUnit
c_placed h offset start finish closed = record {
  offset = offset;
  header_len = start - offset;
  payload_start = start;
  payload_end = finish;
  kind = header_number h;
  closed = bit closed;
  ethernet2 = c_ethernet2 h;
  linux_sll = c_linux_sll h;
  vlan = c_vlan h;
  macsec = c_macsec h;
  arp = c_arp offset h;
}

abbrev pub c_view : PeelUnit → (offset start finish : ℕ) → (closed : Bool) → EtherUnit
c_view u = c_placed (unit_header u)
