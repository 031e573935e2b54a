-- The fields of a header of the wire grammar.
use Rattle.std.specs.Prelude.{◌*◌, List, [], length, Bool, true, false}
use Rattle.std.specs.Option.{is_some}
use Rattle.etherparse.specs.Header.{Header}
use Rattle.etherparse.specs.Header as headers
use Rattle.etherparse.specs.Macsec.{PayloadType, Unmodified}
use Rattle.ether_fields.specs.Rows.{Row, ethernet2_rows, linux_sll_rows, linux_sll2_rows, vlan_rows, macsec_rows, arp_rows}
use Rattle.ether_fields.specs.Places.{placed}
use Rattle.ether_fields.specs.declared.field_place.FieldPlace.{FieldPlace}
use Rattle.ether_fields.specs.declared.part.Part.TheVariants as parts
use Rattle.ether_fields.specs.declared.part.Sizes.{Sizes}
use Rattle.ether_fields.specs.declared.section.Section.{Section}
use Rattle.ether_fields.specs.declared.section.Section.TheVariants as sections

abbrev pub header_section : Header → Section
header_section (headers.Ethernet2 e) = sections.Eth
header_section (headers.Ethernet2Fcs e) = sections.Eth
header_section (headers.LinuxSll s) = sections.Sll
header_section (headers.Vlan v) = sections.Vlan
header_section (headers.Macsec t) = sections.Macsec
header_section (headers.Arp a) = sections.Arp

-- its fields after its name and its place
abbrev pub header_rows : Header → List Row
header_rows (headers.Ethernet2 e) = ethernet2_rows
header_rows (headers.Ethernet2Fcs e) = ethernet2_rows
header_rows (headers.LinuxSll s) = linux_sll_rows
header_rows (headers.Vlan v) = vlan_rows
header_rows (headers.Macsec t) = macsec_rows
header_rows (headers.Arp a) = arp_rows

-- the ether type after a SecTag can be read
abbrev pub is_unmodified : PayloadType → Bool
is_unmodified (Unmodified ether_type) = true
is_unmodified _ = false

abbrev pub no_sizes : Sizes
no_sizes = record { hardware = 0; protocol = 0; has_sci = false; has_payload_type = false }

abbrev pub header_sizes : Header → Sizes
header_sizes (headers.Macsec t) =
    record no_sizes { has_sci = is_some t.sci; has_payload_type = is_unmodified t.payload_type }
header_sizes (headers.Arp a) =
    record no_sizes { hardware = 8 * length a.sender_hardware; protocol = 8 * length a.sender_protocol }
header_sizes _ = no_sizes

-- the places of the fields of a header
abbrev pub header_fields : Header → List FieldPlace
header_fields h = placed (parts.Header (header_sizes h)) 0 (header_rows h)

-- .. of what follows its payload
abbrev pub trailer_fields : Header → List FieldPlace
trailer_fields (headers.Ethernet2Fcs e) = placed parts.Trailer 0 ethernet2_rows
trailer_fields _ = []

-- the places of the fields of a header of Linux cooked capture v2
abbrev pub linux_sll2_fields : List FieldPlace
linux_sll2_fields = placed (parts.Header no_sizes) 0 linux_sll2_rows
