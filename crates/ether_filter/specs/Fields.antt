-- The fields of a header that primitives ask about.
use Rattle.std.specs.Prelude.{ℕ, ◌-◌, ◌^◌, Bool, false, nat_eq, ◌||◌}
use Rattle.etherparse.specs.Bytes.{spelled}
use Rattle.etherparse.specs.Header.{Header}
use Rattle.etherparse.specs.Header as headers
use Rattle.ether_filter.specs.declared.fields.Fields.{Fields}
use Rattle.ether_filter.specs.declared.fields.Fields.TheVariants.{Link, Tag, SecTag, Arp, Other}
use Rattle.ether_filter.specs.declared.primitive.Primitive.{Primitive}
use Rattle.ether_filter.specs.declared.primitive.Primitive.TheVariants as primitives
use Rattle.ether_filter.specs.Primitives.{is_group}

abbrev pub fields_of : Header → Fields
fields_of (headers.Ethernet2 e) = Link (spelled 6 e.destination) (spelled 6 e.source)
fields_of (headers.Ethernet2Fcs e) = Link (spelled 6 e.destination) (spelled 6 e.source)
fields_of (headers.Vlan v) = Tag v.vid
fields_of (headers.Macsec t) = SecTag
fields_of (headers.Arp a) = Arp
fields_of _ = Other

-- a link with these addresses, destination and source, makes the primitive match
abbrev pub shown_by_link : Primitive → ℕ → ℕ → Bool
shown_by_link (primitives.Source a) destination source = nat_eq a source
shown_by_link (primitives.Destination a) destination source = nat_eq a destination
shown_by_link (primitives.Host a) destination source = nat_eq a source || nat_eq a destination
shown_by_link primitives.Broadcast destination source = nat_eq (2 ^ 48 - 1) destination
shown_by_link primitives.Multicast destination source = is_group destination
shown_by_link _ destination source = false
