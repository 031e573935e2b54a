-- The first headers of a frame.
use Rattle.std.specs.Prelude.{ℕ, List, [], ◌∷◌, Option, Some, None, if◌then◌else◌}
use Rattle.etherparse.specs.Ethernet2.{Ethernet2Value}
use Rattle.etherparse.specs.Vlan.{VlanValue}
use Rattle.etherparse.specs.Header.{Header, kind_of}
use Rattle.etherparse.specs.Header as headers
use Rattle.ether_peel.specs.Grammar.Expectation.{Next, EtherType, next_after}
use Rattle.ether_packet.specs.ReplacingLink.{is_link}

-- the first header, if it is of Ethernet II without a frame check sequence
abbrev pub first_ethernet2 : List Header → Option Ethernet2Value
first_ethernet2 (headers.Ethernet2 e ∷ hs) = Some e
first_ethernet2 _ = None

-- the ether type that announces the next unit, if one does
abbrev pub ether_type_in : Next → Option ℕ
ether_type_in (EtherType t) = Some t
ether_type_in _ = None

-- the ether type in the first header, if that is a link's
abbrev pub link_type : List Header → Option ℕ
link_type [] = None
link_type (h ∷ hs) = if is_link (kind_of h) then ether_type_in (next_after h) else None

-- the first header, if it is a VLAN tag
abbrev pub first_tag : List Header → Option VlanValue
first_tag (headers.Vlan v ∷ hs) = Some v
first_tag _ = None

-- the VLAN tag directly after a link's header
abbrev pub outer_tag : List Header → Option VlanValue
outer_tag [] = None
outer_tag (h ∷ hs) = if is_link (kind_of h) then first_tag hs else None
