-- The ether types with a description (IEEE 802, 9.2), and how an ether type is shown.
use Rattle.std.specs.Prelude.{ℕ, List, [], ◌∷◌, Option, Some, None, codes}
use Rattle.ether_base.specs.Texts.NumberText.{description_in, hex_number, described}

-- the ether types that have a description
abbrev pub ether_type_descriptions : List (ℕ × List ℕ)
ether_type_descriptions =
    (0x0800, codes "Internet Protocol version 4 (IPv4)") ∷
    (0x86DD, codes "Internet Protocol Version 6 (IPV6)") ∷
    (0x0806, codes "Address Resolution Protocol (ARP)") ∷
    (0x0842, codes "Wake on LAN") ∷
    (0x8100, codes "Customer VLAN Tag (C-TAG) as defined in IEEE Std 802.1Q") ∷
    (0x88A8, codes "IEEE Std 802.1Q - Service VLAN tag identifier (S-Tag)") ∷
    (0x88E5, codes "IEEE Std 802.1AE - Media Access Control Security") ∷
    (0x9100, codes "VLAN Double Tagged Frame") ∷
    []

unfoldable pub ether_type_description : ℕ → Option (List ℕ)
ether_type_description number = description_in ether_type_descriptions number

abbrev pub shown : List ℕ → Option (List ℕ) → List ℕ
shown digits None = digits
shown digits (Some description) = described digits description

-- an ether type as it is shown: its hexadecimal digits, with the description if there is one
abbrev pub shown_ether_type : ℕ → List ℕ
shown_ether_type number = shown (hex_number number) (ether_type_description number)
