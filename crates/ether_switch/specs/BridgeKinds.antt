-- Kinds of bridges: the tags that they read and write, and the addresses to which they forward no frame.
use Rattle.std.specs.Prelude.{ℕ, ◌+◌, List, [], ◌∷◌, Bool, nat_eq}
use Rattle.std.specs.List.{list_any}
use Rattle.ether_switch.specs.declared.bridge_kind.BridgeKind.{BridgeKind}
use Rattle.ether_switch.specs.declared.bridge_kind.BridgeKind.TheVariants.{Customer, Provider}

-- the ether type that announces a customer tag or a service tag (IEEE 802.1Q, table 9-1)
abbrev pub tpid_of : BridgeKind → ℕ
tpid_of Customer = 0x8100
tpid_of Provider = 0x88A8

-- the last hexadecimal digits of the reserved addresses, from 01-80-C2-00-00-00 on (IEEE 802.1Q, tables 8-1 and 8-2)
abbrev pub reserved_digits : BridgeKind → List ℕ
reserved_digits Customer = 0 ∷ 1 ∷ 2 ∷ 3 ∷ 4 ∷ 5 ∷ 6 ∷ 7 ∷ 8 ∷ 9 ∷ 0xA ∷ 0xB ∷ 0xC ∷ 0xD ∷ 0xE ∷ 0xF ∷ []
reserved_digits Provider = 1 ∷ 2 ∷ 3 ∷ 4 ∷ 5 ∷ 6 ∷ 7 ∷ 8 ∷ 9 ∷ 0xA ∷ 0xE ∷ []

-- whether a bridge of this kind forwards no frame to the address
abbrev pub is_reserved : BridgeKind → (address : ℕ) → Bool
is_reserved kind address = list_any (λ digit. nat_eq address (0x0180C2000000 + digit)) (reserved_digits kind)
