-- Protocols that Linux numbers below the ether types.
use Rattle.std.specs.Prelude.{ℕ, Bool, List, [], ◌∷◌, Option, is_some, codes}
use Rattle.ether_base.specs.Texts.NumberText.{description_in}

-- the numbers that Linux gives to protocols without an ether type (`ETH_P_` in its if_ether.h, below 0x0600)
abbrev pub nonstandard_descriptions : List (ℕ × List ℕ)
nonstandard_descriptions =
    (0x01, codes "Dummy type for 802.3 frames") ∷
    (0x02, codes "Dummy protocol id for AX.25") ∷
    (0x03, codes "Every packet") ∷
    (0x04, codes "802.2 frames") ∷
    (0x05, codes "SNAP: Internal only") ∷
    (0x06, codes "DEC DDCMP: Internal only") ∷
    (0x07, codes "Dummy type for WAN PPP frames") ∷
    (0x08, codes "Dummy type for PPP MP frames") ∷
    (0x09, codes "Localtalk pseudo type") ∷
    (0x0C, codes "CAN: Controller Area Network") ∷
    (0x0D, codes "CANFD: CAN flexible data rate") ∷
    (0x0E, codes "CANXL: eXtended frame Length") ∷
    (0x10, codes "Dummy type for Atalk over PPP") ∷
    (0x11, codes "802.2 frames") ∷
    (0x15, codes "Mobitex") ∷
    (0x16, codes "Card specific control frames") ∷
    (0x17, codes "Linux-IrDA") ∷
    (0x18, codes "Acorn Econet") ∷
    (0x19, codes "HDLC frames") ∷
    (0x1A, codes "1A for ArcNet") ∷
    (0x1B, codes "Distributed Switch Arch") ∷
    (0x1C, codes "Trailer switch tagging") ∷
    (0xF5, codes "Nokia Phonet frame") ∷
    (0xF6, codes "IEEE802.15.4 frame") ∷
    (0xF7, codes "ST-Ericsson CAIF protocol") ∷
    (0xF8, codes "Multiplexed DSA protocol") ∷
    (0xF9, codes "Qualcomm multiplexing and aggregation protocol") ∷
    (0xFA, codes "Management component transport protocol packets") ∷
    []

abbrev pub nonstandard_description : ℕ → Option (List ℕ)
nonstandard_description number = description_in nonstandard_descriptions number

abbrev pub is_nonstandard : ℕ → Bool
is_nonstandard number = is_some (nonstandard_description number)
