-- The hardware types with a description, and how a hardware type is shown.
use Rattle.std.specs.Prelude.{ℕ, List, [], ◌∷◌, ◌++◌, Option, Some, None, codes, nat_lt, if◌then◌else◌}
use Rattle.std.specs.Fmt.{decimal}
use Rattle.ether_base.specs.Texts.NumberText.{description_in, hex_number, described}

-- the hardware types that ARP has numbers for (IANA, "ARP Hardware Types")
unfoldable pub assigned_descriptions : List (ℕ × List ℕ)
assigned_descriptions =
    (0, codes "from KA9Q: NET/ROM pseudo") ∷
    (1, codes "Ethernet") ∷
    (2, codes "Experimental Ethernet") ∷
    (3, codes "AX.25 Level 2") ∷
    (4, codes "PROnet token ring") ∷
    (5, codes "Chaosnet") ∷
    (6, codes "IEEE 802.2 Ethernet/TR/TB") ∷
    (7, codes "ARCnet") ∷
    (8, codes "APPLEtalk or Hyperchannel") ∷
    (9, codes "Lanstar") ∷
    (10, codes "Autonet Short Address") ∷
    (11, codes "LocalTalk") ∷
    (12, codes "LocalNet") ∷
    (13, codes "Ultra link") ∷
    (14, codes "SMDS") ∷
    (15, codes "Frame Relay DLCI") ∷
    (16, codes "Asynchronous Transmission Mode (ATM) JXB2") ∷
    (17, codes "HDLC") ∷
    (18, codes "Fibre Channel") ∷
    (19, codes "ATM") ∷
    (20, codes "Serial Line") ∷
    (21, codes "Asynchronous Transmission Mode (ATM)") ∷
    (22, codes "MIL-STD-188-220") ∷
    (23, codes "Metricom STRIP (new IANA id)") ∷
    (24, codes "IEEE 1394 IPv4 - RFC 2734") ∷
    (25, codes "MAPOS") ∷
    (26, codes "Twinaxial") ∷
    (27, codes "EUI-64") ∷
    (28, codes "HIPARP") ∷
    (29, codes "IP and ARP over ISO 7816-3") ∷
    (30, codes "ARPSec") ∷
    (31, codes "IPsec tunnel") ∷
    (32, codes "InfiniBand") ∷
    (33, codes "TIA-102 Project 25 Common Air Interface (CAI)") ∷
    (34, codes "Wiegand Interface") ∷
    (35, codes "Pure IP") ∷
    (36, codes "HW_EXP1") ∷
    (37, codes "HFI") ∷
    (38, codes "Unified Bus (UB)") ∷
    []

-- the link types that Linux numbers from 256 on
unfoldable pub link_descriptions : List (ℕ × List ℕ)
link_descriptions =
    (256, codes "SLIP") ∷
    (257, codes "CSLIP") ∷
    (258, codes "SLIP6") ∷
    (259, codes "CSLIP6") ∷
    (260, codes "Notional KISS type") ∷
    (264, codes "ADAPT") ∷
    (270, codes "ROSE") ∷
    (271, codes "CCITT X.25") ∷
    (272, codes "Boards with X.25 in firmware") ∷
    (280, codes "Controller Area Network") ∷
    (512, codes "PPP") ∷
    (513, codes "Cisco HDLC") ∷
    (516, codes "LAPB") ∷
    (517, codes "Digital's DDCMP protocol") ∷
    (518, codes "Raw HDLC") ∷
    (519, codes "Raw IP") ∷
    []

-- the devices that Linux numbers from 768 on
unfoldable pub device_descriptions : List (ℕ × List ℕ)
device_descriptions =
    (768, codes "IPIP tunnel") ∷
    (769, codes "IP6IP6 tunnel") ∷
    (770, codes "Frame Relay Access Device") ∷
    (771, codes "SKIP vif") ∷
    (772, codes "Loopback device") ∷
    (773, codes "Localtalk device") ∷
    (774, codes "Fiber Distributed Data Interface") ∷
    (775, codes "AP1000 BIF") ∷
    (776, codes "sit0 device - IPv6-in-IPv4") ∷
    (777, codes "IP over DDP tunneller") ∷
    (778, codes "GRE over IP") ∷
    (779, codes "PIMSM register interface") ∷
    (780, codes "High Performance Parallel Interface") ∷
    (781, codes "Nexus 64Mbps Ash") ∷
    (782, codes "Acorn Econet") ∷
    (783, codes "Linux-IrDA") ∷
    (784, codes "Point to point fibrechannel") ∷
    (785, codes "Fibrechannel arbitrated loop") ∷
    (786, codes "Fibrechannel public loop") ∷
    (787, codes "Fibrechannel fabric") ∷
    (800, codes "Magic type ident for TR") ∷
    (801, codes "IEEE 802.11") ∷
    (802, codes "IEEE 802.11 + Prism2 header") ∷
    (803, codes "IEEE 802.11 + radiotap header") ∷
    (804, codes "IEEE 802.15.4") ∷
    (805, codes "IEEE 802.15.4 network monitor") ∷
    (820, codes "PhoNet media type") ∷
    (821, codes "PhoNet pipe header") ∷
    (822, codes "CAIF media type") ∷
    (823, codes "GRE over IPv6") ∷
    (824, codes "Netlink header") ∷
    (825, codes "IPv6 over LoWPAN") ∷
    (826, codes "Vsock monitor header") ∷
    (65535, codes "Void type, nothing is known") ∷
    (65534, codes "zero header length") ∷
    []

unfoldable pub arp_hardware_description : ℕ → Option (List ℕ)
arp_hardware_description number =
    description_in (assigned_descriptions ++ link_descriptions ++ device_descriptions) number

abbrev pub shown : ℕ → Option (List ℕ) → List ℕ
shown number None = hex_number number
shown number (Some description) =
    described (if nat_lt number 0xFFFE then decimal number else hex_number number) description

-- How a hardware type is shown: decimal digits and its description, 0xFFFE and 0xFFFF as hexadecimal digits and their
-- description, and one without a description as hexadecimal digits alone.
abbrev pub shown_arp_hardware_id : ℕ → List ℕ
shown_arp_hardware_id number = shown number (arp_hardware_description number)
