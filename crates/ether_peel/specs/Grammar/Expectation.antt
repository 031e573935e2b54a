-- What is expected at a place, and what that announces.
use Rattle.std.specs.Prelude.{ℕ, zero, ◌-◌, Option, Some, None, Bool, true, false, nat_eq, option_map, if◌then◌else◌, ◌&&◌, ◌==◌}
use Rattle.etherparse.specs.Types.LinuxSllProtocolType.{LinuxSllProtocolType}
use Rattle.etherparse.specs.LinuxSllProtocolType.{link_protocol_of}
use Rattle.etherparse.specs.Macsec.{PayloadType}
use Rattle.etherparse.specs.Macsec as payloads
use Rattle.etherparse.specs.Vlan.{is_vlan_ether_type}
use Rattle.etherparse.specs.Kind.{Kind}
use Rattle.etherparse.specs.Kind as kinds
use Rattle.etherparse.specs.Header.{Header, kind_of}
use Rattle.etherparse.specs.Header as headers

pub data Next : Type 0 where
  -- the kind with which a walk begins
  Start : Kind → Next
  EtherType : ℕ → Next
  Sll : LinuxSllProtocolType → Next
  Sealed : Next
  AfterArp : Next

-- what comes next, and how many extensions may still be read, if that is limited
pub record Expectation : Type 0 where
  pub next : Next
  pub limit : Option ℕ

-- VLAN tags and MACsec units are extensions
abbrev pub is_extension : Kind → Bool
is_extension kinds.Vlan = true
is_extension kinds.Macsec = true
is_extension _ = false

-- no extension may be read any more
abbrev pub is_spent : Option ℕ → Bool
is_spent (Some zero) = true
is_spent _ = false

-- The kind that an ether type announces: a VLAN tag (IEEE 802.1Q, table 9-1, and the older 0x9100), a MACsec SecTag
-- (IEEE 802.1AE, table 9-1), an ARP packet (RFC 826, "Definitions").
abbrev pub announced_by : ℕ → Option Kind
announced_by t =
    if is_vlan_ether_type t then Some kinds.Vlan
    else (if nat_eq t 0x88E5 then Some kinds.Macsec
    else (if nat_eq t 0x0806 then Some kinds.Arp else None))

abbrev pub announced_next : Next → Option Kind
announced_next (Start kind) = Some kind
announced_next (EtherType t) = announced_by t
announced_next _ = None

-- an extension is not announced if none may be read any more
abbrev pub permitted : Option ℕ → Option Kind → Option Kind
permitted limit None = None
permitted limit (Some kind) = if is_extension kind && is_spent limit then None else Some kind

abbrev pub announced : Expectation → Option Kind
announced x = permitted x.limit (announced_next x.next)

-- the protocol number of a cooked capture is an ether type on Ethernet, which is hardware type 1 (LINKTYPE_LINUX_SLL)
abbrev pub after_capture : (hardware number : ℕ) → Next
after_capture hardware number = if hardware == 1 then EtherType number else Sll (link_protocol_of hardware number)

abbrev pub after_payload : PayloadType → Next
after_payload (payloads.Unmodified ether_type) = EtherType ether_type
after_payload _ = Sealed

abbrev pub next_after : Header → Next
next_after (headers.Ethernet2 e) = EtherType e.ether_type
next_after (headers.Ethernet2Fcs e) = EtherType e.ether_type
next_after (headers.LinuxSll s) = after_capture s.hardware_type s.protocol
next_after (headers.Vlan v) = EtherType v.ether_type
next_after (headers.Macsec t) = after_payload t.payload_type
next_after (headers.Arp a) = AfterArp

-- a limit, after a unit that is an extension or is none
abbrev pub lowered : Bool → Option ℕ → Option ℕ
lowered extension limit = if extension then option_map (λ n. n - 1) limit else limit

-- what is expected after a unit, if x was expected there
abbrev pub after : Expectation → Header → Expectation
after x h = record { next = next_after h; limit = lowered (is_extension (kind_of h)) x.limit }

abbrev pub next_has_fcs : Next → Bool
next_has_fcs (Start kinds.Ethernet2Fcs) = true
next_has_fcs _ = false

-- a frame that ends in a frame check sequence is expected
abbrev pub has_fcs : Expectation → Bool
has_fcs x = next_has_fcs x.next
