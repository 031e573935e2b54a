-- The header that the bytes of a view mean.
use Rattle.std.specs.Prelude.{◌≡◌, ℕ, List, ◌∷◌, Some, Ok, false, if◌then◌else◌}
use Rattle.etherparse.specs.Bytes.{IsBytes}
use Rattle.etherparse.specs.Ethernet2.{ethernet2_of}
use Rattle.etherparse.specs.LinuxSll.{linux_sll_of}
use Rattle.etherparse.specs.Vlan.{vlan_of}
use Rattle.etherparse.specs.Macsec.{sec_tag_of, tag_bytes}
use Rattle.etherparse.specs.Arp.{arp_of}
use Rattle.etherparse.specs.Header.{Header}
use Rattle.etherparse.specs.Header as headers
use Rattle.ether_peel.specs.Grammar.Window.{Window}
use Rattle.ether_peel.specs.Grammar.Stack.{Ending}
use Rattle.ether_peel.specs.Walker.State.{State}
use Rattle.ether_peel.specs.Walker.Next.{Faces, Gives}
use Rattle.ether_peel.specs.declared.peel_unit.PeelUnit.{PeelUnit}
use Rattle.ether_peel.specs.declared.peel_unit.PeelUnit.TheVariants as units

abbrev pub unit_header : PeelUnit → Header
unit_header (units.Ethernet2 frame) =
    let e = ethernet2_of frame.bytes in
    if frame.has_fcs then headers.Ethernet2Fcs e else headers.Ethernet2 e
unit_header (units.LinuxSll bytes) = headers.LinuxSll (linux_sll_of bytes)
unit_header (units.Vlan bytes) = headers.Vlan (vlan_of bytes)
unit_header (units.Macsec packet) = headers.Macsec (sec_tag_of (tag_bytes packet.header))
unit_header (units.Arp bytes) = headers.Arp (arp_of bytes)

-- a walker that faces a header of a list of bytes gives a view that means it
abbrev pub UnitsMeanHeaders : Type 0
UnitsMeanHeaders =
    (list : List ℕ) (w : Window) (h : Header) (hs : List Header) (e : Ending) (s t : State) (u : PeelUnit)
    → IsBytes list → Faces list w s (h ∷ hs) e → s.over ≡ false → Gives s (Some (Ok u)) t
    → unit_header u ≡ h
