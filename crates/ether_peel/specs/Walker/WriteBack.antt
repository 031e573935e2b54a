-- Headers written back before the rest.
use Rattle.std.specs.Prelude.{◌≡◌, ℕ, ◌≤◌, List, ◌++◌, length, take, drop, flat_map}
use Rattle.etherparse.specs.Types.Layer.TheVariants as layers
use Rattle.etherparse.specs.Types.SliceWriteSpaceError.{SliceWriteSpaceError}
use Rattle.etherparse.specs.Ethernet2.{ethernet2_of, ethernet2_bytes}
use Rattle.etherparse.specs.LinuxSll.{linux_sll_of, linux_sll_bytes}
use Rattle.etherparse.specs.Vlan.{vlan_of, vlan_bytes}
use Rattle.etherparse.specs.Macsec.{sec_tag_of, sec_tag_bytes, tag_bytes}
use Rattle.etherparse.specs.WriteFront.{IsRefusedSpace}
use Rattle.etherparse.specs.Header.{Header, header_bytes}
use Rattle.ether_peel.specs.Grammar.Window.{within}
use Rattle.ether_peel.specs.Grammar.Expectation.{Expectation}
use Rattle.ether_peel.specs.Grammar.Stack.{Ending, last_window, Walk}
use Rattle.ether_peel.specs.declared.peel_unit.PeelUnit.{PeelUnit}
use Rattle.ether_peel.specs.declared.peel_unit.PeelUnit.TheVariants as units
use Rattle.ether_peel.specs.Grammar.Cleared.{cleared}

-- A target that holds the headers of the walk and the bytes of the last window, up to where that ends, and after them
-- what it held before. So it begins with the front of the cleared list.
pub record WritesBack (start : Expectation) (list : List ℕ) (end : ℕ) (old new : List ℕ) : Type 0 where
  pub found : List Header
  pub ending : Ending
  pub walk : Walk start list found ending
  pub ends : end ≡ (last_window ending).finish
  pub room : end ≤ length old
  pub bytes : new ≡ flat_map header_bytes found ++ within list (last_window ending) ++ drop end old
  pub front : new ≡ take end (cleared list 0 found) ++ drop end old

-- a target has room for the headers of a walk and for its last window
abbrev pub HasRoom : Expectation → List ℕ → List ℕ → Type 0
HasRoom start list target = (hs : List Header) (e : Ending) → Walk start list hs e → (last_window e).finish
    ≤ length target

-- the refusal of a target that is too short for them
pub record RefusesBack (start : Expectation) (list target : List ℕ) (error : SliceWriteSpaceError) : Type 0 where
  pub found : List Header
  pub ending : Ending
  pub walk : Walk start list found ending
  pub refused : IsRefusedSpace (last_window ending).finish layers.EtherPayload target error

-- the bytes that the header of a view is written as: an ARP packet is its own header
abbrev pub unit_bytes : PeelUnit → List ℕ
unit_bytes (units.Ethernet2 frame) = ethernet2_bytes (ethernet2_of frame.bytes)
unit_bytes (units.LinuxSll bytes) = linux_sll_bytes (linux_sll_of bytes)
unit_bytes (units.Vlan bytes) = vlan_bytes (vlan_of bytes)
unit_bytes (units.Macsec packet) = sec_tag_bytes (sec_tag_of (tag_bytes packet.header))
unit_bytes (units.Arp bytes) = bytes
