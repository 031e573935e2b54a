-- The lines of the units and the fault that a walker returns.
use Rattle.std.specs.Prelude.{ℕ, List, [], ◌∷◌, ◌++◌, codes, Option, Some, None, Bool}
use Rattle.std.specs.Fmt.{decimal}
use Rattle.etherparse.specs.Types.LenError.{LenError}
use Rattle.etherparse.specs.Types.LinuxSllHeaderError.{HeaderError as LinuxSllHeaderError}
use Rattle.etherparse.specs.Types.LinuxSllHeaderError.TheVariants as linux_sll
use Rattle.etherparse.specs.Types.MacsecHeaderError.{HeaderError as MacsecHeaderError}
use Rattle.etherparse.specs.Types.MacsecHeaderError.TheVariants as macsec
use Rattle.etherparse.specs.Bytes.{spelled}
use Rattle.etherparse.specs.Ethernet2.{Ethernet2Value, ethernet2_of, fcs_of}
use Rattle.etherparse.specs.Vlan.{vlan_of}
use Rattle.etherparse.specs.LinuxSll.{linux_sll_of}
use Rattle.etherparse.specs.Macsec.{sec_tag_of, tag_bytes}
use Rattle.etherparse.specs.Arp.{arp_of}
use Rattle.etherparse.specs.NumberText.{hex_number}
use Rattle.ether_peel.specs.declared.peel_unit.PeelUnit.{PeelUnit}
use Rattle.ether_peel.specs.declared.peel_unit.PeelUnit.TheVariants as units
use Rattle.ether_peel.specs.declared.rest_kind.RestKind.{RestKind}
use Rattle.ether_peel.specs.declared.rest_kind.RestKind.TheVariants as rests
use Rattle.ether_peel.specs.declared.peel_error.PeelError.{PeelError}
use Rattle.ether_peel.specs.declared.peel_error.PeelError.TheVariants as errors
use Rattle.ether_peel.specs.declared.peel_fault.PeelFault.{PeelFault}
use Rattle.ether_output.specs.HexText.{hex_text}
use Rattle.ether_text.specs.Lines.{spaced, mark_text, ethernet2_text, ethernet2_fcs_text, linux_sll_text, vlan_text, macsec_text, arp_text, protocol_text}
use Rattle.ether_output.specs.Words.{source_text}

-- ---- a unit

-- a header of Ethernet II, with the frame check sequence if there is one
abbrev pub ethernet2_view_text : ℕ → Ethernet2Value → Option (List ℕ) → List ℕ
ethernet2_view_text start e None = ethernet2_text start e
ethernet2_view_text start e (Some fcs) = ethernet2_fcs_text start e fcs

-- the addresses and the ether type, each after a space
abbrev pub fields_text : Ethernet2Value → List ℕ
fields_text e =
    codes " "
    ++ (hex_text (spelled 6 e.destination)
    ++ (codes " " ++ (hex_text (spelled 6 e.source) ++ (codes " " ++ hex_number e.ether_type))))

-- what the frame check sequence adds to the line
abbrev pub fcs_text : Option (List ℕ) → List ℕ
fcs_text None = []
fcs_text (Some fcs) = codes " fcs " ++ hex_text fcs

-- a view of a unit that starts at an offset, with the length and the mark of its payload's window
abbrev pub view_text : (start len : ℕ) → (closed : Bool) → PeelUnit → List ℕ
view_text start len closed (units.Ethernet2 frame) = ethernet2_view_text start (ethernet2_of frame.bytes) (fcs_of frame)
view_text start len closed (units.LinuxSll bytes) = linux_sll_text start (linux_sll_of bytes)
view_text start len closed (units.Vlan bytes) = vlan_text start (vlan_of bytes)
view_text start len closed (units.Macsec m) = macsec_text start (sec_tag_of (tag_bytes m.header)) len closed
view_text start len closed (units.Arp bytes) = arp_text start (arp_of bytes)

-- ---- the ending

abbrev pub kind_view_text : RestKind → List ℕ
kind_view_text rests.Start = []
kind_view_text (rests.EtherType t) = codes "type " ++ hex_number t.0
kind_view_text (rests.Sll protocol) = protocol_text protocol
kind_view_text rests.Sealed = codes "sealed"
kind_view_text rests.AfterArp = codes "after_arp"

-- a window that is left
unfoldable pub rest_view_text : ℕ → ℕ → RestKind → List ℕ
rest_view_text start end kind = spaced (codes "rest" ∷ decimal start ∷ decimal end ∷ kind_view_text kind ∷ [])

abbrev pub len_view_text : LenError → List ℕ
len_view_text e = spaced (codes "length" ∷ decimal e.required_len ∷ decimal e.len ∷ source_text e.len_source ∷ [])

abbrev pub linux_sll_view_text : LinuxSllHeaderError → List ℕ
linux_sll_view_text (linux_sll.UnsupportedPacketTypeField n) =
    spaced (codes "content" ∷ codes "sll_packet_type" ∷ decimal n ∷ [])
linux_sll_view_text (linux_sll.UnsupportedArpHardwareId hardware) =
    spaced (codes "content" ∷ codes "sll_hardware_type" ∷ decimal hardware.0 ∷ [])

abbrev pub macsec_view_text : MacsecHeaderError → List ℕ
macsec_view_text macsec.UnexpectedVersion = spaced (codes "content" ∷ codes "macsec_version" ∷ [])
macsec_view_text macsec.InvalidUnmodifiedShortLen = spaced (codes "content" ∷ codes "macsec_short_len" ∷ [])

abbrev pub error_view_text : PeelError → List ℕ
error_view_text (errors.Len e) = len_view_text e
error_view_text (errors.LinuxSll e) = linux_sll_view_text e
error_view_text (errors.Macsec e) = macsec_view_text e

unfoldable pub fault_view_text : PeelFault → List ℕ
fault_view_text f = spaced (codes "fault" ∷ decimal f.offset ∷ mark_text f.closed ∷ error_view_text f.error ∷ [])
