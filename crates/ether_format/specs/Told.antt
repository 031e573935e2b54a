-- What a captured packet tells: its headers, each with its place, and how the walk through them ends.
use Rattle.std.specs.Prelude.{◌≡◌, ℕ, ◌+◌, ◌-◌, List, [], ◌∷◌, ◌++◌, length, slice_range, codes, Bool, true, false, Option, Some, None}
use Rattle.etherparse.specs.Types.LinuxSllProtocolType.{LinuxSllProtocolType}
use Rattle.etherparse.specs.Types.LinuxSllProtocolType.TheVariants as protocols
use Rattle.etherparse.specs.Header.{Header}
use Rattle.etherparse.specs.Header as headers
use Rattle.ether_base.specs.Formats.LinuxSllProtocolType.{told_ether_type}
use Rattle.ether_peel.specs.Grammar.Window.{Window, payload}
use Rattle.ether_peel.specs.Grammar.Expectation.{Expectation, EtherType}
use Rattle.ether_peel.specs.Grammar.Stack.{Ending, Accepted, whole, Walk}
use Rattle.ether_peel.specs.Grammar.Stack as endings
use Rattle.ether_peel.specs.Walker.Start.{kind_shown}
use Rattle.ether_peel.specs.declared.rest_kind.RestKind.{RestKind}
use Rattle.ether_peel.specs.declared.rest_kind.RestKind.TheVariants as rests
use Rattle.ether_sll2.specs.LinuxSll2.{LinuxSll2Value, linux_sll2_of, LinuxSll2Refusal, RefusesLinuxSll2, AcceptsLinuxSll2, protocol_of_header}
use Rattle.ether_content.specs.Content.{ContentValue, Frame, LinuxSll, LinuxSll2, Unknown}
use Rattle.ether_output.specs.Words.{is_accepted, source_text}
use Rattle.ether_fields.specs.Fields.{section_name, section_rows}
use Rattle.ether_fields.specs.Units.{header_section}
use Rattle.ether_fields.specs.declared.section.Section.{Section}
use Rattle.ether_fields.specs.declared.section.Section.TheVariants as sections
use Rattle.ether_format.specs.declared.cause.Cause.{Cause}
use Rattle.ether_format.specs.declared.cause.Cause.TheVariants as causes
use Rattle.ether_format.specs.declared.end.End.{End}
use Rattle.ether_format.specs.declared.end.End.TheVariants.{Rest, Skipped, Fault}
use Rattle.ether_format.specs.declared.place.Place.{Place}
use Rattle.ether_format.specs.Causes.{cause_of, cause_of_v2}
use Rattle.ether_format.specs.Members.{Value, Nothing, Number, Protocol, Flag, Word, Member, members, ethernet2_values, vlan_values, macsec_values, arp_values, linux_sll_values, linux_sll2_values, rest_values}

-- ---- a header

-- a header of the walk, with the frame check sequence after its payload if there is one; or of cooked capture v2
pub data Told : Type 0 where
  Walked : Place → Header → (fcs : Option (List ℕ)) → Told
  CookedV2 : Place → LinuxSll2Value → Told

-- the place of a header of a window of a list; each offset counts from `at` bytes before the list
abbrev pub place_of : (at : ℕ) → Window → Header → Place
place_of at w h = let inner = payload w h in record {
  start = at + w.start;
  header_end = at + inner.start;
  payload_end = at + inner.finish;
  closed = inner.closed;
}

-- the last four bytes of a frame's window (IEEE 802.3, 3.2.9)
abbrev pub fcs_in : List ℕ → Window → Header → Option (List ℕ)
fcs_in list w (headers.Ethernet2Fcs e) = Some (slice_range list (w.finish - 4) w.finish)
fcs_in list w _ = None

abbrev pub told_in : (at : ℕ) → List ℕ → Window → Header → Told
told_in at list w h = Walked (place_of at w h) h (fcs_in list w h)

-- those of a stack, each in the payload of the one before it
abbrev pub told_stack : (at : ℕ) → List ℕ → Window → List Header → List Told
told_stack at list w [] = []
told_stack at list w (h ∷ hs) = told_in at list w h ∷ told_stack at list (payload w h) hs

-- ---- the end

abbrev pub told_end : (at : ℕ) → Ending → End
told_end at (Accepted w x) = Rest (at + w.start) (at + w.finish) (kind_shown x)
told_end at (endings.Fault w x r) = Fault (at + w.start) w.closed (cause_of r)

-- ---- a packet

-- a walk tells these headers and this end, and whether its frame is accepted
pub record TellsWalk (at : ℕ) (start : Expectation) (frame : List ℕ) (told : List Told) (end : End)
    (accepted : Bool) : Type 0 where
  pub headers : List Header
  pub ending : Ending
  pub walk : Walk start frame headers ending
  pub is_told : told ≡ told_stack at frame (whole start frame) headers
  pub is_end : end ≡ told_end at ending
  pub verdict : accepted ≡ is_accepted ending

-- the place of a cooked header at the front of `len` bytes
abbrev pub cooked_place : (header_len len : ℕ) → Place
cooked_place header_len len = record { start = 0; header_end = header_len; payload_end = len; closed = false }

-- a cooked header and the walk of its payload
pub record TellsPayload (at : ℕ) (first : Told) (start : Expectation) (payload : List ℕ) (told : List Told)
    (end : End) (accepted : Bool) : Type
    0 where
  pub later : List Told
  pub walk : TellsWalk at start payload later end accepted
  pub whole : told ≡ first ∷ later

-- of cooked capture v2: the payload is walked if an ether type announces it
abbrev pub TellsAfter : (limit : Option ℕ) → (ether_type : Option ℕ) → (bytes : List ℕ) → List Told → End
    → (accepted : Bool) → Type 0
TellsAfter limit (Some n) bytes told end accepted =
    TellsPayload 20 (CookedV2 (cooked_place 20 (length bytes)) (linux_sll2_of bytes))
    (record { next = EtherType n; limit = limit })
    (slice_range bytes 20 (length bytes)) told end accepted
TellsAfter limit None bytes told end accepted =
    (told ≡ CookedV2 (cooked_place 20 (length bytes)) (linux_sll2_of bytes) ∷ [])
    × (end ≡ Rest 20 (length bytes) (rests.Sll (protocol_of_header bytes))) × (accepted ≡ true)

pub data TellsCookedV2 (limit : Option ℕ) (bytes : List ℕ) : List Told → End → (accepted : Bool) → Type 0 where
  read : (told : List Told) (end : End) (accepted : Bool) → AcceptsLinuxSll2 bytes
      → TellsAfter limit (told_ether_type (protocol_of_header bytes)) bytes told end accepted
      → TellsCookedV2 limit bytes told end accepted
  refused : (r : LinuxSll2Refusal) → RefusesLinuxSll2 bytes r
      → TellsCookedV2 limit bytes [] (Fault 0 false (cause_of_v2 r)) false

-- what a packet of `len` bytes tells, by its content
abbrev pub Tells : (limit : Option ℕ) → (len : ℕ) → ContentValue → List Told → End → (accepted : Bool) → Type 0
Tells limit len (Frame next bytes) told end accepted =
    TellsWalk 0 (record { next = next; limit = limit }) bytes told end accepted
Tells limit len (LinuxSll s payload) told end accepted =
    TellsPayload 16 (Walked (cooked_place 16 (16 + length payload)) (headers.LinuxSll s) None)
    (record { next = EtherType s.protocol; limit = limit }) payload told end accepted
Tells limit len (LinuxSll2 bytes) told end accepted = TellsCookedV2 limit bytes told end accepted
Tells limit len Unknown told end accepted = (told ≡ []) × (end ≡ Skipped len) × (accepted ≡ true)

-- ---- their fields

-- the section of a header
abbrev pub told_section : Told → Section
told_section (Walked place h fcs) = header_section h
told_section (CookedV2 place s) = sections.Sll2

abbrev pub told_place : Told → Place
told_place (Walked place h fcs) = place
told_place (CookedV2 place s) = place

abbrev pub header_values : Header → (fcs : Option (List ℕ)) → List (Option Value)
header_values (headers.Ethernet2 e) fcs = ethernet2_values e fcs
header_values (headers.Ethernet2Fcs e) fcs = ethernet2_values e fcs
header_values (headers.LinuxSll s) fcs = linux_sll_values s
header_values (headers.Vlan v) fcs = vlan_values v
header_values (headers.Macsec t) fcs = macsec_values t
header_values (headers.Arp a) fcs = arp_values a

-- its own values, after those of its name and its place
abbrev pub own_values : Told → List (Option Value)
own_values (Walked place h fcs) = header_values h fcs
own_values (CookedV2 place s) = linux_sll2_values s

-- a header's name and place
abbrev pub place_values : (name : List ℕ) → Place → List (Option Value)
place_values name place =
    Some (Word name) ∷ Some (Number place.start) ∷ Some (Number place.header_end) ∷ Some (Number place.payload_end)
    ∷ Some (Flag place.closed) ∷ []

abbrev pub told_place_values : Told → List (Option Value)
told_place_values h = place_values (section_name (told_section h)) (told_place h)

abbrev pub told_values : Told → List (Option Value)
told_values h = told_place_values h ++ own_values h

abbrev pub told_members : Told → List Member
told_members h = members (section_rows (told_section h)) (told_values h)

-- what a rest is announced as
abbrev pub protocol_word : LinuxSllProtocolType → List ℕ
protocol_word (protocols.Ignored n) = codes "sll_ignored"
protocol_word (protocols.NetlinkProtocolType n) = codes "sll_netlink"
protocol_word (protocols.GenericRoutingEncapsulationProtocolType n) = codes "sll_gre"
protocol_word (protocols.EtherType t) = codes "ether_type"
protocol_word (protocols.LinuxNonstandardEtherType n) = codes "sll"

abbrev pub protocol_value : LinuxSllProtocolType → Value
protocol_value (protocols.Ignored n) = Protocol n
protocol_value (protocols.NetlinkProtocolType n) = Protocol n
protocol_value (protocols.GenericRoutingEncapsulationProtocolType n) = Protocol n
protocol_value (protocols.EtherType t) = Protocol t.0
protocol_value (protocols.LinuxNonstandardEtherType n) = Nothing

abbrev pub kind_word : RestKind → List ℕ
kind_word rests.Start = codes "start"
kind_word (rests.EtherType t) = codes "ether_type"
kind_word (rests.Sll protocol) = protocol_word protocol
kind_word rests.Sealed = codes "sealed"
kind_word rests.AfterArp = codes "after_arp"

abbrev pub kind_value : RestKind → Value
kind_value (rests.EtherType t) = Protocol t.0
kind_value (rests.Sll protocol) = protocol_value protocol
kind_value _ = Nothing

-- what is wrong, in a word
abbrev pub cause_word : Cause → List ℕ
cause_word (causes.Length required available source layer) = codes "length"
cause_word (causes.UnknownPacketType n) = codes "sll_packet_type"
cause_word (causes.UnknownHardwareType n) = codes "sll_hardware_type"
cause_word causes.Version = codes "macsec_version"
cause_word causes.ShortLength = codes "macsec_short_len"

-- bytes that are required and available, and what names the number of those that are available
abbrev pub cause_required : Cause → Value
cause_required (causes.Length required available source layer) = Number required
cause_required _ = Nothing

abbrev pub cause_available : Cause → Value
cause_available (causes.Length required available source layer) = Number available
cause_available _ = Nothing

abbrev pub cause_source : Cause → Value
cause_source (causes.Length required available source layer) = Word (source_text source)
cause_source _ = Nothing

-- a number that has no meaning
abbrev pub cause_number : Cause → Value
cause_number (causes.UnknownPacketType n) = Number n
cause_number (causes.UnknownHardwareType n) = Number n
cause_number _ = Nothing

abbrev pub fault_values : (start : ℕ) → (closed : Bool) → Cause → List (Option Value)
fault_values start closed cause =
    Some (Number start) ∷ Some (Flag closed) ∷ Some (Word (cause_word cause)) ∷ Some (cause_required cause)
    ∷ Some (cause_available cause) ∷ Some (cause_source cause) ∷ Some (cause_number cause) ∷ []

abbrev pub end_section : End → Section
end_section (Rest start finish kind) = sections.Rest
end_section (Skipped len) = sections.Rest
end_section (Fault start closed cause) = sections.Fault

abbrev pub end_values : End → List (Option Value)
end_values (Rest start finish kind) = rest_values start finish (kind_word kind) (kind_value kind)
end_values (Skipped len) = rest_values 0 len (codes "skipped") Nothing
end_values (Fault start closed cause) = fault_values start closed cause

abbrev pub end_members : End → List Member
end_members end = members (section_rows (end_section end)) (end_values end)

-- whether no header is refused
abbrev pub is_end_accepted : End → Bool
is_end_accepted (Rest start finish kind) = true
is_end_accepted (Skipped len) = true
is_end_accepted (Fault start closed cause) = false
