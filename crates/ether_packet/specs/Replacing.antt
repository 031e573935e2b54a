-- Replacing a header of a frame in place.
use Rattle.std.specs.Prelude.{◌≡◌, ◌≢◌, ℕ, ◌+◌, ◌≤◌, List, [], ◌∷◌, ◌++◌, length, true, if◌then◌else◌}
use Rattle.etherparse.specs.Bytes.{overwritten}
use Rattle.etherparse.specs.LinkExt.{ext_header_view}
use Rattle.etherparse.specs.Macsec.{sci_present_of}
use Rattle.etherparse.specs.Header.{Header, kind_of, header_bytes, FitsHeader}
use Rattle.etherparse.specs.Header as headers
use Rattle.ether_peel.specs.Grammar.Expectation.{Expectation, is_extension}
use Rattle.ether_peel.specs.Grammar.Places.{place}
use Rattle.ether_peel.specs.Grammar.Stack.{Ending, Walk}
use Rattle.ether_packet.specs.declared.difference.Difference.{Difference}
use Rattle.ether_packet.specs.declared.finding.PlacedExt.{PlacedExt}
use Rattle.ether_packet.specs.declared.difference.Difference.TheVariants as differences
use Rattle.ether_packet.specs.declared.replace_error.ReplaceError.{ReplaceError}
use Rattle.ether_packet.specs.declared.replace_error.ReplaceError.TheVariants as errors

-- Two headers have the same kind and length, and say the same about what follows them: they announce the same, and
-- give the same payload length or none.
abbrev pub Agree : Header → Header → Type 0
Agree (headers.Ethernet2 g) (headers.Ethernet2 h) = g.ether_type ≡ h.ether_type
Agree (headers.Ethernet2Fcs g) (headers.Ethernet2Fcs h) = g.ether_type ≡ h.ether_type
Agree (headers.LinuxSll g) (headers.LinuxSll h) = (g.hardware_type ≡ h.hardware_type) × (g.protocol ≡ h.protocol)
Agree (headers.Vlan g) (headers.Vlan h) = g.ether_type ≡ h.ether_type
Agree (headers.Macsec g) (headers.Macsec h) =
    (g.payload_type ≡ h.payload_type) × (g.short_len ≡ h.short_len) × (sci_present_of g.sci ≡ sci_present_of h.sci)
Agree (headers.Arp g) (headers.Arp h) =
    (length g.sender_hardware ≡ length h.sender_hardware) × (length g.sender_protocol ≡ length h.sender_protocol)
Agree g h = ⊥

-- The first difference between two headers, in the order of kind and fields: before it they agree.
abbrev pub Differs : Header → Header → Difference → Type 0
Differs g h differences.Kind = kind_of g ≢ kind_of h
Differs (headers.Vlan g) (headers.Vlan h) differences.EtherType = g.ether_type ≢ h.ether_type
Differs (headers.Macsec g) (headers.Macsec h) differences.PayloadType = g.payload_type ≢ h.payload_type
Differs (headers.Macsec g) (headers.Macsec h) differences.ShortLen =
    (g.payload_type ≡ h.payload_type) × (g.short_len ≢ h.short_len)
Differs (headers.Macsec g) (headers.Macsec h) differences.Sci =
    (g.payload_type ≡ h.payload_type) × (g.short_len ≡ h.short_len) × (sci_present_of g.sci ≢ sci_present_of h.sci)
Differs (headers.Arp g) (headers.Arp h) differences.HwAddrLen = length g.sender_hardware ≢ length h.sender_hardware
Differs (headers.Arp g) (headers.Arp h) differences.ProtocolAddrLen =
    (length g.sender_hardware ≡ length h.sender_hardware) × (length g.sender_protocol ≢ length h.sender_protocol)
Differs g h d = ⊥

-- the number of extensions among these headers
abbrev pub ext_count : List Header → ℕ
ext_count [] = 0
ext_count (h ∷ hs) = (if is_extension (kind_of h) then 1 else 0) + ext_count hs

-- h is the extension at an index of the headers hs; the headers of front precede it, and the later ones follow it
pub record IsExtAt (hs : List Header) (i : ℕ) (front : List Header) (h : Header) (later : List Header)
    : Type 0 where
  pub parts : hs ≡ front ++ h ∷ later
  pub extension : is_extension (kind_of h) ≡ true
  pub before : ext_count front ≡ i

-- the extension at the index is this one, at this offset
pub record IsPlacedExt (hs : List Header) (i : ℕ) (f : PlacedExt) : Type 0 where
  pub front : List Header
  pub later : List Header
  pub found : IsExtAt hs i front (ext_header_view f.header) later
  pub begins : f.at ≡ place 0 front

-- The extension at the index begins at the offset `at`, and g can replace it.
pub record TakesExt (hs : List Header) (i : ℕ) (g : Header) (at : ℕ) : Type 0 where
  pub front : List Header
  pub replaced : Header
  pub later : List Header
  pub found : IsExtAt hs i front replaced later
  pub same : Agree g replaced
  pub begins : at ≡ place 0 front

-- In a list with the headers hs and this ending g replaces the extension at an index. Only the bytes of that extension
-- change, and the walk has all other headers and the ending as before.
pub record ReplacesExt (start : Expectation) (old : List ℕ) (hs : List Header) (e : Ending) (i : ℕ) (g : Header)
    (new : List ℕ)
    : Type 0 where
  pub front : List Header
  pub replaced : Header
  pub later : List Header
  pub found : IsExtAt hs i front replaced later
  pub same : Agree g replaced
  pub fits : FitsHeader g
  pub bytes : new ≡ overwritten old (place 0 front) (header_bytes g)
  pub len : length new ≡ length old
  pub walk : Walk start new (front ++ g ∷ later) e

-- g does not replace the extension at an index: there is none, or they differ, and this is the first difference
pub data RefusesExt (hs : List Header) (i : ℕ) (g : Header) : ReplaceError → Type 0 where
  none : ext_count hs ≤ i → RefusesExt hs i g (errors.NoLinkExt (ext_count hs))
  other : (front : List Header) (h : Header) (later : List Header) (d : Difference)
      → IsExtAt hs i front h later → Differs g h d → RefusesExt hs i g (errors.SaysOther d)
