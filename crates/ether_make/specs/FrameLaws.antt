-- The law on frames that are made of lines of JSON.
use Rattle.std.specs.Prelude.{◌≡◌, ℕ, ◌^◌, ◌<◌, List, [], ◌∷◌, take, length, Bool, true, false, Option, Some, None, IfSome, Ok, ⊤, All}
use Rattle.std.specs.List.{flat_map, list_any}
use Rattle.etherparse.specs.Header.{Header}
use Rattle.etherparse.specs.Header as headers
use Rattle.ether_peel.specs.Grammar.Cleared.{cleared}
use Rattle.ether_peel.specs.declared.rest_kind.RestKind.{RestKind}
use Rattle.ether_pcap.specs.Capture.{PacketValue, TimeValue}
use Rattle.ether_content.specs.Content.{content_of, without_fcs}
use Rattle.ether_format.specs.Origins.{OriginValue}
use Rattle.ether_format.specs.declared.end.End.{End}
use Rattle.ether_format.specs.declared.end.End.TheVariants.{Rest}
use Rattle.ether_format.specs.declared.moment.Moment.{Moment}
use Rattle.ether_format.specs.Calendar.{AreMoments}
use Rattle.ether_format.specs.Told.{Told, Walked, CookedV2, Tells}
use Rattle.serde_json.specs.Data.{Data}
use Rattle.ether_base.specs.Bytes.{IsBytes}
use Rattle.ether_make.specs.declared.settings.Settings.{Settings}
use Rattle.ether_make.specs.Frames.{FrameValue, frame_bytes, frame_meaning, padded}
use Rattle.ether_make.specs.Lines.{Progress, frames_of}
use Rattle.ether_make.specs.Slots.{Found}
use Rattle.ether_make.specs.Templates.{template_meaning}
use Rattle.ether_make.specs.PacketData.{packet_data, exact_data}
use Rattle.ether_make.specs.PacketJson.{FitsPacket}
use Rattle.ether_make.specs.declared.time_text.Time.{Time}

-- Ethernet II without a frame check sequence, a VLAN tag, a SecTag, or an ARP packet
abbrev pub IsRemade : Told → Type 0
IsRemade (Walked place (headers.Ethernet2 e) None) = ⊤
IsRemade (Walked place (headers.Vlan v) None) = ⊤
IsRemade (Walked place (headers.Macsec t) None) = ⊤
IsRemade (Walked place (headers.Arp a) None) = ⊤
IsRemade _ = ⊥

-- whether a header is a SecTag, which has two reserved bits
abbrev pub is_sec_tag : Told → Bool
is_sec_tag (Walked place (headers.Macsec t) fcs) = true
is_sec_tag _ = false

-- the bytes that a header is written as: the reserved bits of a SecTag are 0
abbrev pub told_bytes : Told → List ℕ
told_bytes (Walked place h fcs) = headers.header_bytes h
told_bytes (CookedV2 place s) = []

-- the headers of a walk
abbrev pub walked : List Told → List Header
walked [] = []
walked (Walked place h fcs ∷ told) = h ∷ walked told
walked (CookedV2 place s ∷ told) = walked told

-- a packet of Ethernet that tells these headers alone, and after them a rest
pub record TellsRemade (limit : Option ℕ) (p : PacketValue) (told : List Told) (start finish : ℕ) (kind : RestKind)
    (accepted : Bool) : Type 0 where
  pub link : p.link_type ≡ 1
  pub remade : All IsRemade told
  pub tells : Tells limit (length p.packet) (content_of p) told (Rest start finish kind) accepted

-- ---- with each byte of a packet

-- Ethernet II, with a frame check sequence or without one, a VLAN tag, a SecTag, or an ARP packet
abbrev pub IsExact : Told → Type 0
IsExact (Walked place (headers.Ethernet2 e) fcs) = ⊤
IsExact (Walked place (headers.Ethernet2Fcs e) fcs) = ⊤
IsExact (Walked place (headers.Vlan v) fcs) = ⊤
IsExact (Walked place (headers.Macsec t) fcs) = ⊤
IsExact (Walked place (headers.Arp a) fcs) = ⊤
IsExact _ = ⊥

-- a time that a classic capture has: the seconds have 32 bits, and the nanoseconds are less than a second
-- (draft-ietf-opsawg-pcap, section 5)
abbrev pub InCapture : TimeValue → Type 0
InCapture t = (t.seconds < 2 ^ 32) × (t.nanoseconds < 10 ^ 9)

-- the time of a packet, or the beginning of 1970 if it has none
abbrev pub time_or_1970 : Option TimeValue → Time
time_or_1970 None = record { seconds = 0; nanoseconds = 0 }
time_or_1970 (Some t) = record { seconds = t.seconds; nanoseconds = t.nanoseconds }

-- ---- without ranges

-- an object means one frame: it has no range, and one combination
pub record MeansOne (d : Data) (f : FrameValue) : Type 0 where
  pub found : Found
  pub template : template_meaning d ≡ Ok (record { frame = f; found = found })
  pub no_range : found.slots ≡ []
  pub one : found.combinations ≡ 1

-- ---- the law

-- The value of a packet's line means the packet's headers, one after the other, if they are Ethernet II, VLAN tags,
-- SecTags and ARP and none is refused, and with all bytes of the packet it means the packet. The headers are the bytes
-- of the packet up to its rest, but for the reserved bits of SecTags. The line with all bytes has these bits, and it
-- means the packet, its link type and its time also if the packet has a fault or a link type that is not known. It has
-- no range, so this is its one frame, which a run without a count and a rate makes.
pub record LinesMakeFrames : Type 0 where
  pub headers : (limit : Option ℕ) (origin : OriginValue) (p : PacketValue) (moment : Option Moment) (told : List Told)
      (start finish : ℕ) (kind : RestKind) (accepted : Bool) → FitsPacket origin p
      → TellsRemade limit p told start finish kind accepted
      → frame_bytes (packet_data origin p moment told (Rest start finish kind)) ≡ Ok (flat_map told_bytes told)
  pub front : (limit : Option ℕ) (origin : OriginValue) (p : PacketValue) (told : List Told) (start finish : ℕ)
      (kind : RestKind) (accepted : Bool) → FitsPacket origin p → TellsRemade limit p told start finish kind accepted
      → list_any is_sec_tag told ≡ false → flat_map told_bytes told ≡ take start p.packet
  pub cleared : (limit : Option ℕ) (origin : OriginValue) (p : PacketValue) (told : List Told) (start finish : ℕ)
      (kind : RestKind) (accepted : Bool) → FitsPacket origin p → TellsRemade limit p told start finish kind accepted
      → flat_map told_bytes told ≡ take start (cleared (without_fcs p) 0 (walked told))
  pub exact : (limit : Option ℕ) (origin : OriginValue) (p : PacketValue) (moment : Option Moment) (told : List Told)
      (end : End) (accepted : Bool) → FitsPacket origin p → p.link_type < 2 ^ 16 → AreMoments p.time moment
      → IfSome p.time InCapture → All IsExact told → Tells limit (length p.packet) (content_of p) told end accepted
      → frame_meaning (exact_data origin p moment told end)
      ≡ Ok (record { link = p.link_type; time = time_or_1970 p.time; packet = p.packet })
  pub one : (limit : Option ℕ) (origin : OriginValue) (p : PacketValue) (moment : Option Moment) (told : List Told)
      (end : End) (accepted : Bool) → FitsPacket origin p → p.link_type < 2 ^ 16 → AreMoments p.time moment
      → IfSome p.time InCapture → All IsExact told → Tells limit (length p.packet) (content_of p) told end accepted
      → MeansOne (exact_data origin p moment told end)
      (record { link = p.link_type; time = time_or_1970 p.time; packet = p.packet })
  pub frames : (settings : Settings) (progress : Progress) (f : FrameValue) (found : Found)
      → IsBytes (padded settings.pad f).packet → settings.count ≡ None → settings.rate ≡ None → found.slots ≡ []
      → found.combinations ≡ 1
      → frames_of settings progress (record { frame = f; found = found }) ≡ padded settings.pad f ∷ []
