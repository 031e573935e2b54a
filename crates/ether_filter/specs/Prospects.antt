-- What a unit can be if only its first bytes are there.
use Rattle.std.specs.Prelude.{◌≡◌, ℕ, ◌+◌, ◌-◌, ◌*◌, ◌/◌, ◌<◌, ◌≤◌, List, ◌∷◌, ◌++◌, length, take, slice_range, get_or, Option, Some, None, unwrap_or, option_map, IsTrue, ◌↔◌}
use Rattle.ether_filter.specs.declared.packet.Packet.{Packet}
use Rattle.etherparse.specs.Types.LenSource.{LenSource}
use Rattle.etherparse.specs.Bytes.{IsBytes, number}
use Rattle.etherparse.specs.Macsec.{SecTagFront, sec_tag_front_at, sec_tag_len, known_payload_len}
use Rattle.etherparse.specs.Kind.{Kind}
use Rattle.etherparse.specs.Kind as kinds
use Rattle.etherparse.specs.Header.{Header, kind_of, header_len, payload_len, Means}
use Rattle.etherparse.specs.Refusal.{Refusal, Refuses, Accepts, IsTooShort}
use Rattle.ether_peel.specs.Grammar.Window.{Window, within, IsIn}
use Rattle.ether_peel.specs.Grammar.Expectation.{Expectation, EtherType, next_after, announced}
use Rattle.ether_peel.specs.Grammar.Stack.{Ending, Stack, Walk}
use Rattle.ether_peel.specs.Walker.Start.{start_of}
use Rattle.ether_filter.specs.Primitives.{Walked, walked}
use Rattle.ether_filter.specs.declared.prospect.Announced.{Announced}
use Rattle.ether_filter.specs.declared.prospect.Announced.TheVariants.{Nothing, Any, High}
use Rattle.ether_filter.specs.declared.prospect.Prospect.{Prospect}
use Rattle.ether_filter.specs.declared.prospect.OpenKind.{OpenKind}
use Rattle.ether_filter.specs.declared.prospect.OpenKind.TheVariants as open_kinds

-- as many bytes as are missing
pub record IsCompletion (packet : Packet) (more : List ℕ) : Type 0 where
  pub are_bytes : IsBytes more
  pub all : length more ≡ packet.original_len - packet.captured_len

-- it holds of the packet with any such bytes after its frame; its two lengths are unchanged
abbrev pub AtCompletions : Packet → (Walked → Type 0) → Type 0
AtCompletions packet Is =
    (more : List ℕ) (hs : List Header) (e : Ending)
    → IsCompletion packet more → Walk (start_of packet.start) (packet.frame.now ++ more) hs e → Is (walked packet hs e)

-- bytes of a window of this length that begin with the known ones
pub record Continues (known : List ℕ) (room : ℕ) (bytes : List ℕ) : Type 0 where
  pub more : List ℕ
  pub is : bytes ≡ known ++ more
  pub len : length bytes ≡ room
  pub are_bytes : IsBytes bytes

-- they are refused as a unit of a kind, whatever gave their number
abbrev pub AreRefused : Kind → List ℕ → Type 0
AreRefused kind bytes = (bound : LenSource) → (r : Refusal) × Refuses bound bytes kind r

-- they are accepted, with this header
pub record AreAccepted (kind : Kind) (bytes : List ℕ) (h : Header) : Type 0 where
  pub of_kind : kind_of h ≡ kind
  pub accepted : (bound : LenSource) → Accepts bound bytes kind
  pub means : Means bytes h

-- the bytes of the payload after a header without a trailer
abbrev pub payload_bytes : Header → List ℕ → List ℕ
payload_bytes h bytes = let n = header_len h in
    slice_range bytes n (unwrap_or (option_map (λ p. n + p) (payload_len h)) (length bytes))

-- Each packet whose first bytes were captured, and whose missing bytes are these, has these headers, and then in
-- a window, which is the same for all of them, a unit of this kind. Of that window the known bytes are captured; the
-- others can be any.
pub record IsOpen (packet : Packet) (hs : List Header) (kind : Kind) (known : List ℕ) (room : ℕ) : Type 0 where
  pub expected : Expectation
  pub window : Window
  pub announces : announced expected ≡ Some kind
  pub unlimited : expected.limit ≡ None
  pub inside : (more : List ℕ) → IsCompletion packet more → IsIn (packet.frame.now ++ more) window
  pub leads : (more : List ℕ) (ts : List Header) (e : Ending) → IsCompletion packet more
      → Stack (packet.frame.now ++ more) expected window ts e
      → Walk (start_of packet.start) (packet.frame.now ++ more) (hs ++ ts) e
  pub continues : (more : List ℕ) → IsCompletion packet more
      → Continues known room (within (packet.frame.now ++ more) window)
  pub filled : (bytes : List ℕ) → Continues known room bytes
      → (more : List ℕ) × IsCompletion packet more × (within (packet.frame.now ++ more) window ≡ bytes)
  -- the missing bytes come right after the known ones
  pub ends : (more : List ℕ) → IsCompletion packet more
      → within (packet.frame.now ++ more) window ≡ take room (known ++ more)

-- an ether type may be announced
abbrev pub Offers : Announced → ℕ → Type 0
Offers Nothing t = ⊥
Offers Any t = Unit {0}
Offers (High b) t = t / 256 ≡ b

-- the first byte of an ether type is one
abbrev pub FitsAnnounced : Announced → Type 0
FitsAnnounced (High b) = b < 256
FitsAnnounced _ = Unit {0}

-- what is known of the ether type at a place
abbrev pub IsTypeAt : (known : List ℕ) (place : ℕ) → Announced → Type 0
IsTypeAt known place Nothing = ⊥
IsTypeAt known place Any = length known ≤ place
IsTypeAt known place (High b) = (place < length known) × (get_or known place 0 ≡ b)

-- what a unit of a kind can be
pub record IsProspect (kind : Kind) (known : List ℕ) (room : ℕ) (p : Prospect) : Type 0 where
  -- some bytes that go on are refused, and some are accepted
  pub refused : IsTrue p.can_be_refused ↔ ((bytes : List ℕ) × Continues known room bytes × AreRefused kind bytes)
  pub accepted : IsTrue p.can_be_accepted
      ↔ ((bytes : List ℕ) × (h : Header) × Continues known room bytes × AreAccepted kind bytes h)
  pub byte : FitsAnnounced p.next
  -- after a header that is accepted only these ether types can be announced, and no more bytes than these follow
  pub followed : (bytes : List ℕ) (h : Header) (t : ℕ) → Continues known room bytes → AreAccepted kind bytes h
      → next_after h ≡ EtherType t → Offers p.next t × (length (payload_bytes h bytes) ≤ p.room)
  -- exactly as many, if the first byte of the ether type is known
  pub exact : (b : ℕ) → p.next ≡ High b → (bytes : List ℕ) (h : Header) (t : ℕ) → Continues known room bytes
      → AreAccepted kind bytes h → next_after h ≡ EtherType t → length (payload_bytes h bytes) ≡ p.room
  -- and each of them can, with any bytes of this length after it
  pub offered : IsTrue p.can_be_accepted → (t : ℕ) (rest : List ℕ) → t < 65536 → Offers p.next t → IsBytes rest
      → length rest ≡ p.room
      → (bytes : List ℕ) × (h : Header) × Continues known room bytes × AreAccepted kind bytes h
      × (next_after h ≡ EtherType t) × (payload_bytes h bytes ≡ rest)

-- A unit of a kind has this many bytes. Its last two are an ether type, and it is refused only if it has fewer.
pub record IsFixed (kind : Kind) (len : ℕ) : Type 0 where
  pub short : (bytes : List ℕ) → length bytes < len → AreRefused kind bytes
  pub header : (bytes : List ℕ) → IsBytes bytes → len ≤ length bytes → Header
  pub accepted : (bytes : List ℕ) (ok : IsBytes bytes) (le : len ≤ length bytes)
      → AreAccepted kind bytes (header bytes ok le)
  pub header_is : (bytes : List ℕ) (ok : IsBytes bytes) (le : len ≤ length bytes)
      → (header_len (header bytes ok le) ≡ len) × (payload_len (header bytes ok le) ≡ None)
  pub next : (bytes : List ℕ) (ok : IsBytes bytes) (le : len ≤ length bytes)
      → next_after (header bytes ok le) ≡ EtherType (number (slice_range bytes (len - 2) len))

-- ---- a SecTag

-- A SecTag with this front is accepted in a window of this length (IEEE 802.1AE, 9.3 to 9.7).
pub record IsRoomy (c : SecTagFront) (room : ℕ) : Type 0 where
  pub version : c.version ≡ 0
  pub long : IsTooShort c → ⊥
  pub whole : sec_tag_len c ≤ room
  pub fits : (p : ℕ) → known_payload_len c ≡ Some p → sec_tag_len c + p ≤ room

-- the length of its payload there
abbrev pub room_after : SecTagFront → ℕ → ℕ
room_after c room = unwrap_or (known_payload_len c) (room - sec_tag_len c)

-- the front of these two bytes
abbrev pub front_of : (first second : ℕ) → SecTagFront
front_of first second = sec_tag_front_at (first * 256 + second)

-- the length of the payload, if it is accepted
abbrev pub IsRoomAfter : SecTagFront → ℕ → Option ℕ → Type 0
IsRoomAfter c room None = IsRoomy c room → ⊥
IsRoomAfter c room (Some n) = IsRoomy c room × (n ≡ room_after c room)

-- what is known of the ether type after a tag with this front
pub record IsTagNext (c : SecTagFront) (known : List ℕ) (next : Announced) : Type 0 where
  pub unmodified_type : c.encrypted ≡ 0 → c.changed ≡ 0 → IsTypeAt known (6 + 8 * c.sci_present) next
  pub modified_type : (c.encrypted ≡ 0 → c.changed ≡ 0 → ⊥) → next ≡ Nothing

-- these are the first two bytes
abbrev pub BeginsWith : (first second : ℕ) → List ℕ → Type 0
BeginsWith first second known = (rest : List ℕ) × (known ≡ first ∷ second ∷ rest)

-- the header of a SecTag has more bytes than these
abbrev pub IsShortTag : List ℕ → Type 0
IsShortTag known = (first second : ℕ) → BeginsWith first second known
    → length known < sec_tag_len (front_of first second)

-- ---- a unit of any kind

abbrev pub kind_named : OpenKind → Kind
kind_named open_kinds.Ethernet2 = kinds.Ethernet2
kind_named open_kinds.LinuxSll = kinds.LinuxSll
kind_named open_kinds.Vlan = kinds.Vlan
kind_named open_kinds.Macsec = kinds.Macsec
kind_named open_kinds.Arp = kinds.Arp

-- the first part of its header has more bytes than these
abbrev pub IsCut : OpenKind → List ℕ → Type 0
IsCut open_kinds.Ethernet2 known = length known < 14
IsCut open_kinds.LinuxSll known = length known < 16
IsCut open_kinds.Vlan known = length known < 4
IsCut open_kinds.Macsec known = IsShortTag known
IsCut open_kinds.Arp known = Unit {0}
