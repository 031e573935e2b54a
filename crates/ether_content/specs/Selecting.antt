-- Which packets of a capture a filter selects.
use Rattle.std.specs.Prelude.{◌≡◌, ◌↔◌, ℕ, ◌+◌, ◌-◌, ◌*◌, ◌^◌, ◌<◌, ◌≤◌, List, length, Option, Some, None, Bool, true, false, not, ◌&&◌, IsTrue, nat_eq, if◌then◌else◌}
use Rattle.std.specs.Option.{option_map}
use Rattle.std.specs.Borrow.{Bor}
use Rattle.etherparse.specs.Header.{Header}
use Rattle.etherparse.specs.Kind as kinds
use Rattle.ether_peel.specs.Grammar.Expectation.{Next}
use Rattle.ether_peel.specs.Grammar.Expectation as announcing
use Rattle.ether_peel.specs.Grammar.Stack.{Ending, Walk}
use Rattle.ether_peel.specs.Walker.Start.{next_of, start_of}
use Rattle.ether_peel.specs.declared.start.Start.{Start}
use Rattle.ether_filter.specs.Deciding.{Says}
use Rattle.ether_filter.specs.declared.decision.Decision.{Decision}
use Rattle.ether_filter.specs.declared.decision.Decision.TheVariants.{Needs}
use Rattle.ether_filter.specs.Evaluation.{decided}
use Rattle.ether_filter.specs.declared.packet.Packet.{Packet}
use Rattle.ether_filter.specs.declared.packet.PacketTime.{PacketTime}
use Rattle.ether_filter.specs.Expressions.{Expression, Holds}
use Rattle.ether_pcap.specs.Capture.{PacketValue, TimeValue}
use Rattle.ether_pcap.specs.declared.capture.captured_packet.CapturedPacket.{CapturedPacket}
use Rattle.ether_pcap.specs.declared.capture.timestamp.Timestamp.{Timestamp}
use Rattle.ether_content.specs.Content.{IsWalked, content_of, fcs_len, whole_len, without_fcs}

-- the number of nanoseconds since the beginning of 1970
abbrev pub nanoseconds_of : TimeValue → ℕ
nanoseconds_of t = t.seconds * 10 ^ 9 + t.nanoseconds

abbrev pub time_of : PacketValue → Option ℕ
time_of p = option_map nanoseconds_of p.time

-- a filter's expression holds for the walk of a frame, in a packet with these lengths and this time
pub record HoldsOf (x : Expression) (next : Next) (frame : List ℕ) (captured original : ℕ) (time : Option ℕ)
    : Type 0 where
  pub headers : List Header
  pub ending : Ending
  pub walk : Walk (record { next = next; limit = None }) frame headers ending
  pub holds : Holds x (record {
    start = next;
    headers = headers;
    ending = ending;
    captured = captured;
    original = original;
    time = time;
  })

-- .. for the part of a packet that is walked
pub record Selects (x : Expression) (p : PacketValue) : Type 0 where
  pub next : Next
  pub frame : List ℕ
  pub walked : IsWalked (content_of p) next frame
  pub holds : HoldsOf x next frame (length p.packet) p.original_len (time_of p)

-- ---- packets that were cut

-- a time that a filter has
abbrev pub time_view : PacketTime → TimeValue
time_view t = record { seconds = t.seconds; nanoseconds = t.nanoseconds }

-- the number of bytes that are missing before the frame check sequence
abbrev pub missing_len : PacketValue → ℕ
missing_len p = whole_len p - length (without_fcs p)

-- the length of the header that says which part of a packet is walked (LINKTYPE_LINUX_SLL, LINKTYPE_LINUX_SLL2)
abbrev pub cooked_header_len : (link_type : ℕ) → ℕ
cooked_header_len link_type = if nat_eq link_type 113 then 16 else (if nat_eq link_type 276 then 20 else 0)

-- some of its bytes are missing, and it may be whole without them
pub record IsHeaderCut (p : PacketValue) : Type 0 where
  pub short : length (without_fcs p) < cooked_header_len p.link_type
  pub room : cooked_header_len p.link_type ≤ whole_len p

-- the capture gives the length of a frame check sequence that Ethernet does not have (IEEE 802.3, 3.2.9)
abbrev pub has_other_fcs : PacketValue → Bool
has_other_fcs p = not (nat_eq (fcs_len p) 0) && not (nat_eq p.link_type 1 && nat_eq (fcs_len p) 4)

-- how the walk starts, in a frame that ends in a check sequence
abbrev pub with_fcs : PacketValue → Next → Next
with_fcs p next = if nat_eq (fcs_len p) 4 then announcing.Start kinds.Ethernet2Fcs else next

-- what a filter is applied to: the part of a packet that is walked, with its frame check sequence
pub record IsAskedOf (p : PacketValue) (asked : Packet) : Type 0 where
  pub next : Next
  pub walked : IsWalked (content_of p) next asked.frame.now
  pub start : next_of asked.start ≡ with_fcs p next
  pub captured : asked.captured_len ≡ length p.packet
  pub original : asked.original_len ≡ p.original_len
  pub time : option_map time_view asked.time ≡ p.time

-- a decision says this
pub record Decides (x : Expression) (asked : Packet) (d : Decision) : Type 0 where
  pub headers : List Header
  pub ending : Ending
  pub walk : Walk (start_of asked.start) asked.frame.now headers ending
  pub says : Says asked headers ending x d

-- .. that the expression holds (true) or fails (false), or that more bytes are needed
abbrev pub IsAnswer : Expression → Packet → Option Bool → Type 0
IsAnswer x asked None = (n : ℕ) × Decides x asked (Needs n)
IsAnswer x asked (Some truth) = Decides x asked (decided truth)

-- bytes are missing of the part that is walked, which is known
pub record LacksBytes (p : PacketValue) : Type 0 where
  pub lacks : 0 < missing_len p
  pub known : IsHeaderCut p → ⊥
  pub fcs : has_other_fcs p ≡ false

-- Whatever the missing bytes are, an expression selects a packet (true), or does not (false).
pub data IsSettled (x : Expression) (p : PacketValue) (truth : Bool) : Type 0 where
  whole : missing_len p ≡ 0 → IsTrue truth ↔ Selects x p → IsSettled x p truth
  walk : LacksBytes p → (asked : Packet) → IsAskedOf p asked → IsAnswer x asked (Some truth) → IsSettled x p truth
  unwalked : LacksBytes p → ((next : Next) (frame : List ℕ) → IsWalked (content_of p) next frame → ⊥) → truth ≡ false
      → IsSettled x p truth

-- The captured bytes of a packet do not decide whether an expression selects it: it needs more bytes of the part that
-- is
-- walked; or the header of cooked capture that says what is walked was cut; or its frame check sequence has no meaning.
pub data IsUndecided (x : Expression) (p : PacketValue) : Type 0 where
  walk : LacksBytes p → (asked : Packet) → IsAskedOf p asked → IsAnswer x asked None → IsUndecided x p
  header : 0 < missing_len p → IsHeaderCut p → IsUndecided x p
  fcs : 0 < missing_len p → has_other_fcs p ≡ true → IsUndecided x p

-- what the captured bytes decide, if they do
abbrev pub IsOutcome : Expression → PacketValue → Option Bool → Type 0
IsOutcome x p None = IsUndecided x p
IsOutcome x p (Some truth) = IsSettled x p truth

-- ---- step by step

-- the time of a packet as a filter has it
abbrev pub packet_time : Timestamp → PacketTime
packet_time t = record { seconds = t.seconds; nanoseconds = t.nanoseconds }

-- what a filter is applied to for a frame of a packet
abbrev pub asked_of : Start → Bor (List ℕ) → CapturedPacket → Packet
asked_of start frame packet = record {
  start = start;
  frame = frame;
  captured_len = length packet.packet.now;
  original_len = packet.original_len;
  time = option_map packet_time packet.time;
}
