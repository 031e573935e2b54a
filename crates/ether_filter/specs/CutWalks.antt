-- The headers that are certain in a packet that was cut short, and what follows them.
use Rattle.std.specs.Prelude.{◌≡◌, ◌≤◌, ℕ, ◌+◌, ◌-◌, List, ◌++◌, length, Option, Some, None, Bool, true, false, is_some}
use Rattle.etherparse.specs.Kind.{Kind}
use Rattle.etherparse.specs.Header.{Header}
use Rattle.ether_peel.specs.Grammar.Expectation.{announced_by}
use Rattle.ether_peel.specs.Grammar.Stack.{Ending, Walk}
use Rattle.ether_peel.specs.Grammar.Endings.{refusal_of}
use Rattle.ether_peel.specs.Walker.Start.{start_of}
use Rattle.ether_filter.specs.declared.cut_walk.CutEnd.{CutEnd}
use Rattle.ether_filter.specs.declared.cut_walk.CutEnd.TheVariants as ends
use Rattle.ether_filter.specs.declared.packet.Packet.{Packet}
use Rattle.ether_filter.specs.declared.seen.Seen.{Seen}
use Rattle.ether_filter.specs.Primitives.{walked}
use Rattle.ether_filter.specs.Prospects.{IsCompletion, IsCut, IsOpen, kind_named}
use Rattle.ether_filter.specs.Seen.{Shows}

-- the number of bytes of the frame on the wire
abbrev pub frame_total : Packet → ℕ
frame_total packet = length packet.frame.now + (packet.original_len - packet.captured_len)

-- what an ether type announces, if there is one
abbrev pub kind_if : Option ℕ → Option Kind
kind_if None = None
kind_if (Some t) = announced_by t

-- each completed packet has these headers alone, and then a refusal, or none
abbrev pub AreAll : Packet → List Header → (refused : Bool) → Type 0
AreAll packet hs refused =
    (more : List ℕ) → IsCompletion packet more
    → (e : Ending) × Walk (start_of packet.start) (packet.frame.now ++ more) hs e × (is_some (refusal_of e) ≡ refused)

-- after these headers the packet is open at a unit, or all completed packets end
abbrev pub EndsAs : Packet → List Header → CutEnd → Type 0
EndsAs packet hs (ends.Open u) = IsOpen packet hs (kind_named u.kind) u.known.now u.room
EndsAs packet hs ends.Refused = AreAll packet hs true
EndsAs packet hs ends.Accepted = AreAll packet hs false

abbrev pub is_refusal : CutEnd → Bool
is_refusal ends.Refused = true
is_refusal _ = false

-- an open unit is not all there, and in its window
abbrev pub FitsEnd : CutEnd → Type 0
FitsEnd (ends.Open u) = IsCut u.kind u.known.now × (length u.known.now ≤ u.room)
FitsEnd _ = Unit {0}

-- what was seen shows these headers, before any ending that is refused as was seen
abbrev pub ShowsHeaders : Packet → List Header → Seen → (ids : List ℕ) → Type 0
ShowsHeaders packet hs s ids =
    (e : Ending) → is_some (refusal_of e) ≡ s.is_refused → Shows (walked packet hs e) s ids

-- these headers are certain, whatever bytes are missing, and then it ends so
pub record IsCutWalk (packet : Packet) (s : Seen) (ids : List ℕ) (end : CutEnd) : Type 0 where
  pub headers : List Header
  pub ends : EndsAs packet headers end
  pub refused : s.is_refused ≡ is_refusal end
  pub shows : ShowsHeaders packet headers s ids
