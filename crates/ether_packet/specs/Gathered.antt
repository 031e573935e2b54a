-- A packet that holds all headers that a walk has returned so far.
use Rattle.std.specs.Prelude.{◌≡◌, ℕ, ◌+◌, ◌≤◌, List, [], ◌∷◌, length, map, Option, Some, None, unwrap_or, Result, Err, Bool, true, false, ◌⊎◌}
use Rattle.etherparse.specs.Bytes.{IsBytes}
use Rattle.etherparse.specs.Kind.{Kind}
use Rattle.etherparse.specs.Header.{Header}
use Rattle.ether_peel.specs.Grammar.Window.{Window, payload}
use Rattle.ether_peel.specs.Grammar.Expectation.{Next, Start, AfterArp, Expectation}
use Rattle.ether_peel.specs.Grammar.Stack.{whole}
use Rattle.ether_peel.specs.Walker.State.{State}
use Rattle.ether_peel.specs.Walker.Next.{Gives}
use Rattle.ether_peel.specs.Walker.UnderWay.{UnderWay as AWalk}
use Rattle.ether_peel.specs.declared.peel_unit.PeelUnit.{PeelUnit}
use Rattle.ether_peel.specs.declared.peel_fault.PeelFault.{PeelFault}
use Rattle.ether_packet.specs.declared.packet_walk.PacketWalk.{PacketWalk}
use Rattle.ether_packet.specs.PacketUnit.{Read}
use Rattle.ether_packet.specs.Views.{header_of, exts_of, arp_view}
use Rattle.ether_packet.specs.Packet.{AreUnitsAt}

-- the window after some headers
abbrev pub window_after : Window → List Header → Window
window_after w [] = w
window_after w (h ∷ hs) = window_after (payload w h) hs

-- What is known of the headers before a unit that is to be read: there `x` is expected, and up to `free` further
-- extensions may be read.
pub record Ready (r : Read) (x : Expectation) (free : ℕ) : Type 0 where
  pub limit : x.limit ≡ Some free
  pub first : (kind : Kind) → x.next ≡ Start kind → r.units ≡ []
  pub arp : (arp_view r.units ≡ None) ⊎ (x.next ≡ AfterArp)

pub record Gathered (start : Expectation) (list : List ℕ) (s : State) (r : Read) : Type 0 where
  pub way : AWalk start list s
  pub comes_after : way.window ≡ window_after (whole start list) way.done
  -- the packet holds the headers that were read
  pub values : map header_of r.units ≡ way.done
  pub frame : r.frame ≡ list
  pub units : AreUnitsAt list (whole start list) way.done r.units
  -- and has room for further extensions
  pub free : ℕ
  pub room : length (exts_of r.units) + free ≡ 3
  pub ready : Ready r s.expected free

-- what a walker without further units returns: its fault if there is one
abbrev pub item_of : Option PeelFault → Option (Result PeelUnit PeelFault)
item_of None = None
item_of (Some f) = Some (Err f)

-- ---- a walk that is under way, and its end

-- at most this many headers follow: the link's, the extensions that the limit allows, and an ARP packet
abbrev pub next_left : Next → ℕ
next_left (Start kind) = 2
next_left AfterArp = 0
next_left _ = 1

abbrev pub headers_left : Expectation → ℕ
headers_left x = next_left x.next + unwrap_or x.limit 0

pub record UnderWay (start : Expectation) (list : List ℕ) (w : PacketWalk) : Type 0 where
  pub bytes : IsBytes list
  pub gathered : Gathered start list w.peel w.read
  pub no_fault : w.fault ≡ None

abbrev pub IsUnderWay : PacketWalk → Type 0
IsUnderWay w = (start : Expectation) × (list : List ℕ) × UnderWay start list w

-- the walker returned None or a fault
pub record HasEnded (start : Expectation) (list : List ℕ) (w : PacketWalk) : Type 0 where
  pub before : State
  pub gathered : Gathered start list before w.read
  pub gives : Gives before (item_of w.fault) w.peel

-- at least n headers were read, or the walk has ended
abbrev pub GoesBy : ℕ → (old new : PacketWalk) → Bool → Type 0
GoesBy n old new true =
    (start : Expectation) (list : List ℕ) → UnderWay start list old
    → UnderWay start list new × (headers_left new.peel.expected + n ≤ headers_left old.peel.expected)
GoesBy n old new false = (start : Expectation) (list : List ℕ) → UnderWay start list old → HasEnded start list new

-- the walk has ended
abbrev pub EndsAnyhow : (old new : PacketWalk) → Type 0
EndsAnyhow old new = (start : Expectation) (list : List ℕ) → UnderWay start list old → HasEnded start list new
