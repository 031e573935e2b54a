-- A walker: what it shows at each moment, and what it gives, by the stack of the window that is left to read.
use Rattle.std.specs.Prelude.{◌≡◌, ℕ, ◌+◌, ◌/◌, ◌<◌, List, [], ◌∷◌, length, slice_range, Option, Some, None, IfSome, Result, Ok, Err, true, false, if◌then◌else◌}
use Rattle.std.specs.Iterator.{Count, at_most, size}
use Rattle.etherparse.specs.Types.LenSource.TheVariants as sources
use Rattle.etherparse.specs.Types.MacsecSlice.{MacsecSlice}
use Rattle.etherparse.specs.Header.{Header, header_len, payload_len}
use Rattle.etherparse.specs.Header as headers
use Rattle.etherparse.specs.Macsec.{SecTagValue, readable_type, tag_bytes, payload_source, HoldsTyped}
use Rattle.ether_peel.specs.Grammar.Window.{Window, within, IsIn, payload}
use Rattle.ether_peel.specs.Grammar.Expectation.{Expectation, after, has_fcs}
use Rattle.ether_peel.specs.Grammar.Stack.{Ending, Accepted, Fault, Stack, whole, Walk}
use Rattle.ether_peel.specs.Walker.State.{State}
use Rattle.ether_peel.specs.Walker.Fault.{fault_in}
use Rattle.ether_peel.specs.declared.peel_unit.PeelUnit.{PeelUnit}
use Rattle.ether_peel.specs.declared.peel_unit.PeelUnit.TheVariants as units
use Rattle.ether_peel.specs.declared.peel_fault.PeelFault.{PeelFault}

-- The walker faces these headers and this ending: what it shows is this window of the list, and they are the stack
-- there.
pub record Faces (list : List ℕ) (w : Window) (s : State) (hs : List Header) (e : Ending) : Type 0 where
  pub inside : IsIn list w
  pub rest : s.rest ≡ within list w
  pub offset : s.offset ≡ w.start
  pub closed : s.closed ≡ w.closed
  pub bound : s.bound ≡ w.bound
  pub stack : Stack list s.expected w hs e

-- a walker that has read nothing of a list yet
abbrev pub begun : Expectation → List ℕ → State
begun x list = record { rest = list; offset = 0; closed = has_fcs x; bound = sources.Slice; expected = x; over = false }

-- the walker faces the walk of a list
pub record FacesWalk (x : Expectation) (list : List ℕ) (s : State) : Type 0 where
  pub headers : List Header
  pub ending : Ending
  pub walk : Walk x list headers ending
  pub faces : Faces list (whole x list) s headers ending

-- a view of a SecTag has the tag's bytes, and the bytes of the payload's window with their type, if it can be read, and
-- what named their number
pub record ShowsMacsec (bytes rest : List ℕ) (t : SecTagValue) (m : MacsecSlice) : Type 0 where
  pub header : tag_bytes m.header ≡ slice_range bytes 0 (header_len (headers.Macsec t))
  pub payload : HoldsTyped m.payload (readable_type t.payload_type) (payload_source (payload_len (headers.Macsec t)))
      rest

-- A view of a unit, of the bytes of the window in which it was read and those of the payload's window: it holds all of
-- the former, but a SecTag's holds tag and payload, and an ARP packet's the packet.
abbrev pub ShowsUnit : (bytes rest : List ℕ) → Header → PeelUnit → Type 0
ShowsUnit bytes rest (headers.Ethernet2 e) u = u ≡ units.Ethernet2 (record { bytes = bytes; has_fcs = false })
ShowsUnit bytes rest (headers.Ethernet2Fcs e) u = u ≡ units.Ethernet2 (record { bytes = bytes; has_fcs = true })
ShowsUnit bytes rest (headers.LinuxSll s) u = u ≡ units.LinuxSll bytes
ShowsUnit bytes rest (headers.Vlan v) u = u ≡ units.Vlan bytes
ShowsUnit bytes rest (headers.Macsec t) u = (m : MacsecSlice) × (u ≡ units.Macsec m) × ShowsMacsec bytes rest t m
ShowsUnit bytes rest (headers.Arp a) u = u ≡ units.Arp (slice_range bytes 0 (header_len (headers.Arp a)))

-- What a call returns if these headers and this ending are faced: nothing, and nothing changes; or the fault, after
-- which calls return nothing; or the first header's unit, after which what it announces is expected, and the others are
-- faced in the window of its payload.
abbrev pub GivesNext : List ℕ → Window → List Header → Ending → State → Option (Result PeelUnit PeelFault) → State
    → Type 0
GivesNext list w [] (Accepted v y) s result t = (result ≡ None) × (t ≡ s)
GivesNext list w [] (Fault v y r) s result t = (result ≡ Some (Err (fault_in w r))) × (t ≡ record s { over = true })
GivesNext list w (h ∷ hs) e s result t =
    (u : PeelUnit) × (result ≡ Some (Ok u)) × ShowsUnit s.rest t.rest h u × (t.over ≡ false)
    × (t.expected ≡ after s.expected h) × Faces list (payload w h) t hs e

-- a call of next
pub record Gives (s : State) (result : Option (Result PeelUnit PeelFault)) (t : State) : Type 0 where
  pub over : s.over ≡ true → (result ≡ None) × (t ≡ s)
  pub next : s.over ≡ false → (list : List ℕ) (w : Window) (hs : List Header) (e : Ending) → Faces list w s hs e
      → GivesNext list w hs e s result t

-- The items of a walker from a state on: what each call gives after the one before it, until a call gives nothing.
pub data Yields : State → List (Result PeelUnit PeelFault) → Type 0 where
  nothing : (s t : State) → Gives s None t → Yields s []
  item : (s t : State) (first : Result PeelUnit PeelFault) (others : List (Result PeelUnit PeelFault))
      → Gives s (Some first) t → Yields t others → Yields s (first ∷ others)

-- The items of these headers and this ending, each once and in order: the view of each header's unit, of the bytes of
-- its window and of its payload's; after them the fault, if it ends so.
abbrev pub AreItems : List ℕ → Window → List Header → Ending → List (Result PeelUnit PeelFault) → Type 0
AreItems list w [] (Accepted v y) items = items ≡ []
AreItems list w [] (Fault v y r) items = items ≡ Err (fault_in w r) ∷ []
AreItems list w (h ∷ hs) e items =
    (u : PeelUnit) × (others : List (Result PeelUnit PeelFault)) × (items ≡ Ok u ∷ others)
    × ShowsUnit (within list w) (within list (payload w h)) h u × AreItems list (payload w h) hs e others

-- k bytes yield at most k / 4 further units and a fault; nothing follows the fault
abbrev pub items_left : State → Count
items_left s = at_most (if s.over then 0 else length s.rest / 4 + 1)

-- a call that returns something leaves fewer of them
abbrev pub IsNearer : State → Option (Result PeelUnit PeelFault) → State → Type 0
IsNearer s result t = IfSome result (λ _. size (items_left t) < size (items_left s))
