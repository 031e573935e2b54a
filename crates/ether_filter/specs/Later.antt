-- What can follow the open unit of a packet that was cut short.
use Rattle.std.specs.Prelude.{◌≡◌, ℕ, ◌<◌, ◌≤◌, List, ◌∷◌, ◌++◌, Some, ◌⊎◌}
use Rattle.etherparse.specs.Bytes.{IsBytes}
use Rattle.etherparse.specs.Kind as kinds
use Rattle.etherparse.specs.Header.{Header}
use Rattle.ether_peel.specs.Grammar.Expectation.{announced_by}
use Rattle.ether_peel.specs.Grammar.Stack.{Ending, Walk}
use Rattle.ether_peel.specs.Walker.Start.{start_of}
use Rattle.ether_filter.specs.declared.packet.Packet.{Packet}
use Rattle.ether_filter.specs.declared.prospect.Announced.{Announced}
use Rattle.ether_filter.specs.declared.prospect.OpenKind.{OpenKind}
use Rattle.ether_filter.specs.declared.prospect.Prospect.{Prospect}
use Rattle.ether_filter.specs.Primitives.{Walked, walked}
use Rattle.ether_filter.specs.Prospects.{IsCompletion, IsOpen, IsProspect, IsCut, Offers, kind_named}

-- ---- by what may be announced and how many bytes follow

-- an ether type of a VLAN tag may be announced (IEEE 802.1Q, table 9-1)
abbrev pub OffersTag : Announced → Type 0
OffersTag next = (t : ℕ) × Offers next t × (announced_by t ≡ Some kinds.Vlan)

-- .. and at least so many bytes follow
abbrev pub CanTag : Prospect → ℕ → Type 0
CanTag p least = OffersTag p.next × (least ≤ p.room)

-- a SecTag of six bytes or more (IEEE 802.1AE, 9.3), or a VLAN tag of four bytes before it
abbrev pub CanSecTag : Prospect → Type 0
CanSecTag p = (Offers p.next 0x88E5 × (6 ≤ p.room)) ⊎ CanTag p 10

-- an ether type, or a VLAN tag before it
abbrev pub CanType : Prospect → ℕ → Type 0
CanType p t = Offers p.next t ⊎ CanTag p 4

-- A unit that is refused: a VLAN tag without room, or a SecTag of another version after it; or an ARP packet. Two sizes
-- of 255 bytes need the most room: 8 bytes, and two addresses of each size (RFC 826).
abbrev pub CanRefuse : Prospect → Type 0
CanRefuse p = OffersTag p.next ⊎ (Offers p.next 0x0806 × (p.room < 1028))

-- ---- of a packet

-- some completed packet has it
pub record SomeCompletion (packet : Packet) (Is : Walked → Type 0) : Type 0 where
  pub more : List ℕ
  pub headers : List Header
  pub ending : Ending
  pub completes : IsCompletion packet more
  pub walk : Walk (start_of packet.start) (packet.frame.now ++ more) headers ending
  pub holds : Is (walked packet headers ending)

-- after these headers and a further one, the rest of the headers and the ending are so
abbrev pub HasAfter : List Header → (Header → List Header → Ending → Type 0) → Walked → Type 0
HasAfter hs Are w = (unit : Header) × (later : List Header) × (w.headers ≡ hs ++ unit ∷ later) × Are unit later w.ending

-- after these headers, which are certain, a packet is open at a unit with this prospect
pub record IsOpenAs (packet : Packet) (hs : List Header) (kind : OpenKind) (known : List ℕ) (room : ℕ) (p : Prospect)
    : Type 0 where
  pub bytes : IsBytes packet.frame.now
  pub cut : IsCut kind known
  pub unit : IsOpen packet hs (kind_named kind) known room
  pub prospect : IsProspect (kind_named kind) known room p
