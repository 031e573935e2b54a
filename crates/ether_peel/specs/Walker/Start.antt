-- The starts of a walk as expectations, and expectations as what a walker shows of them.
use Rattle.std.specs.Prelude.{ℕ, Option, Some, None}
use Rattle.etherparse.specs.Kind as kinds
use Rattle.ether_peel.specs.Grammar.Expectation.{Next, Expectation, Start, EtherType, Sll, Sealed, AfterArp}
use Rattle.ether_peel.specs.declared.start.Start.{Start as PeelStart}
use Rattle.ether_peel.specs.declared.start.Start.TheVariants as starts
use Rattle.ether_peel.specs.declared.rest_kind.RestKind.{RestKind}
use Rattle.ether_peel.specs.declared.rest_kind.RestKind.TheVariants as rests

abbrev pub next_of : PeelStart → Next
next_of starts.Ethernet2 = Start kinds.Ethernet2
next_of starts.Ethernet2Fcs = Start kinds.Ethernet2Fcs
next_of starts.LinuxSll = Start kinds.LinuxSll
next_of (starts.EtherType t) = EtherType t.0

abbrev pub start_with : PeelStart → Option ℕ → Expectation
start_with start limit = record { next = next_of start; limit = limit }

-- without a limit on extensions
abbrev pub start_of : PeelStart → Expectation
start_of start = start_with start None

-- with a limit
abbrev pub limited_start : PeelStart → ℕ → Expectation
limited_start start limit = start_with start (Some limit)

-- a start kind is shown without its name
abbrev pub next_shown : Next → RestKind
next_shown (Start kind) = rests.Start
next_shown (EtherType t) = rests.EtherType (record { 0 = t })
next_shown (Sll protocol) = rests.Sll protocol
next_shown Sealed = rests.Sealed
next_shown AfterArp = rests.AfterArp

-- a limit is not shown
abbrev pub kind_shown : Expectation → RestKind
kind_shown x = next_shown x.next
