-- What callers see of a walker, and the representation that shows it.
use Rattle.std.specs.Prelude.{◌≡◌, ℕ, List, Bool}
use Rattle.etherparse.specs.Types.LenSource.{LenSource}
use Rattle.etherparse.specs.Kind as kinds
use Rattle.ether_peel.specs.Grammar.Expectation.{Next, Expectation, Start, EtherType, Sll, Sealed, AfterArp, announced_next, announced_by}
use Rattle.ether_peel.specs.Walker.Start.{next_shown}
use Rattle.ether_peel.specs.declared.rest_kind.RestKind.{RestKind}
use Rattle.ether_peel.specs.declared.rest_kind.RestKind.TheVariants as rests
use Rattle.ether_peel.specs.declared.peel.First.{First}
use Rattle.ether_peel.specs.declared.peel.First.TheVariants as firsts

-- the bytes of the window left to read, its start, its mark, its bound and what is expected there, and whether the
-- fault was given
pub record State : Type 0 where
  pub rest : List ℕ
  pub offset : ℕ
  pub closed : Bool
  pub bound : LenSource
  pub expected : Expectation
  pub over : Bool

-- ---- the representation

-- What is expected where a kind is shown, once the first header was read. `Start` is never shown then (`IsShown`), so
-- its row means nothing.
abbrev pub shown_of : RestKind → Next
shown_of rests.Start = AfterArp
shown_of (rests.EtherType t) = EtherType t.0
shown_of (rests.Sll protocol) = Sll protocol
shown_of rests.Sealed = Sealed
shown_of rests.AfterArp = AfterArp

-- what is expected: the header of the start until it was read, and then what is shown
abbrev pub expected_of : First → RestKind → Next
expected_of firsts.Read kind = shown_of kind
expected_of firsts.Ethernet2 kind = Start kinds.Ethernet2
expected_of firsts.Ethernet2Fcs kind = Start kinds.Ethernet2Fcs
expected_of firsts.LinuxSll kind = Start kinds.LinuxSll

-- once the first header was read, the ether type that is kept announces what is expected
abbrev pub Announces : First → ℕ → RestKind → Type 0
Announces firsts.Read ether_type kind = announced_next (shown_of kind) ≡ announced_by ether_type
Announces _ ether_type kind = Unit {0}

-- the kind that is kept is what is shown
abbrev pub IsShown : First → RestKind → Type 0
IsShown first kind = kind ≡ next_shown (expected_of first kind)
