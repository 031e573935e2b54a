-- The result of a whole walk.
use Rattle.std.specs.Prelude.{◌≡◌, ℕ, ◌+◌, List, length, take, Option, Some, None, false}
use Rattle.etherparse.specs.Header.{Header}
use Rattle.ether_peel.specs.Grammar.Expectation.{Expectation, has_fcs}
use Rattle.ether_peel.specs.Grammar.Stack.{Ending, Accepted, Fault, last_window, last_expected, Walk}
use Rattle.ether_peel.specs.Grammar.Cuts.{KeepsCut}
use Rattle.ether_peel.specs.Grammar.Extensions.{KeepsExtensions}
use Rattle.ether_peel.specs.Walker.Start.{kind_shown}
use Rattle.ether_peel.specs.Walker.State.{State}
use Rattle.ether_peel.specs.Walker.Fault.{fault_in}
use Rattle.ether_peel.specs.declared.peel_fault.PeelFault.{PeelFault}
use Rattle.ether_peel.specs.declared.walk_summary.Summary.{Summary}

-- the fault in which a walk ends, if it is refused
abbrev pub fault_of : Ending → Option PeelFault
fault_of (Accepted v y) = None
fault_of (Fault v y r) = Some (fault_in v r)

abbrev pub summary_of : List Header → Ending → Summary
summary_of hs e = record {
  units = length hs;
  rest_start = (last_window e).start;
  rest_end = (last_window e).finish;
  kind = kind_shown (last_expected e);
  fault = fault_of e;
}

-- the summary of a walker that shows this, after this number of units, with its fault
abbrev pub summary_at : State → ℕ → Option PeelFault → Summary
summary_at s units fault = record {
  units = units;
  rest_start = s.offset;
  rest_end = s.offset + length s.rest;
  kind = kind_shown s.expected;
  fault = fault;
}

-- A list has a walk and no second one, and this is its summary. Without a frame check sequence, every extension of the
-- list keeps what was found until the named length is there.
pub record IsSummary (start : Expectation) (list : List ℕ) (s : Summary) : Type 0 where
  pub headers : List Header
  pub ending : Ending
  pub walk : Walk start list headers ending
  pub one : (hs : List Header) (e : Ending) → Walk start list hs e → (hs ≡ headers) × (e ≡ ending)
  pub is : s ≡ summary_of headers ending
  pub extensions : has_fcs start ≡ false → KeepsExtensions start list headers ending

-- It is the summary of the list's first n bytes. Without a frame check sequence, this cut keeps what it has of the
-- whole list's walk.
pub record IsCutSummary (start : Expectation) (list : List ℕ) (n : ℕ) (s : Summary) : Type 0 where
  pub summary : IsSummary start (take n list) s
  pub keeps : has_fcs start ≡ false → (hs : List Header) (e : Ending) → Walk start list hs e
      → KeepsCut hs e n summary.headers summary.ending
