-- The main theorem, clause by clause.
use Rattle.std.specs.Prelude.{◌≡◌, ℕ, List, ◌++◌, drop, take, flat_map, false, Result, Ok, Err}
use Rattle.etherparse.specs.Types.Layer.TheVariants as layers
use Rattle.etherparse.specs.Types.SliceWriteSpaceError.{SliceWriteSpaceError}
use Rattle.etherparse.specs.WriteFront.{IsRefusedSpace}
use Rattle.etherparse.specs.Header.{Header, header_bytes}
use Rattle.ether_peel.specs.Grammar.Window.{within}
use Rattle.ether_peel.specs.Grammar.Expectation.{Expectation, has_fcs}
use Rattle.ether_peel.specs.Grammar.Stack.{Ending, last_window, whole, Walk}
use Rattle.ether_peel.specs.Grammar.Cuts.{KeepsCuts}
use Rattle.ether_peel.specs.Grammar.Extensions.{KeepsExtensions}
use Rattle.ether_peel.specs.Grammar.Cleared.{cleared}
use Rattle.ether_peel.specs.Walker.Next.{Faces, begun, Yields, AreItems}
use Rattle.ether_peel.specs.Walker.Summary.{summary_of}
use Rattle.ether_peel.specs.declared.laws.Findings.{Findings}
use Rattle.ether_peel.specs.declared.peel_unit.PeelUnit.{PeelUnit}
use Rattle.ether_peel.specs.declared.peel_fault.PeelFault.{PeelFault}

-- what was written to a target that held old, and now holds new: the headers of a walk and its last window, or nothing
abbrev pub HoldsHeaders : (list : List ℕ) → List Header → Ending → (old new : List ℕ) → Result ℕ SliceWriteSpaceError
    → Type 0
HoldsHeaders list hs e old new (Ok end) =
    (end ≡ (last_window e).finish) × (new ≡ flat_map header_bytes hs ++ within list (last_window e) ++ drop end old)
    × (new ≡ take end (cleared list 0 hs) ++ drop end old)
HoldsHeaders list hs e old new (Err error) =
    IsRefusedSpace (last_window e).finish layers.EtherPayload old error × (new ≡ old)

-- What is found in a list from a start, with a target that held old before its headers were written to it, and then
-- new.
pub record MainTheorem (start : Expectation) (list old new : List ℕ) (found : Findings) : Type 0 where
  -- "For every byte list and starting point": the list has a walk of the wire grammar, and no second one
  pub headers : List Header
  pub ending : Ending
  pub walk : Walk start list headers ending
  pub one : (hs : List Header) (e : Ending) → Walk start list hs e → (hs ≡ headers) × (e ≡ ending)
  -- "the walk finds exactly the headers and windows of the wire grammar": a walk that has read nothing faces them, each
  -- call gives the next (Gives), and all that it gives are their units and then the fault
  pub begins : found.walk ≡ begun start list
  pub walker : Faces list (whole start list) found.walk headers ending
  pub items : (items : List (Result PeelUnit PeelFault)) → Yields found.walk items
      → AreItems list (whole start list) headers ending items
  -- "or its first breach with cause and offset": the fault of the ending, with the number of headers and the last
  -- window
  pub summary : found.summary ≡ summary_of headers ending
  -- "headers written back before the rest give the list's front but for two reserved bits per MACsec tag"
  pub written : HoldsHeaders list headers ending old new found.written
  -- "without FCS, cuts and extensions keep what was found until the named length"
  pub cuts : has_fcs start ≡ false → KeepsCuts start list headers ending
  pub extensions : has_fcs start ≡ false → KeepsExtensions start list headers ending
