-- What the calls from C do, for the start that their numbers name: each does what the call of ether_peel does.
use Rattle.std.specs.Prelude.{◌≡◌, ℕ, ◌<◌, ◌≤◌, List, [], ◌++◌, length, drop, Option, Some, None, unwrap_or, Result, Ok, Err, IfOk, IfErr, MatchOption, ◌⊎◌}
use Rattle.arrayvec.specs.ArrayVec.{ArrayVec}
use Rattle.etherparse.specs.Types.SliceWriteSpaceError.{SliceWriteSpaceError}
use Rattle.ether_peel.specs.Grammar.Expectation.{Expectation}
use Rattle.ether_peel.specs.Grammar.Completion.{Completes, NothingToComplete}
use Rattle.ether_peel.specs.Walker.Fault.{Misses}
use Rattle.ether_peel.specs.Walker.Feeding.{IsFeed}
use Rattle.ether_peel.specs.Walker.Texts.{peel_fault_text}
use Rattle.ether_peel.specs.Walker.Summary.{IsSummary}
use Rattle.ether_peel.specs.Walker.WriteBack.{WritesBack, RefusesBack}
use Rattle.ether_peel.specs.declared.peel_fault.PeelFault.{PeelFault}
use Rattle.ether_peel.specs.declared.walk_feed.Feed.{Feed}
use Rattle.ether_peel.specs.declared.walk_summary.Summary.{Summary}
use Rattle.ether_c.specs.declared.ether_fed.EtherFed.{EtherFed}
use Rattle.ether_c.specs.declared.ether_found.EtherFound.{EtherFound}
use Rattle.ether_c.specs.Numbers.{done, no_room, no_text}
use Rattle.ether_c.specs.Found.{c_summary, c_feed}

-- ---- summaries

-- the summary of the list's one walk, as a struct of C
pub record GivesSummary (start : Expectation) (list : List ℕ)
    (status : ℕ) (given : EtherFound) : Type 0 where
  pub found : Summary
  pub summary : IsSummary start list found
  pub is_given : given ≡ c_summary found
  pub status_is : status ≡ done

-- ---- writing back

abbrev pub written_status : Result ℕ SliceWriteSpaceError → ℕ
written_status (Ok end) = done
written_status (Err error) = no_room

-- the offset at which the last window ends, which is also the length that the target needs
abbrev pub written_len : Result ℕ SliceWriteSpaceError → ℕ
written_len (Ok end) = end
written_len (Err error) = error.required_len

-- the target holds what writing back writes; or it is too short, and unchanged
pub record GivesWriteBack (start : Expectation) (list old new : List ℕ)
    (status len : ℕ) : Type 0 where
  pub written : Result ℕ SliceWriteSpaceError
  pub ok : IfOk written (λ end. WritesBack start list end old new)
  pub refused : IfErr written (RefusesBack start list old)
  pub kept : IfErr written (λ _. new ≡ old)
  pub status_is : status ≡ written_status written
  pub len_is : len ≡ written_len written

-- ---- feeding

-- what a reader takes of the list, as a struct of C
pub record GivesFeed (start : Expectation) (list : List ℕ)
    (status : ℕ) (given : EtherFed) : Type 0 where
  pub fed : Feed
  pub feed : IsFeed start list fed
  pub is_given : given ≡ c_feed fed
  pub status_is : status ≡ done

-- ---- missing bytes

-- The number of bytes missing from a unit with this fault, 0 if more bytes would not help. A missing number is never
-- 0.
pub record MissesOf (f : PeelFault) (n : ℕ) : Type 0 where
  pub missing : Option ℕ
  pub misses : MatchOption missing ((m : ℕ) → Misses f m → ⊥) (Misses f)
  pub is : n ≡ unwrap_or missing 0

-- .. at the end of a walk with this fault, or with none
abbrev pub MissesAtEnd : Option PeelFault → ℕ → Type 0
MissesAtEnd None n = n ≡ 0
MissesAtEnd (Some f) n = MissesOf f n

pub record GivesMissing (start : Expectation) (list : List ℕ) (status missing : ℕ) : Type 0 where
  pub found : Summary
  pub summary : IsSummary start list found
  pub misses : MissesAtEnd found.fault missing
  pub status_is : status ≡ done

-- ---- bytes

-- Bytes are written to the front of a target; or it has no room for them, and is unchanged. The length is their
-- number.
pub record PutsBytes (bytes old new : List ℕ) (status len : ℕ) : Type 0 where
  pub len_is : len ≡ length bytes
  pub put : length bytes ≤ length old → (status ≡ done) × (new ≡ bytes ++ drop (length bytes) old)
  pub kept : length old < length bytes → (status ≡ no_room) × (new ≡ old)

-- the bytes of a completion; no bytes if there is none
abbrev pub fill_bytes : Option (ArrayVec ℕ) → List ℕ
fill_bytes None = []
fill_bytes (Some fill) = fill.items

-- the list has a completion, which is written to the target; or it has none, and nothing is written
pub record GivesCompletion (start : Expectation) (list old new : List ℕ)
    (status len : ℕ) : Type 0 where
  pub found : Option (ArrayVec ℕ)
  pub completion : MatchOption found (NothingToComplete start list)
      (λ fill. Completes start list fill.items)
  pub puts : PutsBytes (fill_bytes found) old new status len

-- ---- texts

-- The text of a fault is written to the target. Because no contract says that a text can be made, the call may also
-- give up; then it writes nothing.
abbrev pub PutsText : PeelFault → (old new : List ℕ) → (status len : ℕ) → Type 0
PutsText f old new status len =
    PutsBytes (peel_fault_text f) old new status len
    ⊎ ((status ≡ no_text) × (len ≡ 0) × (new ≡ old))

-- no text if there is no fault
abbrev pub PutsEndText : Option PeelFault → (old new : List ℕ) → (status len : ℕ) → Type 0
PutsEndText None old new status len = (status ≡ done) × (len ≡ 0) × (new ≡ old)
PutsEndText (Some f) old new status len = PutsText f old new status len

pub record GivesText (start : Expectation) (list old new : List ℕ) (status len : ℕ) : Type 0 where
  pub found : Summary
  pub summary : IsSummary start list found
  pub text : PutsEndText found.fault old new status len
