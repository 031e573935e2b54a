-- Lines of counts that are added up one after the other.
use Rattle.std.specs.Prelude.{◌≡◌, ◌⊎◌, ℕ, List, [], length, Option, ⊤}
use Rattle.std.specs.Io.KnownBytes.{Consumes, IsAtEnd}
use Rattle.ether_text.specs.Run.{IsEndless}
use Rattle.ether_stream.specs.Packets.{counted}
use Rattle.ether_capture.specs.CountTable.{count_at}
use Rattle.ether_capture.specs.KeyCounts.{CountHits, Hit}
use Rattle.ether_capture.specs.Merging.{AreCountLines, HasCutLine, HasOtherLine, StopsAtLine}
use Rattle.ether_capture.specs.RowFields.{last_piece, lines_of}
use Rattle.ether_capture.specs.declared.merger.MergeFault.{MergeFault}
use Rattle.ether_capture.specs.declared.merger.MergeFault.TheVariants.{Line, Input, Memory}
use Rattle.ether_capture.specs.declared.merger.Merger.{Merger}

-- the lines of a text are those of counts, which are added up, and what follows the last line waits
pub record Merges (text : List ℕ) (at : Merger) : Type 0 where
  pub hits : List Hit
  pub counts : AreCountLines (lines_of text) hits
  pub sums : CountHits hits (count_at at.counts)
  pub is_number : at.lines ≡ counted (length (lines_of text))
  pub waits : at.line.bytes.items ≡ last_piece 10 [] text

-- why bytes of a text were not taken
abbrev pub RefusesIn : (text : List ℕ) → MergeFault → Type 0
RefusesIn text (Line number) = HasOtherLine text number
RefusesIn text Input = ⊥
RefusesIn text Memory = ⊤

-- its last line does not end
abbrev pub IsCut : (text : List ℕ) → MergeFault → Type 0
IsCut text (Line number) = HasCutLine text number
IsCut text fault = ⊥

-- all that was left was read, whole lines, and added up
pub record ReadsAll (before after : Option (List ℕ)) (at : Merger) : Type 0 where
  pub text : List ℕ
  pub read : Consumes before after text
  pub at_end : IsAtEnd after
  pub merges : Merges text at
  pub whole : last_piece 10 [] text ≡ []

-- why reading ends before that
abbrev pub StopsMerging : (can_read : Type 0) → (before after : Option (List ℕ)) → MergeFault → Type 0
StopsMerging can_read before after (Line number) = StopsAtLine before after number
StopsMerging can_read before after Input = can_read ⊎ IsEndless before after
StopsMerging can_read before after Memory = ⊤
