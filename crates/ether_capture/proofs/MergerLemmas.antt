-- Lines of counts that are added up one after the other.
use Rattle.std.proofs.Common.{◌≡◌, ℕ, ◌+◌, List, [], ◌∷◌, ◌++◌, length, false, Option, sym, ap, subst, ◌∙◌, append_assoc, append-nil, length-append, arith, inl, inr}
use Rattle.std.specs.Prelude.{◌==◌, ◌≢◌}
use Rattle.std.specs.Io.KnownBytes.{Consumes, IsAtEnd}
use Rattle.std.specs.List.{All}
use Rattle.ether_stream.specs.Packets.{counted}
use Rattle.ether_capture.specs.CountTable.{count_at}
use Rattle.ether_capture.specs.KeyCounts.{AddsHit, CountHits, Hit}
use Rattle.ether_capture.specs.Merges.{IsCut, Merges, RefusesIn, StopsMerging}
use Rattle.ether_capture.specs.Merging.{AreCountLines, HasCutLine, HasOtherLine, IsCountLine}
use Rattle.ether_capture.specs.RowFields.{last_piece, lines_of, pieces}
use Rattle.ether_capture.specs.declared.merger.MergeFault.{MergeFault}
use Rattle.ether_capture.specs.declared.merger.MergeFault.TheVariants.{Line, Input, Memory}
use Rattle.ether_capture.specs.declared.merger.Merger.{Merger}
use Rattle.ether_capture.proofs.FieldLemmas.{last_after, last_none, pieces_after, pieces_none}
use Rattle.ether_capture.proofs.KeyCountLemmas.{Fits, hits_more}
use Rattle.ether_capture.proofs.MergingLemmas.{lines_append}

-- the line goes on
pub line_goes_on : (text bytes : List ℕ) (old new : Merger) → All (λ b. (b == 10) ≡ false) bytes → Merges text old
    → new.counts ≡ old.counts → new.lines ≡ old.lines → new.line.bytes.items ≡ old.line.bytes.items ++ bytes
    → Merges (text ++ bytes) new
line_goes_on text bytes old new none so_far counts number line =
    let lines : lines_of (text ++ bytes) ≡ lines_of text =
    pieces_after 10 [] text bytes ∙ ap (λ l. lines_of text ++ l) (pieces_none 10 (last_piece 10 [] text) bytes none)
    ∙ append-nil (lines_of text) in
    record {
      hits = so_far.hits;
      counts = subst (λ l. AreCountLines l so_far.hits) (sym lines) so_far.counts;
      sums = subst (λ t. CountHits so_far.hits (count_at t)) (sym counts) so_far.sums;
      is_number = number ∙ so_far.is_number ∙ ap (λ l. counted (length l)) (sym lines);
      waits = line ∙ ap (λ l. l ++ bytes) so_far.waits
          ∙ sym (last_after 10 [] text bytes ∙ last_none 10 (last_piece 10 [] text) bytes none);
    }

ended : (text line : List ℕ) → line ≡ last_piece 10 [] text → lines_of (text ++ 10 ∷ []) ≡ lines_of text ++ line ∷ []
ended text line waits = pieces_after 10 [] text (10 ∷ []) ∙ ap (λ l. lines_of text ++ l ∷ []) (sym waits)

-- the line ends, and is that of a count
pub line_ends : (text : List ℕ) (old new : Merger) (h : Hit) → Merges text old
    → IsCountLine old.line.bytes.items h → Fits h.count → AddsHit h (count_at old.counts) (count_at new.counts)
    → new.lines ≡ counted (old.lines + 1) → new.line.bytes.items ≡ [] → Merges (text ++ 10 ∷ []) new
line_ends text old new h so_far is fits more number line =
    let lines = ended text old.line.bytes.items so_far.waits in
    let long = length-append (lines_of text) (old.line.bytes.items ∷ []) in
    let before = so_far.is_number in
    record {
      hits = so_far.hits ++ h ∷ [];
      counts = subst (λ l. AreCountLines l (so_far.hits ++ h ∷ [])) (sym lines)
          (lines_append (lines_of text) (old.line.bytes.items ∷ []) so_far.hits (h ∷ []) so_far.counts (is, tt));
      sums = hits_more so_far.hits h (count_at old.counts) (count_at new.counts) fits so_far.sums more;
      is_number =
          (let same : new.lines ≡ counted (length (lines_of text ++ old.line.bytes.items ∷ [])) =
          omega (arith, number, before, long) in same ∙ ap (λ l. counted (length l)) (sym lines));
      waits = line ∙ sym (last_after 10 [] text (10 ∷ []));
    }

-- .. or of none
pub other_line : (text : List ℕ) (at : Merger) (number : ℕ) → Merges text at
    → ((h : Hit) → ¬ (IsCountLine at.line.bytes.items h)) → number ≡ counted (at.lines + 1)
    → HasOtherLine (text ++ 10 ∷ []) number
other_line text at number so_far other is =
    let before = so_far.is_number in
    record {
      before = lines_of text;
      hits = so_far.hits;
      line = at.line.bytes.items;
      after = [];
      parts = ended text at.line.bytes.items so_far.waits;
      counts = so_far.counts;
      other = other;
      is_number = omega (arith, is, before);
    }

-- a line that is read stays what it is
pub other_later : (text more : List ℕ) (fault : MergeFault) → RefusesIn text fault → RefusesIn (text ++ more) fault
other_later text more (Line number) o = record {
  before = o.before;
  hits = o.hits;
  line = o.line;
  after = o.after ++ pieces 10 (last_piece 10 [] text) more;
  parts = pieces_after 10 [] text more ∙ ap (λ l. l ++ pieces 10 (last_piece 10 [] text) more) o.parts
      ∙ append_assoc o.before (o.line ∷ o.after) (pieces 10 (last_piece 10 [] text) more);
  counts = o.counts;
  other = o.other;
  is_number = o.is_number;
}
other_later text more Input o = absurd o
other_later text more Memory o = tt

-- the last line does not end
pub cut_line : (text : List ℕ) (at : Merger) (number : ℕ) → Merges text at → at.line.bytes.items ≢ []
    → number ≡ counted (at.lines + 1) → HasCutLine text number
cut_line text at number so_far some is =
    let before = so_far.is_number in
    record {
      hits = so_far.hits;
      counts = so_far.counts;
      cut = λ none. some (so_far.waits ∙ none);
      is_number = omega (arith, is, before);
    }

-- ---- reading stops

pub stops_at : (can_read : Type 0) (before after : Option (List ℕ)) (text : List ℕ) (fault : MergeFault)
    → Consumes before after text → RefusesIn text fault → StopsMerging can_read before after fault
stops_at can_read before after text (Line number) read o = record { text = text; read = read; stops = inl o }
stops_at can_read before after text Input read o = absurd o
stops_at can_read before after text Memory read o = tt

pub stops_cut : (can_read : Type 0) (before after : Option (List ℕ)) (text : List ℕ) (fault : MergeFault)
    → Consumes before after text → IsAtEnd after → IsCut text fault → StopsMerging can_read before after fault
stops_cut can_read before after text (Line number) read end cut =
    record { text = text; read = read; stops = inr (end, cut) }
stops_cut can_read before after text Input read end cut = absurd cut
stops_cut can_read before after text Memory read end cut = absurd cut
