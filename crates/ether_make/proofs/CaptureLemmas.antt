-- Records, one after another.
use Rattle.std.proofs.Common.{◌≡◌, ℕ, ◌≤◌, List, [], ◌∷◌, ◌++◌, length, map, Option, Some, None, Bool, is_some, true≢false, refl, sym, ap, subst, ◌∙◌, append_assoc, arith}
use Rattle.std.proofs.lemmas.List.{append-nil, length-take, map-append}
use Rattle.ether_pcap.specs.Numbers.{LittleEndian}
use Rattle.ether_pcap.specs.Record.{RecordValue, max_captured_len}
use Rattle.ether_pcap.specs.Writing.{WritesRecordHeader, WritesRecords, none, more}
use Rattle.ether_make.specs.Frames.{FrameValue}
use Rattle.std.proofs.KnownBytes.{Appends-nil, Appends-trans, Appends-kept}
use Rattle.std.specs.Io.KnownBytes.{Appends, Keeps}
use Rattle.ether_make.specs.Lines.{linked}
use Rattle.ether_make.specs.Captures.{WritesPart, Grows, Ends, IsHeaderOf, IsRecordOf, IsCaptureOf, IsTheCapture, IsBegun, nothing, some, captured, record_of}

-- one record more at the end
records-more : (bs header : List ℕ) (r : RecordValue) (rs : List RecordValue) → length header ≡ 16
    → WritesRecordHeader LittleEndian header r → length r.packet ≤ max_captured_len → WritesRecords LittleEndian bs rs
    → WritesRecords LittleEndian (bs ++ (header ++ r.packet)) (rs ++ r ∷ [])
records-more bs header r rs len writes fits none =
    subst (λ (b : List ℕ). WritesRecords LittleEndian b (r ∷ [])) (append-nil (header ++ r.packet))
    (more header [] r [] len writes fits none)
records-more bs header r rs len writes fits (more h b q qs l w f later) =
    subst (λ (b : List ℕ). WritesRecords LittleEndian b (q ∷ (qs ++ r ∷ [])))
    (sym (append_assoc (h ++ q.packet) b (header ++ r.packet)))
    (more h (b ++ (header ++ r.packet)) q (qs ++ r ∷ []) l w f (records-more b header r qs len writes fits later))

record-more : (bs bytes : List ℕ) (frame : FrameValue) (rs : List RecordValue)
    → IsRecordOf frame bytes → WritesRecords LittleEndian bs rs
    → WritesRecords LittleEndian (bs ++ bytes) (rs ++ record_of frame ∷ [])
record-more bs bytes frame rs is h =
    subst (λ (b : List ℕ). WritesRecords LittleEndian (bs ++ b) (rs ++ record_of frame ∷ [])) (sym is.whole)
    (records-more bs is.header (record_of frame) rs is.header_len is.writes
    (omega (arith, length-take 262144 frame.packet)) h)

capture-more : {fcs : Bool} (link : ℕ) (frames : List FrameValue) (frame : FrameValue) (bytes one : List ℕ)
    → IsRecordOf frame one → IsCaptureOf fcs link frames bytes
    → IsCaptureOf fcs link (frames ++ frame ∷ []) (bytes ++ one)
capture-more link frames frame bytes one is c = record {
  header = c.header;
  records = c.records ++ one;
  is_header = c.is_header;
  writes_records =
      subst (λ (rs : List RecordValue). WritesRecords LittleEndian (c.records ++ one) rs)
      (sym (map-append record_of frames (frame ∷ [])))
      (record-more c.records one frame (map record_of frames) is c.writes_records);
  whole = ap (λ b. b ++ one) c.whole ∙ append_assoc c.header c.records one;
}

grows-first : {fcs : Bool} (frame : FrameValue) (header one : List ℕ)
    → IsHeaderOf fcs frame.link header → IsRecordOf frame one → (frames : List FrameValue) (bytes : List ℕ)
    → IsBegun fcs None frames bytes → IsBegun fcs (Some frame.link) (frames ++ frame ∷ []) (bytes ++ (header ++ one))
grows-first frame header one h is frames bytes nothing =
    some frame [] (header ++ one) (record {
      header = header;
      records = one;
      is_header = h;
      writes_records = record-more [] one frame [] is none;
      whole = refl;
    })

grows-later : {fcs : Bool} (link : ℕ) (frame : FrameValue) (one : List ℕ)
    → IsRecordOf frame one → (frames : List FrameValue) (bytes : List ℕ) → IsBegun fcs (Some link) frames bytes
    → IsBegun fcs (Some link) (frames ++ frame ∷ []) (bytes ++ one)
grows-later link frame one is frames bytes (some f fs b c) =
    some f (fs ++ frame ∷ []) (b ++ one) (capture-more f.link (f ∷ fs) frame b one is c)

ends-first : {fcs : Bool} (header : List ℕ) → IsHeaderOf fcs 1 header → (frames : List FrameValue) (bytes : List ℕ)
    → IsBegun fcs None frames bytes → IsTheCapture fcs frames (bytes ++ header)
ends-first header h frames bytes nothing = record {
  header = header;
  records = [];
  is_header = h;
  writes_records = none;
  whole = sym (append-nil header);
}

ends-later : {fcs : Bool} (link : ℕ) (frames : List FrameValue) (bytes : List ℕ) → IsBegun fcs (Some link) frames bytes
    → IsTheCapture fcs frames (bytes ++ [])
ends-later {fcs = fcs} link frames bytes (some f fs b c) =
    subst (λ (bs : List ℕ). IsCaptureOf fcs f.link (f ∷ fs) bs) (sym (append-nil b)) c

-- ---- what a writer takes

pub first-grows : {fcs : Bool} (link : Option ℕ) (frame : FrameValue) (held mid holds : Option (List ℕ)) → link ≡ None
    → WritesPart (IsHeaderOf fcs frame.link) held mid
    → WritesPart (IsRecordOf frame) mid holds → Grows (IsBegun fcs) link (linked link frame) (frame ∷ []) held holds
first-grows (Some l) frame held mid holds e h one = absurd (true≢false (ap is_some e))
first-grows None frame held mid holds e h one = record {
  more = h.part ++ one.part;
  written = Appends-trans held mid holds h.part one.part h.written one.written;
  begun = grows-first frame h.part one.part h.is_part one.is_part;
}

pub later-grows : {fcs : Bool} (link : Option ℕ) (l : ℕ) (frame : FrameValue) (held holds : Option (List ℕ)) → link ≡
    Some l
    → WritesPart (IsRecordOf frame) held holds
    → Grows (IsBegun fcs) link (linked link frame) (frame ∷ []) held holds
later-grows None l frame held holds e one = absurd (true≢false (ap is_some (sym e)))
later-grows (Some k) l frame held holds e one = record {
  more = one.part;
  written = one.written;
  begun = grows-later k frame one.part one.is_part;
}

pub first-ends : {fcs : Bool} (link : Option ℕ) (held mid holds : Option (List ℕ)) → link ≡ None
    → WritesPart (IsHeaderOf fcs 1) held mid → Keeps mid holds → Ends (IsBegun fcs) (IsTheCapture fcs) link held holds
first-ends (Some l) held mid holds e h kept = absurd (true≢false (ap is_some e))
first-ends None held mid holds e h kept = record {
  more = h.part;
  written = Appends-kept held mid holds h.part h.written kept;
  whole = ends-first h.part h.is_part;
}

pub later-ends : {fcs : Bool} (link : Option ℕ) (l : ℕ) (held holds : Option (List ℕ)) → link ≡ Some l → Keeps held
    holds
    → Ends (IsBegun fcs) (IsTheCapture fcs) link held holds
later-ends None l held holds e kept = absurd (true≢false (ap is_some (sym e)))
later-ends (Some k) l held holds e kept = record {
  more = [];
  written = Appends-kept held held holds [] (Appends-nil held) kept;
  whole = ends-later k;
}

pub record-part : (frame : FrameValue) (len : ℕ) (header packet : List ℕ) (held mid holds : Option (List ℕ))
    → len ≡ length frame.packet → packet ≡ captured frame.packet → length header ≡ 16
    → WritesRecordHeader LittleEndian header (record (record_of frame) { original_len = len; packet = packet })
    → Appends held mid header → Appends mid holds packet → WritesPart (IsRecordOf frame) held holds
record-part frame len header packet held mid holds e is header_len writes a b = record {
  part = header ++ packet;
  is_part = record {
    header = header;
    header_len = header_len;
    writes =
        subst (λ (n : ℕ). WritesRecordHeader LittleEndian header (record (record_of frame) { original_len = n })) e
        (subst (λ (p : List ℕ). WritesRecordHeader LittleEndian header (record
        (record_of frame) { original_len = len; packet = p })) is writes);
    whole = ap (λ p. header ++ p) is;
  };
  written = Appends-trans held mid holds header packet a b;
}
