-- What bytes begin with, they begin with if more follow; and why they don't, if that is not that they end.
use Rattle.std.proofs.Common.{◌≡◌, ℕ, ◌+◌, ◌-◌, ◌≤◌, List, ◌++◌, length, length-append, refl, sym, ap, subst, ◌∙◌, arith, None, rules}
use Rattle.std.specs.Prelude.{Option, slice_range}
use Rattle.ether_base.specs.Bytes.{number}
use Rattle.ether_base.proofs.SubLists.{part-append}
use Rattle.ether_pcap.specs.Numbers.{Order, number_in, field}
use Rattle.ether_pcap.specs.FileHeader.{Resolution, HasMagic, FileHeaderValue, IsFileHeader, FileRefusal, RefusesFile, fcs_len_of}
use Rattle.ether_pcap.specs.FileHeader as file
use Rattle.ether_pcap.specs.Record.{RecordValue, RecordRefusal, BeginsRecord, RefusesRecord, record_len}
use Rattle.ether_pcap.specs.Record as record_rows
use Rattle.ether_pcap.specs.Block.{BlockValue, BlockRefusal, BeginsBlock, RefusesBlock, IsTotalLen}
use Rattle.ether_pcap.specs.Block as block_rows
use Rattle.ether_pcap.specs.Section.{SectionRefusal, HasSectionType, HasOrder, IsSection, RefusesSection, IsVersion}
use Rattle.ether_pcap.specs.Section as section_rows
use Rattle.ether_pcap.proofs.CaptureLengths.{unit_within}
use Rattle.ether_pcap.specs.Capture.{PacketValue, CaptureExpectation, CaptureRefusal, File, Record, Section, Block, Begins, file_header, file_record, first_section, section, block, RefusesCapture, file_header_refused, file_record_refused, first_section_refused, section_refused, block_refused, body_refused, required_len}

longer : (bytes more : List ℕ) (n : ℕ) → n ≤ length bytes → n ≤ length (bytes ++ more)
longer bytes more n le = omega (arith, length-append bytes more, le)

-- the number at a place
pub same : (order : Order) (bytes more : List ℕ) (a b : ℕ) → a ≤ b → b ≤ length bytes
    → field order (bytes ++ more) a b ≡ field order bytes a b
same order bytes more a b le within = ap (number_in order) (part-append bytes more a b le within)

pub same_type : (bytes more : List ℕ) → 4 ≤ length bytes
    → number (slice_range (bytes ++ more) 0 4) ≡ number (slice_range bytes 0 4)
same_type bytes more le = ap number (part-append bytes more 0 4 (omega arith) le)

has_type : (bytes more : List ℕ) → 4 ≤ length bytes → HasSectionType bytes → HasSectionType (bytes ++ more)
has_type bytes more le has = same_type bytes more le ∙ has

no_type : (bytes more : List ℕ) → 4 ≤ length bytes → (HasSectionType bytes → ⊥) → HasSectionType (bytes ++ more) → ⊥
no_type bytes more le other has = other (sym (same_type bytes more le) ∙ has)

-- ---- what is read of the first bytes of a list is read of another list with the same ones

module _ (old new : List ℕ) (n : ℕ) (long : n ≤ length new)
    (part : (a b : ℕ) → a ≤ b → b ≤ n → slice_range new a b ≡ slice_range old a b) where
  number_kept : (order : Order) (a b : ℕ) → a ≤ b → b ≤ n → field order new a b ≡ field order old a b
  number_kept order a b le within = ap (number_in order) (part a b le within)

  type_kept : 4 ≤ n → number (slice_range new 0 4) ≡ number (slice_range old 0 4)
  type_kept le = ap number (part 0 4 (omega arith) le)

  header_kept : (h : FileHeaderValue) → 24 ≤ n → IsFileHeader old h → IsFileHeader new h
  header_kept h le is = search (rules, number_kept)

  record_kept : (order : Order) (r : RecordValue) → record_len r ≤ n → BeginsRecord order old r
      → BeginsRecord order new r
  record_kept order r le is = record {
    seconds = number_kept order 0 4 (omega arith) (omega arith) ∙ is.seconds;
    fraction = number_kept order 4 8 (omega arith) (omega arith) ∙ is.fraction;
    captured_len = number_kept order 8 12 (omega arith) (omega arith) ∙ is.captured_len;
    original_len = number_kept order 12 16 (omega arith) (omega arith) ∙ is.original_len;
    packet = part 16 (16 + length r.packet) (omega arith) le ∙ is.packet;
    whole = omega arith;
    room = is.room;
  }

  block_kept : (order : Order) (b : BlockValue) → 12 + length b.body ≤ n → BeginsBlock order old b
      → BeginsBlock order new b
  block_kept order b le is = record {
    block_type = number_kept order 0 4 (omega arith) (omega arith) ∙ is.block_type;
    total_len = number_kept order 4 8 (omega arith) (omega arith) ∙ is.total_len;
    sound = is.sound;
    whole = omega arith;
    body = part 8 (8 + length b.body) (omega arith) (omega arith) ∙ is.body;
    trailer = number_kept order (8 + length b.body) (12 + length b.body) (omega arith) le ∙ is.trailer;
  }

  section_kept : (order : Order) (b : BlockValue) → 12 + length b.body ≤ n → IsSection old order b
      → IsSection new order b
  section_kept order b le is =
      let least = is.len in
      let major = number_kept order 12 14 (omega arith) (omega arith) in
      let minor = number_kept order 14 16 (omega arith) (omega arith) in
      record {
        section = type_kept (omega arith) ∙ is.section;
        magic = number_kept order 8 12 (omega arith) (omega arith) ∙ is.magic;
        block = block_kept order b le is.block;
        len = least;
        version = subst (λ (k : ℕ). IsVersion (field order new 12 14) k) (sym minor)
            (subst (λ (k : ℕ). IsVersion k (field order old 14 16)) (sym major) is.version);
      }

  unit_kept : (x y : CaptureExpectation) (len : ℕ) (p : Option PacketValue) → len ≤ n → Begins old x len p y
      → Begins new x len p y
  unit_kept x y len p le (file_header m h other is) =
      file_header m h (λ has. other (sym (type_kept (omega arith)) ∙ has)) (header_kept h le is)
  unit_kept x y len p le (file_record h r is) = file_record h r (record_kept h.order r le is)
  unit_kept x y len p le (first_section m order b is) = first_section m order b (section_kept order b le is)
  unit_kept x y len p le (section m order next interfaces b is) =
      section m order next interfaces b (section_kept next b le is)
  unit_kept x y len p le (block m order interfaces after packet b other begins is) =
      block m order interfaces after packet b (λ has. other (sym (type_kept (omega arith)) ∙ has))
      (block_kept order b le begins) is

-- so if more bytes follow
pub block_local : (order : Order) (bytes more : List ℕ) (b : BlockValue) → BeginsBlock order bytes b
    → BeginsBlock order (bytes ++ more) b
block_local order bytes more b is = search (rules, block_kept, longer, part-append)

pub unit_local : (bytes more : List ℕ) (x y : CaptureExpectation) (len : ℕ) (p : Option PacketValue)
    → Begins bytes x len p y
    → Begins (bytes ++ more) x len p y
unit_local bytes more x y len p is = search (rules, unit_kept, longer, part-append, unit_within)

-- .. or don't
pub unit_alone : (bytes more : List ℕ) (x y : CaptureExpectation) (len : ℕ) (p : Option PacketValue) → len
    ≤ length bytes
    → Begins (bytes ++ more) x len p y → Begins bytes x len p y
unit_alone bytes more x y len p le is = search (rules, unit_kept, part-append)

-- ---- file headers

file_refused_local : (bytes more : List ℕ) (r : FileRefusal) → RefusesFile bytes r → required_len (File r) ≡ None
    → (4 ≤ length bytes) × RefusesFile (bytes ++ more) r
file_refused_local bytes more r (file.short lt) e = absurd cc
file_refused_local bytes more r (file.magic le none) e = (
  omega arith,
  subst (λ (n : ℕ). RefusesFile (bytes ++ more) (file.Magic n)) (same_type bytes more (omega arith))
      (file.magic (longer bytes more 24 le)
      (λ order resolution has.
      none order resolution (sym (same order bytes more 0 4 (omega arith) (omega arith)) ∙ has))),
)
file_refused_local bytes more r (file.version order resolution le has other) e =
    let major = same order bytes more 4 6 (omega arith) (omega arith) in
    let minor = same order bytes more 6 8 (omega arith) (omega arith) in (
      omega arith,
      subst (λ (n : ℕ). RefusesFile (bytes ++ more) (file.Version n (field order bytes 6 8))) major
          (subst (λ (n : ℕ). RefusesFile (bytes ++ more) (file.Version (field order (bytes ++ more) 4 6) n)) minor
          (file.version order resolution (longer bytes more 24 le)
          (same order bytes more 0 4 (omega arith) (omega arith) ∙ has)
          (λ both. other (sym major ∙ both.0, sym minor ∙ both.1)))),
    )

-- ---- records

record_refused_local : (order : Order) (bytes more : List ℕ) (r : RecordRefusal) → RefusesRecord order bytes r
    → required_len (Record r) ≡ None → RefusesRecord order (bytes ++ more) r
record_refused_local order bytes more r (record_rows.too_long le lt) e =
    let n = same order bytes more 8 12 (omega arith) (omega arith) in
    subst (λ (m : ℕ). RefusesRecord order (bytes ++ more) (record_rows.TooLong m)) n
    (record_rows.too_long (longer bytes more 16 le) (omega (arith, n, lt)))
record_refused_local order bytes more r h e = absurd cc

-- ---- blocks

block_refused_local : (order : Order) (bytes more : List ℕ) (r : BlockRefusal) → RefusesBlock order bytes r
    → required_len (Block r) ≡ None → (12 ≤ length bytes) × RefusesBlock order (bytes ++ more) r
block_refused_local order bytes more r (block_rows.total_len le none) e =
    let n = same order bytes more 4 8 (omega arith) (omega arith) in (
      le,
      subst (λ (m : ℕ). RefusesBlock order (bytes ++ more) (block_rows.TotalLen m)) n
          (block_rows.total_len (longer bytes more 12 le) (λ sound. none (subst IsTotalLen n sound))),
    )
block_refused_local order bytes more r (block_rows.trailer n m le is sound whole at other) e = (
  le,
  block_rows.trailer n m (longer bytes more 12 le) (same order bytes more 4 8 (omega arith) (omega arith) ∙ is) sound
      (longer bytes more n whole)
      (same order bytes more (n - 4) n (omega arith) whole ∙ at) other,
)
block_refused_local order bytes more r h e = absurd cc

-- ---- section headers

same_required : (r : BlockRefusal) → required_len (Block r) ≡ required_len (Section (section_rows.Block r))
same_required (block_rows.Short required len) = refl
same_required r = refl

section_refused_local : (bytes more : List ℕ) (r : SectionRefusal) → HasSectionType bytes → RefusesSection bytes r
    → required_len (Section r) ≡ None → HasSectionType (bytes ++ more) × RefusesSection (bytes ++ more) r
section_refused_local bytes more r has (section_rows.short lt) e = absurd cc
section_refused_local bytes more r has (section_rows.block_type n le is other) e = absurd (other (sym is ∙ has))
section_refused_local bytes more r has (section_rows.magic n le t is none) e =
    let m = ap number (part-append bytes more 8 12 (omega arith) le) in
    let t2 = has_type bytes more (omega arith) has in (
      t2,
      section_rows.magic n (longer bytes more 12 le) t2 (m ∙ is)
          (λ order is2. none order (sym (same order bytes more 8 12 (omega arith) le) ∙ is2)),
    )
section_refused_local bytes more r has (section_rows.block order s le t m refused) e =
    let t2 = has_type bytes more (omega arith) has in
    let s2 = block_refused_local order bytes more s refused (same_required s ∙ e) in
    (t2, section_rows.block order s (longer bytes more 12 le) t2 (same order bytes more 8 12 (omega arith) le ∙ m) s2.1)
section_refused_local bytes more r has (section_rows.body order b t m begins lt) e =
    let whole : 12 + length b.body ≤ length bytes = begins.whole in
    let t2 = has_type bytes more (omega arith) has in (
      t2,
      section_rows.body order b t2 (same order bytes more 8 12 (omega arith) (omega arith) ∙ m)
          (block_local order bytes more b begins) lt,
    )
section_refused_local bytes more r has (section_rows.version order b major minor t m begins le is are none) e =
    let whole : 12 + length b.body ≤ length bytes = begins.whole in
    let t2 = has_type bytes more (omega arith) has in (
      t2,
      section_rows.version order b major minor t2 (same order bytes more 8 12 (omega arith) (omega arith) ∙ m)
          (block_local order bytes more b begins) le
          (same order bytes more 12 14 (omega arith) (omega (arith, whole, le)) ∙ is)
          (same order bytes more 14 16 (omega arith) (omega (arith, whole, le)) ∙ are) none,
    )

-- ---- units

pub refusal_local : (bytes more : List ℕ) (x : CaptureExpectation) (r : CaptureRefusal) → RefusesCapture bytes x r
    → required_len r ≡ None → RefusesCapture (bytes ++ more) x r
refusal_local bytes more x r (file_header_refused m s other refused) e =
    let s2 = file_refused_local bytes more s refused e in
    file_header_refused m s (no_type bytes more s2.0 other) s2.1
refusal_local bytes more x r (file_record_refused h s refused) e =
    file_record_refused h s (record_refused_local h.order bytes more s refused e)
refusal_local bytes more x r (first_section_refused m s has refused) e =
    let s2 = section_refused_local bytes more s has refused e in
    first_section_refused m s s2.0 s2.1
refusal_local bytes more x r (section_refused m order interfaces s has refused) e =
    let s2 = section_refused_local bytes more s has refused e in
    section_refused m order interfaces s s2.0 s2.1
refusal_local bytes more x r (block_refused m order interfaces s other refused) e =
    let s2 = block_refused_local order bytes more s refused e in
    block_refused m order interfaces s (no_type bytes more (omega (arith, s2.0)) other) s2.1
refusal_local bytes more x r (body_refused m order interfaces b s other begins refused) e =
    body_refused m order interfaces b s (no_type bytes more (omega (arith, begins.whole)) other)
    (block_local order bytes more b begins) refused
