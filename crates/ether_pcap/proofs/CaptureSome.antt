-- Bytes begin with a unit, or are refused; and so a file has packets.
use Rattle.std.proofs.Common.{◌≡◌, ℕ, zero, suc, ◌+◌, ◌-◌, ◌*◌, ◌%◌, ◌^◌, ◌<◌, ◌≤◌, List, [], ◌∷◌, ◌++◌, length, drop, length-drop, refl, sym, ap, ◌∙◌, arith, inl, inr, Some, None, rules}
use Rattle.std.specs.Prelude.{◌⊎◌, Option, slice_range}
use Rattle.std.proofs.lemmas.Bool.{cases_lt, cases_eq}
use Rattle.ether_base.specs.Bytes.{number}
use Rattle.ether_base.proofs.SubLists.{length-part}
use Rattle.ether_pcap.specs.Numbers.{Order, BigEndian, LittleEndian, field}
use Rattle.ether_pcap.specs.FileHeader.{Resolution, Microseconds, Nanoseconds, magic_of, HasMagic, FileHeaderValue, IsFileHeader, FileRefusal, RefusesFile, fcs_len_of, short, magic, version}
use Rattle.ether_pcap.specs.FileHeader as file
use Rattle.ether_pcap.specs.Record.{RecordValue, RecordRefusal, BeginsRecord, RefusesRecord, max_captured_len}
use Rattle.ether_pcap.specs.Record as record_rows
use Rattle.ether_pcap.specs.Block.{BlockValue, BlockRefusal, BeginsBlock, RefusesBlock, IsTotalLen, max_block_len}
use Rattle.ether_pcap.specs.Block as block_rows
use Rattle.ether_pcap.specs.Section.{SectionRefusal, section_type, HasSectionType, HasOrder, IsSection, RefusesSection, IsVersion}
use Rattle.ether_pcap.specs.Section as section_rows
use Rattle.ether_pcap.specs.Options.{padded}
use Rattle.ether_pcap.specs.Bodies.{BodyRefusal, InterfaceValue, IsInterface, RefusesInterface, EnhancedPacketValue, IsEnhancedPacket, RefusesEnhancedPacket, SimplePacketValue, IsSimplePacket, RefusesSimplePacket, captured_by}
use Rattle.ether_pcap.specs.Bodies as body_rows
use Rattle.ether_pcap.specs.Capture.{PacketValue, packet_of_record, CaptureInterfaceValue, described_by, Describes, IsAt, CaptureExpectation, Beginning, Records, Blocks, BlockKind, InterfaceDescription, SimplePacket, EnhancedPacket, Other, kind_of_block, IsBody, CaptureRefusal, File, Record, Section, Block, Body, NoInterface, TooManyInterfaces, RefusesBody, interface, too_many, simple_alone, simple, enhanced, enhanced_alone, Begins, file_header, file_record, first_section, section, block, RefusesCapture, file_header_refused, file_record_refused, first_section_refused, section_refused, block_refused, body_refused, IsEnd, ended, refused, unit, packet}
use Rattle.ether_pcap.specs.CaptureLaws.{Packets}
use Rattle.ether_pcap.proofs.Blocks.{whole_block}
use Rattle.ether_pcap.proofs.Options.{some_options}
use Rattle.ether_pcap.proofs.CaptureLengths.{unit_within, unit_some}

-- ---- file headers

abbrev File_of : List ℕ → Type 0
File_of bytes = ((h : FileHeaderValue) × IsFileHeader bytes h) ⊎ ((r : FileRefusal) × RefusesFile bytes r)

with_magic : (bytes : List ℕ) (o : Order) (r : Resolution) → 24 ≤ length bytes → HasMagic bytes o r → File_of bytes
with_magic bytes o r le has =
    elim (cases_eq (field o bytes 4 6) 2) [
      | inl major ↦ elim (cases_eq (field o bytes 6 8) 4) [
        | inl minor ↦ inl (
          record {
            order = o;
            resolution = r;
            snap_len = field o bytes 16 20;
            link_type = field o bytes 20 24 % 2 ^ 16;
            fcs_len = fcs_len_of (field o bytes 20 24);
          },
          record {
            len = le;
            magic = has;
            major = major;
            minor = minor;
            snap_len = refl;
            link_type = refl;
            fcs_len = refl;
          },
        )
        | inr other ↦ inr
            (file.Version (field o bytes 4 6) (field o bytes 6 8), version o r le has (λ both. other both.1))
      ]
      | inr other ↦ inr
          (file.Version (field o bytes 4 6) (field o bytes 6 8), version o r le has (λ both. other both.0))
    ]

no_magic : (bytes : List ℕ) → (HasMagic bytes BigEndian Microseconds → ⊥) → (HasMagic bytes BigEndian Nanoseconds → ⊥)
    → (HasMagic bytes LittleEndian Microseconds → ⊥) → (HasMagic bytes LittleEndian Nanoseconds → ⊥)
    → (o : Order) (r : Resolution) → HasMagic bytes o r → ⊥
no_magic bytes a b c d BigEndian Microseconds = a
no_magic bytes a b c d BigEndian Nanoseconds = b
no_magic bytes a b c d LittleEndian Microseconds = c
no_magic bytes a b c d LittleEndian Nanoseconds = d

some_file : (bytes : List ℕ) → File_of bytes
some_file bytes =
    elim (cases_lt (length bytes) 24) [
      | inl lt ↦ inr (file.Short 24 (length bytes), short lt)
      | inr le ↦ elim (cases_eq (field BigEndian bytes 0 4) 0xA1B2C3D4) [
        | inl e ↦ with_magic bytes BigEndian Microseconds le e
        | inr a ↦ elim (cases_eq (field BigEndian bytes 0 4) 0xA1B23C4D) [
          | inl e ↦ with_magic bytes BigEndian Nanoseconds le e
          | inr b ↦ elim (cases_eq (field LittleEndian bytes 0 4) 0xA1B2C3D4) [
            | inl e ↦ with_magic bytes LittleEndian Microseconds le e
            | inr c ↦ elim (cases_eq (field LittleEndian bytes 0 4) 0xA1B23C4D) [
              | inl e ↦ with_magic bytes LittleEndian Nanoseconds le e
              | inr d ↦ inr (file.Magic (number (slice_range bytes 0 4)), magic le (no_magic bytes a b c d))
            ]
          ]
        ]
      ]
    ]

-- ---- records

abbrev Record_of : Order → List ℕ → Type 0
Record_of order bytes =
    ((r : RecordValue) × BeginsRecord order bytes r) ⊎ ((r : RecordRefusal) × RefusesRecord order bytes r)

whole_record : (order : Order) (bytes : List ℕ) → field order bytes 8 12 ≤ max_captured_len
    → 16 + field order bytes 8 12 ≤ length bytes → Record_of order bytes
whole_record order bytes room whole =
    let n = field order bytes 8 12 in
    let len : length (slice_range bytes 16 (16 + n)) ≡ n = length-part bytes 16 (16 + n) whole ∙ omega arith in
    inl (
      record {
        seconds = field order bytes 0 4;
        fraction = field order bytes 4 8;
        original_len = field order bytes 12 16;
        packet = slice_range bytes 16 (16 + n);
      },
      record {
        seconds = refl;
        fraction = refl;
        captured_len = sym len;
        original_len = refl;
        packet = ap (λ (m : ℕ). slice_range bytes 16 (16 + m)) len;
        whole = omega (arith, len, whole);
        room = omega (arith, len, room);
      },
    )

some_record : (order : Order) (bytes : List ℕ) → Record_of order bytes
some_record order bytes =
    elim (cases_lt (length bytes) 16) [
      | inl lt ↦ inr (record_rows.Short 16 (length bytes), record_rows.header lt)
      | inr le ↦ elim (cases_lt max_captured_len (field order bytes 8 12)) [
        | inl lt ↦ inr (record_rows.TooLong (field order bytes 8 12), record_rows.too_long le lt)
        | inr room ↦ elim (cases_lt (length bytes) (16 + field order bytes 8 12)) [
          | inl lt ↦ inr (record_rows.Short (16 + field order bytes 8 12) (length bytes), record_rows.packet le room lt)
          | inr whole ↦ whole_record order bytes room whole
        ]
      ]
    ]

-- ---- blocks

abbrev Block_of : Order → List ℕ → Type 0
Block_of order bytes =
    ((b : BlockValue) × BeginsBlock order bytes b) ⊎ ((r : BlockRefusal) × RefusesBlock order bytes r)

sound_block : (order : Order) (bytes : List ℕ) → 12 ≤ length bytes → IsTotalLen (field order bytes 4 8)
    → Block_of order bytes
sound_block order bytes le sound =
    let n = field order bytes 4 8 in
    elim (cases_lt (length bytes) n) [
      | inl lt ↦ inr (block_rows.Short n (length bytes), block_rows.body n le refl sound lt)
      | inr whole ↦ elim (cases_eq (field order bytes (n - 4) n) n) [
        | inl e ↦ let w = whole_block order bytes n refl sound whole e in inl (w.0, w.1)
        | inr other ↦ inr (
          block_rows.Trailer n (field order bytes (n - 4) n),
          block_rows.trailer n (field order bytes (n - 4) n) le refl sound whole refl other,
        )
      ]
    ]

some_block : (order : Order) (bytes : List ℕ) → Block_of order bytes
some_block order bytes =
    let n = field order bytes 4 8 in
    elim (cases_lt (length bytes) 12) [
      | inl lt ↦ inr (block_rows.Short 12 (length bytes), block_rows.front lt)
      | inr le ↦ elim (cases_lt n 12) [
        | inl lt ↦ inr (block_rows.TotalLen n, block_rows.total_len le (λ sound. omega (arith, sound.least, lt)))
        | inr least ↦ elim (cases_lt max_block_len n) [
          | inl lt ↦ inr (block_rows.TotalLen n, block_rows.total_len le (λ sound. omega (arith, sound.most, lt)))
          | inr most ↦ elim (cases_eq (n % 4) 0) [
            | inl aligned ↦ sound_block order bytes le (record { least = least; aligned = aligned; most = most })
            | inr other ↦ inr (block_rows.TotalLen n, block_rows.total_len le (λ sound. other sound.aligned))
          ]
        ]
      ]
    ]

-- ---- section headers

abbrev Section_of : List ℕ → Type 0
Section_of bytes =
    ((o : Order) × (b : BlockValue) × IsSection bytes o b) ⊎ ((r : SectionRefusal) × RefusesSection bytes r)

some_version : (major minor : ℕ) → IsVersion major minor ⊎ (IsVersion major minor → ⊥)
some_version major minor = search rules

with_block : (bytes : List ℕ) (o : Order) (b : BlockValue) → HasSectionType bytes → HasOrder bytes o
    → BeginsBlock o bytes b → Section_of bytes
with_block bytes o b has order begins =
    elim (cases_lt (length b.body) 16) [
      | inl lt ↦ inr (section_rows.Body 16 (length b.body), section_rows.body o b has order begins lt)
      | inr le ↦ elim (some_version (field o bytes 12 14) (field o bytes 14 16)) [
        | inl v ↦ inl (o, b, record { section = has; magic = order; block = begins; len = le; version = v })
        | inr none ↦ inr (
          section_rows.Version (field o bytes 12 14) (field o bytes 14 16),
          section_rows.version o b _ _ has order begins le refl refl none,
        )
      ]
    ]

with_order : (bytes : List ℕ) (o : Order) → 12 ≤ length bytes → HasSectionType bytes → HasOrder bytes o
    → Section_of bytes
with_order bytes o le has order =
    elim (some_block o bytes) [
      | inl b ↦ with_block bytes o b.0 has order b.1
      | inr r ↦ inr (section_rows.Block r.0, section_rows.block o r.0 le has order r.1)
    ]

no_order : (bytes : List ℕ) → (HasOrder bytes BigEndian → ⊥) → (HasOrder bytes LittleEndian → ⊥) → (o : Order)
    → HasOrder bytes o → ⊥
no_order bytes a b BigEndian = a
no_order bytes a b LittleEndian = b

some_section : (bytes : List ℕ) → HasSectionType bytes → Section_of bytes
some_section bytes has =
    elim (cases_lt (length bytes) 12) [
      | inl lt ↦ inr (section_rows.Short 12 (length bytes), section_rows.short lt)
      | inr le ↦ elim (cases_eq (field BigEndian bytes 8 12) 0x1A2B3C4D) [
        | inl e ↦ with_order bytes BigEndian le has e
        | inr a ↦ elim (cases_eq (field LittleEndian bytes 8 12) 0x1A2B3C4D) [
          | inl e ↦ with_order bytes LittleEndian le has e
          | inr b ↦ inr (
            section_rows.Magic (number (slice_range bytes 8 12)),
            section_rows.magic _ le has refl (no_order bytes a b),
          )
        ]
      ]
    ]

-- ---- bodies

lookup : (l : List CaptureInterfaceValue) (n : ℕ) → n < length l → (i : CaptureInterfaceValue) × IsAt l n i
lookup [] n lt = absurd (omega arith)
lookup (x ∷ l) zero lt = (x, record { before = []; after = l; parts = refl; number = refl })
lookup (x ∷ l) (suc n) lt =
    let found = lookup l n (omega arith) in (
      found.0,
      record {
        before = x ∷ found.1.before;
        after = found.1.after;
        parts = ap (λ (m : List CaptureInterfaceValue). x ∷ m) found.1.parts;
        number = ap suc found.1.number;
      },
    )

abbrev Body_of : BlockKind → (most : ℕ) → Order → List CaptureInterfaceValue → List ℕ → Type 0
Body_of kind most order before body =
    ((p : Option PacketValue) × (after : List CaptureInterfaceValue) × IsBody kind most order before body p after)
    ⊎ ((r : CaptureRefusal) × RefusesBody most order before body kind r)

described : (order : Order) (body : List ℕ) (i : InterfaceValue) → IsInterface order body i
    → (i2 : CaptureInterfaceValue) × Describes order body i2
described order body i is =
    let all = some_options order i.options in (
      described_by order i all.0,
      record { interface = i; options = all.0; is_interface = is; has_options = all.1; value = refl },
    )

some_interface : (most : ℕ) (order : Order) (before : List CaptureInterfaceValue) (body : List ℕ)
    → Body_of InterfaceDescription most order before body
some_interface most order before body =
    elim (cases_lt (length body) 8) [
      | inl lt ↦ inr
          (Body (body_rows.Short 8 (length body)), interface (body_rows.Short 8 (length body)) (body_rows.interface lt))
      | inr le ↦
          let v : InterfaceValue = record {
            link_type = field order body 0 2;
            snap_len = field order body 4 8;
            options = slice_range body 8 (length body);
          } in
          let d = described order body v (record { len = le; link_type = refl; snap_len = refl; options = refl }) in
          elim (cases_lt (length before) most) [
            | inl room ↦ inl (None, before ++ d.0 ∷ [], (d.0, d.1, room, refl, refl))
            | inr full ↦ inr (TooManyInterfaces, too_many d.0 d.1 full)
          ]
    ]

abbrev Simple_of : Order → ℕ → List ℕ → Type 0
Simple_of order snap body =
    ((v : SimplePacketValue) × IsSimplePacket order snap body v)
    ⊎ ((r : BodyRefusal) × RefusesSimplePacket order snap body r)

some_simple_value : (order : Order) (snap : ℕ) (body : List ℕ) → Simple_of order snap body
some_simple_value order snap body =
    let n = captured_by snap (field order body 0 4) in
    elim (cases_lt (length body) 4) [
      | inl lt ↦ inr (body_rows.Short 4 (length body), body_rows.simple lt)
      | inr le ↦ elim (cases_lt max_captured_len n) [
        | inl lt ↦ inr (body_rows.TooLong n, body_rows.simple_too_long n le refl lt)
        | inr room ↦ elim (cases_lt (length body) (4 + n)) [
          | inl lt ↦ inr (body_rows.Short (4 + n) (length body), body_rows.simple_packet n le refl room lt)
          | inr whole ↦
              let len : length (slice_range body 4 (4 + n)) ≡ n = length-part body 4 (4 + n) whole ∙ omega arith in
              inl (
                record { original_len = field order body 0 4; packet = slice_range body 4 (4 + n) },
                record {
                  original_len = refl;
                  captured_len = sym len;
                  packet = ap (λ (m : ℕ). slice_range body 4 (4 + m)) len;
                  whole = omega (arith, len, whole);
                  room = omega (arith, len, room);
                },
              )
        ]
      ]
    ]

some_simple : (most : ℕ) (order : Order) (before : List CaptureInterfaceValue) (body : List ℕ)
    → Body_of SimplePacket most order before body
some_simple most order before body =
    elim (cases_lt 0 (length before)) [
      | inr none ↦ inr (NoInterface 0, simple_alone none)
      | inl some ↦
          let found = lookup before 0 some in
          elim (some_simple_value order found.0.snap_len body) [
            | inl v ↦ inl (_, before, (found.0, v.0, found.1, v.1, refl, refl))
            | inr r ↦ inr (Body r.0, simple found.0 r.0 found.1 r.1)
          ]
    ]

abbrev Enhanced_of : ℕ → Order → List ℕ → Type 0
Enhanced_of number_len order body =
    ((v : EnhancedPacketValue) × IsEnhancedPacket number_len order body v)
    ⊎ ((r : BodyRefusal) × RefusesEnhancedPacket order body r)

some_enhanced_value : (number_len : ℕ) (order : Order) (body : List ℕ) → Enhanced_of number_len order body
some_enhanced_value number_len order body =
    let n = field order body 12 16 in
    elim (cases_lt (length body) 20) [
      | inl lt ↦ inr (body_rows.Short 20 (length body), body_rows.enhanced lt)
      | inr le ↦ elim (cases_lt max_captured_len n) [
        | inl lt ↦ inr (body_rows.TooLong n, body_rows.enhanced_too_long le lt)
        | inr room ↦ elim (cases_lt (length body) (20 + n)) [
          | inl lt ↦ inr (body_rows.Short (20 + n) (length body), body_rows.enhanced_packet le room lt)
          | inr whole ↦
              let len : length (slice_range body 20 (20 + n)) ≡ n = length-part body 20 (20 + n) whole ∙ omega arith in
              inl (
                record {
                  interface = field order body 0 number_len;
                  time = field order body 4 8 * 2 ^ 32 + field order body 8 12;
                  original_len = field order body 16 20;
                  packet = slice_range body 20 (20 + n);
                  options = drop (20 + padded n) body;
                },
                record {
                  interface = refl;
                  time = refl;
                  captured_len = sym len;
                  original_len = refl;
                  packet = ap (λ (m : ℕ). slice_range body 20 (20 + m)) len;
                  options = ap (λ (m : ℕ). drop (20 + padded m) body) len;
                  whole = omega (arith, len, whole);
                  room = omega (arith, len, room);
                },
              )
        ]
      ]
    ]

some_enhanced : (number_len most : ℕ) (order : Order) (before : List CaptureInterfaceValue) (body : List ℕ)
    → Body_of (EnhancedPacket number_len) most order before body
some_enhanced number_len most order before body =
    elim (some_enhanced_value number_len order body) [
      | inr r ↦ inr (Body r.0, enhanced number_len r.0 r.1)
      | inl v ↦ elim (cases_lt v.0.interface (length before)) [
        | inr none ↦ inr (NoInterface v.0.interface, enhanced_alone number_len v.0 v.1 none)
        | inl lt ↦
            let found = lookup before v.0.interface lt in
            let all = some_options order v.0.options in
            inl (_, before, (found.0, v.0, all.0, v.1, found.1, all.1, refl, refl))
      ]
    ]

some_body : (kind : BlockKind) (most : ℕ) (order : Order) (before : List CaptureInterfaceValue) (body : List ℕ)
    → Body_of kind most order before body
some_body InterfaceDescription most order before body = some_interface most order before body
some_body SimplePacket most order before body = some_simple most order before body
some_body (EnhancedPacket n) most order before body = some_enhanced n most order before body
some_body Other most order before body = inl (None, before, (refl, refl))

-- ---- units

abbrev Unit_of : CaptureExpectation → List ℕ → Type 0
Unit_of x bytes =
    ((len : ℕ) × (p : Option PacketValue) × (y : CaptureExpectation) × Begins bytes x len p y)
    ⊎ ((r : CaptureRefusal) × RefusesCapture bytes x r)

some_block_unit : (most : ℕ) (order : Order) (interfaces : List CaptureInterfaceValue) (bytes : List ℕ)
    → (HasSectionType bytes → ⊥) → Unit_of (Blocks most order interfaces) bytes
some_block_unit most order interfaces bytes other =
    elim (some_block order bytes) [
      | inr r ↦ inr (Block r.0, block_refused most order interfaces r.0 other r.1)
      | inl b ↦ elim (some_body (kind_of_block b.0.block_type) most order interfaces b.0.body) [
        | inl v ↦
            let begins = block most order interfaces v.1 v.0 b.0 other b.1 v.2 in
            inl (12 + length b.0.body, v.0, Blocks most order v.1, begins)
        | inr r ↦ inr (r.0, body_refused most order interfaces b.0 r.0 other b.1 r.1)
      ]
    ]

pub some_unit : (x : CaptureExpectation) (bytes : List ℕ) → Unit_of x bytes
some_unit (Beginning m) bytes =
    elim (cases_eq (number (slice_range bytes 0 4)) section_type) [
      | inl has ↦ elim (some_section bytes has) [
        | inl s ↦ inl (12 + length s.1.body, None, Blocks m s.0 [], first_section m s.0 s.1 s.2)
        | inr r ↦ inr (Section r.0, first_section_refused m r.0 has r.1)
      ]
      | inr other ↦ elim (some_file bytes) [
        | inl h ↦ inl (24, None, Records h.0, file_header m h.0 other h.1)
        | inr r ↦ inr (File r.0, file_header_refused m r.0 other r.1)
      ]
    ]
some_unit (Records h) bytes =
    elim (some_record h.order bytes) [
      | inl r ↦ inl (16 + length r.0.packet, Some (packet_of_record h r.0), Records h, file_record h r.0 r.1)
      | inr r ↦ inr (Record r.0, file_record_refused h r.0 r.1)
    ]
some_unit (Blocks m order interfaces) bytes =
    elim (cases_eq (number (slice_range bytes 0 4)) section_type) [
      | inl has ↦ elim (some_section bytes has) [
        | inl s ↦ inl (12 + length s.1.body, None, Blocks m s.0 [], section m order s.0 interfaces s.1 s.2)
        | inr r ↦ inr (Section r.0, section_refused m order interfaces r.0 has r.1)
      ]
      | inr other ↦ some_block_unit m order interfaces bytes other
    ]

-- ---- files

-- whether a file has ended
pub at_end : (x : CaptureExpectation) (bytes : List ℕ) → IsEnd x bytes ⊎ (IsEnd x bytes → ⊥)
at_end (Beginning m) bytes = inr (λ e. e.0)
at_end (Records h) (b ∷ bytes) = inr (λ e. let n = e.1 in absurd cc)
at_end (Blocks m order interfaces) (b ∷ bytes) = inr (λ e. let n = e.1 in absurd cc)
at_end x [] = inl (tt, refl)

goes_on : (x y : CaptureExpectation) (bytes : List ℕ) (len : ℕ) (p : Option PacketValue) → Begins bytes x len p y
    → Packets y (drop len bytes) → Packets x bytes
goes_on x y bytes len None begins c = record {
  packets = c.packets;
  rest = c.rest;
  fault = c.fault;
  has = unit x y bytes len c.packets c.rest c.fault begins c.has;
}
goes_on x y bytes len (Some p) begins c = record {
  packets = p ∷ c.packets;
  rest = c.rest;
  fault = c.fault;
  has = packet x y bytes len p c.packets c.rest c.fault begins c.has;
}

step : (x : CaptureExpectation) (bytes : List ℕ)
    → ((y : CaptureExpectation) (len : ℕ) → 0 < len → len ≤ length bytes → Packets y (drop len bytes)) → Packets x bytes
step x bytes more =
    elim (at_end x bytes) [
      | inl end ↦ record { packets = []; rest = []; fault = None; has = ended x bytes end }
      | inr some ↦ elim (some_unit x bytes) [
        | inr r ↦ record { packets = []; rest = bytes; fault = Some r.0; has = refused x bytes r.0 some r.1 }
        | inl u ↦
            let w = unit_within bytes x u.2 u.0 u.1 u.3 in
            goes_on x u.2 bytes u.0 u.1 u.3 (more u.2 u.0 (unit_some bytes x u.2 u.0 u.1 u.3) (omega (arith, w)))
      ]
    ]

within : (fuel : ℕ) (x : CaptureExpectation) (bytes : List ℕ) → length bytes ≤ fuel → Packets x bytes
within zero x bytes le = step x bytes (λ y len some small. absurd (omega arith))
within (suc fuel) x bytes le =
    step x bytes
    (λ y len some small.
    within fuel y (drop len bytes) (let l = length-drop len bytes in omega (arith, l, le, some, small)))

pub some_packets : (x : CaptureExpectation) (bytes : List ℕ) → Packets x bytes
some_packets x bytes = within (length bytes) x bytes (omega arith)
