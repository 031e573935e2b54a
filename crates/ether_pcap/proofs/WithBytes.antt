-- Bytes in place of as many others, and what they are in a file header, a section header and an interface description.
use Rattle.std.proofs.Common.{◌≡◌, ℕ, ◌+◌, ◌-◌, ◌%◌, ◌^◌, ◌<◌, ◌≤◌, List, ◌++◌, length, take, drop, refl, sym, ap, subst, ◌∙◌, arith, rules}
use Rattle.std.specs.Prelude.{slice_range}
use Rattle.std.proofs.lemmas.List.{drop-drop, length-append, length-drop}
use Rattle.ether_base.specs.Bytes.{number}
use Rattle.ether_base.proofs.SubLists.{length-part, part-append, part_of_part, part_of_front, part_after_front}
use Rattle.ether_pcap.specs.Numbers.{Order, number_in, field}
use Rattle.ether_pcap.specs.FileHeader.{FileHeaderValue, IsFileHeader, fcs_len_of}
use Rattle.ether_pcap.specs.Block.{BlockValue, IsTotalLen, BeginsBlock}
use Rattle.ether_pcap.specs.Section.{IsSection, IsVersion}
use Rattle.ether_pcap.specs.Bodies.{InterfaceValue}
use Rattle.ether_pcap.specs.Writing.{bytes_of}
use Rattle.ether_pcap.specs.Capture.{CaptureInterfaceValue, Describes}
use Rattle.ether_pcap.specs.CopiedUnits.{raised_len, raised_header, raised_interface, with_bytes, no_section_len}
use Rattle.ether_pcap.proofs.EditUnits.{part_past}
use Rattle.ether_pcap.proofs.Numbers.{length-bytes_of, number-bytes_of}

-- ---- bytes at a place

module _ (at : ℕ) (new bytes : List ℕ) (room : at + length new ≤ length bytes) where
  abbrev front : List ℕ
  front = slice_range bytes 0 at

  length-front : length front ≡ at
  length-front = length-part bytes 0 at (omega (arith, room)) ∙ omega arith

  length-with_new : length (front ++ new) ≡ at + length new
  length-with_new = omega (arith, length-append front new, length-front)

  pub length-with_bytes : length (with_bytes at new bytes) ≡ length bytes
  length-with_bytes = search (rules, room, length-append, length-with_new, length-drop)

  pub with_bytes-before : (i j : ℕ) → i ≤ j → j ≤ at → slice_range (with_bytes at new bytes) i j ≡ slice_range bytes i j
  with_bytes-before i j ij le = search (rules, part-append, length-with_new, length-front, part_of_front)

  pub with_bytes-new : slice_range (with_bytes at new bytes) at (at + length new) ≡ new
  with_bytes-new = part_after_front front new (drop (at + length new) bytes) at (at + length new) length-front refl

  pub with_bytes-after : (i j : ℕ) → at + length new ≤ i → i ≤ j
      → slice_range (with_bytes at new bytes) i j ≡ slice_range bytes i j
  with_bytes-after i j le ij =
      let k = at + length new in
      let n : j - k - (i - k) ≡ j - i = omega (arith, le, ij) in
      let m : k + (i - k) ≡ i = omega (arith, le) in
      part_past (front ++ new) (drop k bytes) k i j (i - k) (j - k) length-with_new (omega (arith, le))
      (omega (arith, le, ij))
      ∙ ap (take (j - k - (i - k))) (drop-drop (i - k) k bytes)
      ∙ ap (λ (z : ℕ). take z (drop (k + (i - k)) bytes)) n ∙ ap (λ (z : ℕ). take (j - i) (drop z bytes)) m

-- ---- a raised snap length

pub raised_none : (raise n : ℕ) → n ≡ 0 → raised_len raise n ≡ 0
raised_none raise n is = search rules

raised_below : (raise n : ℕ) → raised_len raise n < 256 ^ 4
raised_below raise n = search rules

module _ (order : Order) (raise n at : ℕ) (bytes : List ℕ) (room : at + 4 ≤ length bytes) where
  abbrev raised : List ℕ
  raised = bytes_of order 4 (raised_len raise n)

  pub four : length raised ≡ 4
  four = length-bytes_of order 4 (raised_len raise n)

  pub raised_room : at + length raised ≤ length bytes
  raised_room = omega (arith, room, four)

  pub raised_field : field order (with_bytes at raised bytes) at (at + 4) ≡ raised_len raise n
  raised_field = search (rules, four, with_bytes-new, raised_room, number-bytes_of, raised_below)

  pub raised_before : (i j : ℕ) → i ≤ j → j ≤ at
      → field order (with_bytes at raised bytes) i j ≡ field order bytes i j
  raised_before i j ij le = ap (number_in order) (with_bytes-before at raised bytes raised_room i j ij le)

  pub raised_after : (i j : ℕ) → at + 4 ≤ i → i ≤ j
      → field order (with_bytes at raised bytes) i j ≡ field order bytes i j
  raised_after i j le ij =
      ap (number_in order) (with_bytes-after at raised bytes raised_room i j (omega (arith, le, four)) ij)

-- ---- file headers

pub header_raised : (raise : ℕ) (h : FileHeaderValue) (bytes : List ℕ) → IsFileHeader bytes h
    → IsFileHeader (with_bytes 16 (bytes_of h.order 4 (raised_len raise h.snap_len)) bytes) (raised_header raise h)
header_raised raise h bytes is =
    let long : 24 ≤ length bytes = is.len in
    let room : 20 ≤ length bytes = omega (arith, long) in
    let before = raised_before h.order raise h.snap_len 16 bytes room in
    let last = raised_after h.order raise h.snap_len 16 bytes room 20 24 (omega arith) (omega arith) in
    let new = bytes_of h.order 4 (raised_len raise h.snap_len) in
    let same = length-with_bytes 16 new bytes (raised_room h.order raise h.snap_len 16 bytes room) in
    record {
      len = omega (arith, long, same);
      magic = before 0 4 (omega arith) (omega arith) ∙ is.magic;
      major = before 4 6 (omega arith) (omega arith) ∙ is.major;
      minor = before 6 8 (omega arith) (omega arith) ∙ is.minor;
      snap_len = raised_field h.order raise h.snap_len 16 bytes room;
      link_type = ap (λ (n : ℕ). n % 2 ^ 16) last ∙ is.link_type;
      fcs_len = ap fcs_len_of last ∙ is.fcs_len;
    }

-- ---- blocks

module _ (order : Order) (at : ℕ) (new bytes : List ℕ) (b : BlockValue) (is : BeginsBlock order bytes b)
    (low : 8 ≤ at) (high : at + length new ≤ 8 + length b.body) where
  abbrev all : List ℕ
  all = with_bytes at new bytes

  pub whole : 12 + length b.body ≤ length bytes
  whole = is.whole

  pub block_room : at + length new ≤ length bytes
  block_room = omega (arith, high, whole)

  -- the body in it
  abbrev pub body_in : List ℕ
  body_in = slice_range all 8 (8 + length b.body)

  pub length-body_in : length body_in ≡ length b.body
  length-body_in = search (rules, length-part, length-with_bytes, block_room, whole)

  abbrev pub block_in : BlockValue
  block_in = record { block_type = b.block_type; body = body_in }

  before : (i j : ℕ) → i ≤ j → j ≤ at → field order all i j ≡ field order bytes i j
  before i j ij le = ap (number_in order) (with_bytes-before at new bytes block_room i j ij le)

  pub begins_with : BeginsBlock order all block_in
  begins_with =
      let len = length-body_in in
      record {
        block_type = before 0 4 (omega arith) (omega (arith, low)) ∙ is.block_type;
        total_len =
            before 4 8 (omega arith) low ∙ is.total_len ∙ ap (λ (k : ℕ). 12 + k) (sym len);
        sound = subst (λ (k : ℕ). IsTotalLen (12 + k)) (sym len) is.sound;
        whole = omega (arith, len, length-with_bytes at new bytes block_room, whole);
        body = ap (λ (k : ℕ). slice_range all 8 (8 + k)) len;
        trailer =
            ap (λ (k : ℕ). field order all (8 + k) (12 + k)) len
            ∙ ap (number_in order)
            (with_bytes-after at new bytes block_room (8 + length b.body) (12 + length b.body) high (omega arith))
            ∙ is.trailer ∙ ap (λ (k : ℕ). 12 + k) (sym len);
      }

  -- parts of both bodies
  pub part_in : (i j : ℕ) → i ≤ j → j ≤ length b.body → slice_range body_in i j ≡ slice_range all (8 + i) (8 + j)
  part_in i j ij le = part_of_part all 8 (8 + length b.body) i j ij (omega (arith, le))

  pub part_of_body : (i j : ℕ) → i ≤ j → j ≤ length b.body → slice_range b.body i j ≡ slice_range bytes (8 + i) (8 + j)
  part_of_body i j ij le =
      ap (λ (l : List ℕ). slice_range l i j) (sym is.body)
      ∙ part_of_part bytes 8 (8 + length b.body) i j ij (omega (arith, le))

-- ---- section headers

pub section_in : (order : Order) (bytes : List ℕ) (b : BlockValue) (is : IsSection bytes order b)
    → (c : BlockValue) × IsSection (with_bytes 16 no_section_len bytes) order c × (length c.body ≡ length b.body)
section_in order bytes b is =
    let long : 16 ≤ length b.body = is.len in
    let high : 24 ≤ 8 + length b.body = omega (arith, long) in
    let room = block_room order 16 no_section_len bytes b is.block (omega arith) high in
    let len = length-body_in order 16 no_section_len bytes b is.block (omega arith) high in
    let same = with_bytes-before 16 no_section_len bytes room in
    let major = ap (number_in order) (same 12 14 (omega arith) (omega arith)) in
    let minor = ap (number_in order) (same 14 16 (omega arith) (omega arith)) in (
      block_in order 16 no_section_len bytes b is.block (omega arith) high,
      record {
        section = ap number (same 0 4 (omega arith) (omega arith)) ∙ is.section;
        magic = ap (number_in order) (same 8 12 (omega arith) (omega arith)) ∙ is.magic;
        block = begins_with order 16 no_section_len bytes b is.block (omega arith) high;
        len = omega (arith, len, long);
        version =
            subst (λ (n : ℕ). IsVersion n (field order (with_bytes 16 no_section_len bytes) 14 16)) (sym major)
            (subst (λ (n : ℕ). IsVersion (field order bytes 12 14) n) (sym minor) is.version);
      },
      len,
    )

-- ---- interface descriptions

module _ (raise : ℕ) (order : Order) (bytes : List ℕ) (b : BlockValue) (is : BeginsBlock order bytes b)
    (v : CaptureInterfaceValue) (d : Describes order b.body v) where
  abbrev snap : ℕ
  snap = field order bytes 12 16

  abbrev bytes_in : List ℕ
  bytes_in = bytes_of order 4 (raised_len raise snap)

  long : 8 ≤ length b.body
  long = d.is_interface.len

  pub interface_high : 12 + length bytes_in ≤ 8 + length b.body
  interface_high = omega (arith, long, length-bytes_of order 4 (raised_len raise snap))

  abbrev body_of : List ℕ
  body_of = body_in order 12 bytes_in bytes b is (omega arith) interface_high

  pub interface_begins : BeginsBlock order (with_bytes 12 bytes_in bytes)
      (record { block_type = b.block_type; body = body_of })
  interface_begins = begins_with order 12 bytes_in bytes b is (omega arith) interface_high

  pub interface_len : length body_of ≡ length b.body
  interface_len = length-body_in order 12 bytes_in bytes b is (omega arith) interface_high

  room : 16 ≤ length bytes
  room = omega (arith, long, whole order 12 bytes_in bytes b is (omega arith) interface_high)

  snap_is : snap ≡ d.interface.snap_len
  snap_is =
      ap (number_in order)
      (sym (part_of_body order 12 bytes_in bytes b is (omega arith) interface_high 4 8 (omega arith) long))
      ∙ d.is_interface.snap_len

  part_here : (i j : ℕ) → i ≤ j → j ≤ length b.body
      → slice_range body_of i j ≡ slice_range (with_bytes 12 bytes_in bytes) (8 + i) (8 + j)
  part_here = part_in order 12 bytes_in bytes b is (omega arith) interface_high

  part_there : (i j : ℕ) → i ≤ j → j ≤ length b.body → slice_range b.body i j ≡ slice_range bytes (8 + i) (8 + j)
  part_there = part_of_body order 12 bytes_in bytes b is (omega arith) interface_high

  pub interface_described : Describes order body_of (raised_interface raise v)
  interface_described =
      let i = d.interface in
      let n = length b.body in
      let raised : InterfaceValue = record i { snap_len = raised_len raise i.snap_len } in
      let after = with_bytes-after 12 bytes_in bytes (raised_room order raise snap 12 bytes room) in
      record {
        interface = raised;
        options = d.options;
        is_interface = record {
          len = omega (arith, long, interface_len);
          link_type =
              ap (number_in order) (part_here 0 2 (omega arith) (omega (arith, long)))
              ∙ raised_before order raise snap 12 bytes room 8 10 (omega arith) (omega arith)
              ∙ ap (number_in order) (sym (part_there 0 2 (omega arith) (omega (arith, long))))
              ∙ d.is_interface.link_type;
          snap_len =
              ap (number_in order) (part_here 4 8 (omega arith) long)
              ∙ raised_field order raise snap 12 bytes room ∙ ap (raised_len raise) snap_is;
          options =
              ap (slice_range body_of 8) interface_len ∙ part_here 8 n long (omega arith)
              ∙ after 16 (8 + n) (omega (arith, length-bytes_of order 4 (raised_len raise snap)))
              (omega (arith, long))
              ∙ sym (part_there 8 n long (omega arith)) ∙ d.is_interface.options;
        };
        has_options = d.has_options;
        value = ap (raised_interface raise) d.value;
      }
