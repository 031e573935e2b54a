-- A copy of a copy: packets are selected twice.
use Rattle.std.proofs.Common.{◌≡◌, ◌≢◌, ◌⊎◌, ℕ, ◌+◌, ◌-◌, ◌^◌, ◌<◌, ◌≤◌, Bool, true, false, List, [], ◌∷◌, ◌++◌, length, take, drop, map, reverse, length-append, refl, sym, ap, subst, ◌∙◌, arith, inl, inr, Some, None, rules}
use Rattle.std.specs.Prelude.{Option, IsTrue, ◌↔◌, ◌&&◌, All, ⊤, unwrap_or, nat_eq, slice_range, if◌then◌else◌}
use Rattle.std.proofs.lemmas.Bool.{cases_eq, eq-eqb}
use Rattle.std.proofs.lemmas.List.{length-reverse, drop_at}
use Rattle.std.proofs.lemmas.List.Elements.{All-nil, All-cons, All-head, All-tail, All-append}
use Rattle.ether_base.specs.Bytes.{IsBytes, number}
use Rattle.ether_base.proofs.Numbers.{number_below}
use Rattle.ether_base.proofs.SubLists.{IsBytes-drop, IsBytes-part, length-part, part_of_front}
use Rattle.ether_pcap.proofs.Numbers.{number_reversed, IsBytes-reversed}
use Rattle.ether_pcap.specs.Numbers.{Order, BigEndian, LittleEndian, number_from_low, number_in, field}
use Rattle.ether_pcap.specs.Writing.{bytes_of}
use Rattle.ether_pcap.specs.FileHeader.{FileHeaderValue}
use Rattle.ether_pcap.specs.Section.{section_type, HasSectionType}
use Rattle.ether_pcap.specs.CopiedUnits.{ModeValue, Changed, raised_len, raised_header, raised_interface, expected_in, with_bytes, changed_unit, other_unit, packet_in, is_kept, packet_unit, unit_after}
use Rattle.ether_pcap.specs.Bodies.{captured_by}
use Rattle.ether_pcap.specs.Capture.{PacketValue, packet_of_record, packet_on, simple_packet_on, CaptureInterfaceValue, CaptureExpectation, Beginning, Records, Blocks, BlockKind, InterfaceDescription, SimplePacket, EnhancedPacket, Other, kind_of_block, IsBody, HasBegun, Begins, HasPackets, file_header, file_record, block}
use Rattle.ether_pcap.specs.Editing.{EditedValue}
use Rattle.ether_pcap.specs.Copies.{CopyFault, Copies, Refused, NotEdited, ended, refused, not_edited, unit, keeps, leaves, EditsOnce, Selected, one_kept, one_left, HasSource, CopiesBy, EditsNone, edits_none}
use Rattle.ether_pcap.proofs.CaptureLocality.{unit_local}
use Rattle.ether_pcap.proofs.PacketUnits.{same_packet, same_after, begun}
use Rattle.ether_pcap.proofs.CaptureLengths.{unit_some}
use Rattle.ether_pcap.proofs.Copies.{copy_read, copy_source, other_taken, packet_copied}
use Rattle.ether_pcap.proofs.CopiesOne.{one_copied}
use Rattle.ether_pcap.proofs.PacketsOne.{packets_one}
use Rattle.ether_pcap.proofs.CopiedUnits.{HasRoom, unit_room, unit_in_copy, other_changed}
use Rattle.ether_pcap.proofs.WithBytes.{with_bytes-before, raised_room, raised_field}

-- ---- a unit that was changed is not changed again

module _ (at : ℕ) (new bytes : List ℕ) (room : at + length new ≤ length bytes) where
  replaced_twice : with_bytes at new (with_bytes at new bytes) ≡ with_bytes at new bytes
  replaced_twice =
      let front = slice_range bytes 0 at in
      let back = drop (at + length new) bytes in
      let before = with_bytes-before at new bytes room 0 at (omega arith) (omega arith) in
      let long : length (front ++ new) ≡ at + length new =
      omega (arith, room, length-append front new, length-part bytes 0 at (omega (arith, room))) in
      let after = drop_at (front ++ new) back (at + length new) long in
      λ i. before i ++ new ++ after i

raised_twice : (n : ℕ) → raised_len 0 (raised_len 0 n) ≡ raised_len 0 n
raised_twice n = search rules

module _ (most : ℕ) (order : Order) (interfaces : List CaptureInterfaceValue) (bytes : List ℕ) where
  abbrev changed : List ℕ → List ℕ
  changed = changed_unit 0 (Blocks most order interfaces)

  section_twice : HasSectionType bytes → 24 ≤ length bytes → changed (changed bytes) ≡ changed bytes
  section_twice is room = search rules

  interface_twice : (HasSectionType bytes → ⊥) → field order bytes 0 4 ≡ 1 → 16 ≤ length bytes
      → changed (changed bytes) ≡ changed bytes
  interface_twice other one room =
      let n = field order bytes 12 16 in
      let s = bytes_of order 4 (raised_len 0 n) in
      let new = with_bytes 12 s bytes in
      let rest = λ (l : List ℕ). if nat_eq (field order l 0 4) 0x40000BAD then [] else l in
      let is_new = λ (l : List ℕ) (k : field order l 0 4 ≡ 1).
      ap (λ (b : Bool). if b then with_bytes 12 (bytes_of order 4 (raised_len 0 (field order l 12 16))) l else rest l)
      (eq-eqb (field order l 0 4) 1 k) in
      let once : changed bytes ≡ new = other_changed 0 most order interfaces bytes other ∙ is_new bytes one in
      let type_same =
      with_bytes-before 12 s bytes (raised_room order 0 n 12 bytes room) 0 4 (omega arith) (omega arith) in
      let type_one : field order new 0 4 ≡ 1 = ap (number_in order) type_same ∙ one in
      let not_section : HasSectionType new → ⊥ =
      λ (has : HasSectionType new). other (sym (ap number type_same) ∙ has) in
      let again = ap (raised_len 0) (raised_field order 0 n 12 bytes room) ∙ raised_twice n in
      ap changed once ∙ other_changed 0 most order interfaces new not_section ∙ is_new new type_one
      ∙ ap (λ (k : ℕ). with_bytes 12 (bytes_of order 4 k) new) again
      ∙ replaced_twice 12 s bytes (raised_room order 0 n 12 bytes room) ∙ sym once

  plain_twice : (HasSectionType bytes → ⊥) → (field order bytes 0 4 ≡ 1 → ⊥)
      → (changed bytes ≡ []) ⊎ (changed bytes ≡ bytes)
  plain_twice other not_one = search rules

  block_twice : HasRoom (Blocks most order interfaces) bytes
      → (changed bytes ≡ []) ⊎ (changed (changed bytes) ≡ changed bytes)
  block_twice (some, section_room, interface_room) =
      elim (cases_eq (number (slice_range bytes 0 4)) section_type) [
        | inl is ↦ inr (section_twice is (section_room is))
        | inr other ↦ elim (cases_eq (field order bytes 0 4) 1) [
          | inl one ↦ inr (interface_twice other one (interface_room one))
          | inr not_one ↦ elim (plain_twice other not_one) [
            | inl none ↦ inl none
            | inr same ↦ inr (ap changed same)
          ]
        ]
      ]

changed_twice : (y : CaptureExpectation) (bytes : List ℕ) → HasRoom y bytes
    → (changed_unit 0 y bytes ≡ []) ⊎ (changed_unit 0 y (changed_unit 0 y bytes) ≡ changed_unit 0 y bytes)
changed_twice (Beginning most) bytes room = inr refl
changed_twice (Records h) bytes room =
    inr (replaced_twice 16 (bytes_of h.order 4 (raised_len 0 h.snap_len)) bytes
    (raised_room h.order 0 h.snap_len 16 bytes (omega (arith, room))))
changed_twice (Blocks most order interfaces) bytes room = block_twice most order interfaces bytes room

-- ---- snap lengths of four bytes

abbrev IsFour : ℕ → Type 0
IsFour n = n < 2 ^ 32

abbrev AllFour : List CaptureInterfaceValue → Type 0
AllFour interfaces = All (λ (i : CaptureInterfaceValue). IsFour i.snap_len) interfaces

-- those of what is expected
abbrev InRange : CaptureExpectation → Type 0
InRange (Beginning most) = ⊤
InRange (Records h) = IsFour h.snap_len
InRange (Blocks most order interfaces) = AllFour interfaces

low_below : (bytes : List ℕ) → IsBytes bytes → number_from_low bytes < 256 ^ length bytes
low_below bytes ok =
    let e = number_reversed bytes in
    let b = number_below (reverse bytes) (IsBytes-reversed bytes ok) in
    subst (λ (k : ℕ). number_from_low bytes < 256 ^ k) (length-reverse bytes)
    (subst (λ (n : ℕ). n < 256 ^ length (reverse bytes)) (sym e) b)

below_in : (order : Order) (bytes : List ℕ) → IsBytes bytes → number_in order bytes < 256 ^ length bytes
below_in BigEndian bytes ok = number_below bytes ok
below_in LittleEndian bytes ok = low_below bytes ok

four_field : (order : Order) (bytes : List ℕ) (i : ℕ) → IsBytes bytes → i + 4 ≤ length bytes
    → IsFour (field order bytes i (i + 4))
four_field order bytes i ok le =
    let part = slice_range bytes i (i + 4) in
    let long : length part ≡ 4 = length-part bytes i (i + 4) le ∙ omega arith in
    let b = below_in order part (IsBytes-part i (i + 4) bytes ok) in
    subst (λ (k : ℕ). number_in order part < 256 ^ k) long b

same_len : (n : ℕ) → IsFour n → raised_len 0 n ≡ n
same_len n lt = search rules

same_header : (h : FileHeaderValue) → IsFour h.snap_len → raised_header 0 h ≡ h
same_header h lt = ap (λ (n : ℕ). record h { snap_len = n }) (same_len h.snap_len lt)

same_interface : (i : CaptureInterfaceValue) → IsFour i.snap_len → raised_interface 0 i ≡ i
same_interface i lt = ap (λ (n : ℕ). record i { snap_len = n }) (same_len i.snap_len lt)

same_all : (is : List CaptureInterfaceValue) → AllFour is → map (raised_interface 0) is ≡ is
same_all [] all = refl
same_all (i ∷ is) all =
    let P = λ (j : CaptureInterfaceValue). IsFour j.snap_len in
    let one = same_interface i (All-head P i is all) in
    let others = same_all is (All-tail P i is all) in
    λ k. one k ∷ others k

same_expected : (x : CaptureExpectation) → InRange x → expected_in (Changed 0) x ≡ x
same_expected (Beginning most) ok = refl
same_expected (Records h) ok = ap Records (same_header h ok)
same_expected (Blocks most order interfaces) ok = ap (Blocks most order) (same_all interfaces ok)

same_packet_in : (p : PacketValue) → IsFour p.snap_len → packet_in (Changed 0) p ≡ p
same_packet_in p lt = ap (λ (n : ℕ). record p { snap_len = n }) (same_len p.snap_len lt)

-- the interface at a number
four_at : (is before after : List CaptureInterfaceValue) (i : CaptureInterfaceValue) → is ≡ before ++ i ∷ after
    → AllFour is → IsFour i.snap_len
four_at is [] after i parts all =
    All-head (λ (j : CaptureInterfaceValue). IsFour j.snap_len) i after (subst AllFour parts all)
four_at is (j ∷ before) after i parts all =
    four_at (before ++ i ∷ after) before after i refl
    (All-tail (λ (k : CaptureInterfaceValue). IsFour k.snap_len) j (before ++ i ∷ after) (subst AllFour parts all))

-- what a body describes, and what is said of its packet
body_range : (kind : BlockKind) (most : ℕ) (order : Order) (before after : List CaptureInterfaceValue)
    (body : List ℕ) (p : Option PacketValue) → IsBytes body
    → IsBody kind most order before body p after → AllFour before → AllFour after
body_range InterfaceDescription most order before after body p ok (i, d, lt, e, f) all =
    let P = λ (j : CaptureInterfaceValue). IsFour j.snap_len in
    let here = ap (λ (v : CaptureInterfaceValue). v.snap_len) (sym d.value) ∙ sym d.is_interface.snap_len in
    let four : IsFour i.snap_len = subst IsFour (sym here) (four_field order body 4 ok d.is_interface.len) in
    subst AllFour (sym f) (All-append P before (i ∷ []) all (All-cons P i [] four (All-nil P)))
body_range h most order before after body p ok k all = search rules

range_after : (bytes : List ℕ) (x y : CaptureExpectation) (len : ℕ) (p : Option PacketValue) → IsBytes bytes
    → Begins bytes x len p y → InRange x → InRange y
range_after bytes x y len p ok (file_header m h other is) range =
    subst IsFour is.snap_len
    (four_field h.order bytes 16 ok (let long : 24 ≤ length bytes = is.len in omega (arith, long)))
range_after bytes x y len p ok (file_record h r is) range = range
range_after bytes x y len p ok (block m order interfaces after q b other begins body) range =
    body_range (kind_of_block b.block_type) m order interfaces after b.body q
    (subst IsBytes begins.body (IsBytes-part 8 (8 + length b.body) bytes ok)) body range
range_after bytes x y len p ok h range = All-nil (λ (j : CaptureInterfaceValue). IsFour j.snap_len)

body_packet : (kind : BlockKind) (most : ℕ) (order : Order) (before after : List CaptureInterfaceValue)
    (body : List ℕ) (o : Option PacketValue) (p : PacketValue) → o ≡ Some p
    → IsBody kind most order before body o after → AllFour before
    → IsFour p.snap_len × (is_kept 0 kind p ≡ true)
body_packet InterfaceDescription most order before after body o p some (i, d, lt, e, f) all =
    let bad : None ≡ Some p = sym e ∙ some in absurd cc
body_packet SimplePacket most order before after body o p some (i, q, at, is, e, f) all =
    let same : simple_packet_on i q ≡ p = same_packet (simple_packet_on i q) p (sym e ∙ some) in
    let four = four_at before at.before at.after i at.parts all in
    let fits : captured_by (raised_len 0 i.snap_len) q.original_len ≡ length q.packet =
    ap (λ (n : ℕ). captured_by n q.original_len) (same_len i.snap_len four)
    ∙ ap (captured_by i.snap_len) (sym is.original_len) ∙ is.captured_len in
    subst (λ (v : PacketValue). IsFour v.snap_len × (is_kept 0 SimplePacket v ≡ true)) same
    (four, eq-eqb (captured_by (raised_len 0 i.snap_len) q.original_len) (length q.packet) fits)
body_packet (EnhancedPacket n) most order before after body o p some (i, q, w, is, at, has, e, f) all =
    let same : packet_on order i q w ≡ p = same_packet (packet_on order i q w) p (sym e ∙ some) in (
      subst (λ (v : PacketValue). IsFour v.snap_len) same (four_at before at.before at.after i at.parts all),
      refl,
    )
body_packet Other most order before after body o p some (e, f) all = let bad : None ≡ Some p = sym e ∙ some in absurd cc

part_of_take : (bytes : List ℕ) (n j : ℕ) → j ≤ n → slice_range (take n bytes) 0 j ≡ slice_range bytes 0 j
part_of_take bytes n j le =
    let z : n - 0 ≡ n = omega arith in
    subst (λ (k : ℕ). slice_range (take k bytes) 0 j ≡ slice_range bytes 0 j) z
    (part_of_front bytes n 0 j (omega arith) le)

-- a packet has a snap length of four bytes, and its unit is kept
range_packet : (bytes : List ℕ) (x y : CaptureExpectation) (len : ℕ) (o : Option PacketValue) (p : PacketValue) → o
    ≡ Some p
    → Begins bytes x len o y → InRange x → IsFour p.snap_len
    × (packet_unit (Changed 0) x p (take len bytes) ≡ Some (take len bytes))
range_packet bytes x y len o p some (file_record h r is) range =
    let same = same_packet (packet_of_record h r) p some in
    (subst (λ (v : PacketValue). IsFour v.snap_len) same range, refl)
range_packet bytes x y len o p some (block m order interfaces after q b other begins body) range =
    let found = body_packet (kind_of_block b.block_type) m order interfaces after b.body q p some body range in
    let unit = take len bytes in
    let type_same = ap (number_in order) (part_of_take bytes len 4 (omega arith)) ∙ begins.block_type in
    let kept = ap (λ (n : ℕ). is_kept 0 (kind_of_block n) p) type_same ∙ found.1 in
    (found.0, ap (λ (z : Bool). if z then Some unit else None) kept)
range_packet bytes x y len o p some h range = absurd cc

-- ---- a copy of a copy, unit by unit

take_front : (u others : List ℕ) → take (length u) (u ++ others) ≡ u
take_front [] others = refl
take_front (b ∷ u) others = let more = take_front u others in λ i. b ∷ more i

-- what is kept by a test is kept by one that says the same
pub copies_alike : (mode : ModeValue) (Keeps Also : PacketValue → Type 0) (Edits : PacketValue → Option EditedValue
    → Type 0)
    → ((p : PacketValue) → Keeps p ↔ Also p)
    → (x : CaptureExpectation) (bytes copy : List ℕ) (kept edited : List PacketValue) (rest : List ℕ)
    (fault : Option CopyFault)
    → Copies mode Keeps Edits x bytes copy kept edited rest fault
    → Copies mode Also Edits x bytes copy kept edited rest fault
copies_alike mode Keeps Also Edits same x bytes copy kept edited rest fault (ended _ _ end) = ended x bytes end
copies_alike mode Keeps Also Edits same x bytes copy kept edited rest fault (refused _ _ r more is) =
    refused x bytes r more is
copies_alike mode Keeps Also Edits same x bytes copy kept edited rest fault
    (not_edited _ y _ len p o begins is edits no_front) =
    not_edited x y bytes len p o begins ((same p).0 is) edits no_front
copies_alike mode Keeps Also Edits same x bytes copy kept edited rest fault
    (unit _ y _ others len _ _ _ _ begins copies) =
    unit x y bytes others len kept edited rest fault begins
    (copies_alike mode Keeps Also Edits same y (drop len bytes) others kept edited rest fault copies)
copies_alike mode Keeps Also Edits same x bytes copy kept edited rest fault
    (keeps _ y _ front others len p o ps qs _ _ begins is edits fits copies) =
    keeps x y bytes front others len p o ps qs rest fault begins ((same p).0 is) edits fits
    (copies_alike mode Keeps Also Edits same y (drop len bytes) others ps qs rest fault copies)
copies_alike mode Keeps Also Edits same x bytes copy kept edited rest fault
    (leaves _ y _ _ len p _ _ _ _ begins not copies) =
    leaves x y bytes copy len p kept edited rest fault begins (λ is. not ((same p).1 is))
    (copies_alike mode Keeps Also Edits same y (drop len bytes) copy kept edited rest fault copies)

module _ (Edits : PacketValue → Option EditedValue → Type 0) (unedited : EditsNone Edits)
    (one_edit : EditsOnce Edits) where
  -- a packet that is not edited can be copied
  never_stuck : (x y : CaptureExpectation) (bytes : List ℕ) (len : ℕ) (p : PacketValue) (o : Option EditedValue)
      → Begins bytes x len (Some p) y → InRange x → Edits p o → unit_after (Changed 0) x p o (take len bytes) ≡ None → ⊥
  never_stuck x y bytes len p o begins range edits no_front =
      let found = range_packet bytes x y len (Some p) p refl begins range in
      let plain : packet_unit (Changed 0) x p (take len bytes) ≡ None =
      subst (λ (q : Option EditedValue). unit_after (Changed 0) x p q (take len bytes) ≡ None)
      (unedited p o edits) no_front in
      let bad : Some (take len bytes) ≡ None = sym found.1 ∙ plain in absurd cc

  -- so no copy ends at one, and each that is kept stays
  module _ (Keeps : PacketValue → Type 0) where
    abbrev Stays : Option CopyFault → (kept edited : List PacketValue) → Type 0
    Stays fault kept edited = ((q : PacketValue) → fault ≡ Some (NotEdited q) → ⊥) × (edited ≡ kept)

    stay : (x : CaptureExpectation) (bytes copy : List ℕ) (kept edited : List PacketValue) (rest : List ℕ)
        (fault : Option CopyFault) → IsBytes bytes → InRange x
        → Copies (Changed 0) Keeps Edits x bytes copy kept edited rest fault → Stays fault kept edited
    stay x bytes copy kept edited rest fault ok range (ended _ _ end) = (λ q e. absurd cc, refl)
    stay x bytes copy kept edited rest fault ok range (refused _ _ r more is) = (λ q e. absurd cc, refl)
    stay x bytes copy kept edited rest fault ok range (not_edited _ y _ len p o begins is edits no_front) =
        absurd (never_stuck x y bytes len p o begins range edits no_front)
    stay x bytes copy kept edited rest fault ok range (unit _ y _ others len _ _ _ _ begins copies) =
        stay y (drop len bytes) others kept edited rest fault (IsBytes-drop len bytes ok)
        (range_after bytes x y len None ok begins range) copies
    stay x bytes copy kept edited rest fault ok range (leaves _ y _ _ len p _ _ _ _ begins not_kept copies) =
        stay y (drop len bytes) copy kept edited rest fault (IsBytes-drop len bytes ok)
        (range_after bytes x y len (Some p) ok begins range) copies
    stay x bytes copy kept edited rest fault ok range
        (keeps _ y _ front others len p o ps qs _ _ begins is edits fits copies) =
        let more =
        stay y (drop len bytes) others ps qs rest fault (IsBytes-drop len bytes ok)
        (range_after bytes x y len (Some p) ok begins range) copies in
        search (rules, range_after, range_packet, same_packet_in)

    -- these packets are kept, or not
    abbrev Chosen : List PacketValue → Type 0
    Chosen packets = (chosen : List PacketValue) × Selected Keeps packets chosen

    first_chosen : (p : PacketValue) (packets : List PacketValue) → Chosen (p ∷ packets)
        → (Keeps p ⊎ ¬ (Keeps p)) × Chosen packets
    first_chosen p packets (_, one_kept _ _ chosen is others) = (inl is, (chosen, others))
    first_chosen p packets (chosen, one_left _ _ _ not others) = (inr not, (chosen, others))

  module _ (First Second : PacketValue → Type 0) where
    abbrev Selects : (PacketValue → Type 0) → CaptureExpectation → (bytes copy : List ℕ) → List PacketValue
        → (rest : List ℕ)
        → Option CopyFault → Type 0
    Selects Keeps x bytes copy chosen rest fault = Copies (Changed 0) Keeps Edits x bytes copy chosen chosen rest fault

    abbrev Both : PacketValue → Type 0
    Both p = First p × Second p

    -- the copy of a copy, which is read if it has begun or is not empty, and the copy by both tests
    pub record Composed (x : CaptureExpectation) (bytes between rest : List ℕ) (fault : Option CopyFault) : Type 0 where
      pub copy : List ℕ
      pub chosen : List PacketValue
      pub again : HasBegun x ⊎ (between ≢ []) → Selects Second x between copy chosen [] None
      pub whole : Selects Both x bytes copy chosen rest fault

    -- a unit before a copy
    after_unit : (x y : CaptureExpectation) (u others copy : List ℕ) (chosen : List PacketValue)
        → Begins u x (length u) None y → changed_unit 0 y u ≡ u → Selects Second y others copy chosen [] None
        → Selects Second x (u ++ others) (u ++ copy) chosen [] None
    after_unit x y u others copy chosen begins same selects =
        let front : take (length u) (u ++ others) ≡ u = take_front u others in
        let is : other_unit (Changed 0) y (take (length u) (u ++ others)) ≡ u = ap (changed_unit 0 y) front ∙ same in
        subst (λ (l : List ℕ). Selects Second x (u ++ others) (l ++ copy) chosen [] None) is
        (unit x y (u ++ others) copy (length u) chosen chosen [] None (unit_local u others x y (length u) None begins)
        (subst (λ (l : List ℕ). Selects Second y l copy chosen [] None) (sym (drop_at u others (length u) refl))
        selects))

    -- a packet before a copy
    after_packet : (x y : CaptureExpectation) (u others copy : List ℕ) (p : PacketValue) (chosen : List PacketValue)
        → Begins (u ++ others) x (length u) (Some p) y → IsFour p.snap_len → packet_unit (Changed 0) x p u ≡ Some u
        → Second p → Edits p None → Selects Second y others copy chosen [] None
        → Selects Second x (u ++ others) (u ++ copy) (p ∷ chosen) [] None
    after_packet x y u others copy p chosen begins four fits is stays selects =
        let front : take (length u) (u ++ others) ≡ u = take_front u others in
        subst (λ (q : PacketValue). Copies (Changed 0) Second Edits x (u ++ others) (u ++ copy) (p ∷ chosen)
        (q ∷ chosen) [] None)
        (same_packet_in p four)
        (keeps x y (u ++ others) u copy (length u) p None chosen chosen [] None begins is stays
        (ap (packet_unit (Changed 0) x p) front ∙ fits)
        (subst (λ (l : List ℕ). Selects Second y l copy chosen [] None) (sym (drop_at u others (length u) refl))
        selects))

    -- what is copied first, and then what is composed
    on_unit : (x y : CaptureExpectation) (bytes others : List ℕ) (len : ℕ) (rest : List ℕ) (fault : Option CopyFault)
        → Begins bytes x len None y → InRange x → InRange y
        → Composed y (drop len bytes) others rest fault
        → Composed x bytes (other_unit (Changed 0) y (take len bytes) ++ others) rest fault
    on_unit x y bytes others len rest fault begins ok ok_after r =
        let b = take len bytes in
        let u = changed_unit 0 y b in
        let here = other_taken bytes x y len begins in
        let later = r.again (inl (begun bytes x y len None begins)) in
        record {
          copy = u ++ r.copy;
          chosen = r.chosen;
          again = λ some. elim (unit_in_copy (Changed 0) b x y here) [
            | inl (none, same) ↦
                subst (λ (l : List ℕ). Selects Second x (l ++ others) (l ++ r.copy) r.chosen [] None) (sym none)
                (subst (λ (z : CaptureExpectation). Selects Second z others r.copy r.chosen [] None) same later)
            | inr is ↦
                let from : Begins u x (length u) None y =
                subst (λ (z : CaptureExpectation). Begins u z (length u) None y) (same_expected x ok)
                (subst (λ (z : CaptureExpectation). Begins u (expected_in (Changed 0) x) (length u) None z)
                (same_expected y ok_after) is) in
                let some_bytes = unit_some u x y (length u) None from in
                let twice : changed_unit 0 y u ≡ u =
                elim (changed_twice y b (unit_room b x y (length b) here)) [
                  | inl empty ↦ absurd (let none : length u ≡ 0 = ap length empty in omega (arith, none, some_bytes))
                  | inr same ↦ same
                ] in
                after_unit x y u others r.copy r.chosen from twice later
          ];
          whole = unit x y bytes r.copy len r.chosen r.chosen rest fault begins r.whole;
        }

    on_packet : (x y : CaptureExpectation) (bytes front others : List ℕ) (len : ℕ) (p : PacketValue)
        (o : Option EditedValue)
        (rest : List ℕ) (fault : Option CopyFault)
        → Begins bytes x len (Some p) y → InRange x → InRange y → First p → Second p ⊎ ¬ (Second p) → Edits p o
        → unit_after (Changed 0) x p o (take len bytes) ≡ Some front
        → Composed y (drop len bytes) others rest fault
        → Composed x bytes (front ++ others) rest fault
    on_packet x y bytes front others len p o rest fault begins ok ok_after is choice edits fits r =
        let b = take len bytes in
        let found = range_packet bytes x y len (Some p) p refl begins ok in
        let plain : packet_unit (Changed 0) x p b ≡ Some front =
        subst (λ (q : Option EditedValue). unit_after (Changed 0) x p q b ≡ Some front) (unedited p o edits) fits in
        let same : b ≡ front = ap (λ (q : Option (List ℕ)). unwrap_or q b) (sym found.1 ∙ plain) in
        let kept : packet_unit (Changed 0) x p front ≡ Some front =
        subst (λ (l : List ℕ). packet_unit (Changed 0) x p l ≡ Some front) same plain in
        let copied = packet_copied (Changed 0) bytes front others x y len p None begins plain in
        let at : Begins (front ++ others) x (length front) (Some p) y =
        subst (λ (q : PacketValue). Begins (front ++ others) x (length front) (Some q) y) (same_packet_in p found.0)
        (subst (λ (z : CaptureExpectation). Begins (front ++ others) z (length front) (Some (packet_in (Changed 0) p))
        y) (same_expected x ok)
        (subst (λ (z : CaptureExpectation). Begins (front ++ others) (expected_in (Changed 0) x) (length front)
        (Some (packet_in (Changed 0) p)) z)
        (same_expected y ok_after) copied)) in
        let later = r.again (inl (begun bytes x y len (Some p) begins)) in
        let stays = subst (Edits p) (unedited p o edits) edits in
        elim choice [
          | inl chosen ↦ record {
            copy = front ++ r.copy;
            chosen = p ∷ r.chosen;
            again = λ some. after_packet x y front others r.copy p r.chosen at found.0 kept chosen stays later;
            whole =
                subst
                (λ (q : PacketValue). Copies (Changed 0) Both Edits x bytes (front ++ r.copy) (p ∷ r.chosen)
                (q ∷ r.chosen) rest fault)
                (same_packet_in p found.0)
                (keeps x y bytes front r.copy len p None r.chosen r.chosen rest fault begins
                (is, chosen) stays plain r.whole);
          }
          | inr left ↦ record {
            copy = r.copy;
            chosen = r.chosen;
            again = λ some.
                leaves x y (front ++ others) r.copy (length front) p r.chosen r.chosen [] None at left
                (subst (λ (l : List ℕ). Selects Second y l r.copy r.chosen [] None)
                (sym (drop_at front others (length front) refl)) later);
            whole =
                leaves x y bytes r.copy len p r.chosen r.chosen rest fault begins (λ both. left both.1) r.whole;
          }
        ]

    compose : (x : CaptureExpectation) (bytes between : List ℕ) (kept edited : List PacketValue) (rest : List ℕ)
        (fault : Option CopyFault) → IsBytes bytes → InRange x
        → Chosen Second kept → Copies (Changed 0) First Edits x bytes between kept edited rest fault
        → Composed x bytes between rest fault
    compose x bytes between kept edited rest fault ok range chosen (ended _ _ end) = record {
      copy = [];
      chosen = [];
      again = λ some. ended x [] (end.0, refl);
      whole = ended x bytes end;
    }
    compose x bytes between kept edited rest fault ok range chosen (refused _ _ r more is) = record {
      copy = [];
      chosen = [];
      again = λ some. elim some [
        | inl later ↦ ended x [] (later, refl)
        | inr not_empty ↦ absurd (not_empty refl)
      ];
      whole = refused x bytes r more is;
    }
    compose x bytes between kept edited rest fault ok range chosen (not_edited _ y _ len p o begins is edits no_front) =
        absurd (never_stuck x y bytes len p o begins range edits no_front)
    compose x bytes between kept edited rest fault ok range chosen (unit _ y _ others len _ _ _ _ begins copies) =
        let after = range_after bytes x y len None ok begins range in
        on_unit x y bytes others len rest fault begins range after
        (compose y (drop len bytes) others kept edited rest fault (IsBytes-drop len bytes ok) after chosen copies)
    compose x bytes between kept edited rest fault ok range chosen
        (keeps _ y _ front others len p o ps qs _ _ begins is edits fits copies) =
        let after = range_after bytes x y len (Some p) ok begins range in
        let split = first_chosen Second p ps chosen in
        on_packet x y bytes front others len p o rest fault begins range after is split.0 edits fits
        (compose y (drop len bytes) others ps qs rest fault (IsBytes-drop len bytes ok) after split.1 copies)
    compose x bytes between kept edited rest fault ok range chosen (leaves _ y _ _ len p _ _ _ _ begins not_kept copies)
        =
        let after = range_after bytes x y len (Some p) ok begins range in
        let r = compose y (drop len bytes) between kept edited rest fault (IsBytes-drop len bytes ok) after chosen
        copies in
        record {
          copy = r.copy;
          chosen = r.chosen;
          again = λ some.
              subst (λ (z : CaptureExpectation). Selects Second z between r.copy r.chosen [] None)
              (same_after bytes x y len p begins)
              (r.again (inl (begun bytes x y len (Some p) begins)));
          whole =
              leaves x y bytes r.copy len p r.chosen r.chosen rest fault begins
              (λ both. not_kept both.0) r.whole;
        }

  -- of the packets of a capture each is kept or not
  chosen_of : (Keeps : PacketValue → Type 0) (x : CaptureExpectation) (bytes : List ℕ)
      (packets chosen : List PacketValue)
      (left : List ℕ) (other : Option CopyFault) → IsBytes bytes → ((q : PacketValue) → other ≡ Some (NotEdited q) → ⊥)
      → HasPackets x bytes packets [] None → HasSource Keeps x bytes chosen left other → Chosen Keeps packets
  chosen_of Keeps x bytes packets chosen left None ok never has source = search (rules, packets_one)
  chosen_of Keeps x bytes packets chosen left (Some (Refused r)) ok never has source = search (rules, packets_one)
  chosen_of Keeps x bytes packets chosen left (Some (NotEdited q)) ok never has source = absurd (never q refl)

  abbrev Kept : (most : ℕ) → (PacketValue → Type 0) → (bytes copy : List ℕ) → (kept edited : List PacketValue)
      → (rest : List ℕ) → Option CopyFault → Type 0
  Kept most Keeps = Copies (Changed 0) Keeps Edits (Beginning most)

  pub composed : (most : ℕ) (First Second : PacketValue → Type 0) (bytes between copy : List ℕ)
      (kept edited chosen last : List PacketValue) (rest left : List ℕ) (fault other : Option CopyFault)
      → IsBytes bytes → IsBytes between → between ≢ []
      → Kept most First bytes between kept edited rest fault → Kept most Second between copy chosen last left other
      → Kept most (λ p. First p × Second p) bytes copy chosen last rest fault × (left ≡ []) × (other ≡ None)
  composed most First Second bytes between copy kept edited chosen last rest left fault other ok ok_between some once
      twice =
      let start = Beginning most in
      let stays = stay First start bytes between kept edited rest fault ok tt once in
      let has : HasPackets start between kept [] None =
      subst (λ (ps : List PacketValue). HasPackets start between ps [] None) stays.1
      (copy_read (Changed 0) First Edits start bytes between kept edited rest fault once (inr some)) in
      let never = (stay Second start between copy chosen last left other ok_between tt twice).0 in
      let each =
      chosen_of Second start between kept chosen left other ok_between never has
      (copy_source (Changed 0) Second Edits start between copy chosen last left other twice) in
      let r = compose First Second start bytes between kept edited rest fault ok tt each once in
      let one =
      one_copied (Changed 0) Second Edits one_edit start between r.copy copy r.chosen chosen r.chosen last [] left
      None other ok_between (r.again (inr some)) twice in search rules

  -- packets that are kept once are kept again
  pub composed_twice : (most : ℕ) (Keeps : PacketValue → Type 0) (bytes between copy : List ℕ)
      (kept edited chosen last : List PacketValue) (rest left : List ℕ) (fault other : Option CopyFault)
      → IsBytes bytes → IsBytes between → between ≢ []
      → Kept most Keeps bytes between kept edited rest fault → Kept most Keeps between copy chosen last left other
      → copy ≡ between
  composed_twice most Keeps bytes between copy kept edited chosen last rest left fault other ok ok_between some once
      twice =
      let c =
      composed most Keeps Keeps bytes between copy kept edited chosen last rest left fault other ok ok_between some once
      twice in
      let mine =
      copies_alike (Changed 0) (λ p. Keeps p × Keeps p) Keeps Edits (λ p. (λ both. both.0, λ is. (is, is)))
      (Beginning most) bytes copy chosen last rest fault c.0 in
      (one_copied (Changed 0) Keeps Edits one_edit (Beginning most) bytes copy between chosen kept last edited rest rest
      fault fault ok mine once).0

-- ---- the law, by tests of packets

unedited_none : EditsNone (λ p o. IsTrue (edits_none p o))
unedited_none p None is = refl
unedited_none p (Some e) is = absurd cc

edits_once : EditsOnce (λ p o. IsTrue (edits_none p o))
edits_once = search rules

both_true : (a b : Bool) → (IsTrue a × IsTrue b) ↔ IsTrue (a && b)
both_true true b = (λ is. is.1, λ is. (refl, is))
both_true false b = (λ is. absurd (let bad = is.0 in cc), λ is. absurd cc)

pub composed_tests : (most : ℕ) (first second : PacketValue → Bool) (bytes between copy : List ℕ)
    (kept edited chosen last : List PacketValue) (rest left : List ℕ) (fault other : Option CopyFault)
    → IsBytes bytes → IsBytes between → between ≢ []
    → CopiesBy (Changed 0) first edits_none (Beginning most) bytes between kept edited rest fault
    → CopiesBy (Changed 0) second edits_none (Beginning most) between copy chosen last left other
    → CopiesBy (Changed 0) (λ p. first p && second p) edits_none (Beginning most) bytes copy chosen last rest fault
    × (left ≡ []) × (other ≡ None)
composed_tests most first second bytes between copy kept edited chosen last rest left fault other ok ok_between some
    once twice =
    let Edits = λ (p : PacketValue) (o : Option EditedValue). IsTrue (edits_none p o) in
    let First = λ (p : PacketValue). IsTrue (first p) in
    let Second = λ (p : PacketValue). IsTrue (second p) in
    let c =
    composed Edits unedited_none edits_once most First Second bytes between copy kept edited chosen last rest left fault
    other ok ok_between some once twice in search (rules, copies_alike, both_true)

pub composed_again : (most : ℕ) (test : PacketValue → Bool) (bytes between copy : List ℕ)
    (kept edited chosen last : List PacketValue) (rest left : List ℕ) (fault other : Option CopyFault)
    → IsBytes bytes → IsBytes between → between ≢ []
    → CopiesBy (Changed 0) test edits_none (Beginning most) bytes between kept edited rest fault
    → CopiesBy (Changed 0) test edits_none (Beginning most) between copy chosen last left other
    → copy ≡ between
composed_again most test =
    composed_twice (λ p o. IsTrue (edits_none p o)) unedited_none edits_once most (λ p. IsTrue (test p))
