-- What a copy has of a unit is a unit of the copy.
use Rattle.std.proofs.Common.{◌≡◌, ◌⊎◌, ℕ, ◌+◌, ◌<◌, ◌≤◌, Bool, true, false, List, [], ◌∷◌, ◌++◌, length, map, refl, sym, ap, subst, ◌∙◌, arith, inl, inr, Some, None, rules}
use Rattle.std.specs.Prelude.{Option, unwrap_or, nat_eq, slice_range, if◌then◌else◌}
use Rattle.std.proofs.lemmas.Bool.{cases_eq, eq-eqb, ne_eqb, eqb-true}
use Rattle.std.proofs.lemmas.List.{map-append, length-map}
use Rattle.ether_base.specs.Bytes.{number}
use Rattle.ether_pcap.specs.Numbers.{Order, field}
use Rattle.ether_pcap.specs.Block.{BlockValue, BeginsBlock}
use Rattle.ether_pcap.specs.Section.{HasSectionType, IsSection}
use Rattle.ether_pcap.specs.Bodies.{captured_by, IsSimplePacket}
use Rattle.ether_pcap.specs.Writing.{bytes_of}
use Rattle.ether_pcap.specs.Capture.{PacketValue, IsWithinSnap, packet_of_record, packet_on, simple_packet_on, CaptureInterfaceValue, Describes, IsAt, CaptureExpectation, Beginning, Records, Blocks, BlockKind, InterfaceDescription, SimplePacket, EnhancedPacket, Other, kind_of_block, IsBody, HasBegun, Begins, file_header, file_record, first_section, section, block}
use Rattle.ether_pcap.specs.Editing.{EditedValue, edited_block, edited_unit}
use Rattle.ether_pcap.specs.CopiedUnits.{ModeValue, Exact, Changed, raised_len, raised_header, raised_interface, expected_in, with_bytes, no_section_len, changed_block, changed_unit, other_unit, packet_in, is_kept, packet_unit, unit_after, packet_after}
use Rattle.ether_pcap.proofs.CaptureLengths.{unit_some}
use Rattle.ether_pcap.proofs.EditPackets.{edited_begins, why_not_edited}
use Rattle.ether_pcap.proofs.PacketUnits.{record_of_unit, block_of_unit, type_of, is_interface, is_obsolete, is_simple, is_enhanced, is_other, same_packet, begun, begun_before}
use Rattle.ether_pcap.proofs.WithBytes.{length-with_bytes, raised_none, raised_room, header_raised, with_bytes-before, section_in, interface_begins, interface_len, interface_described}

-- ---- lengths

-- what a unit has at least, by what is expected after it
abbrev pub HasRoom : CaptureExpectation → List ℕ → Type 0
HasRoom (Beginning most) bytes = ⊥
HasRoom (Records h) bytes = 24 ≤ length bytes
HasRoom (Blocks most order interfaces) bytes =
    (12 ≤ length bytes) × (HasSectionType bytes → 24 ≤ length bytes)
    × (field order bytes 0 4 ≡ 1 → 16 ≤ length bytes)

interface_room : (kind : BlockKind) (most : ℕ) (order : Order) (before after : List CaptureInterfaceValue)
    (body : List ℕ) (p : Option PacketValue) → kind ≡ InterfaceDescription
    → IsBody kind most order before body p after → 8 ≤ length body
interface_room InterfaceDescription most order before after body p e (i, d, lt, f, g) = d.is_interface.len
interface_room kind most order before after body p e is = absurd cc

-- a unit without a packet
room_if : (bytes : List ℕ) (x y : CaptureExpectation) (len : ℕ) (p : Option PacketValue) → p ≡ None
    → Begins bytes x len p y → HasRoom y bytes
room_if bytes x y len p e (file_header m h other is) = is.len
room_if bytes x y len p e (file_record h r is) = absurd cc
room_if bytes x y len p e (first_section m order b is) = search rules
room_if bytes x y len p e (section m order next interfaces b is) = search rules
room_if bytes x y len p e (block m order interfaces after q b other begins body) = search rules

pub unit_room : (bytes : List ℕ) (x y : CaptureExpectation) (len : ℕ) → Begins bytes x len None y → HasRoom y bytes
unit_room bytes x y len begins = room_if bytes x y len None refl begins

-- ---- units without a packet

-- A unit of the copy; or nothing, where the same is expected as before.
abbrev pub InCopy : ModeValue → (bytes : List ℕ) → (x y : CaptureExpectation) → Type 0
InCopy mode bytes x y =
    ((other_unit mode y bytes ≡ []) × (y ≡ x))
    ⊎ Begins (other_unit mode y bytes) (expected_in mode x) (length (other_unit mode y bytes)) None (expected_in mode y)

pub section_changed : (raise m : ℕ) (order : Order) (interfaces : List CaptureInterfaceValue) (bytes : List ℕ)
    → HasSectionType bytes
    → changed_unit raise (Blocks m order interfaces) bytes ≡ with_bytes 16 no_section_len bytes
section_changed raise m order interfaces bytes is = search rules

pub other_changed : (raise m : ℕ) (order : Order) (interfaces : List CaptureInterfaceValue) (bytes : List ℕ)
    → (HasSectionType bytes → ⊥)
    → changed_unit raise (Blocks m order interfaces) bytes ≡ changed_block raise order bytes
other_changed raise m order interfaces bytes other = search rules

module _ (raise : ℕ) where
  abbrev raised : List CaptureInterfaceValue → List CaptureInterfaceValue
  raised interfaces = map (raised_interface raise) interfaces

  -- a unit of the copy, by its length
  as_unit : (new unit : List ℕ) (x y : CaptureExpectation) (n : ℕ) → new ≡ unit → n ≡ length new
      → Begins new x n None y → Begins unit x (length unit) None y
  as_unit new unit x y n same len begins = search rules

  section_unit : (bytes : List ℕ) (x z : CaptureExpectation) (m n : ℕ) (order : Order) (b : BlockValue)
      → n ≡ length bytes → n ≡ 12 + length b.body → IsSection bytes order b
      → ((new : List ℕ) (c : BlockValue) → IsSection new order c
      → Begins new z (12 + length c.body) None (Blocks m order []))
      → Begins (changed_unit raise (Blocks m order []) bytes) z
      (length (changed_unit raise (Blocks m order []) bytes)) None (Blocks m order [])
  section_unit bytes x z m n order b e f is unit =
      let s = section_in order bytes b is in
      let long : 16 ≤ length b.body = is.len in
      let whole : 12 + length b.body ≤ length bytes = is.block.whole in
      let same = length-with_bytes 16 no_section_len bytes (omega (arith, long, whole)) in
      as_unit (with_bytes 16 no_section_len bytes) (changed_unit raise (Blocks m order []) bytes) z (Blocks m order [])
      (12 + length s.0.body) (sym (section_changed raise m order [] bytes is.section))
      (ap (λ (k : ℕ). 12 + k) s.2 ∙ sym f ∙ e ∙ sym same)
      (unit (with_bytes 16 no_section_len bytes) s.0 s.1)

  interface_unit : (bytes : List ℕ) (m : ℕ) (order : Order) (before after : List CaptureInterfaceValue)
      (b : BlockValue) (v : CaptureInterfaceValue)
      → 12 + length b.body ≡ length bytes → (HasSectionType bytes → ⊥) → BeginsBlock order bytes b
      → field order bytes 0 4 ≡ 1 → Describes order b.body v → length before < m → after ≡ before ++ v ∷ []
      → Begins (changed_unit raise (Blocks m order after) bytes) (Blocks m order (raised before))
      (length (changed_unit raise (Blocks m order after) bytes)) None (Blocks m order (raised after))
  interface_unit bytes m order before after b v len other begins one d lt is_after =
      let n = raised_len raise (field order bytes 12 16) in
      let new = with_bytes 12 (bytes_of order 4 n) bytes in
      let w = raised_interface raise v in
      let whole : 8 ≤ length b.body = d.is_interface.len in
      let room : 16 ≤ length bytes = omega (arith, len, whole) in
      let c : BlockValue = record { block_type = b.block_type; body = slice_range new 8 (8 + length b.body) } in
      let is = interface_begins raise order bytes b begins v d in
      let kind = ap kind_of_block (sym begins.block_type ∙ one) in
      let type_same : slice_range new 0 4 ≡ slice_range bytes 0 4 =
      with_bytes-before 12 (bytes_of order 4 n) bytes
      (raised_room order raise (field order bytes 12 16) 12 bytes room) 0 4 (omega arith) (omega arith) in
      let not_section : HasSectionType new → ⊥ =
      λ (has : HasSectionType new). other (sym (ap number type_same) ∙ has) in
      let in_after = ap raised is_after ∙ map-append (raised_interface raise) before (v ∷ []) in
      let few : length (raised before) < m = omega (arith, lt, length-map before (raised_interface raise)) in
      let described = interface_described raise order bytes b begins v d in
      let body : IsBody InterfaceDescription m order (raised before) c.body None (raised after) =
      (w, described, few, refl, in_after) in
      let changed : changed_block raise order bytes ≡ new =
      ap (λ (z : Bool). if z then new else (if nat_eq (field order bytes 0 4) 0x40000BAD then [] else bytes))
      (eq-eqb (field order bytes 0 4) 1 one) in
      as_unit new (changed_unit raise (Blocks m order after) bytes) (Blocks m order (raised before))
      (Blocks m order (raised after)) (12 + length c.body)
      (sym (other_changed raise m order after bytes other ∙ changed))
      (ap (λ (k : ℕ). 12 + k) (interface_len raise order bytes b begins v d) ∙ len
      ∙ sym (length-with_bytes 12 (bytes_of order 4 n) bytes
      (raised_room order raise (field order bytes 12 16) 12 bytes room)))
      (block m order (raised before) (raised after) None c not_section is
      (subst (λ (z : BlockKind). IsBody z m order (raised before) c.body None (raised after)) (sym kind) body))

  -- a block that is neither a packet nor an interface description
  plain_unit : (bytes : List ℕ) (m : ℕ) (order : Order) (before after : List CaptureInterfaceValue)
      (b : BlockValue)
      → 12 + length b.body ≡ length bytes → (HasSectionType bytes → ⊥) → BeginsBlock order bytes b
      → (field order bytes 0 4 ≡ 1 → ⊥) → kind_of_block b.block_type ≡ Other → after ≡ before
      → InCopy (Changed raise) bytes (Blocks m order before) (Blocks m order after)
  plain_unit bytes m order before after b len other begins not_one kind same =
      let n = field order bytes 0 4 in
      let rest = if nat_eq n 0x40000BAD then [] else bytes in
      let new = with_bytes 12 (bytes_of order 4 (raised_len raise (field order bytes 12 16))) bytes in
      let changed : changed_unit raise (Blocks m order after) bytes ≡ rest =
      other_changed raise m order after bytes other
      ∙ ap (λ (z : Bool). if z then new else rest) (ne_eqb n 1 not_one) in
      elim (cases_eq n 0x40000BAD) [
        | inl custom ↦
            inl (
              changed ∙ ap (λ (z : Bool). if z then [] else bytes) (eq-eqb n 0x40000BAD custom),
              ap (Blocks m order) same,
            )
        | inr plain ↦
            inr (as_unit bytes (changed_unit raise (Blocks m order after) bytes) (Blocks m order (raised before))
            (Blocks m order (raised after)) (12 + length b.body)
            (sym (changed ∙ ap (λ (z : Bool). if z then [] else bytes) (ne_eqb n 0x40000BAD plain))) len
            (block m order (raised before) (raised after) None b other begins
            (subst (λ (z : BlockKind). IsBody z m order (raised before) b.body None (raised after)) (sym kind)
            (refl, ap raised same))))
      ]

  by_kind : (bytes : List ℕ) (m : ℕ) (order : Order) (before after : List CaptureInterfaceValue) (b : BlockValue)
      (kind : BlockKind) (p : Option PacketValue)
      → p ≡ None → 12 + length b.body ≡ length bytes → (HasSectionType bytes → ⊥) → BeginsBlock order bytes b
      → kind_of_block b.block_type ≡ kind → IsBody kind m order before b.body p after
      → InCopy (Changed raise) bytes (Blocks m order before) (Blocks m order after)
  by_kind bytes m order before after b InterfaceDescription p e len other begins kind (v, d, lt, f, g) =
      inr (interface_unit bytes m order before after b v len other begins (begins.block_type ∙ one) d lt g)
    where
      one : b.block_type ≡ 1
      one =
          elim (type_of b.block_type) [
            | is_interface is ↦ is
            | is_obsolete is ↦ let bad : EnhancedPacket 2 ≡ InterfaceDescription =
                ap kind_of_block (sym is) ∙ kind in absurd cc
            | is_simple is ↦ let bad : SimplePacket ≡ InterfaceDescription =
                ap kind_of_block (sym is) ∙ kind in absurd cc
            | is_enhanced is ↦ let bad : EnhancedPacket 4 ≡ InterfaceDescription =
                ap kind_of_block (sym is) ∙ kind in absurd cc
            | is_other is ↦ let bad : Other ≡ InterfaceDescription = sym is ∙ kind in absurd cc
          ]
  by_kind bytes m order before after b SimplePacket p e len other begins kind (i, q, at, is, f, g) =
      let bad : Some (simple_packet_on i q) ≡ None = sym f ∙ e in absurd cc
  by_kind bytes m order before after b (EnhancedPacket n) p e len other begins kind (i, q, o, is, at, has, f, g) =
      let bad : Some (packet_on order i q o) ≡ None = sym f ∙ e in absurd cc
  by_kind bytes m order before after b Other p e len other begins kind (f, g) =
      plain_unit bytes m order before after b len other begins not_one kind g
    where
      not_one : field order bytes 0 4 ≡ 1 → ⊥
      not_one one = absurd cc

  changed_if : (bytes : List ℕ) (x y : CaptureExpectation) (len : ℕ) (p : Option PacketValue) → p ≡ None
      → len ≡ length bytes → Begins bytes x len p y → InCopy (Changed raise) bytes x y
  changed_if bytes x y len p e f (file_header m h other is) =
      let new = with_bytes 16 (bytes_of h.order 4 (raised_len raise h.snap_len)) bytes in
      let long : 24 ≤ length bytes = is.len in
      let room : 20 ≤ length bytes = omega (arith, long) in
      let within = raised_room h.order raise h.snap_len 16 bytes room in
      let type_same = with_bytes-before 16 (bytes_of h.order 4 (raised_len raise h.snap_len)) bytes within 0 4
      (omega arith) (omega arith) in
      let same = length-with_bytes 16 (bytes_of h.order 4 (raised_len raise h.snap_len)) bytes within in
      inr (as_unit new new (Beginning m) (Records (raised_header raise h)) 24 refl (f ∙ sym same)
      (file_header m (raised_header raise h) (λ (has : HasSectionType new). other (sym (ap number type_same) ∙ has))
      (header_raised raise h bytes is)))
  changed_if bytes x y len p e f (file_record h r is) = absurd cc
  changed_if bytes x y len p e f (first_section m order b is) =
      inr (section_unit bytes x (Beginning m) m len order b f refl is
      (λ new c is_new. first_section m order c is_new))
  changed_if bytes x y len p e f (section m order next interfaces b is) =
      inr (section_unit bytes x (Blocks m order (raised interfaces)) m len next b f refl is
      (λ new c is_new. section m order next (raised interfaces) c is_new))
  changed_if bytes x y len p e f (block m order interfaces after q b other begins body) =
      by_kind bytes m order interfaces after b (kind_of_block b.block_type) q e f other begins refl body

-- a unit without a packet, which has all bytes
pub unit_in_copy : (mode : ModeValue) (bytes : List ℕ) (x y : CaptureExpectation) → Begins bytes x (length bytes) None y
    → InCopy mode bytes x y
unit_in_copy Exact bytes x y begins = inr begins
unit_in_copy (Changed raise) bytes x y begins = changed_if raise bytes x y (length bytes) None refl refl begins

-- .. which is not left out at the beginning of a file
pub some_in_copy : (mode : ModeValue) (bytes : List ℕ) (x y : CaptureExpectation) → Begins bytes x (length bytes) None y
    → ¬ (HasBegun x) → other_unit mode y bytes ≡ [] → ⊥
some_in_copy mode bytes x y begins first empty = grind (arith, unit_in_copy, begun, length, unit_some)

-- ---- packets

raised_at : (raise : ℕ) (interfaces : List CaptureInterfaceValue) (n : ℕ) (i : CaptureInterfaceValue)
    → IsAt interfaces n i → IsAt (map (raised_interface raise) interfaces) n (raised_interface raise i)
raised_at raise interfaces n i at = search (rules, map-append, length-map)

kept_if : (b : Bool) (unit new : List ℕ) → (if b then Some unit else None) ≡ Some new → (b ≡ true) × (unit ≡ new)
kept_if true unit new is = (refl, ap (λ (o : Option (List ℕ)). unwrap_or o unit) is)
kept_if false unit new is = absurd cc

left_if : (b : Bool) (unit : List ℕ) → (if b then Some unit else None) ≡ None → b ≡ false
left_if true unit is = absurd cc
left_if false unit is = refl

module _ (raise : ℕ) where
  -- the packet of a block, where snap lengths are raised
  raised_body : (kind : BlockKind) (m : ℕ) (order : Order) (interfaces : List CaptureInterfaceValue)
      (body : List ℕ) (p : PacketValue)
      → IsBody kind m order interfaces body (Some p) interfaces → is_kept raise kind p ≡ true
      → IsBody kind m order (map (raised_interface raise) interfaces) body (Some (packet_in (Changed raise) p))
      (map (raised_interface raise) interfaces)
  raised_body InterfaceDescription m order interfaces body p (i, d, lt, e, f) kept = absurd cc
  raised_body SimplePacket m order interfaces body p (i, v, at, is, e, f) kept =
      let same : p ≡ simple_packet_on i v = same_packet p (simple_packet_on i v) e in
      let len = eqb-true (captured_by (raised_len raise p.snap_len) p.original_len) (length p.packet) kept in
      let here : captured_by (raised_len raise i.snap_len) v.original_len ≡ length v.packet =
      subst (λ (q : PacketValue). captured_by (raised_len raise q.snap_len) q.original_len ≡ length q.packet) same
      len in
      let fits : IsSimplePacket order (raised_len raise i.snap_len) body v = record {
        original_len = is.original_len;
        captured_len = ap (captured_by (raised_len raise i.snap_len)) is.original_len ∙ here;
        packet = is.packet;
        whole = is.whole;
        room = is.room;
      } in (
        raised_interface raise i,
        v,
        raised_at raise interfaces 0 i at,
        fits,
        ap (λ (q : PacketValue). Some (packet_in (Changed raise) q)) same,
        refl,
      )
  raised_body (EnhancedPacket n) m order interfaces body p (i, v, o, is, at, has, e, f) kept = (
    raised_interface raise i,
    v,
    o,
    is,
    raised_at raise interfaces v.interface i at,
    has,
    ap (λ (q : PacketValue). Some (packet_in (Changed raise) q)) (same_packet p (packet_on order i v o) e),
    refl,
  )
  raised_body Other m order interfaces body p (e, f) kept = absurd cc

  raised_unit : (x : CaptureExpectation) (u : List ℕ) (p : PacketValue) → Begins u x (length u) (Some p) x
      → packet_unit (Changed raise) x p u ≡ Some u
      → Begins u (expected_in (Changed raise) x) (length u) (Some (packet_in (Changed raise) p))
      (expected_in (Changed raise) x)
  raised_unit (Beginning m) u p begins kept = absurd (begun_before u (Beginning m) (Beginning m) (length u) p begins)
  raised_unit (Records h) u p begins kept =
      let s = record_of_unit u (Records h) (length u) h p begins in
      let g = raised_header raise h in
      subst (λ (q : PacketValue). Begins u (Records g) (length u) (Some (packet_in (Changed raise) q)) (Records g))
      (sym s.3)
      (subst (λ (k : ℕ). Begins u (Records g) k (Some (packet_of_record g s.0)) (Records g)) (sym s.2)
      (file_record g s.0 s.1))
  raised_unit (Blocks m order interfaces) u p begins kept =
      let found = block_of_unit u (Blocks m order interfaces) (length u) m order interfaces p begins in
      let b = found.0 in
      let x = Blocks m order (map (raised_interface raise) interfaces) in
      let kind = kind_of_block b.value.block_type in
      let is = kept_if (is_kept raise (kind_of_block (field order u 0 4)) p) u u kept in
      let keeps = ap (λ (n : ℕ). is_kept raise (kind_of_block n) p) (sym b.begins.block_type) ∙ is.0 in
      subst (λ (k : ℕ). Begins u x k (Some (packet_in (Changed raise) p)) x) (sym found.1)
      (block m order (map (raised_interface raise) interfaces) (map (raised_interface raise) interfaces)
      (Some (packet_in (Changed raise) p)) b.value b.other b.begins
      (raised_body kind m order interfaces b.value.body p b.body keeps))

  -- what is edited is no simple packet
  kept_edited : (kind : BlockKind) (order : Order) (m : ℕ) (e : EditedValue) (u new : List ℕ) (p : PacketValue)
      → edited_block kind order m e u ≡ Some new → is_kept raise kind p ≡ true
  kept_edited (EnhancedPacket n) order m e u new p is = refl
  kept_edited h order m e u new p is = absurd (search rules)

  edited_unit_kept : (x : CaptureExpectation) (u new : List ℕ) (p : PacketValue) (e : EditedValue)
      → edited_unit x (length p.packet) e u ≡ Some new
      → (packet_unit (Changed raise) x p u ≡ Some u)
      × (edited_unit (expected_in (Changed raise) x) (length p.packet) e u ≡ Some new)
  edited_unit_kept (Beginning m) u new p e is = (refl, is)
  edited_unit_kept (Records h) u new p e is = (refl, is)
  edited_unit_kept (Blocks m order interfaces) u new p e is = search rules

-- the unit of a packet is one of the copy
pub packet_in_copy : (mode : ModeValue) (x : CaptureExpectation) (u new : List ℕ) (p : PacketValue)
    (o : Option EditedValue)
    → Begins u x (length u) (Some p) x → unit_after mode x p o u ≡ Some new
    → Begins new (expected_in mode x) (length new) (Some (packet_after mode p o)) (expected_in mode x)
packet_in_copy Exact x u new p None begins is =
    subst (λ (l : List ℕ). Begins l x (length l) (Some p) x) (ap (λ (s : Option (List ℕ)). unwrap_or s u) is) begins
packet_in_copy Exact x u new p (Some e) begins is = edited_begins x u new p e begins is
packet_in_copy (Changed raise) x u new p None begins is =
    let same : u ≡ new = same_unit x p u new is in
    subst (λ (l : List ℕ). Begins l (expected_in (Changed raise) x) (length l) (Some (packet_in (Changed raise) p))
    (expected_in (Changed raise) x)) same
    (raised_unit raise x u p begins (is ∙ ap (λ (l : List ℕ). Some l) (sym same)))
  where
    same_unit : (x : CaptureExpectation) (p : PacketValue) (u new : List ℕ) → packet_unit (Changed raise) x p u
        ≡ Some new
        → u ≡ new
    same_unit (Beginning m) p u new is = ap (λ (s : Option (List ℕ)). unwrap_or s u) is
    same_unit (Records h) p u new is = ap (λ (s : Option (List ℕ)). unwrap_or s u) is
    same_unit (Blocks m order interfaces) p u new is =
        (kept_if (is_kept raise (kind_of_block (field order u 0 4)) p) u new is).1
packet_in_copy (Changed raise) x u new p (Some e) begins is =
    let s = edited_unit_kept raise x u new p e is in
    edited_begins (expected_in (Changed raise) x) u new (packet_in (Changed raise) p) e
    (raised_unit raise x u p begins s.0) s.1

-- ---- a packet that can't be copied

abbrev pub WhyNot : PacketValue → Option EditedValue → Type 0
WhyNot p o =
    (p.time ≡ None)
    ⊎ ((e : EditedValue) × (o ≡ Some e) × ((length p.packet < length e.packet) ⊎ (4294967295 < e.original_len)))

simple_if : (kind : BlockKind) (raise m : ℕ) (order : Order) (interfaces : List CaptureInterfaceValue)
    (body : List ℕ) (p : PacketValue)
    → IsBody kind m order interfaces body (Some p) interfaces → is_kept raise kind p ≡ false → p.time ≡ None
simple_if SimplePacket raise m order interfaces body p (i, v, at, is, f, g) e =
    ap (λ (q : PacketValue). q.time) (same_packet p (simple_packet_on i v) f)
simple_if kind raise m order interfaces body p is e = absurd cc

left_out : (mode : ModeValue) (x : CaptureExpectation) (u : List ℕ) (p : PacketValue) → Begins u x (length u) (Some p) x
    → packet_unit mode x p u ≡ None → p.time ≡ None
left_out (Changed raise) (Blocks m order interfaces) u p begins is = search (rules, block_of_unit, left_if, simple_if)
left_out mode x u p begins is = absurd cc

pub why_not_copied : (mode : ModeValue) (x : CaptureExpectation) (u : List ℕ) (p : PacketValue) (o : Option EditedValue)
    → Begins u x (length u) (Some p) x → unit_after mode x p o u ≡ None → WhyNot p o
why_not_copied mode x u p None begins is = inl (left_out mode x u p begins is)
why_not_copied mode x u p (Some e) begins is = search (rules, why_not_edited)

-- ---- snap lengths

-- a raised snap length is still a bound
pub raised_within : (raise : ℕ) (p q : PacketValue) → IsWithinSnap p → q.snap_len ≡ raised_len raise p.snap_len
    → length q.packet ≤ length p.packet + raise → length q.packet ≤ 262144 → IsWithinSnap q
raised_within raise p q (inl none) e more room = inl (e ∙ raised_none raise p.snap_len none)
raised_within raise p q (inr le) e more room = search rules
