-- A unit whose packet is edited begins with the edited packet.
use Rattle.std.proofs.Common.{◌≡◌, ◌⊎◌, ℕ, ◌+◌, ◌-◌, ◌<◌, ◌≤◌, List, ◌++◌, length, refl, sym, ap, subst, ◌∙◌, arith, inl, inr, Some, None, rules}
use Rattle.std.specs.Prelude.{Option, Bool, true, false, unwrap_or, slice_range, if◌then◌else◌, IfSome}
use Rattle.std.specs.Option.{option_map}
use Rattle.std.proofs.lemmas.Bool.{cases_lt, lt-ltb, le-ltb}
use Rattle.ether_base.specs.Bytes.{number}
use Rattle.ether_base.proofs.SubLists.{length-part}
use Rattle.ether_pcap.specs.Numbers.{Order, field}
use Rattle.ether_pcap.specs.Record.{RecordValue, record_len}
use Rattle.ether_pcap.specs.Block.{IsTotalLen}
use Rattle.ether_pcap.specs.Section.{HasSectionType}
use Rattle.ether_pcap.specs.FileHeader.{FileHeaderValue}
use Rattle.ether_pcap.specs.Bodies.{EnhancedPacketValue}
use Rattle.ether_pcap.specs.Capture.{PacketValue, packet_on, simple_packet_on, CaptureInterfaceValue, CaptureExpectation, Beginning, Records, Blocks, BlockKind, EnhancedPacket, SimplePacket, kind_of_block, IsBody, Begins, file_record, block}
use Rattle.ether_pcap.specs.Editing.{EditedValue, edited_record, edited_body, block_bytes, edited_block, unit_with, is_too_long, edited_unit, edited_packet, unit_bytes, EditsUnit, HasEditedPacket}
use Rattle.ether_pcap.specs.declared.capture.edited_unit.EditedUnit.{EditedUnit}
use Rattle.ether_pcap.proofs.CaptureLocality.{unit_local}
use Rattle.ether_pcap.proofs.EditUnits.{length-edited_front, length-edited_body, length-block_bytes, block_bytes-type, record_edited, body_edited, block_begins}
use Rattle.ether_pcap.proofs.PacketUnits.{record_of_unit, PacketBlock, block_of_unit, body_of_unit, same_packet, begun_before, packet_room}

same_bytes : (a b : List ℕ) → Some a ≡ Some b → a ≡ b
same_bytes a b e = ap (λ (o : Option (List ℕ)). unwrap_or o a) e

-- ---- lengths

-- what has room
data Room (e : EditedValue) : Type 0 where
  long_packet : 262144 < length e.packet → Room e
  long_original : length e.packet ≤ 262144 → 4294967295 < e.original_len → Room e
  fits : length e.packet ≤ 262144 → e.original_len ≤ 4294967295 → Room e

room_of : (e : EditedValue) → Room e
room_of e = search rules

too_long : (e : EditedValue) → 262144 < length e.packet → is_too_long e ≡ true
too_long e long = rw (lt-ltb 262144 (length e.packet) long) refl

too_large : (e : EditedValue) → length e.packet ≤ 262144 → 4294967295 < e.original_len → is_too_long e ≡ true
too_large e small long = rw (le-ltb 262144 (length e.packet) small, lt-ltb 4294967295 e.original_len long) refl

not_too_long : (e : EditedValue) → length e.packet ≤ 262144 → e.original_len ≤ 4294967295 → is_too_long e ≡ false
not_too_long e small four = rw (le-ltb 262144 (length e.packet) small, le-ltb 4294967295 e.original_len four) refl

-- a unit that is edited has room for the packet
pub record Fits (x : CaptureExpectation) (m : ℕ) (e : EditedValue) (unit new : List ℕ) : Type 0 where
  pub small : length e.packet ≤ 262144
  pub four : e.original_len ≤ 4294967295
  pub is : unit_with x m e unit ≡ Some new

pub unit_fits : (x : CaptureExpectation) (m : ℕ) (e : EditedValue) (unit : List ℕ) → length e.packet ≤ 262144
    → e.original_len ≤ 4294967295 → edited_unit x m e unit ≡ unit_with x m e unit
unit_fits x m e unit small four =
    ap (λ (b : Bool). if b then None else unit_with x m e unit) (not_too_long e small four)

pub unit_too_long : (x : CaptureExpectation) (m : ℕ) (e : EditedValue) (unit : List ℕ)
    → (262144 < length e.packet) ⊎ (4294967295 < e.original_len) → edited_unit x m e unit ≡ None
unit_too_long x m e unit why =
    elim (room_of e) [
      | long_packet long ↦ none (too_long e long)
      | long_original small long ↦ none (too_large e small long)
      | fits small four ↦ elim why [
        | inl long ↦ absurd (omega (arith, long, small))
        | inr long ↦ absurd (omega (arith, long, four))
      ]
    ]
  where
    none : is_too_long e ≡ true → edited_unit x m e unit ≡ None
    none long = ap (λ (b : Bool). if b then None else unit_with x m e unit) long

pub fits_if : (x : CaptureExpectation) (m : ℕ) (e : EditedValue) (unit new : List ℕ) → edited_unit x m e unit ≡ Some new
    → Fits x m e unit new
fits_if x m e unit new is =
    elim (room_of e) [
      | long_packet long ↦ no_unit (unit_too_long x m e unit (inl long))
      | long_original small long ↦ no_unit (unit_too_long x m e unit (inr long))
      | fits small four ↦ record { small = small; four = four; is = sym (unit_fits x m e unit small four) ∙ is }
    ]
  where
    no_unit : edited_unit x m e unit ≡ None → Fits x m e unit new
    no_unit none = let bad : None ≡ Some new = sym none ∙ is in absurd cc

-- ---- records

record_begins : (h : FileHeaderValue) (u new : List ℕ) (p : PacketValue) (e : EditedValue)
    → Begins u (Records h) (length u) (Some p) (Records h) → Fits (Records h) (length p.packet) e u new
    → Begins new (Records h) (length new) (Some (edited_packet e p)) (Records h)
record_begins h u new p e begins room =
    let s = record_of_unit u (Records h) (length u) h p begins in
    let r = s.0 in
    let t : RecordValue = record r { original_len = e.original_len; packet = e.packet } in
    let whole : 16 + length r.packet ≤ length u = s.1.whole in
    let long = length-edited_front h.order 8 e u (omega (arith, whole)) in
    let unit = file_record h t (record_edited h.order e u r room.small room.four s.1) in
    let Unit = λ (l : List ℕ) (k : ℕ) (q : PacketValue).
    Begins l (Records h) k (Some (edited_packet e q)) (Records h) in
    subst (λ (l : List ℕ). Unit l (length l) p) (same_bytes _ _ room.is)
    (subst (λ (k : ℕ). Unit (edited_record h.order e u) k p) (sym long)
    (subst (Unit (edited_record h.order e u) (record_len t)) (sym s.3) unit))

-- ---- blocks

edited_sound : (order : Order) (m : ℕ) (e : EditedValue) (body : List ℕ) → 20 + m ≤ length body
    → IsTotalLen (12 + length body) → 12 + length (edited_body order m e body) ≤ 16777216
    → IsTotalLen (12 + length (edited_body order m e body))
edited_sound order m e body whole sound most = search (rules, length-edited_body)

-- what is written of a block
record BlockFits (order : Order) (m : ℕ) (e : EditedValue) (u new : List ℕ) : Type 0 where
  most : 12 + length (edited_body order m e (slice_range u 8 (length u - 4))) ≤ 16777216
  is : block_bytes order (slice_range u 0 4) (edited_body order m e (slice_range u 8 (length u - 4))) ≡ new

block_fits : (number_len : ℕ) (order : Order) (m : ℕ) (e : EditedValue) (u new : List ℕ)
    → edited_block (EnhancedPacket number_len) order m e u ≡ Some new → BlockFits order m e u new
block_fits number_len order m e u new is = search rules

module _ (most : ℕ) (order : Order) (interfaces : List CaptureInterfaceValue) (u : List ℕ) (p : PacketValue)
    (e : EditedValue) (b : PacketBlock most order interfaces u p) (len : length u ≡ 12 + length b.value.body)
    (small : length e.packet ≤ 262144) (four : e.original_len ≤ 4294967295) where
  enhanced_begins : (number_len : ℕ) (new : List ℕ) → number_len ≤ 4
      → kind_of_block b.value.block_type ≡ EnhancedPacket number_len
      → IsBody (EnhancedPacket number_len) most order interfaces b.value.body (Some p) interfaces
      → BlockFits order (length p.packet) e u new
      → Begins new (Blocks most order interfaces) (length new) (Some (edited_packet e p)) (Blocks most order interfaces)
  enhanced_begins number_len new few kind (i, v, options, is, at, has, f, g) room =
      let same : p ≡ packet_on order i v options = same_packet p (packet_on order i v options) f in
      let m : length p.packet ≡ length v.packet = ap (λ (q : PacketValue). length q.packet) same in
      let body = b.value.body in
      let w : EnhancedPacketValue = record v { original_len = e.original_len; packet = e.packet } in
      let inner = edited_body order (length v.packet) e body in
      let type_bytes = slice_range u 0 4 in
      let whole : 20 + length v.packet ≤ length body = is.whole in
      let type_len : length type_bytes ≡ 4 = length-part u 0 4 (omega (arith, len)) ∙ omega arith in
      let all = block_bytes order type_bytes inner in
      let inner_is : edited_body order (length p.packet) e (slice_range u 8 (length u - 4)) ≡ inner =
      ap (λ (k : ℕ). edited_body order k e (slice_range u 8 (length u - 4))) m
      ∙ ap (edited_body order (length v.packet) e) (body_of_unit most order interfaces u p b len) in
      let small_block : 12 + length inner ≤ 16777216 =
      subst (λ (l : List ℕ). 12 + length l ≤ 16777216) inner_is room.most in
      let sound = edited_sound order (length v.packet) e body whole b.begins.sound small_block in
      let begins = block_begins order type_bytes inner type_len sound in
      let t : field order u 0 4 ≡ b.value.block_type = b.begins.block_type in
      let other : HasSectionType all → ⊥ =
      λ (has : HasSectionType all).
      b.other (ap number (sym (block_bytes-type order type_bytes inner type_len)) ∙ has) in
      let k : EnhancedPacket number_len ≡ kind_of_block (field order u 0 4) = sym (ap kind_of_block t ∙ kind) in
      let q : PacketValue = edited_packet e (packet_on order i v options) in
      let inside : IsBody (EnhancedPacket number_len) most order interfaces inner (Some q) interfaces =
      (i, w, options, body_edited number_len order e body v few small four is, at, has, refl, refl) in
      let x = Blocks most order interfaces in
      let unit : Begins all x (12 + length inner) (Some q) x =
      block most order interfaces interfaces (Some q) (record { block_type = field order u 0 4; body = inner }) other
      begins
      (subst (λ (z : BlockKind). IsBody z most order interfaces inner (Some q) interfaces) k inside) in
      let is_new : all ≡ new = ap (block_bytes order type_bytes) (sym inner_is) ∙ room.is in
      let Unit = λ (l : List ℕ) (j : ℕ) (r : PacketValue). Begins l x j (Some (edited_packet e r)) x in
      subst (λ (l : List ℕ). Unit l (length l) p) is_new
      (subst (λ (j : ℕ). Unit all j p) (sym (length-block_bytes order type_bytes inner type_len))
      (subst (Unit all (12 + length inner)) (sym same) unit))

  -- what is edited is an enhanced packet, or an obsolete packet block
  by_kind : (kind : BlockKind) (new : List ℕ) → edited_block kind order (length p.packet) e u ≡ Some new
      → (number_len : ℕ) × (kind ≡ EnhancedPacket number_len) × BlockFits order (length p.packet) e u new
  by_kind (EnhancedPacket k) new is = (k, refl, block_fits k order (length p.packet) e u new is)
  by_kind h new is = absurd (search rules)

  few_bytes : (t k : ℕ) → kind_of_block t ≡ EnhancedPacket k → k ≤ 4
  few_bytes t k is = search rules

  block_edited : (new : List ℕ) → unit_with (Blocks most order interfaces) (length p.packet) e u ≡ Some new
      → Begins new (Blocks most order interfaces) (length new) (Some (edited_packet e p)) (Blocks most order interfaces)
  block_edited new is =
      let found = by_kind (kind_of_block (field order u 0 4)) new is in
      let k = ap kind_of_block (sym b.begins.block_type) ∙ found.1 in
      enhanced_begins found.0 new (few_bytes (field order u 0 4) found.0 found.1) k
      (subst (λ (z : BlockKind). IsBody z most order interfaces b.value.body (Some p) interfaces) k b.body) found.2

-- ---- units

unit_begins : (x : CaptureExpectation) (u new : List ℕ) (p : PacketValue) (e : EditedValue)
    → Begins u x (length u) (Some p) x
    → Fits x (length p.packet) e u new → Begins new x (length new) (Some (edited_packet e p)) x
unit_begins (Beginning m) u new p e begins room = let bad : None ≡ Some new = room.is in absurd cc
unit_begins (Records h) u new p e begins room = record_begins h u new p e begins room
unit_begins (Blocks most order interfaces) u new p e begins room = search (rules, block_of_unit, block_edited)

-- the unit of a packet that is edited is one of the edited packet
pub edited_begins : (x : CaptureExpectation) (u new : List ℕ) (p : PacketValue) (e : EditedValue)
    → Begins u x (length u) (Some p) x → edited_unit x (length p.packet) e u ≡ Some new
    → Begins new x (length new) (Some (edited_packet e p)) x
edited_begins x u new p e begins is = unit_begins x u new p e begins (fits_if x (length p.packet) e u new is)

has_edited : (x : CaptureExpectation) (unit : List ℕ) (e : EditedValue) (result : Option EditedUnit) (p : PacketValue)
    → Begins unit x (length unit) (Some p) x
    → option_map unit_bytes result ≡ edited_unit x (length p.packet) e unit
    → IfSome result (λ u. (more : List ℕ)
    → Begins (unit_bytes u ++ more) x (length (unit_bytes u)) (Some (edited_packet e p)) x)
has_edited x unit e None p begins is = tt
has_edited x unit e (Some u) p begins is = search (rules, unit_local, edited_begins)

pub has_edited_packet : (x : CaptureExpectation) (unit : List ℕ) (e : EditedValue) (result : Option EditedUnit)
    → EditsUnit x unit e result → HasEditedPacket x unit e result
has_edited_packet x unit e result edits p begins = has_edited x unit e result p begins (edits p begins)

-- ---- a packet that can't be edited

abbrev pub Why : PacketValue → EditedValue → Type 0
Why p e = (p.time ≡ None) ⊎ (length p.packet < length e.packet) ⊎ (4294967295 < e.original_len)

longer_body : (order : Order) (m : ℕ) (e : EditedValue) (body : List ℕ) → 20 + m ≤ length body
    → IsTotalLen (12 + length body) → 16777216 < 12 + length (edited_body order m e body) → m < length e.packet
longer_body order m e body whole sound long = search (rules, length-edited_body)

why_block : (kind : BlockKind) (limit : ℕ) (order : Order) (interfaces : List CaptureInterfaceValue) (u body : List ℕ)
    (p : PacketValue) (e : EditedValue)
    → slice_range u 8 (length u - 4) ≡ body → IsTotalLen (12 + length body)
    → IsBody kind limit order interfaces body (Some p) interfaces → edited_block kind order (length p.packet) e u ≡ None
    → Why p e
why_block SimplePacket limit order interfaces u body p e is_body sound (i, q, at, v, f, g) is =
    inl (ap (λ (r : PacketValue). r.time) (same_packet p (simple_packet_on i q) f))
why_block kind limit order interfaces u body p e is_body sound h is =
    search (rules, same_packet, cases_lt, longer_body, le-ltb)

why_unit : (x : CaptureExpectation) (u : List ℕ) (p : PacketValue) (e : EditedValue) → Begins u x (length u) (Some p) x
    → unit_with x (length p.packet) e u ≡ None → Why p e
why_unit (Beginning m) u p e begins is = absurd (begun_before u (Beginning m) (Beginning m) (length u) p begins)
why_unit (Records h) u p e begins is = absurd cc
why_unit (Blocks most order interfaces) u p e begins is = grind (arith, block_of_unit, length, why_block, body_of_unit)

pub why_not_edited : (x : CaptureExpectation) (u : List ℕ) (p : PacketValue) (e : EditedValue)
    → Begins u x (length u) (Some p) x → edited_unit x (length p.packet) e u ≡ None → Why p e
why_not_edited x u p e begins is = search (rules, room_of, packet_room, why_unit, unit_fits)
