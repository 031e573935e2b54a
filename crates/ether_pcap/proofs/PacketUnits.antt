-- Units that are packets: a record, or a block of one of three types.
use Rattle.std.proofs.Common.{◌≡◌, ℕ, ◌+◌, ◌-◌, ◌≤◌, List, length, refl, sym, ap, subst, ◌∙◌, arith, Some, None, rules}
use Rattle.std.specs.Prelude.{Option, unwrap_or, slice_range}
use Rattle.ether_base.specs.Bytes.{IsBytes}
use Rattle.ether_base.proofs.SubLists.{IsBytes-part}
use Rattle.ether_pcap.specs.Numbers.{Order, field}
use Rattle.ether_pcap.specs.Record.{RecordValue, BeginsRecord, record_len}
use Rattle.ether_pcap.specs.Block.{BlockValue, IsTotalLen, BeginsBlock}
use Rattle.ether_pcap.specs.Section.{HasSectionType}
use Rattle.ether_pcap.specs.FileHeader.{FileHeaderValue}
use Rattle.ether_pcap.specs.Bodies.{EnhancedPacketValue, IsEnhancedPacket}
use Rattle.ether_pcap.specs.Editing.{EditedValue, edited_block, unit_with}
use Rattle.ether_pcap.specs.Capture.{PacketValue, packet_of_record, packet_on, simple_packet_on, CaptureInterfaceValue, CaptureExpectation, Beginning, Records, Blocks, BlockKind, InterfaceDescription, SimplePacket, EnhancedPacket, Other, kind_of_block, IsBody, HasBegun, Begins, file_header, file_record, block}

pub same_packet : (p q : PacketValue) → Some p ≡ Some q → p ≡ q
same_packet p q e = ap (λ (o : Option PacketValue). unwrap_or o p) e

-- ---- records

record_if : (bytes : List ℕ) (x y : CaptureExpectation) (len : ℕ) (packet : Option PacketValue) (h : FileHeaderValue)
    (p : PacketValue) → x ≡ Records h → packet ≡ Some p → Begins bytes x len packet y
    → (r : RecordValue) × BeginsRecord h.order bytes r × (len ≡ record_len r) × (p ≡ packet_of_record h r)
record_if bytes x y len packet h p e f (file_record g r is) = search rules
record_if bytes x y len packet h p e f k = absurd cc

pub record_of_unit : (bytes : List ℕ) (y : CaptureExpectation) (len : ℕ) (h : FileHeaderValue) (p : PacketValue)
    → Begins bytes (Records h) len (Some p) y
    → (r : RecordValue) × BeginsRecord h.order bytes r × (len ≡ record_len r) × (p ≡ packet_of_record h r)
record_of_unit bytes y len h p begins = record_if bytes (Records h) y len (Some p) h p refl refl begins

-- ---- blocks

-- what a block is, by its type
pub data TypeOf (n : ℕ) : Type 0 where
  is_interface : n ≡ 1 → TypeOf n
  is_obsolete : n ≡ 2 → TypeOf n
  is_simple : n ≡ 3 → TypeOf n
  is_enhanced : n ≡ 6 → TypeOf n
  is_other : kind_of_block n ≡ Other → TypeOf n

pub type_of : (n : ℕ) → TypeOf n
type_of n = search rules

-- a block that is a packet
pub record PacketBlock (most : ℕ) (order : Order) (interfaces : List CaptureInterfaceValue) (bytes : List ℕ)
    (p : PacketValue) : Type 0 where
  pub value : BlockValue
  pub other : HasSectionType bytes → ⊥
  pub begins : BeginsBlock order bytes value
  pub body : IsBody (kind_of_block value.block_type) most order interfaces value.body (Some p) interfaces

same_interfaces : (kind : BlockKind) (most : ℕ) (order : Order) (before after : List CaptureInterfaceValue)
    (body : List ℕ) (packet : Option PacketValue) (p : PacketValue) → packet ≡ Some p
    → IsBody kind most order before body packet after
    → after ≡ before
same_interfaces InterfaceDescription most order before after body packet p is (i, d, lt, e, f) =
    let g : None ≡ Some p = sym e ∙ is in absurd cc
same_interfaces SimplePacket most order before after body packet p is (i, q, at, d, e, f) = f
same_interfaces (EnhancedPacket n) most order before after body packet p is (i, q, o, d, at, has, e, f) = f
same_interfaces Other most order before after body packet p is (e, f) = f

same_if : (bytes : List ℕ) (x y : CaptureExpectation) (len : ℕ) (packet : Option PacketValue) (p : PacketValue)
    → packet ≡ Some p → Begins bytes x len packet y → y ≡ x
same_if bytes x y len packet p e (file_record h r is) = refl
same_if bytes x y len packet p e (block m order interfaces after q b other begins is) =
    ap (Blocks m order) (same_interfaces (kind_of_block b.block_type) m order interfaces after b.body q p e is)
same_if bytes x y len packet p e h = absurd cc

-- after a packet the same is expected as before it
pub same_after : (bytes : List ℕ) (x y : CaptureExpectation) (len : ℕ) (p : PacketValue) → Begins bytes x len (Some p) y
    → y ≡ x
same_after bytes x y len p begins = same_if bytes x y len (Some p) p refl begins

-- ---- before and after a packet

-- after a unit a file has begun
pub begun : (bytes : List ℕ) (x y : CaptureExpectation) (len : ℕ) (p : Option PacketValue) → Begins bytes x len p y
    → HasBegun y
begun bytes x y len p (file_header m h other is) = tt
begun bytes x y len p h = tt

pub begun_before : (bytes : List ℕ) (x y : CaptureExpectation) (len : ℕ) (p : PacketValue)
    → Begins bytes x len (Some p) y → HasBegun x
begun_before bytes x y len p begins =
    subst HasBegun (same_after bytes x y len p begins) (begun bytes x y len (Some p) begins)

block_if : (bytes : List ℕ) (x y : CaptureExpectation) (len : ℕ) (packet : Option PacketValue) (most : ℕ)
    (order : Order)
    (interfaces : List CaptureInterfaceValue) (p : PacketValue)
    → x ≡ Blocks most order interfaces → packet ≡ Some p → Begins bytes x len packet y
    → (b : PacketBlock most order interfaces bytes p) × (len ≡ 12 + length b.value.body)
block_if bytes x y len packet most order interfaces p e f (block m o i after q b other begins is) =
    let a : o ≡ order = cc in
    let c : i ≡ interfaces = cc in
    let d : m ≡ most = cc in
    let kind = kind_of_block b.block_type in
    let s = same_interfaces kind m o i after b.body q p f is in
    let body : IsBody kind m o i b.body (Some p) i =
    subst (λ (l : List CaptureInterfaceValue). IsBody kind m o i b.body (Some p) l) s
    (subst (λ (r : Option PacketValue). IsBody kind m o i b.body r after) f is) in (
      record {
        value = b;
        other = other;
        begins = subst (λ (z : Order). BeginsBlock z bytes b) a begins;
        body =
            subst (λ (n : ℕ). IsBody kind n order interfaces b.body (Some p) interfaces) d
            (subst (λ (z : Order). IsBody kind m z interfaces b.body (Some p) interfaces) a
            (subst (λ (l : List CaptureInterfaceValue). IsBody kind m o l b.body (Some p) l) c body));
      },
      refl,
    )
block_if bytes x y len packet most order interfaces p e f h = absurd cc

pub block_of_unit : (bytes : List ℕ) (y : CaptureExpectation) (len most : ℕ) (order : Order)
    (interfaces : List CaptureInterfaceValue) (p : PacketValue)
    → Begins bytes (Blocks most order interfaces) len (Some p) y
    → (b : PacketBlock most order interfaces bytes p) × (len ≡ 12 + length b.value.body)
block_of_unit bytes y len most order interfaces p begins =
    block_if bytes (Blocks most order interfaces) y len (Some p) most order interfaces p refl refl begins

-- its body, if it has all bytes
pub body_of_unit : (most : ℕ) (order : Order) (interfaces : List CaptureInterfaceValue) (bytes : List ℕ)
    (p : PacketValue) (b : PacketBlock most order interfaces bytes p)
    → length bytes ≡ 12 + length b.value.body → slice_range bytes 8 (length bytes - 4) ≡ b.value.body
body_of_unit most order interfaces bytes p b len = search rules

-- ---- how many bytes a packet has

-- as many as a reader accepts, at most
few_in_body : (kind : BlockKind) (most : ℕ) (order : Order) (interfaces : List CaptureInterfaceValue)
    (body : List ℕ) (p : PacketValue) → IsBody kind most order interfaces body (Some p) interfaces
    → length p.packet ≤ 262144
few_in_body SimplePacket most order interfaces body p (i, v, at, is, e, f) = search rules
few_in_body kind most order interfaces body p h = search rules

pub packet_room : (x : CaptureExpectation) (u : List ℕ) (p : PacketValue) → Begins u x (length u) (Some p) x
    → length p.packet ≤ 262144
packet_room (Beginning m) u p begins = absurd (begun_before u (Beginning m) (Beginning m) (length u) p begins)
packet_room h u p begins = search (rules, record_of_unit, block_of_unit, few_in_body)

-- the captured bytes of a packet
bytes_in_body : (kind : BlockKind) (most : ℕ) (order : Order) (before after : List CaptureInterfaceValue)
    (body : List ℕ) (packet : Option PacketValue) (p : PacketValue) → packet ≡ Some p → IsBytes body
    → IsBody kind most order before body packet after → IsBytes p.packet
bytes_in_body InterfaceDescription most order before after body packet p e ok (i, d, lt, f, g) =
    let bad : None ≡ Some p = sym f ∙ e in absurd cc
bytes_in_body SimplePacket most order before after body packet p e ok (i, v, at, is, f, g) =
    let same : p ≡ simple_packet_on i v = same_packet p (simple_packet_on i v) (sym e ∙ f) in
    subst (λ (q : PacketValue). IsBytes q.packet) (sym same)
    (subst IsBytes is.packet (IsBytes-part 4 (4 + length v.packet) body ok))
bytes_in_body (EnhancedPacket n) most order before after body packet p e ok (i, v, o, is, at, has, f, g) =
    let same : p ≡ packet_on order i v o = same_packet p (packet_on order i v o) (sym e ∙ f) in
    subst (λ (q : PacketValue). IsBytes q.packet) (sym same)
    (subst IsBytes is.packet (IsBytes-part 20 (20 + length v.packet) body ok))
bytes_in_body Other most order before after body packet p e ok (f, g) = let bad : None ≡ Some p = sym f ∙ e in absurd cc

bytes_if : (bytes : List ℕ) (x y : CaptureExpectation) (len : ℕ) (packet : Option PacketValue) (p : PacketValue)
    → packet ≡ Some p → IsBytes bytes → Begins bytes x len packet y → IsBytes p.packet
bytes_if bytes x y len packet p e ok (file_record h r is) =
    let same : p ≡ packet_of_record h r = same_packet p (packet_of_record h r) (sym e) in
    subst (λ (q : PacketValue). IsBytes q.packet) (sym same)
    (subst IsBytes is.packet (IsBytes-part 16 (16 + length r.packet) bytes ok))
bytes_if bytes x y len packet p e ok (block m order interfaces after q b other begins is) =
    bytes_in_body (kind_of_block b.block_type) m order interfaces after b.body q p e
    (subst IsBytes begins.body (IsBytes-part 8 (8 + length b.body) bytes ok)) is
bytes_if bytes x y len packet p e ok h = absurd cc

pub packet_bytes : (bytes : List ℕ) (x y : CaptureExpectation) (len : ℕ) (p : PacketValue) → IsBytes bytes
    → Begins bytes x len (Some p) y → IsBytes p.packet
packet_bytes bytes x y len p ok begins = bytes_if bytes x y len (Some p) p refl ok begins

-- ---- a block whose packet is edited

module _ (most : ℕ) (order : Order) (interfaces : List CaptureInterfaceValue) (u : List ℕ) (p : PacketValue)
    (begins : Begins u (Blocks most order interfaces) (length u) (Some p) (Blocks most order interfaces)) where
  abbrev Is : BlockKind → List ℕ → Type 0
  Is kind body = IsBody kind most order interfaces body (Some p) interfaces

  unit_body : (kind : BlockKind) → kind_of_block (field order u 0 4) ≡ kind
      → Is kind (slice_range u 8 (length u - 4))
  unit_body kind is = grind (arith, block_of_unit, length, body_of_unit)

  -- an enhanced packet, or an obsolete packet block
  pub enhanced_edited : (number_len : ℕ) (e : EditedValue) (new : Option (List ℕ))
      → kind_of_block (field order u 0 4) ≡ EnhancedPacket number_len
      → ((k : ℕ) (v : EnhancedPacketValue) → IsTotalLen (length u)
      → IsEnhancedPacket k order (slice_range u 8 (length u - 4)) v
      → new ≡ edited_block (EnhancedPacket k) order (length v.packet) e u)
      → new ≡ unit_with (Blocks most order interfaces) (length p.packet) e u
  enhanced_edited number_len e new kind edits = grind (arith, block_of_unit, length, unit_body, same_packet)

  -- .. no other block is edited
  pub other_edited : (e : EditedValue) → (field order u 0 4 ≡ 2 → ⊥) → (field order u 0 4 ≡ 6 → ⊥)
      → None ≡ unit_with (Blocks most order interfaces) (length p.packet) e u
  other_edited e two six =
      elim (type_of (field order u 0 4)) [
        | is_interface is ↦ none InterfaceDescription (ap kind_of_block is) refl
        | is_obsolete is ↦ absurd (two is)
        | is_simple is ↦ none SimplePacket (ap kind_of_block is) refl
        | is_enhanced is ↦ absurd (six is)
        | is_other is ↦ none Other is refl
      ]
    where
      none : (kind : BlockKind) → kind_of_block (field order u 0 4) ≡ kind
          → None ≡ edited_block kind order (length p.packet) e u
          → None ≡ unit_with (Blocks most order interfaces) (length p.packet) e u
      none kind is e_none = e_none ∙ ap (λ (z : BlockKind). edited_block z order (length p.packet) e u) (sym is)
