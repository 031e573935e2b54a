-- What a unit is, after it and why there is none: one for each list of bytes and each expectation.
use Rattle.std.proofs.Common.{◌≡◌, ℕ, ◌+◌, ◌<◌, List, [], ◌∷◌, ◌++◌, length, length-append, refl, sym, ap, subst, ◌∙◌, arith, Some, rules}
use Rattle.std.specs.Prelude.{Option, slice_get}
use Rattle.ether_base.specs.Bytes.{IsBytes}
use Rattle.ether_pcap.specs.Numbers.{Order}
use Rattle.ether_pcap.specs.Block.{BlockValue}
use Rattle.ether_pcap.specs.Options.{OptionValue, HasOptions}
use Rattle.ether_pcap.specs.Bodies.{EnhancedPacketValue, SimplePacketValue, IsSimplePacket, RefusesSimplePacket}
use Rattle.ether_pcap.specs.Capture.{PacketValue, CaptureInterfaceValue, Describes, IsAt, packet_on, simple_packet_on, CaptureExpectation, Records, Blocks, BlockKind, InterfaceDescription, SimplePacket, EnhancedPacket, Other, kind_of_block, IsBody, CaptureRefusal, File, Record, Section, Block, Body, NoInterface, RefusesBody, interface, too_many, simple_alone, simple, enhanced, enhanced_alone, Begins, file_header, file_record, first_section, section, block, RefusesCapture, file_header_refused, file_record_refused, first_section_refused, section_refused, block_refused, body_refused}
use Rattle.ether_pcap.proofs.FileHeaders.{one_header, apart, refused_once}
use Rattle.ether_pcap.proofs.Records.{record_apart, refusal_one}
use Rattle.ether_pcap.proofs.Blocks.{block_one, block_apart, block_refusal_one}
use Rattle.ether_pcap.proofs.Sections as sections
use Rattle.ether_pcap.proofs.Options.{same_options}
use Rattle.ether_pcap.proofs.Bodies.{interface_one, interface_apart, interface_refused, enhanced_one, enhanced_apart, enhanced_refused, simple_one, simple_apart, simple_refused}

-- ---- interfaces

get_middle : (before after : List CaptureInterfaceValue) (i : CaptureInterfaceValue)
    → slice_get (before ++ i ∷ after) (length before) ≡ Some i
get_middle [] after i = refl
get_middle (x ∷ before) after i = get_middle before after i

get_at : (l : List CaptureInterfaceValue) (n : ℕ) (i : CaptureInterfaceValue) → IsAt l n i → slice_get l n ≡ Some i
get_at l n i at = search (rules, get_middle)

pub at_one : (l : List CaptureInterfaceValue) (n : ℕ) (i j : CaptureInterfaceValue) → IsAt l n i → IsAt l n j → i ≡ j
at_one l n i j a b = let e = get_at l n i a in let f = get_at l n j b in cc

pub at_within : (l : List CaptureInterfaceValue) (n : ℕ) (i : CaptureInterfaceValue) → IsAt l n i → n < length l
at_within l n i at = search (rules, length-append)

described_one : (order : Order) (body : List ℕ) (v w : CaptureInterfaceValue) → Describes order body v
    → Describes order body w → v ≡ w
described_one order body v w d e = search (rules, interface_one, same_options)

-- ---- bodies

simple_packet_of : CaptureInterfaceValue → SimplePacketValue → Option PacketValue
simple_packet_of i p = Some (simple_packet_on i p)

enhanced_packet_of : Order → CaptureInterfaceValue → EnhancedPacketValue → List OptionValue → Option PacketValue
enhanced_packet_of order i p options = Some (packet_on order i p options)

body_one : (kind : BlockKind) (most : ℕ) (order : Order) (before : List CaptureInterfaceValue) (body : List ℕ)
    (p q : Option PacketValue) (after others : List CaptureInterfaceValue)
    → IsBody kind most order before body p after → IsBody kind most order before body q others
    → (p ≡ q) × (after ≡ others)
unfolding simple_packet_of enhanced_packet_of
body_one InterfaceDescription most order before body p q after others (i, d, lt, e, f) (j, d2, lt2, e2, f2) =
    let s = described_one order body i j d d2 in
    (e ∙ sym e2, f ∙ ap (λ (k : CaptureInterfaceValue). before ++ k ∷ []) s ∙ sym f2)
body_one SimplePacket most order before body p q after others (i, v, at, is, e, f) (j, w, at2, is2, e2, f2) =
    let s = at_one before 0 i j at at2 in
    let m : IsSimplePacket order i.snap_len body w =
    subst (λ (k : CaptureInterfaceValue). IsSimplePacket order k.snap_len body w) (sym s) is2 in
    let o = simple_one order i.snap_len body v w is m in
    let r : simple_packet_of i v ≡ simple_packet_of j w = λ k. simple_packet_of (s k) (o k) in
    (e ∙ r ∙ sym e2, f ∙ sym f2)
body_one (EnhancedPacket n) most order before body p q after others (i, v, l, is, at, has, e, f)
    (j, w, m, is2, at2, has2, e2, f2) =
    let o = enhanced_one n order body v w is is2 in
    let at3 : IsAt before v.interface j = subst (λ (k : EnhancedPacketValue). IsAt before k.interface j) (sym o) at2 in
    let has3 : HasOptions order v.options m =
    subst (λ (k : EnhancedPacketValue). HasOptions order k.options m) (sym o) has2 in
    let s = at_one before v.interface i j at at3 in
    let t = same_options order v.options l m has has3 in
    let r : enhanced_packet_of order i v l ≡ enhanced_packet_of order j w m =
    λ k. enhanced_packet_of order (s k) (o k) (t k) in
    (e ∙ r ∙ sym e2, f ∙ sym f2)
body_one Other most order before body p q after others (e, f) (e2, f2) = (e ∙ sym e2, f ∙ sym f2)

body_apart : (kind : BlockKind) (most : ℕ) (order : Order) (before : List CaptureInterfaceValue) (body : List ℕ)
    (p : Option PacketValue) (after : List CaptureInterfaceValue) (r : CaptureRefusal)
    → RefusesBody most order before body kind r → IsBody kind most order before body p after → ⊥
body_apart kind most order before body p after r (interface s refused) (i, d, lt, e, f) =
    interface_apart order body d.interface s d.is_interface refused
body_apart kind most order before body p after r (too_many j d2 full) (i, d, lt, e, f) = omega (arith, lt, full)
body_apart kind most order before body p after r (simple_alone none) (i, v, at, is, e, f) =
    omega (arith, at_within before 0 i at, none)
body_apart kind most order before body p after r (simple j s at2 refused) (i, v, at, is, e, f) =
    let m = at_one before 0 i j at at2 in
    simple_apart order i.snap_len body v s is
    (subst (λ (k : CaptureInterfaceValue). RefusesSimplePacket order k.snap_len body s) (sym m) refused)
body_apart kind most order before body p after r (enhanced n s refused) (i, v, l, is, at, has, e, f) =
    enhanced_apart n order body v s is refused
body_apart kind most order before body p after r (enhanced_alone m w is2 none) (i, v, l, is, at, has, e, f) =
    let n = ap (λ (k : EnhancedPacketValue). k.interface) (enhanced_one m order body v w is is2) in
    omega (arith, at_within before v.interface i at, none, n)

body_refusal_one : (kind : BlockKind) (most : ℕ) (order : Order) (before : List CaptureInterfaceValue) (body : List ℕ)
    (r s : CaptureRefusal)
    → RefusesBody most order before body kind r → RefusesBody most order before body kind s → r ≡ s
body_refusal_one kind most order before body r s (interface a refused) (interface b refused2) =
    ap Body (interface_refused body a b refused refused2)
body_refusal_one kind most order before body r s (interface a refused) (too_many i d full) =
    absurd (interface_apart order body d.interface a d.is_interface refused)
body_refusal_one kind most order before body r s (too_many i d full) (interface a refused) =
    absurd (interface_apart order body d.interface a d.is_interface refused)
body_refusal_one kind most order before body r s (simple_alone none) (simple i a at refused) =
    absurd (omega (arith, at_within before 0 i at, none))
body_refusal_one kind most order before body r s (simple i a at refused) (simple_alone none) =
    absurd (omega (arith, at_within before 0 i at, none))
body_refusal_one kind most order before body r s (simple i a at refused) (simple j b at2 refused2) =
    let m = at_one before 0 i j at at2 in
    ap Body
    (simple_refused order i.snap_len body a b refused
    (subst (λ (k : CaptureInterfaceValue). RefusesSimplePacket order k.snap_len body b) (sym m) refused2))
body_refusal_one kind most order before body r s (enhanced n a refused) (enhanced n2 b refused2) =
    ap Body (enhanced_refused order body a b refused refused2)
body_refusal_one kind most order before body r s (enhanced n a refused) (enhanced_alone n2 v is none) =
    absurd (enhanced_apart n order body v a is refused)
body_refusal_one kind most order before body r s (enhanced_alone n v is none) (enhanced n2 a refused) =
    absurd (enhanced_apart n order body v a is refused)
body_refusal_one kind most order before body r s (enhanced_alone n v is none) (enhanced_alone n2 w is2 none2) =
    ap (λ (k : EnhancedPacketValue). NoInterface k.interface) (enhanced_one n order body v w is is2)
body_refusal_one kind most order before body r s h k = refl

-- ---- units

pub unit_one : (bytes : List ℕ) (x y z : CaptureExpectation) (len n : ℕ) (p q : Option PacketValue) → IsBytes bytes
    → Begins bytes x len p y → Begins bytes x n q z → (len ≡ n) × (p ≡ q) × (y ≡ z)
unit_one bytes x y z len n p q ok (file_header m h other is) (file_header m2 k other2 is2) =
    (refl, refl, ap Records (one_header bytes h k ok is is2))
unit_one bytes x y z len n p q ok (file_header m h other is) (first_section m2 order b is2) = absurd (other is2.section)
unit_one bytes x y z len n p q ok (file_record h r is) (file_record k s is2) = search rules
unit_one bytes x y z len n p q ok (first_section m order b is) (file_header m2 h other is2) = absurd (other is.section)
unit_one bytes x y z len n p q ok (first_section m order b is) (first_section m2 order2 c is2) =
    search (rules, sections.section_one)
unit_one bytes x y z len n p q ok (section m order next interfaces b is) (section m2 order2 next2 interfaces2 c is2) =
    search (rules, sections.section_one)
unit_one bytes x y z len n p q ok (section m order next interfaces b is)
    (block m2 order2 interfaces2 after packet c other begins is2) =
    absurd (other is.section)
unit_one bytes x y z len n p q ok (block m order interfaces after packet b other begins is)
    (section m2 order2 next interfaces2 c is2) =
    absurd (other is2.section)
unit_one bytes x y z len n p q ok (block m order interfaces after packet b other begins is)
    (block m2 order2 interfaces2 after2 packet2 c other2 begins2 is2) =
    let e = block_one order bytes b c begins begins2 in
    let same : IsBody (kind_of_block b.block_type) m order interfaces b.body packet2 after2 =
    subst (λ (v : BlockValue). IsBody (kind_of_block v.block_type) m order interfaces v.body packet2 after2)
    (sym e) is2 in
    let both = body_one (kind_of_block b.block_type) m order interfaces b.body packet packet2 after after2 is same in
    (ap (λ (v : BlockValue). 12 + length v.body) e, both.0, ap (Blocks m order) both.1)

pub unit_apart : (bytes : List ℕ) (x y : CaptureExpectation) (len : ℕ) (p : Option PacketValue) (r : CaptureRefusal)
    → IsBytes bytes → Begins bytes x len p y → RefusesCapture bytes x r → ⊥
unit_apart bytes x y len p r ok (file_header m h other is) (file_header_refused m2 s other2 refused) =
    apart bytes h s ok is refused
unit_apart bytes x y len p r ok (file_header m h other is) (first_section_refused m2 s has refused) = other has
unit_apart bytes x y len p r ok (file_record h v is) (file_record_refused k s refused) =
    record_apart h.order bytes v s is refused
unit_apart bytes x y len p r ok (first_section m order b is) (file_header_refused m2 s other refused) = other is.section
unit_apart bytes x y len p r ok (first_section m order b is) (first_section_refused m2 s has refused) =
    sections.section_apart bytes order b s ok is refused
unit_apart bytes x y len p r ok (section m order next interfaces b is)
    (section_refused m2 order2 interfaces2 s has refused) =
    sections.section_apart bytes next b s ok is refused
unit_apart bytes x y len p r ok (section m order next interfaces b is)
    (block_refused m2 order2 interfaces2 s other refused) =
    other is.section
unit_apart bytes x y len p r ok (section m order next interfaces b is)
    (body_refused m2 order2 interfaces2 c s other begins refused) =
    other is.section
unit_apart bytes x y len p r ok (block m order interfaces after packet b other begins is)
    (section_refused m2 order2 interfaces2 s has refused) =
    other has
unit_apart bytes x y len p r ok (block m order interfaces after packet b other begins is)
    (block_refused m2 order2 interfaces2 s other2 refused) = block_apart order bytes b s begins refused
unit_apart bytes x y len p r ok (block m order interfaces after packet b other begins is)
    (body_refused m2 order2 interfaces2 c s other2 begins2 refused) =
    let e = block_one order bytes b c begins begins2 in
    body_apart (kind_of_block b.block_type) m order interfaces b.body packet after s
    (subst (λ (v : BlockValue). RefusesBody m order interfaces v.body (kind_of_block v.block_type) s) (sym e) refused)
    is

pub unit_refusal_one : (bytes : List ℕ) (x : CaptureExpectation) (r s : CaptureRefusal) → IsBytes bytes
    → RefusesCapture bytes x r
    → RefusesCapture bytes x s → r ≡ s
unit_refusal_one bytes x r s ok (file_header_refused m a other refused) (file_header_refused m2 b other2 refused2) =
    ap File (refused_once bytes a b ok refused refused2)
unit_refusal_one bytes x r s ok (file_header_refused m a other refused) (first_section_refused m2 b has refused2) =
    absurd (other has)
unit_refusal_one bytes x r s ok (file_record_refused h a refused) (file_record_refused k b refused2) =
    ap Record (refusal_one h.order bytes a b refused refused2)
unit_refusal_one bytes x r s ok (first_section_refused m a has refused) (file_header_refused m2 b other refused2) =
    absurd (other has)
unit_refusal_one bytes x r s ok (first_section_refused m a has refused) (first_section_refused m2 b has2 refused2) =
    ap Section (sections.section_refused bytes a b ok refused refused2)
unit_refusal_one bytes x r s ok (section_refused m order interfaces a has refused)
    (section_refused m2 order2 interfaces2 b has2 refused2) =
    ap Section (sections.section_refused bytes a b ok refused refused2)
unit_refusal_one bytes x r s ok (section_refused m order interfaces a has refused)
    (block_refused m2 order2 interfaces2 b other refused2) =
    absurd (other has)
unit_refusal_one bytes x r s ok (section_refused m order interfaces a has refused)
    (body_refused m2 order2 interfaces2 c b other begins refused2) = absurd (other has)
unit_refusal_one bytes x r s ok (block_refused m order interfaces a other refused)
    (section_refused m2 order2 interfaces2 b has refused2) =
    absurd (other has)
unit_refusal_one bytes x r s ok (block_refused m order interfaces a other refused)
    (block_refused m2 order2 interfaces2 b other2 refused2) =
    ap Block (block_refusal_one order bytes a b refused refused2)
unit_refusal_one bytes x r s ok (block_refused m order interfaces a other refused)
    (body_refused m2 order2 interfaces2 c b other2 begins refused2) =
    absurd (block_apart order bytes c a begins refused)
unit_refusal_one bytes x r s ok (body_refused m order interfaces c a other begins refused)
    (section_refused m2 order2 interfaces2 b has refused2) = absurd (other has)
unit_refusal_one bytes x r s ok (body_refused m order interfaces c a other begins refused)
    (block_refused m2 order2 interfaces2 b other2 refused2) = absurd (block_apart order bytes c b begins refused2)
unit_refusal_one bytes x r s ok (body_refused m order interfaces c a other begins refused)
    (body_refused m2 order2 interfaces2 d b other2 begins2 refused2) =
    let e = block_one order bytes c d begins begins2 in
    body_refusal_one (kind_of_block c.block_type) m order interfaces c.body r s refused
    (subst (λ (v : BlockValue). RefusesBody m order interfaces v.body (kind_of_block v.block_type) s) (sym e) refused2)
