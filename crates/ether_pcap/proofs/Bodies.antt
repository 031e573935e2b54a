-- Bodies and section headers: one for each list of bytes, or one refusal.
use Rattle.std.proofs.Common.{◌≡◌, ℕ, ◌+◌, List, length, refl, sym, ap, ◌∙◌, arith, rules}
use Rattle.ether_pcap.specs.Numbers.{Order}
use Rattle.ether_pcap.specs.Bodies.{BodyRefusal, InterfaceValue, IsInterface, RefusesInterface, interface, EnhancedPacketValue, IsEnhancedPacket, RefusesEnhancedPacket, enhanced, enhanced_too_long, enhanced_packet, SimplePacketValue, IsSimplePacket, RefusesSimplePacket, simple, simple_too_long, simple_packet, Short, TooLong}

-- ---- interface descriptions

pub interface_one : (order : Order) (body : List ℕ) (v w : InterfaceValue) → IsInterface order body v
    → IsInterface order body w → v ≡ w
interface_one order body v w h k = search rules

pub interface_apart : (order : Order) (body : List ℕ) (v : InterfaceValue) (r : BodyRefusal) → IsInterface order body v
    → RefusesInterface body r → ⊥
interface_apart order body v r h (interface lt) = omega (arith, h.len, lt)

pub interface_refused : (body : List ℕ) (r s : BodyRefusal) → RefusesInterface body r → RefusesInterface body s → r ≡ s
interface_refused body r s (interface lt) (interface m) = refl

-- ---- enhanced packets

pub enhanced_one : (number_len : ℕ) (order : Order) (body : List ℕ) (v w : EnhancedPacketValue)
    → IsEnhancedPacket number_len order body v → IsEnhancedPacket number_len order body w → v ≡ w
enhanced_one number_len order body v w h k = search rules

pub enhanced_apart : (number_len : ℕ) (order : Order) (body : List ℕ) (v : EnhancedPacketValue) (r : BodyRefusal)
    → IsEnhancedPacket number_len order body v → RefusesEnhancedPacket order body r → ⊥
enhanced_apart number_len order body v r h (enhanced lt) = omega (arith, h.whole, lt)
enhanced_apart number_len order body v r h (enhanced_too_long le lt) = omega (arith, h.room, h.captured_len, lt)
enhanced_apart number_len order body v r h (enhanced_packet le small lt) = omega (arith, h.whole, h.captured_len, lt)

pub enhanced_refused : (order : Order) (body : List ℕ) (r s : BodyRefusal) → RefusesEnhancedPacket order body r
    → RefusesEnhancedPacket order body s → r ≡ s
enhanced_refused order body r s (enhanced lt) (enhanced_too_long le m) = absurd (omega (arith, lt, le))
enhanced_refused order body r s (enhanced lt) (enhanced_packet le small m) = absurd (omega (arith, lt, le))
enhanced_refused order body r s (enhanced_too_long le lt) (enhanced m) = absurd (omega (arith, le, m))
enhanced_refused order body r s (enhanced_too_long le lt) (enhanced_packet le2 small m) =
    absurd (omega (arith, lt, small))
enhanced_refused order body r s (enhanced_packet le small lt) (enhanced m) = absurd (omega (arith, le, m))
enhanced_refused order body r s (enhanced_packet le small lt) (enhanced_too_long le2 m) =
    absurd (omega (arith, small, m))
enhanced_refused order body r s h k = refl

-- ---- simple packets

pub simple_one : (order : Order) (snap_len : ℕ) (body : List ℕ) (v w : SimplePacketValue)
    → IsSimplePacket order snap_len body v → IsSimplePacket order snap_len body w → v ≡ w
simple_one order snap_len body v w h k = search rules

pub simple_apart : (order : Order) (snap_len : ℕ) (body : List ℕ) (v : SimplePacketValue) (r : BodyRefusal)
    → IsSimplePacket order snap_len body v → RefusesSimplePacket order snap_len body r → ⊥
simple_apart order snap_len body v r h (simple lt) = omega (arith, h.whole, lt)
simple_apart order snap_len body v r h (simple_too_long n le is lt) =
    let e : n ≡ length v.packet = sym is ∙ h.captured_len in omega (arith, h.room, e, lt)
simple_apart order snap_len body v r h (simple_packet n le is small lt) =
    let e : n ≡ length v.packet = sym is ∙ h.captured_len in omega (arith, h.whole, e, lt)

pub simple_refused : (order : Order) (snap_len : ℕ) (body : List ℕ) (r s : BodyRefusal)
    → RefusesSimplePacket order snap_len body r → RefusesSimplePacket order snap_len body s → r ≡ s
simple_refused order snap_len body r s (simple lt) (simple m) = refl
simple_refused order snap_len body r s (simple lt) (simple_too_long n le is m) = absurd (omega (arith, lt, le))
simple_refused order snap_len body r s (simple lt) (simple_packet n le is small m) = absurd (omega (arith, lt, le))
simple_refused order snap_len body r s (simple_too_long n le is lt) (simple m) = absurd (omega (arith, le, m))
simple_refused order snap_len body r s (simple_too_long n le is lt) (simple_too_long o le2 is2 m) =
    ap TooLong (sym is ∙ is2)
simple_refused order snap_len body r s (simple_too_long n le is lt) (simple_packet o le2 is2 small m) =
    let e : n ≡ o = sym is ∙ is2 in absurd (omega (arith, lt, small, e))
simple_refused order snap_len body r s (simple_packet n le is small lt) (simple m) = absurd (omega (arith, le, m))
simple_refused order snap_len body r s (simple_packet n le is small lt) (simple_too_long o le2 is2 m) =
    let e : n ≡ o = sym is ∙ is2 in absurd (omega (arith, small, m, e))
simple_refused order snap_len body r s (simple_packet n le is small lt) (simple_packet o le2 is2 small2 m) =
    ap (λ (k : ℕ). Short (4 + k) (length body)) (sym is ∙ is2)
