-- The packets of a file: one list of them, however it is read.
use Rattle.std.proofs.Common.{◌≡◌, ℕ, List, ◌∷◌, drop, refl, ap, Some, None, rules}
use Rattle.std.specs.Prelude.{Option}
use Rattle.ether_base.specs.Bytes.{IsBytes}
use Rattle.ether_base.proofs.SubLists.{IsBytes-drop}
use Rattle.ether_pcap.specs.Capture.{PacketValue, CaptureExpectation, CaptureRefusal, Begins, IsEnd, HasPackets, ended, refused, unit, packet}
use Rattle.ether_pcap.proofs.CapturesOne.{unit_one, unit_apart, unit_refusal_one}

-- no unit at the end
pub none_at_end : (x y : CaptureExpectation) (bytes : List ℕ) (len : ℕ) (p : Option PacketValue) → IsEnd x bytes
    → Begins bytes x len p y → ⊥
none_at_end x y bytes len p end begins = search rules

-- what follows a unit, after another that is the same
after_same : (y z : CaptureExpectation) (bytes : List ℕ) (len n : ℕ) (packets : List PacketValue) (rest : List ℕ)
    (fault : Option CaptureRefusal)
    → len ≡ n → y ≡ z
    → HasPackets z (drop n bytes) packets rest fault → HasPackets y (drop len bytes) packets rest fault
after_same y z bytes len n packets rest fault e f has = search rules

pub packets_one : (x : CaptureExpectation) (bytes : List ℕ) (packets others : List PacketValue) (rest left : List ℕ)
    (fault other : Option CaptureRefusal)
    → IsBytes bytes
    → HasPackets x bytes packets rest fault → HasPackets x bytes others left other
    → (packets ≡ others) × (rest ≡ left) × (fault ≡ other)
packets_one x bytes packets others rest left fault other ok (ended _ _ end) (ended _ _ end2) = (refl, refl, refl)
packets_one x bytes packets others rest left fault other ok (ended _ _ end) (refused _ _ r goes_on is) =
    absurd (goes_on end)
packets_one x bytes packets others rest left fault other ok (ended _ _ end) (unit _ y _ len _ _ _ begins has) =
    absurd (none_at_end x y bytes len None end begins)
packets_one x bytes packets others rest left fault other ok (ended _ _ end) (packet _ y _ len p _ _ _ begins has) =
    absurd (none_at_end x y bytes len (Some p) end begins)
packets_one x bytes packets others rest left fault other ok (refused _ _ r goes_on is) (ended _ _ end) =
    absurd (goes_on end)
packets_one x bytes packets others rest left fault other ok (refused _ _ r goes_on is) (refused _ _ s goes_on2 is2) =
    (refl, refl, ap Some (unit_refusal_one bytes x r s ok is is2))
packets_one x bytes packets others rest left fault other ok (refused _ _ r goes_on is)
    (unit _ y _ len _ _ _ begins has) =
    absurd (unit_apart bytes x y len None r ok begins is)
packets_one x bytes packets others rest left fault other ok (refused _ _ r goes_on is)
    (packet _ y _ len p _ _ _ begins has) =
    absurd (unit_apart bytes x y len (Some p) r ok begins is)
packets_one x bytes packets others rest left fault other ok (unit _ y _ len _ _ _ begins has) (ended _ _ end) =
    absurd (none_at_end x y bytes len None end begins)
packets_one x bytes packets others rest left fault other ok (unit _ y _ len _ _ _ begins has)
    (refused _ _ r goes_on is) =
    absurd (unit_apart bytes x y len None r ok begins is)
packets_one x bytes packets others rest left fault other ok (unit _ y _ len _ _ _ begins has)
    (unit _ z _ n _ _ _ begins2 has2) =
    let e = unit_one bytes x y z len n None None ok begins begins2 in
    packets_one y (drop len bytes) packets others rest left fault other (IsBytes-drop len bytes ok) has
    (after_same y z bytes len n others left other e.0 e.2 has2)
packets_one x bytes packets others rest left fault other ok (unit _ y _ len _ _ _ begins has)
    (packet _ z _ n q _ _ _ begins2 has2) =
    let e = unit_one bytes x y z len n None (Some q) ok begins begins2 in
    let f = e.1 in
    absurd cc
packets_one x bytes packets others rest left fault other ok (packet _ y _ len p _ _ _ begins has) (ended _ _ end) =
    absurd (none_at_end x y bytes len (Some p) end begins)
packets_one x bytes packets others rest left fault other ok (packet _ y _ len p _ _ _ begins has)
    (refused _ _ r goes_on is) =
    absurd (unit_apart bytes x y len (Some p) r ok begins is)
packets_one x bytes packets others rest left fault other ok (packet _ y _ len p _ _ _ begins has)
    (unit _ z _ n _ _ _ begins2 has2) =
    let e = unit_one bytes x y z len n (Some p) None ok begins begins2 in
    let f = e.1 in
    absurd cc
packets_one x bytes packets others rest left fault other ok (packet _ y _ len p ps _ _ begins has)
    (packet _ z _ n q qs _ _ begins2 has2) =
    let e = unit_one bytes x y z len n (Some p) (Some q) ok begins begins2 in
    let s : p ≡ q = cc in
    let m =
    packets_one y (drop len bytes) ps qs rest left fault other (IsBytes-drop len bytes ok) has
    (after_same y z bytes len n qs left other e.0 e.2 has2) in
    (let t = m.0 in λ i. s i ∷ t i, m.1, m.2)
