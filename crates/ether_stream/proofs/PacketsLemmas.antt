-- The packets of a capture, as further units are read.
use Rattle.std.proofs.Common.{◌≡◌, ℕ, ◌≤◌, List, [], ◌∷◌, ◌++◌, length, take, drop, Option, Some, None, refl, sym, subst, arith, append_assoc, append-nil, rules}
use Rattle.std.proofs.lemmas.List.{drop-append-le, drop_all, take-append-drop, length-take-le}
use Rattle.ether_pcap.specs.Capture.{PacketValue, CaptureExpectation, HasBegun, CaptureRefusal, Begins, RefusesCapture, IsEnd, HasPackets, ended, refused, unit, packet}
use Rattle.ether_pcap.proofs.CaptureLocality.{unit_local, unit_alone}
use Rattle.ether_stream.specs.Packets.{capture_start, GoesOn}

-- a unit that was read is a unit whatever follows it
pub unit_front : (buffered later : List ℕ) (x y : CaptureExpectation) (len : ℕ) (p : Option PacketValue)
    → len ≤ length buffered
    → Begins buffered x len p y → Begins (take len buffered ++ later) x len p y
unit_front buffered later x y len p within begins =
    let front = take len buffered in
    let long : length front ≡ len = length-take-le len buffered within in
    let whole = subst (λ (l : List ℕ). Begins l x len p y) (sym (take-append-drop len buffered)) begins in
    unit_local front later x y len p (unit_alone front (drop len buffered) x y len p (omega (arith, long)) whole)

-- .. after which that is left
pub after_front : (buffered later : List ℕ) (len : ℕ) → len ≤ length buffered
    → drop len (take len buffered ++ later) ≡ later
after_front buffered later len within = search (rules, length-take-le, drop-append-le, drop_all)

-- nothing is read
pub GoesOn-start : GoesOn [] [] capture_start
GoesOn-start later others rest fault h = h

-- a unit that is no packet is read
pub GoesOn-unit : (front : List ℕ) (packets : List PacketValue) (x y : CaptureExpectation) (buffered : List ℕ) (len : ℕ)
    → len ≤ length buffered → Begins buffered x len None y
    → GoesOn front packets x → GoesOn (front ++ take len buffered) packets y
GoesOn-unit front packets x y buffered len within is go later others rest fault h =
    let own = take len buffered in
    subst (λ (l : List ℕ). HasPackets capture_start l (packets ++ others) rest fault)
    (sym (append_assoc front own later))
    (go (own ++ later) others rest fault
    (unit x y (own ++ later) len others rest fault (unit_front buffered later x y len None within is)
    (subst (λ (l : List ℕ). HasPackets y l others rest fault) (sym (after_front buffered later len within)) h)))

-- a packet is read
pub GoesOn-packet : (front : List ℕ) (packets : List PacketValue) (p : PacketValue) (x y : CaptureExpectation)
    (buffered : List ℕ) (len : ℕ)
    → len ≤ length buffered → Begins buffered x len (Some p) y
    → GoesOn front packets x → GoesOn (front ++ take len buffered) (packets ++ p ∷ []) y
GoesOn-packet front packets p x y buffered len within is go later others rest fault h =
    let own = take len buffered in
    subst (λ (l : List PacketValue). HasPackets capture_start ((front ++ own) ++ later) l rest fault)
    (sym (append_assoc packets (p ∷ []) others))
    (subst (λ (l : List ℕ). HasPackets capture_start l (packets ++ p ∷ others) rest fault)
    (sym (append_assoc front own later))
    (go (own ++ later) (p ∷ others) rest fault
    (packet x y (own ++ later) len p others rest fault (unit_front buffered later x y len (Some p) within is)
    (subst (λ (l : List ℕ). HasPackets y l others rest fault) (sym (after_front buffered later len within)) h))))

-- the end of a capture that has begun
pub GoesOn-ended : (front : List ℕ) (packets : List PacketValue) (x : CaptureExpectation) → HasBegun x
    → GoesOn front packets x → HasPackets capture_start front packets [] None
GoesOn-ended front packets x begun go =
    subst (λ (l : List ℕ). HasPackets capture_start l packets [] None) (append-nil front)
    (subst (λ (l : List PacketValue). HasPackets capture_start (front ++ []) l [] None) (append-nil packets)
    (go [] [] [] None (ended x [] (begun, refl))))

-- a refusal of all that is left
pub GoesOn-refused : (front : List ℕ) (packets : List PacketValue) (x : CaptureExpectation) (left : List ℕ)
    (r : CaptureRefusal)
    → ¬ (IsEnd x left) → RefusesCapture left x r → GoesOn front packets x
    → HasPackets capture_start (front ++ left) packets left (Some r)
GoesOn-refused front packets x left r more is go =
    subst (λ (l : List PacketValue). HasPackets capture_start (front ++ left) l left (Some r)) (append-nil packets)
    (go left [] left (Some r) (refused x left r more is))
