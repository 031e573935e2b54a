-- The packets that are left to read, as further units are read.
use Rattle.std.proofs.Common.{◌≡◌, ℕ, ◌+◌, List, [], ◌∷◌, length, drop, Option, Some, None, true, false, refl, sym, ap, subst, ◌∙◌, arith, rules}
use Rattle.std.proofs.lemmas.List.{drop-drop}
use Rattle.std.specs.Prelude.{Result, Ok, Err}
use Rattle.ether_base.specs.Bytes.{IsBytes}
use Rattle.ether_pcap.specs.Capture.{PacketValue, CaptureExpectation, CaptureRefusal, Begins, RefusesCapture, IsEnd, HasPackets, refused, unit, packet}
use Rattle.ether_pcap.specs.CaptureReading.{CaptureState, FirstPacket, here, later, GivesNextPacket, CaptureGives}
use Rattle.ether_pcap.specs.CaptureViews.{captured_packet_view, capture_refusal_view}
use Rattle.ether_pcap.specs.declared.capture.captured_packet.CapturedPacket.{CapturedPacket}
use Rattle.ether_pcap.specs.declared.capture.capture_fault.CaptureFault.{CaptureFault}
use Rattle.ether_pcap.proofs.PacketsOne.{packets_one}
use Rattle.ether_pcap.proofs.CaptureSome.{some_packets}

-- after a unit that is no packet the same are left
pub after_unit : (x y : CaptureExpectation) (bytes : List ℕ) (len : ℕ) (packets : List PacketValue) (left : List ℕ)
    (fault : Option CaptureRefusal)
    → IsBytes bytes
    → Begins bytes x len None y → HasPackets x bytes packets left fault
    → HasPackets y (drop len bytes) packets left fault
after_unit x y bytes len packets left fault ok begins has =
    let c = some_packets y (drop len bytes) in
    let same =
    packets_one x bytes packets c.packets left c.rest fault c.fault ok has
    (unit x y bytes len c.packets c.rest c.fault begins c.has) in
    subst (λ (ps : List PacketValue). HasPackets y (drop len bytes) ps left fault) (sym same.0)
    (subst (λ (l : List ℕ). HasPackets y (drop len bytes) c.packets l fault) (sym same.1)
    (subst (λ (f : Option CaptureRefusal). HasPackets y (drop len bytes) c.packets c.rest f) (sym same.2) c.has))

-- Units that are no packet were passed over: a packet that is the first from here on is the first from before them.
pub record Passed (x : CaptureExpectation) (bytes : List ℕ) (y : CaptureExpectation) (rest : List ℕ) : Type 0 where
  pub len : ℕ
  pub rest_is : rest ≡ drop len bytes
  pub first : (p : PacketValue) (more : ℕ) (z : CaptureExpectation) → FirstPacket y rest p more z
      → FirstPacket x bytes p (len + more) z

pub passed_unit : (x y z : CaptureExpectation) (bytes rest next : List ℕ) (len : ℕ) → Passed x bytes y rest
    → Begins rest y len None z → next ≡ drop len rest
    → Passed x bytes z next
passed_unit x y z bytes rest next len before begins is = record {
  len = before.len + len;
  rest_is = is ∙ ap (drop len) before.rest_is ∙ drop-drop len before.len bytes;
  first = λ p more w first.
      subst (λ (n : ℕ). FirstPacket x bytes p n w) (omega arith)
      (before.first p (len + more) w
      (later y z w rest p len more begins (subst (λ (l : List ℕ). FirstPacket z l p more w) is first)));
}

-- a packet is the first of those that were left
pub gives_packet : (s t : CaptureState) (bytes : List ℕ) (len : ℕ) (x : CaptureExpectation) (q : CapturedPacket)
    (packets : List PacketValue) (left : List ℕ)
    (fault : Option CaptureRefusal) → IsBytes bytes → Passed s.expected s.rest x bytes
    → Begins bytes x len (Some (captured_packet_view q)) t.expected
    → t.rest ≡ drop len bytes → t.over ≡ false → HasPackets x bytes packets left fault
    → GivesNextPacket packets left fault s (Some (Ok q)) t
gives_packet s t bytes len x q packets left fault ok passed begins rest over has =
    let c = some_packets t.expected (drop len bytes) in
    let p = captured_packet_view q in
    let same =
    packets_one x bytes packets (p ∷ c.packets) left c.rest fault c.fault ok has
    (packet x t.expected bytes len p c.packets c.rest c.fault begins c.has) in
    subst (λ (ps : List PacketValue). GivesNextPacket ps left fault s (Some (Ok q)) t) (sym same.0) (
      q,
      passed.len + len,
      refl,
      refl,
      passed.first p len t.expected (here x t.expected bytes p len begins),
      rest ∙ ap (drop len) passed.rest_is ∙ drop-drop len passed.len s.rest,
      subst (λ (l : List ℕ). HasPackets t.expected l c.packets left fault) (sym rest)
          (subst (λ (l : List ℕ). HasPackets t.expected (drop len bytes) c.packets l fault) (sym same.1)
          (subst (λ (f : Option CaptureRefusal). HasPackets t.expected (drop len bytes) c.packets c.rest f) (sym same.2)
          c.has)),
      over,
    )

-- at the end nothing is left
pub gives_none : (s t : CaptureState) (packets : List PacketValue) (left : List ℕ) (fault : Option CaptureRefusal)
    → IsBytes t.rest → IsEnd t.expected t.rest → t.over ≡ false
    → HasPackets t.expected t.rest packets left fault → GivesNextPacket packets left fault s None t
gives_none s t packets left fault ok end over has = search rules

-- a refusal is what is left
pub gives_fault : (s t : CaptureState) (f : CaptureFault) (packets : List PacketValue) (left : List ℕ)
    (fault : Option CaptureRefusal)
    → IsBytes t.rest → (IsEnd t.expected t.rest → ⊥)
    → RefusesCapture t.rest t.expected (capture_refusal_view f.error) → f.offset ≡ t.offset → t.over ≡ true
    → HasPackets t.expected t.rest packets left fault → GivesNextPacket packets left fault s (Some (Err f)) t
gives_fault s t f packets left fault ok goes_on is place over has =
    let r = capture_refusal_view f.error in
    let same =
    packets_one t.expected t.rest packets [] left t.rest fault (Some r) ok has
    (refused t.expected t.rest r goes_on is) in
    subst (λ (ps : List PacketValue). GivesNextPacket ps left fault s (Some (Err f)) t) (sym same.0)
    (subst (λ (o : Option CaptureRefusal). GivesNextPacket [] left o s (Some (Err f)) t) (sym same.2)
    (f, refl, refl, place, sym same.1, over))

-- a call of next that is not the last
pub gives : (s t : CaptureState) (r : Option (Result CapturedPacket CaptureFault)) → s.over ≡ false
    → ((packets : List PacketValue) (left : List ℕ) (fault : Option CaptureRefusal)
    → HasPackets s.expected s.rest packets left fault → GivesNextPacket packets left fault s r t)
    → t.offset + length t.rest ≡ s.offset + length s.rest → CaptureGives s r t
gives s t r fresh next place = search rules
