-- The packets of a capture file that is under way, in an array.
use Rattle.std.proofs.Common.{◌≡◌, ℕ, ◌+◌, List, [], ◌∷◌, ◌++◌, length, set, false, refl, sym, ap, ◌∙◌, arith, rules}
use Rattle.std.specs.Prelude.{Option, Some, None, Result, Ok, Err}
use Rattle.std.proofs.Math.Seq.{take-nil}
use Rattle.std.proofs.lemmas.List.{append_assoc, append-nil, length-append}
use Rattle.ether_pcap.specs.Capture.{PacketValue, Beginning, CaptureRefusal, HasPackets}
use Rattle.ether_pcap.specs.CaptureReading.{CaptureState, max_interfaces, start, GivesNextPacket, CaptureGives}
use Rattle.ether_pcap.specs.CaptureViews.{captured_packet_view, capture_refusal_view}
use Rattle.ether_pcap.specs.declared.capture.captured_packet.CapturedPacket.{CapturedPacket}
use Rattle.ether_pcap.specs.declared.capture.capture_fault.CaptureFault.{CaptureFault}
use Rattle.ether_pcap.proofs.CaptureSome.{some_packets}
use Rattle.ether_c.specs.declared.ether_captured.EtherCaptured.{EtherCaptured}
use Rattle.ether_c.specs.Captured.{HoldsPacket, HoldPackets, HasCaptured}
use Rattle.ether_c.proofs.UnitsGiven.{Holds, put_next}
use Rattle.ether_c.proofs.EachPut.{fit-append, fit-length}

-- ---- what comes next

abbrev Returns : (result returned : Option (Result CapturedPacket CaptureFault)) → Type 0
Returns result returned = result ≡ returned

pub record PacketNext (todo : List PacketValue) (left : List ℕ) (fault : Option CaptureRefusal) (t : CaptureState)
    (q : CapturedPacket) : Type 0 where
  pub later : List PacketValue
  pub parts : todo ≡ captured_packet_view q ∷ later
  pub has : HasPackets t.expected t.rest later left fault
  pub going : t.over ≡ false

packet_next : (todo : List PacketValue) (left : List ℕ) (fault : Option CaptureRefusal) (s t : CaptureState)
    (q : CapturedPacket) → GivesNextPacket todo left fault s (Some (Ok q)) t
    → PacketNext todo left fault t q
packet_next [] left None s t q g = let none = g.0 in absurd cc
packet_next [] left (Some r) s t q g = let given = g.1 in absurd cc
packet_next (p ∷ ps) left fault s t q g = search rules

pub record FaultNext (todo : List PacketValue) (left : List ℕ) (fault : Option CaptureRefusal) (t : CaptureState)
    (f : CaptureFault) : Type 0 where
  pub none_left : todo ≡ []
  pub refusal : fault ≡ Some (capture_refusal_view f.error)
  pub place : f.offset ≡ t.offset
  pub rest : t.rest ≡ left

fault_next : (todo : List PacketValue) (left : List ℕ) (fault : Option CaptureRefusal) (s t : CaptureState)
    (f : CaptureFault) → GivesNextPacket todo left fault s (Some (Err f)) t
    → FaultNext todo left fault t f
fault_next [] left None s t f g = let none = g.0 in absurd cc
fault_next [] left (Some r) s t f g = search rules
fault_next (p ∷ ps) left fault s t f g = let given : Returns (Some (Err f)) (Some (Ok g.0)) = assumption g in absurd cc

pub record NoneNext (todo : List PacketValue) (fault : Option CaptureRefusal) : Type 0 where
  pub none_left : todo ≡ []
  pub no_fault : fault ≡ None

none_next : (todo : List PacketValue) (left : List ℕ) (fault : Option CaptureRefusal) (s t : CaptureState)
    → GivesNextPacket todo left fault s None t → NoneNext todo fault
none_next [] left None s t g = record { none_left = refl; no_fault = refl }
none_next [] left (Some r) s t g = let given = g.1 in absurd cc
none_next (p ∷ ps) left fault s t g = let given : Returns None (Some (Ok g.0)) = assumption g in absurd cc

-- ---- a file that is under way

pub record CapturedSoFar (file : List ℕ) (s : CaptureState) (count : ℕ) (old new : List EtherCaptured) : Type 0 where
  pub packets : List PacketValue
  pub left : List ℕ
  pub fault : Option CaptureRefusal
  pub has : HasPackets (Beginning max_interfaces) file packets left fault
  pub todo : List PacketValue
  pub rest : HasPackets s.expected s.rest todo left fault
  pub going : s.over ≡ false
  pub place : s.offset + length s.rest ≡ length file
  pub before : List PacketValue
  pub parts : packets ≡ before ++ todo
  pub given : List EtherCaptured
  pub are : HoldPackets given before
  pub counted : count ≡ length given
  pub held : Holds given old new count

pub captured_first : (file : List ℕ) (old : List EtherCaptured) → CapturedSoFar file (start file) 0 old old
captured_first file old =
    let c = some_packets (Beginning max_interfaces) file in
    record {
      packets = c.packets;
      left = c.rest;
      fault = c.fault;
      has = c.has;
      todo = c.packets;
      rest = c.has;
      going = refl;
      place = omega arith;
      before = [];
      parts = refl;
      given = [];
      are = tt;
      counted = refl;
      held = ap (λ (l : List EtherCaptured). l ++ old) (sym (take-nil (length old)));
    }

pub captured_packet : (file : List ℕ) (s t : CaptureState) (q : CapturedPacket) (count : ℕ)
    (old mid new : List EtherCaptured) (c : EtherCaptured) → CapturedSoFar file s count old mid
    → CaptureGives s (Some (Ok q)) t → HoldsPacket c (captured_packet_view q) → new ≡ set mid count c
    → CapturedSoFar file t (count + 1) old new
captured_packet file s t q count old mid new c a gives is put =
    let n = packet_next a.todo a.left a.fault s t q (gives.next a.going a.todo a.left a.fault a.rest) in
    let p = captured_packet_view q in
    let counted = a.counted in
    record {
      packets = a.packets;
      left = a.left;
      fault = a.fault;
      has = a.has;
      todo = n.later;
      rest = n.has;
      going = n.going;
      place = gives.place a.going ∙ a.place;
      before = a.before ++ p ∷ [];
      parts = a.parts ∙ ap (λ (l : List PacketValue). a.before ++ l) n.parts
          ∙ sym (append_assoc a.before (p ∷ []) n.later);
      given = a.given ++ c ∷ [];
      are = fit-append HoldsPacket a.given a.before c p a.are is;
      counted = let e = length-append a.given (c ∷ []) in omega arith;
      held = put ∙ put_next a.given old mid c count a.counted a.held;
    }

-- ---- the end

all_given : (file : List ℕ) (s : CaptureState) (count : ℕ) (old new : List EtherCaptured)
    (a : CapturedSoFar file s count old new) → a.todo ≡ [] → a.packets ≡ a.before
all_given file s count old new a none = search (rules, append-nil)

pub captured_fault : (file : List ℕ) (s t : CaptureState) (f : CaptureFault) (count : ℕ) (old new : List EtherCaptured)
    → CapturedSoFar file s count old new
    → CaptureGives s (Some (Err f)) t → HasCaptured file old new count (Some f)
captured_fault file s t f count old new a gives = search (rules, all_given, fit-length)

pub captured_none : (file : List ℕ) (s t : CaptureState) (count : ℕ) (old new : List EtherCaptured)
    → CapturedSoFar file s count old new
    → CaptureGives s None t → HasCaptured file old new count None
captured_none file s t count old new a gives = search (rules, none_next, all_given, fit-length)
