-- What a copy of a capture file has.
use Rattle.std.proofs.Common.{◌≡◌, ◌≢◌, ◌⊎◌, ℕ, zero, suc, ◌+◌, ◌<◌, ◌≤◌, Bool, true, false, List, [], ◌∷◌, ◌++◌, length, drop, length-drop, append_assoc, refl, sym, subst, arith, inl, inr, Some, None, rules}
use Rattle.std.specs.Prelude.{Option, IsTrue, All, take, ⊤}
use Rattle.std.proofs.lemmas.List.{length-take-le, take-append-drop, drop_at}
use Rattle.std.proofs.lemmas.List.Elements.{All-cons, All-head, All-tail}
use Rattle.ether_pcap.specs.Capture.{PacketValue, IsWithinSnap, CaptureExpectation, CaptureRefusal, HasBegun, Begins, RefusesCapture, IsEnd, HasPackets}
use Rattle.ether_pcap.specs.Capture as packets
use Rattle.ether_pcap.specs.Editing.{EditedValue}
use Rattle.ether_pcap.specs.CopiedUnits.{ModeValue, Exact, Changed, expected_in, other_unit, unit_after, packet_after}
use Rattle.ether_pcap.specs.Copies.{CopyFault, Refused, NotEdited, Copies, ended, refused, not_edited, unit, keeps, leaves, none, one_kept, one_left, AreEdited, none_edited, one_edited, EditsNone, EditsWithin, EditsOnce, IsRead, HasPacketsTo, HasSource, IsNotEdited, Copy}
use Rattle.ether_pcap.proofs.CaptureLengths.{unit_within, unit_some}
use Rattle.ether_pcap.proofs.CaptureLocality.{unit_local, unit_alone}
use Rattle.ether_pcap.proofs.CaptureSome.{at_end, some_unit, some_packets}
use Rattle.ether_pcap.proofs.CopiedUnits.{unit_in_copy, some_in_copy, packet_in_copy, why_not_copied, raised_within}
use Rattle.ether_base.specs.Bytes.{IsBytes}
use Rattle.ether_base.proofs.SubLists.{IsBytes-drop}
use Rattle.ether_pcap.proofs.PacketUnits.{same_after, begun, begun_before, packet_room, packet_bytes}

-- ---- units

-- a unit needs its own bytes alone
unit_taken : (bytes : List ℕ) (x y : CaptureExpectation) (len : ℕ) (p : Option PacketValue) → Begins bytes x len p y
    → Begins (take len bytes) x len p y × (length (take len bytes) ≡ len)
unit_taken bytes x y len p begins =
    let front = take len bytes in
    let long : length front ≡ len = length-take-le len bytes (unit_within bytes x y len p begins) in
    let whole = subst (λ (l : List ℕ). Begins l x len p y) (sym (take-append-drop len bytes)) begins in
    (unit_alone front (drop len bytes) x y len p (omega (arith, long)) whole, long)

-- a unit without a packet, by its own bytes
pub other_taken : (bytes : List ℕ) (x y : CaptureExpectation) (len : ℕ) → Begins bytes x len None y
    → Begins (take len bytes) x (length (take len bytes)) None y
other_taken bytes x y len begins = search (rules, unit_taken)

-- the unit of a packet, by its own bytes
pub packet_taken : (bytes : List ℕ) (x y : CaptureExpectation) (len : ℕ) (p : PacketValue)
    → Begins bytes x len (Some p) y
    → Begins (take len bytes) x (length (take len bytes)) (Some p) x
packet_taken bytes x y len p begins = search (rules, unit_taken, same_after)

-- a packet that is copied
pub packet_copied : (mode : ModeValue) (bytes front copy : List ℕ) (x y : CaptureExpectation) (len : ℕ)
    (p : PacketValue)
    (o : Option EditedValue)
    → Begins bytes x len (Some p) y → unit_after mode x p o (take len bytes) ≡ Some front
    → Begins (front ++ copy) (expected_in mode x) (length front) (Some (packet_after mode p o)) (expected_in mode y)
packet_copied mode bytes front copy x y len p o begins is =
    search (rules, packet_taken, same_after, unit_local, packet_in_copy)

-- ---- all packets up to what is left

to_unit : (x y : CaptureExpectation) (bytes : List ℕ) (len : ℕ) (ps : List PacketValue) (rest : List ℕ)
    (fault : Option CopyFault)
    → Begins bytes x len None y → HasPacketsTo y (drop len bytes) ps rest fault → HasPacketsTo x bytes ps rest fault
to_unit x y bytes len ps rest None begins has = packets.unit x y bytes len ps rest None begins has
to_unit x y bytes len ps rest (Some (Refused r)) begins has = packets.unit x y bytes len ps rest (Some r) begins has
to_unit x y bytes len ps rest (Some (NotEdited q)) begins (more, left, fault, has) =
    (more, left, fault, packets.unit x y bytes len (ps ++ q ∷ more) left fault begins has)

to_packet : (x y : CaptureExpectation) (bytes : List ℕ) (len : ℕ) (p : PacketValue) (ps : List PacketValue)
    (rest : List ℕ)
    (fault : Option CopyFault)
    → Begins bytes x len (Some p) y → HasPacketsTo y (drop len bytes) ps rest fault
    → HasPacketsTo x bytes (p ∷ ps) rest fault
to_packet x y bytes len p ps rest None begins has = packets.packet x y bytes len p ps rest None begins has
to_packet x y bytes len p ps rest (Some (Refused r)) begins has =
    packets.packet x y bytes len p ps rest (Some r) begins has
to_packet x y bytes len p ps rest (Some (NotEdited q)) begins (more, left, fault, has) =
    (more, left, fault, packets.packet x y bytes len p (ps ++ q ∷ more) left fault begins has)

to_not_edited : (x y : CaptureExpectation) (bytes : List ℕ) (len : ℕ) (p : PacketValue) → Begins bytes x len (Some p) y
    → HasPacketsTo x bytes [] bytes (Some (NotEdited p))
to_not_edited x y bytes len p begins =
    let s = some_packets y (drop len bytes) in
    (s.packets, s.rest, s.fault, packets.packet x y bytes len p s.packets s.rest s.fault begins s.has)

-- ---- what a copy is read as

module _ (mode : ModeValue) (Keeps : PacketValue → Type 0) (Edits : PacketValue → Option EditedValue → Type 0) where
  -- a unit that is copied, before what follows it in the copy
  unit_read : (x y : CaptureExpectation) (bytes others : List ℕ) (len : ℕ) (packets : List PacketValue)
      → Begins bytes x len None y → HasPackets (expected_in mode y) others packets [] None
      → HasPackets (expected_in mode x) (other_unit mode y (take len bytes) ++ others) packets [] None
  unit_read x y bytes others len ps begins has =
      let unit = other_unit mode y (take len bytes) in
      elim (unit_in_copy mode (take len bytes) x y (other_taken bytes x y len begins)) [
        | inl left ↦
            subst (λ (l : List ℕ). HasPackets (expected_in mode x) (l ++ others) ps [] None) (sym left.0)
            (subst (λ (z : CaptureExpectation). HasPackets (expected_in mode z) others ps [] None) left.1 has)
        | inr is ↦
            packets.unit (expected_in mode x) (expected_in mode y) (unit ++ others) (length unit) ps [] None
            (unit_local unit others (expected_in mode x) (expected_in mode y) (length unit) None is)
            (subst (λ (l : List ℕ). HasPackets (expected_in mode y) l ps [] None)
            (sym (drop_at unit others (length unit) refl)) has)
      ]

  -- what has begun, has begun in the copy
  begun_in : (m : ModeValue) (x : CaptureExpectation) → HasBegun x → HasBegun (expected_in m x)
  begun_in Exact x is = is
  begun_in (Changed raise) (packets.Beginning most) is = is
  begun_in (Changed raise) (packets.Records h) is = tt
  begun_in (Changed raise) (packets.Blocks most order interfaces) is = tt

  pub copy_read : (x : CaptureExpectation) (bytes copy : List ℕ) (kept edited : List PacketValue) (rest : List ℕ)
      (fault : Option CopyFault) → Copies mode Keeps Edits x bytes copy kept edited rest fault
      → IsRead mode x copy edited
  copy_read x bytes copy kept edited rest fault (ended _ _ end) some =
      packets.ended (expected_in mode x) [] (begun_in mode x end.0, refl)
  copy_read x bytes copy kept edited rest fault (refused _ _ r more is) (inl later) =
      packets.ended (expected_in mode x) [] (begun_in mode x later, refl)
  copy_read x bytes copy kept edited rest fault (refused _ _ r more is) (inr some) = absurd (some refl)
  copy_read x bytes copy kept edited rest fault (not_edited _ y _ len p o begins is edits no_front) some =
      packets.ended (expected_in mode x) [] (begun_in mode x (begun_before bytes x y len p begins), refl)
  copy_read x bytes copy kept edited rest fault (unit _ y _ others len _ _ _ _ begins copies) some =
      unit_read x y bytes others len edited begins
      (copy_read y (drop len bytes) others kept edited rest fault copies (inl (begun bytes x y len None begins)))
  copy_read x bytes copy kept edited rest fault (keeps _ y _ front others len p o ps qs _ _ begins is edits fits copies)
      some =
      packets.packet (expected_in mode x) (expected_in mode y) (front ++ others) (length front) (packet_after mode p o)
      qs [] None
      (packet_copied mode bytes front others x y len p o begins fits)
      (subst (λ (l : List ℕ). HasPackets (expected_in mode y) l qs [] None)
      (sym (drop_at front others (length front) refl))
      (copy_read y (drop len bytes) others ps qs rest fault copies (inl (begun bytes x y len (Some p) begins))))
  copy_read x bytes copy kept edited rest fault (leaves _ y _ _ len p _ _ _ _ begins not_kept copies) some =
      subst (λ (z : CaptureExpectation). HasPackets (expected_in mode z) copy edited [] None)
      (same_after bytes x y len p begins)
      (copy_read y (drop len bytes) copy kept edited rest fault copies (inl (begun bytes x y len (Some p) begins)))

  pub copy_edits : (x : CaptureExpectation) (bytes copy : List ℕ) (kept edited : List PacketValue) (rest : List ℕ)
      (fault : Option CopyFault) → Copies mode Keeps Edits x bytes copy kept edited rest fault
      → AreEdited mode Edits kept edited
  copy_edits x bytes copy kept edited rest fault (ended _ _ end) = none_edited
  copy_edits x bytes copy kept edited rest fault (refused _ _ r more is) = none_edited
  copy_edits x bytes copy kept edited rest fault (not_edited _ y _ len p o begins is edits no_front) = none_edited
  copy_edits x bytes copy kept edited rest fault (unit _ y _ others len _ _ _ _ begins copies) =
      copy_edits y (drop len bytes) others kept edited rest fault copies
  copy_edits x bytes copy kept edited rest fault
      (keeps _ y _ front others len p o ps qs _ _ begins is edits fits copies) =
      one_edited p o ps qs edits (copy_edits y (drop len bytes) others ps qs rest fault copies)
  copy_edits x bytes copy kept edited rest fault (leaves _ y _ _ len p _ _ _ _ begins not_kept copies) =
      copy_edits y (drop len bytes) copy kept edited rest fault copies

  pub copy_source : (x : CaptureExpectation) (bytes copy : List ℕ) (kept edited : List PacketValue) (rest : List ℕ)
      (fault : Option CopyFault)
      → Copies mode Keeps Edits x bytes copy kept edited rest fault → HasSource Keeps x bytes kept rest fault
  copy_source x bytes copy kept edited rest fault (ended _ _ end) =
      record { packets = []; has = packets.ended x bytes end; selected = none }
  copy_source x bytes copy kept edited rest fault (refused _ _ r more is) =
      record { packets = []; has = packets.refused x bytes r more is; selected = none }
  copy_source x bytes copy kept edited rest fault (not_edited _ y _ len p o begins is edits no_front) =
      record { packets = []; has = to_not_edited x y bytes len p begins; selected = none }
  copy_source x bytes copy kept edited rest fault (unit _ y _ others len _ _ _ _ begins copies) =
      let s = copy_source y (drop len bytes) others kept edited rest fault copies in
      record {
        packets = s.packets;
        has = to_unit x y bytes len s.packets rest fault begins s.has;
        selected = s.selected;
      }
  copy_source x bytes copy kept edited rest fault
      (keeps _ y _ front others len p o ps qs _ _ begins is edits fits copies) =
      let s = copy_source y (drop len bytes) others ps qs rest fault copies in
      record {
        packets = p ∷ s.packets;
        has = to_packet x y bytes len p s.packets rest fault begins s.has;
        selected = one_kept p s.packets ps is s.selected;
      }
  copy_source x bytes copy kept edited rest fault (leaves _ y _ _ len p _ _ _ _ begins not_kept copies) =
      let s = copy_source y (drop len bytes) copy kept edited rest fault copies in
      record {
        packets = p ∷ s.packets;
        has = to_packet x y bytes len p s.packets rest fault begins s.has;
        selected = one_left p s.packets kept not_kept s.selected;
      }

  -- if nothing of a file is copied, nothing of it was read, for a fault
  pub copy_nothing : (x : CaptureExpectation) (bytes copy : List ℕ) (kept edited : List PacketValue) (rest : List ℕ)
      (fault : Option CopyFault)
      → Copies mode Keeps Edits x bytes copy kept edited rest fault → ¬ (HasBegun x) → copy ≡ []
      → (kept ≡ []) × (rest ≡ bytes) × (fault ≢ None)
  copy_nothing x bytes copy kept edited rest fault (ended _ _ end) first empty = absurd (first end.0)
  copy_nothing x bytes copy kept edited rest fault (refused _ _ r more is) first empty = (refl, refl, λ e. absurd cc)
  copy_nothing x bytes copy kept edited rest fault (not_edited _ y _ len p o begins is edits no_front) first empty =
      (refl, refl, λ e. absurd cc)
  copy_nothing x bytes copy kept edited rest fault (unit _ y _ others len _ _ _ _ begins copies) first empty =
      let front = other_unit mode y (take len bytes) in
      absurd (some_in_copy mode (take len bytes) x y (other_taken bytes x y len begins) first
      (no_front front others empty))
    where
      no_front : (l m : List ℕ) → l ++ m ≡ [] → l ≡ []
      no_front [] m e = refl
      no_front (b ∷ l) m e = absurd cc
  copy_nothing x bytes copy kept edited rest fault
      (keeps _ y _ front others len p o ps qs _ _ begins is edits fits copies) first empty =
      absurd (first (begun_before bytes x y len p begins))
  copy_nothing x bytes copy kept edited rest fault (leaves _ y _ _ len p _ _ _ _ begins not_kept copies) first empty =
      absurd (first (begun_before bytes x y len p begins))

  -- where a packet can't be edited
  stopped_at : (x : CaptureExpectation) (bytes copy : List ℕ) (kept edited : List PacketValue) (rest : List ℕ)
      (fault : Option CopyFault) (q : PacketValue)
      → Copies mode Keeps Edits x bytes copy kept edited rest fault → fault ≡ Some (NotEdited q)
      → IsNotEdited mode Keeps Edits rest q
  stopped_at x bytes copy kept edited rest fault q (ended _ _ end) e = absurd cc
  stopped_at x bytes copy kept edited rest fault q (refused _ _ r more is) e = absurd cc
  stopped_at x bytes copy kept edited rest fault q (not_edited _ y _ len p o begins is edits no_front) e =
      search (rules, same_after, why_not_copied, packet_taken)
  stopped_at x bytes copy kept edited rest fault q (unit _ y _ others len _ _ _ _ begins copies) e =
      stopped_at y (drop len bytes) others kept edited rest fault q copies e
  stopped_at x bytes copy kept edited rest fault q
      (keeps _ y _ front others len p o ps qs _ _ begins is edits fits copies) e =
      stopped_at y (drop len bytes) others ps qs rest fault q copies e
  stopped_at x bytes copy kept edited rest fault q (leaves _ y _ _ len p _ _ _ _ begins not_kept copies) e =
      stopped_at y (drop len bytes) copy kept edited rest fault q copies e

  pub copy_stopped : (x : CaptureExpectation) (bytes copy : List ℕ) (kept edited : List PacketValue) (rest : List ℕ)
      (p : PacketValue)
      → Copies mode Keeps Edits x bytes copy kept edited rest (Some (NotEdited p)) → IsNotEdited mode Keeps Edits rest p
  copy_stopped x bytes copy kept edited rest p copies =
      stopped_at x bytes copy kept edited rest (Some (NotEdited p)) p copies refl

-- ---- snap lengths

module _ (raise : ℕ) (Keeps : PacketValue → Type 0) (Edits : PacketValue → Option EditedValue → Type 0) where
  packet_within : (p : PacketValue) (o : Option EditedValue)
      → ((e : EditedValue) → o ≡ Some e → length e.packet ≤ length p.packet + raise)
      → length (packet_after (Changed raise) p o).packet ≤ 262144 → IsWithinSnap p
      → IsWithinSnap (packet_after (Changed raise) p o)
  packet_within p None few room is =
      raised_within raise p (packet_after (Changed raise) p None) is refl (omega arith) room
  packet_within p (Some e) few room is =
      raised_within raise p (packet_after (Changed raise) p (Some e)) is refl (few e refl) room

  pub copy_within : (x : CaptureExpectation) (bytes copy : List ℕ) (kept edited : List PacketValue) (rest : List ℕ)
      (fault : Option CopyFault) → Copies (Changed raise) Keeps Edits x bytes copy kept edited rest fault
      → EditsWithin raise Edits → All IsWithinSnap kept → All IsWithinSnap edited
  copy_within x bytes copy kept edited rest fault (ended _ _ end) few all = all
  copy_within x bytes copy kept edited rest fault (refused _ _ r more is) few all = all
  copy_within x bytes copy kept edited rest fault (not_edited _ y _ len p o begins is edits no_front) few all = all
  copy_within x bytes copy kept edited rest fault (unit _ y _ others len _ _ _ _ begins copies) few all =
      copy_within y (drop len bytes) others kept edited rest fault copies few all
  copy_within x bytes copy kept edited rest fault
      (keeps _ y _ front others len p o ps qs _ _ begins is edits fits copies) few all =
      let q = packet_after (Changed raise) p o in
      let here =
      packet_in_copy (Changed raise) x (take len bytes) front p o (packet_taken bytes x y len p begins) fits in
      let room = packet_room (expected_in (Changed raise) x) front q here in
      All-cons IsWithinSnap q qs
      (packet_within p o (λ e same. few p e (subst (Edits p) same edits)) room (All-head IsWithinSnap p ps all))
      (copy_within y (drop len bytes) others ps qs rest fault copies few (All-tail IsWithinSnap p ps all))
  copy_within x bytes copy kept edited rest fault (leaves _ y _ _ len p _ _ _ _ begins not_kept copies) few all =
      copy_within y (drop len bytes) copy kept edited rest fault copies few all

-- ---- an exact copy in which no packet is edited

module _ (Edits : PacketValue → Option EditedValue → Type 0) (stays : EditsNone Edits) where
  pub all_unedited : (kept edited : List PacketValue) → AreEdited Exact Edits kept edited → edited ≡ kept
  all_unedited _ _ none_edited = refl
  all_unedited _ _ (one_edited p o kept edited edits are) =
      let more = all_unedited kept edited are in
      search rules

  -- a unit stays
  unit_unedited : (x : CaptureExpectation) (p : PacketValue) (o : Option EditedValue) (bytes front : List ℕ) → Edits p o
      → unit_after Exact x p o bytes ≡ Some front → bytes ≡ front
  unit_unedited x p o bytes front edits fits = search rules

  joined : (bytes copy rest : List ℕ) (len : ℕ) → copy ++ rest ≡ drop len bytes
      → take len bytes ++ copy ++ rest ≡ bytes
  joined bytes copy rest len e = search (rules, append_assoc, take-append-drop)

  -- with all packets, it is the file itself
  pub copy_all : (x : CaptureExpectation) (bytes copy : List ℕ) (kept edited : List PacketValue) (rest : List ℕ)
      (fault : Option CopyFault) → Copies Exact (λ p. ⊤) Edits x bytes copy kept edited rest fault → copy ++ rest
      ≡ bytes
  copy_all x bytes copy kept edited rest fault (ended _ _ end) = sym end.1
  copy_all x bytes copy kept edited rest fault (refused _ _ r more is) = refl
  copy_all x bytes copy kept edited rest fault (not_edited _ y _ len p o begins is edits no_front) = refl
  copy_all x bytes copy kept edited rest fault (unit _ y _ others len _ _ _ _ begins copies) =
      joined bytes others rest len (copy_all y (drop len bytes) others kept edited rest fault copies)
  copy_all x bytes copy kept edited rest fault (keeps _ y _ front others len p o ps qs _ _ begins is edits fits copies)
      =
      let more = copy_all y (drop len bytes) others ps qs rest fault copies in
      search (rules, unit_unedited, joined)
  copy_all x bytes copy kept edited rest fault (leaves _ y _ _ len p _ _ _ _ begins not_kept copies) =
      absurd (not_kept tt)

-- ---- any bytes have one copy

decided : (b : Bool) → IsTrue b ⊎ ¬ (IsTrue b)
decided true = inl refl
decided false = inr (λ e. absurd cc)

module _ (mode : ModeValue) (test : PacketValue → Bool) (edits : PacketValue → Option EditedValue → Bool)
    (once : EditsOnce (λ p o. IsTrue (edits p o))) where
  abbrev CopyOf : CaptureExpectation → List ℕ → Type 0
  CopyOf = Copy mode test edits

  -- a packet that is kept
  goes_on_kept : (x y : CaptureExpectation) (bytes : List ℕ) (len : ℕ) (p : PacketValue) (o : Option EditedValue)
      (front : Option (List ℕ))
      → Begins bytes x len (Some p) y → IsTrue (test p) → IsTrue (edits p o)
      → unit_after mode x p o (take len bytes) ≡ front
      → CopyOf y (drop len bytes) → CopyOf x bytes
  goes_on_kept x y bytes len p o None begins is holds fits c = record {
    copy = [];
    kept = [];
    edited = [];
    rest = bytes;
    fault = Some (NotEdited p);
    copies = not_edited x y bytes len p o begins is holds fits;
  }
  goes_on_kept x y bytes len p o (Some front) begins is holds fits c = record {
    copy = front ++ c.copy;
    kept = p ∷ c.kept;
    edited = packet_after mode p o ∷ c.edited;
    rest = c.rest;
    fault = c.fault;
    copies = keeps x y bytes front c.copy len p o c.kept c.edited c.rest c.fault begins is holds fits c.copies;
  }

  goes_on : (x y : CaptureExpectation) (bytes : List ℕ) (len : ℕ) (p : Option PacketValue) → IsBytes bytes
      → Begins bytes x len p y → CopyOf y (drop len bytes) → CopyOf x bytes
  goes_on x y bytes len None ok begins c = record {
    copy = other_unit mode y (take len bytes) ++ c.copy;
    kept = c.kept;
    edited = c.edited;
    rest = c.rest;
    fault = c.fault;
    copies = unit x y bytes c.copy len c.kept c.edited c.rest c.fault begins c.copies;
  }
  goes_on x y bytes len (Some p) ok begins c =
      let found = once.some p (packet_bytes bytes x y len p ok begins) in
      elim (decided (test p)) [
        | inl is ↦
            goes_on_kept x y bytes len p found.0 (unit_after mode x p found.0 (take len bytes)) begins is found.1 refl c
        | inr not_kept ↦ record {
          copy = c.copy;
          kept = c.kept;
          edited = c.edited;
          rest = c.rest;
          fault = c.fault;
          copies = leaves x y bytes c.copy len p c.kept c.edited c.rest c.fault begins not_kept c.copies;
        }
      ]

  step : (x : CaptureExpectation) (bytes : List ℕ) → IsBytes bytes
      → ((y : CaptureExpectation) (len : ℕ) → 0 < len → len ≤ length bytes → CopyOf y (drop len bytes))
      → CopyOf x bytes
  step x bytes ok more =
      elim (at_end x bytes) [
        | inl end ↦ record { copy = []; kept = []; edited = []; rest = []; fault = None; copies = ended x bytes end }
        | inr some ↦ elim (some_unit x bytes) [
          | inr r ↦
              record {
                copy = [];
                kept = [];
                edited = [];
                rest = bytes;
                fault = Some (Refused r.0);
                copies = refused x bytes r.0 some r.1;
              }
          | inl u ↦
              goes_on x u.2 bytes u.0 u.1 ok u.3
              (more u.2 u.0 (unit_some bytes x u.2 u.0 u.1 u.3) (unit_within bytes x u.2 u.0 u.1 u.3))
        ]
      ]

  within : (fuel : ℕ) (x : CaptureExpectation) (bytes : List ℕ) → IsBytes bytes → length bytes ≤ fuel → CopyOf x bytes
  within zero x bytes ok le = step x bytes ok (λ y len some small. absurd (omega arith))
  within (suc fuel) x bytes ok le =
      step x bytes ok
      (λ y len some small.
      within fuel y (drop len bytes) (IsBytes-drop len bytes ok)
      (let l = length-drop len bytes in omega (arith, l, le, some, small)))

pub some_copy : (mode : ModeValue) (test : PacketValue → Bool) (edits : PacketValue → Option EditedValue → Bool)
    (x : CaptureExpectation) (bytes : List ℕ)
    → IsBytes bytes → EditsOnce (λ p o. IsTrue (edits p o)) → Copy mode test edits x bytes
some_copy mode test edits x bytes ok once = within mode test edits once (length bytes) x bytes ok (omega arith)
