-- Copies of a capture, as further units are read.
use Rattle.std.proofs.Common.{◌≡◌, ◌≢◌, ◌⊎◌, ℕ, ◌≤◌, List, [], ◌∷◌, ◌++◌, length, take, drop, Option, Some, None, refl, sym, ap, subst, ◌∙◌, arith, append_assoc, append-nil, inl, inr, zero, suc, rules}
use Rattle.std.proofs.lemmas.List.{take-append-le, take_all, length-take-le}
use Rattle.ether_stream.specs.declared.selection.Selection.{Selection}
use Rattle.ether_pcap.specs.Capture.{PacketValue, CaptureExpectation, HasBegun, CaptureRefusal, Begins, RefusesCapture, IsEnd, HasPackets}
use Rattle.ether_pcap.specs.Editing.{EditedValue}
use Rattle.ether_pcap.specs.CopiedUnits.{ModeValue, Exact, Changed, expected_in, other_unit, unit_after, packet_after}
use Rattle.ether_pcap.specs.Writing.{zeros}
use Rattle.std.specs.Prelude.{⊤}
use Rattle.ether_pcap.specs.Copies.{CopyFault, Refused, NotEdited, Copies, ended, refused, not_edited, unit, keeps, leaves, EditsNone, EditsWithin}
use Rattle.ether_pcap.proofs.CaptureLocality.{unit_local}
use Rattle.ether_pcap.proofs.CaptureSome.{at_end}
use Rattle.ether_pcap.proofs.Copies.{copy_read, copy_edits, copy_source, copy_nothing, copy_within, copy_all}
use Rattle.ether_content.specs.Editing.{EditValue}
use Rattle.ether_content.proofs.Growth.{edits_grow}
use Rattle.ether_stream.specs.Copying.{EditsIf, IsCopy, CopiesOn, growth_if}
use Rattle.ether_stream.specs.Packets.{capture_start}
use Rattle.ether_stream.specs.Task.{IsChosen}
use Rattle.ether_stream.proofs.PacketsLemmas.{unit_front, after_front}

-- a unit is the front of what is left with it
own_front : (buffered later : List ℕ) (len : ℕ) → len ≤ length buffered
    → take len (take len buffered ++ later) ≡ take len buffered
own_front buffered later len within = search (rules, length-take-le, take-append-le, take_all)

-- no packet is edited, if no edit is asked for
none_edited : (asked : Option EditValue) → asked ≡ None → EditsNone (EditsIf asked)
none_edited None none p o is = is
none_edited (Some e) none p o is = absurd cc

-- a packet grows by no more than its edit lets it
edits_within : (raise : ℕ) (asked : Option EditValue) → growth_if asked ≤ raise → EditsWithin raise (EditsIf asked)
edits_within raise None few p e is = absurd cc
edits_within raise (Some edit) few p e is = omega (arith, few, edits_grow edit p e is)

-- what is expected at the beginning of a copy
start_in : (mode : ModeValue) → expected_in mode capture_start ≡ capture_start
start_in Exact = refl
start_in (Changed raise) = refl

module _ (mode : ModeValue) (select : Option Selection) (asked : Option EditValue) where
  abbrev pub Copied : CaptureExpectation → (bytes copy : List ℕ) → (kept edited : List PacketValue) → (rest : List ℕ)
      → Option CopyFault → Type 0
  Copied = Copies mode (IsChosen select) (EditsIf asked)

  abbrev pub Goes : (front copy : List ℕ) → (kept edited : List PacketValue) → CaptureExpectation → Type 0
  Goes = CopiesOn mode select asked

  -- a copy that is not empty is read
  copied_read : (bytes copy : List ℕ) (kept edited : List PacketValue) (rest : List ℕ) (fault : Option CopyFault)
      → Copied capture_start bytes copy kept edited rest fault → copy ≢ []
      → HasPackets capture_start copy edited [] None
  copied_read bytes copy kept edited rest fault copies some = search (rules, start_in, copy_read)

  -- what is known of a copy
  pub is_copy : (bytes copy : List ℕ) (kept edited : List PacketValue) (rest : List ℕ) (fault : Option CopyFault)
      → Copied capture_start bytes copy kept edited rest fault → IsCopy mode select asked bytes copy rest fault
  is_copy bytes copy kept edited rest fault copies =
      let Keeps = IsChosen select in
      let Edits = EditsIf asked in
      let source = copy_source mode Keeps Edits capture_start bytes copy kept edited rest fault copies in
      let nothing =
      copy_nothing mode Keeps Edits capture_start bytes copy kept edited rest fault copies (λ begun. begun) in
      record {
        packets = source.packets;
        kept = kept;
        edited = edited;
        has = source.has;
        selected = source.selected;
        copies = copies;
        are_edited = copy_edits mode Keeps Edits capture_start bytes copy kept edited rest fault copies;
        is_read = λ some. copied_read bytes copy kept edited rest fault copies (not_empty some);
        within = λ raise is few.
            copy_within raise Keeps Edits capture_start bytes copy kept edited rest fault
            (subst (λ (m : ModeValue). Copies m Keeps Edits capture_start bytes copy kept edited rest fault) is copies)
            (edits_within raise asked few);
        nothing = λ none. (nothing none).1;
        all = λ exact every whole.
            copy_all Edits (none_edited asked whole) capture_start bytes copy kept edited rest fault
            (subst (λ (m : ModeValue). Copies m (λ p. ⊤) Edits capture_start bytes copy kept edited rest fault) exact
            (subst (λ (s : Option Selection). Copies mode
            (IsChosen s) Edits capture_start bytes copy kept edited rest fault)
            every copies));
      }
    where
      not_empty : (fault ≡ None) ⊎ (copy ≢ []) → copy ≢ []
      not_empty (inl none) = λ e.
          (copy_nothing mode (IsChosen select) (EditsIf asked) capture_start bytes copy kept edited rest fault copies
          (λ begun. begun) e).2 none
      not_empty (inr some) = some

  -- what is left after a unit is copied
  left_copied : (y : CaptureExpectation) (buffered later more : List ℕ) (len : ℕ) (others changed : List PacketValue)
      (rest : List ℕ) (fault : Option CopyFault)
      → len ≤ length buffered → Copied y later more others changed rest fault
      → Copied y (drop len (take len buffered ++ later)) more others changed rest fault
  left_copied y buffered later more len others changed rest fault within copies = search (rules, after_front)

  -- nothing is read
  pub CopiesOn-start : Goes [] [] [] [] capture_start
  CopiesOn-start later more others changed rest fault copies = copies

  -- a unit that is no packet is copied
  pub CopiesOn-unit : (front copy : List ℕ) (kept edited : List PacketValue) (x y : CaptureExpectation)
      (buffered : List ℕ)
      (len : ℕ)
      → len ≤ length buffered → Begins buffered x len None y → Goes front copy kept edited x
      → Goes (front ++ take len buffered) (copy ++ other_unit mode y (take len buffered)) kept edited y
  CopiesOn-unit front copy kept edited x y buffered len within is go later more others changed rest fault copies =
      let own = take len buffered in
      let text = other_unit mode y own in
      subst (λ (l : List ℕ). Copied capture_start l ((copy ++ text) ++ more) (kept ++ others)
      (edited ++ changed) rest fault)
      (sym (append_assoc front own later))
      (subst
      (λ (l : List ℕ). Copied capture_start (front ++ (own ++ later)) l (kept ++ others) (edited ++ changed) rest fault)
      (ap (λ (l : List ℕ). copy ++ (other_unit mode y l ++ more)) (own_front buffered later len within) ∙ sym
      (append_assoc copy text more))
      (go (own ++ later) (other_unit mode y (take len (own ++ later)) ++ more) others changed rest fault
      (unit x y (own ++ later) more len others changed rest fault (unit_front buffered later x y len None within is)
      (left_copied y buffered later more len others changed rest fault within copies))))

  -- a packet is copied
  pub CopiesOn-kept : (front copy text : List ℕ) (kept edited : List PacketValue) (p : PacketValue)
      (o : Option EditedValue) (x y : CaptureExpectation) (buffered : List ℕ) (len : ℕ)
      → len ≤ length buffered → Begins buffered x len (Some p) y → IsChosen select p → EditsIf asked p o
      → unit_after mode x p o (take len buffered) ≡ Some text → Goes front copy kept edited x
      → Goes (front ++ take len buffered) (copy ++ text) (kept ++ p ∷ []) (edited ++ packet_after mode p o ∷ []) y
  CopiesOn-kept front copy text kept edited p o x y buffered len within is chosen edits fits go later more others
      changed
      rest fault copies =
      let own = take len buffered in
      let q = packet_after mode p o in
      subst
      (λ (l : List PacketValue).
      Copied capture_start ((front ++ own) ++ later) ((copy ++ text) ++ more) l
      ((edited ++ q ∷ []) ++ changed) rest fault)
      (sym (append_assoc kept (p ∷ []) others))
      (subst
      (λ (l : List PacketValue).
      Copied capture_start ((front ++ own) ++ later) ((copy ++ text) ++ more) (kept ++ p ∷ others) l rest fault)
      (sym (append_assoc edited (q ∷ []) changed))
      (subst
      (λ (l : List ℕ).
      Copied capture_start ((front ++ own) ++ later) l (kept ++ p ∷ others) (edited ++ q ∷ changed) rest fault)
      (sym (append_assoc copy text more))
      (subst
      (λ (l : List ℕ). Copied capture_start l (copy ++ (text ++ more)) (kept ++ p ∷ others)
      (edited ++ q ∷ changed) rest fault)
      (sym (append_assoc front own later))
      (go (own ++ later) (text ++ more) (p ∷ others) (q ∷ changed) rest fault
      (keeps x y (own ++ later) text more len p o others changed rest fault
      (unit_front buffered later x y len (Some p) within is)
      chosen edits (ap (unit_after mode x p o) (own_front buffered later len within) ∙ fits)
      (left_copied y buffered later more len others changed rest fault within copies))))))

  -- a packet is left out
  pub CopiesOn-left : (front copy : List ℕ) (kept edited : List PacketValue) (p : PacketValue)
      (x y : CaptureExpectation)
      (buffered : List ℕ) (len : ℕ)
      → len ≤ length buffered → Begins buffered x len (Some p) y → ¬ (IsChosen select p)
      → Goes front copy kept edited x → Goes (front ++ take len buffered) copy kept edited y
  CopiesOn-left front copy kept edited p x y buffered len within is not_chosen go later more others changed rest fault
      copies =
      let own = take len buffered in
      subst (λ (l : List ℕ). Copied capture_start l (copy ++ more) (kept ++ others) (edited ++ changed) rest fault)
      (sym (append_assoc front own later))
      (go (own ++ later) more others changed rest fault
      (leaves x y (own ++ later) more len p others changed rest fault
      (unit_front buffered later x y len (Some p) within is)
      not_chosen
      (left_copied y buffered later more len others changed rest fault within copies)))

  -- the copy ends
  ended_copy : (bytes copy : List ℕ) (kept edited : List PacketValue) (rest : List ℕ) (fault : Option CopyFault)
      → Copied capture_start bytes (copy ++ []) (kept ++ []) (edited ++ []) rest fault
      → Copied capture_start bytes copy kept edited rest fault
  ended_copy bytes copy kept edited rest fault copies = search (rules, append-nil)

  -- .. at the end of a capture that has begun
  pub copied_to_end : (front copy : List ℕ) (kept edited : List PacketValue) (x : CaptureExpectation) → HasBegun x
      → Goes front copy kept edited x → Copied capture_start front copy kept edited [] None
  copied_to_end front copy kept edited x begun go =
      subst (λ (l : List ℕ). Copied capture_start l copy kept edited [] None) (append-nil front)
      (ended_copy (front ++ []) copy kept edited [] None (go [] [] [] [] [] None (ended x [] (begun, refl))))

  -- .. at a refusal of all that is left
  pub copied_to_refusal : (front copy : List ℕ) (kept edited : List PacketValue) (x : CaptureExpectation)
      (left : List ℕ)
      (r : CaptureRefusal)
      → ¬ (IsEnd x left) → RefusesCapture left x r → Goes front copy kept edited x
      → Copied capture_start (front ++ left) copy kept edited left (Some (Refused r))
  copied_to_refusal front copy kept edited x left r more is go =
      ended_copy (front ++ left) copy kept edited left (Some (Refused r))
      (go left [] [] [] left (Some (Refused r)) (refused x left r more is))

  -- .. at a packet that can't be edited
  pub copied_to_packet : (front copy : List ℕ) (kept edited : List PacketValue) (x : CaptureExpectation)
      (buffered later : List ℕ) (len : ℕ) (p : PacketValue) (o : Option EditedValue)
      → len ≤ length buffered → Begins buffered x len (Some p) x → IsChosen select p → EditsIf asked p o
      → unit_after mode x p o (take len buffered) ≡ None → Goes front copy kept edited x
      → Copied capture_start (front ++ (buffered ++ later)) copy kept edited (buffered ++ later) (Some (NotEdited p))
  copied_to_packet front copy kept edited x buffered later len p o within begins is edits not_written go =
      ended_copy (front ++ (buffered ++ later)) copy kept edited (buffered ++ later) (Some (NotEdited p))
      (go (buffered ++ later) [] [] [] (buffered ++ later) (Some (NotEdited p))
      (not_edited x x (buffered ++ later) len p o (unit_local buffered later x x len (Some p) begins) is edits
      (ap (unit_after mode x p o) (take-append-le len buffered later within) ∙ not_written)))

  -- what is copied so far is a capture
  pub read_so_far : (front copy : List ℕ) (kept edited : List PacketValue) (x : CaptureExpectation) (left : List ℕ)
      (r : CaptureRefusal)
      → RefusesCapture left x r → Goes front copy kept edited x → copy ≢ []
      → HasPackets capture_start copy edited [] None
  read_so_far front copy kept edited x left r is go some =
      elim (at_end x left) [
        | inl end ↦
            copied_read front copy kept edited [] None (copied_to_end front copy kept edited x end.0 go) some
        | inr more ↦
            copied_read (front ++ left) copy kept edited left (Some (Refused r))
            (copied_to_refusal front copy kept edited x left r more is go) some
      ]

-- what is written for a packet, where this is expected and it has these bytes
pub unit_there : (mode : ModeValue) (x y : CaptureExpectation) (own bytes : List ℕ) (p : PacketValue)
    (o : Option EditedValue)
    (text : Option (List ℕ))
    → x ≡ y → own ≡ bytes → unit_after mode x p o own ≡ text → unit_after mode y p o bytes ≡ text
unit_there mode x y own bytes p o text at unit_is e = search rules

-- the padding, from at most three zeros
pub zeros_of_three : (k : ℕ) → k ≤ 3 → take k (0 ∷ 0 ∷ 0 ∷ []) ≡ zeros k
zeros_of_three zero le = refl
zeros_of_three (suc zero) le = refl
zeros_of_three (suc (suc zero)) le = refl
zeros_of_three (suc (suc (suc zero))) le = refl
zeros_of_three (suc (suc (suc (suc k)))) le = absurd (omega arith)
