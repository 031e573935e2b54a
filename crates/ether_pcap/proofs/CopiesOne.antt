-- Any bytes have one copy.
use Rattle.std.proofs.Common.{◌≡◌, ◌⊎◌, ℕ, zero, suc, ◌≤◌, List, [], ◌∷◌, ◌++◌, length, drop, length-drop, refl, sym, ap, subst, ◌∙◌, arith, inl, inr, Some, None, rules}
use Rattle.std.specs.Prelude.{Option, Bool, IsTrue, take}
use Rattle.ether_base.specs.Bytes.{IsBytes}
use Rattle.ether_base.proofs.SubLists.{IsBytes-drop}
use Rattle.ether_pcap.specs.Capture.{PacketValue, CaptureExpectation, CaptureRefusal, Begins, RefusesCapture, IsEnd}
use Rattle.ether_pcap.specs.Editing.{EditedValue}
use Rattle.ether_pcap.specs.CopiedUnits.{ModeValue, other_unit, unit_after, packet_after}
use Rattle.ether_pcap.specs.Copies.{CopyFault, Refused, NotEdited, Copies, ended, refused, not_edited, unit, keeps, leaves, EditsOnce, Copy}
use Rattle.ether_pcap.proofs.CaptureLengths.{unit_within, unit_some}
use Rattle.ether_pcap.proofs.CapturesOne.{unit_one, unit_apart, unit_refusal_one}
use Rattle.ether_pcap.proofs.PacketUnits.{same_packet}
use Rattle.ether_pcap.proofs.PacketsOne.{none_at_end}

module _ (mode : ModeValue) (Keeps : PacketValue → Type 0) (Edits : PacketValue → Option EditedValue → Type 0)
    (once : EditsOnce Edits) where
  -- what is copied, and with which packets
  record Result : Type 0 where
    copy : List ℕ
    kept : List PacketValue
    edited : List PacketValue

  -- a unit, which has this front of the bytes, and what is copied of it before these
  abbrev Joined : (x y : CaptureExpectation) → Option PacketValue → (front : List ℕ) → (others all : Result) → Type 0
  Joined x y None front others all = all ≡ record others { copy = other_unit mode y front ++ others.copy }
  Joined x y (Some p) front others all =
      (Keeps p × (o : Option EditedValue) × (u : List ℕ) × Edits p o × (unit_after mode x p o front ≡ Some u)
      × (all ≡ record {
        copy = u ++ others.copy;
        kept = p ∷ others.kept;
        edited = packet_after mode p o
            ∷ others.edited;
      }))
      ⊎ (¬ (Keeps p) × (all ≡ others))

  abbrev Copied : CaptureExpectation → (bytes : List ℕ) → Result → (rest : List ℕ) → Option CopyFault → Type 0
  Copied x bytes r rest fault = Copies mode Keeps Edits x bytes r.copy r.kept r.edited rest fault

  abbrev nothing : Result
  nothing = record { copy = []; kept = []; edited = [] }

  data Step (x : CaptureExpectation) (bytes : List ℕ) : Result → (rest : List ℕ) → Option CopyFault → Type 0 where
    end : IsEnd x bytes → Step x bytes nothing [] None
    refusal : (r : CaptureRefusal) → ¬ (IsEnd x bytes) → RefusesCapture bytes x r
        → Step x bytes nothing bytes (Some (Refused r))
    stuck : (len : ℕ) (p : PacketValue) (o : Option EditedValue) (y : CaptureExpectation)
        → Begins bytes x len (Some p) y
        → Keeps p → Edits p o → unit_after mode x p o (take len bytes) ≡ None
        → Step x bytes nothing bytes (Some (NotEdited p))
    further : (len : ℕ) (p : Option PacketValue) (y : CaptureExpectation) (others all : Result) (rest : List ℕ)
        (fault : Option CopyFault)
        → Begins bytes x len p y → Copied y (drop len bytes) others rest fault
        → Joined x y p (take len bytes) others all → Step x bytes all rest fault

  abbrev result : (copy : List ℕ) → (kept edited : List PacketValue) → Result
  result copy kept edited = record { copy = copy; kept = kept; edited = edited }

  first_step : (x : CaptureExpectation) (bytes copy : List ℕ) (kept edited : List PacketValue) (rest : List ℕ)
      (fault : Option CopyFault)
      → Copies mode Keeps Edits x bytes copy kept edited rest fault → Step x bytes (result copy kept edited) rest fault
  first_step x bytes copy kept edited rest fault (ended _ _ is) = end is
  first_step x bytes copy kept edited rest fault (refused _ _ r more is) = refusal r more is
  first_step x bytes copy kept edited rest fault (not_edited _ y _ len p o begins is edits no_front) =
      stuck len p o y begins is edits no_front
  first_step x bytes copy kept edited rest fault (unit _ y _ others len _ _ _ _ begins copies) =
      further len None y (result others kept edited) (result _ kept edited) rest fault begins copies refl
  first_step x bytes copy kept edited rest fault
      (keeps _ y _ front others len p o ps qs _ _ begins is edits fits copies) =
      further len (Some p) y (result others ps qs) (result _ _ _) rest fault begins copies
      (inl (is, o, front, edits, fits, refl))
  first_step x bytes copy kept edited rest fault (leaves _ y _ _ len p _ _ _ _ begins not_kept copies) =
      further len (Some p) y (result copy kept edited) (result copy kept edited) rest fault begins copies
      (inr (not_kept, refl))

  same_front : (x : CaptureExpectation) (p : PacketValue) (front u v : List ℕ) (o q : Option EditedValue) → Edits p o
      → Edits p q → unit_after mode x p o front ≡ Some u → unit_after mode x p q front ≡ Some v → (o ≡ q) × (u ≡ v)
  same_front x p front u v o q edits edits2 e f = search rules

  same_joined : (x y : CaptureExpectation) (p : Option PacketValue) (front : List ℕ) (others more all other : Result)
      → others ≡ more → Joined x y p front others all → Joined x y p front more other → all ≡ other
  same_joined x y None front others more all other e a b =
      a ∙ ap (λ (r : Result). record r { copy = other_unit mode y front ++ r.copy }) e ∙ sym b
  same_joined x y h front others more all other e a b = search rules

  -- a packet that can't be edited is not copied
  stuck_apart : (x y z : CaptureExpectation) (bytes : List ℕ) (others all : Result) (len n : ℕ) (p : PacketValue)
      (o : Option EditedValue) (q : Option PacketValue)
      → IsBytes bytes → Begins bytes x len (Some p) y → Keeps p → Edits p o
      → unit_after mode x p o (take len bytes) ≡ None → Begins bytes x n q z
      → Joined x z q (take n bytes) others all → ⊥
  stuck_apart x y z bytes others all len n p o q ok begins is edits no_front begins2 joined =
      let e = unit_one bytes x y z len n (Some p) q ok begins begins2 in
      let here : Joined x z (Some p) (take len bytes) others all =
      subst (λ (k : ℕ). Joined x z (Some p) (take k bytes) others all) (sym e.0)
      (subst (λ (r : Option PacketValue). Joined x z r (take n bytes) others all) (sym e.1) joined) in
      no_joint here
    where
      no_joint : Joined x z (Some p) (take len bytes) others all → ⊥
      no_joint (inl (is2, r, u, edits2, g, a)) =
          let same = once.one p o r edits edits2 in
          absurd cc
      no_joint (inr (not_kept, a)) = not_kept is

  abbrev Same : (all other : Result) (rest rest2 : List ℕ) (fault fault2 : Option CopyFault) → Type 0
  Same all other rest rest2 fault fault2 = (all ≡ other) × (rest ≡ rest2) × (fault ≡ fault2)

  one_step : (fuel : ℕ) (x : CaptureExpectation) (bytes : List ℕ) (all other : Result) (rest rest2 : List ℕ)
      (fault fault2 : Option CopyFault) → length bytes ≤ fuel → IsBytes bytes
      → Step x bytes all rest fault → Step x bytes other rest2 fault2 → Same all other rest rest2 fault fault2
  one_step fuel x bytes all other rest rest2 fault fault2 le ok (end is) (end is2) = (refl, refl, refl)
  one_step fuel x bytes all other rest rest2 fault fault2 le ok (end is) (refusal r more refuses) = absurd (more is)
  one_step fuel x bytes all other rest rest2 fault fault2 le ok (end is) (stuck n q o z begins kept2 edits none) =
      absurd (none_at_end x z bytes n (Some q) is begins)
  one_step fuel x bytes all other rest rest2 fault fault2 le ok (end is) (further n q z _ _ _ _ begins copies joined) =
      absurd (none_at_end x z bytes n q is begins)
  one_step fuel x bytes all other rest rest2 fault fault2 le ok (refusal r more refuses) (end is) = absurd (more is)
  one_step fuel x bytes all other rest rest2 fault fault2 le ok (refusal r more refuses) (refusal s more2 refuses2) =
      (refl, refl, ap (λ (t : CaptureRefusal). Some (Refused t)) (unit_refusal_one bytes x r s ok refuses refuses2))
  one_step fuel x bytes all other rest rest2 fault fault2 le ok (refusal r more refuses)
      (stuck n q o z begins kept2 edits none) =
      absurd (unit_apart bytes x z n (Some q) r ok begins refuses)
  one_step fuel x bytes all other rest rest2 fault fault2 le ok (refusal r more refuses)
      (further n q z _ _ _ _ begins copies joined) =
      absurd (unit_apart bytes x z n q r ok begins refuses)
  one_step fuel x bytes all other rest rest2 fault fault2 le ok (stuck n q o z begins kept1 edits none) (end is) =
      absurd (none_at_end x z bytes n (Some q) is begins)
  one_step fuel x bytes all other rest rest2 fault fault2 le ok (stuck n q o z begins kept1 edits none)
      (refusal r more refuses) =
      absurd (unit_apart bytes x z n (Some q) r ok begins refuses)
  one_step fuel x bytes all other rest rest2 fault fault2 le ok (stuck n q o z begins kept1 edits none)
      (stuck m p r y begins2 kept2 edits2 none2) =
      let e = unit_one bytes x z y n m (Some q) (Some p) ok begins begins2 in
      (refl, refl, ap (λ (t : PacketValue). Some (NotEdited t)) (same_packet q p e.1))
  one_step fuel x bytes all other rest rest2 fault fault2 le ok (stuck n q o z begins kept1 edits none)
      (further m p y _ _ _ _ begins2 copies joined) =
      absurd (stuck_apart x z y bytes _ _ n m q o p ok begins kept1 edits none begins2 joined)
  one_step fuel x bytes all other rest rest2 fault fault2 le ok (further n q z _ _ _ _ begins copies joined) (end is) =
      absurd (none_at_end x z bytes n q is begins)
  one_step fuel x bytes all other rest rest2 fault fault2 le ok (further n q z _ _ _ _ begins copies joined)
      (refusal r more refuses) =
      absurd (unit_apart bytes x z n q r ok begins refuses)
  one_step fuel x bytes all other rest rest2 fault fault2 le ok (further n q z _ _ _ _ begins copies joined)
      (stuck m p o y begins2 kept2 edits none) =
      absurd (stuck_apart x y z bytes _ _ m n p o q ok begins2 kept2 edits none begins joined)
  one_step zero x bytes all other rest rest2 fault fault2 le ok (further n q z _ _ _ _ begins copies joined)
      (further m p y _ _ _ _ begins2 copies2 joined2) =
      absurd (omega (arith, le, unit_some bytes x z n q begins, unit_within bytes x z n q begins))
  one_step (suc fuel) x bytes all other rest rest2 fault fault2 le ok (further n q z others _ _ _ begins copies joined)
      (further m p y more _ _ _ begins2 copies2 joined2) =
      let e = unit_one bytes x z y n m q p ok begins begins2 in
      let l = length-drop n bytes in
      let a = unit_some bytes x z n q begins in
      let b = unit_within bytes x z n q begins in
      let copies3 =
      subst (λ (k : ℕ). Copied z (drop k bytes) more rest2 fault2) (sym e.0)
      (subst (λ (w : CaptureExpectation). Copied w (drop m bytes) more rest2 fault2) (sym e.2) copies2) in
      let joined3 =
      subst (λ (k : ℕ). Joined x z q (take k bytes) more other) (sym e.0)
      (subst (λ (r : Option PacketValue). Joined x z r (take m bytes) more other) (sym e.1)
      (subst (λ (w : CaptureExpectation). Joined x w p (take m bytes) more other) (sym e.2) joined2)) in
      let s =
      one_step fuel z (drop n bytes) others more rest rest2 fault fault2 (omega (arith, l, le, a, b))
      (IsBytes-drop n bytes ok)
      (first_step z (drop n bytes) others.copy others.kept others.edited rest fault copies)
      (first_step z (drop n bytes) more.copy more.kept more.edited rest2 fault2 copies3) in
      (same_joined x z q (take n bytes) others more all other s.0 joined joined3, s.1, s.2)

  pub one_copied : (x : CaptureExpectation) (bytes copy copy2 : List ℕ) (kept kept2 edited edited2 : List PacketValue)
      (rest rest2 : List ℕ) (fault fault2 : Option CopyFault) → IsBytes bytes
      → Copies mode Keeps Edits x bytes copy kept edited rest fault
      → Copies mode Keeps Edits x bytes copy2 kept2 edited2 rest2 fault2
      → (copy ≡ copy2) × (kept ≡ kept2) × (edited ≡ edited2) × (rest ≡ rest2) × (fault ≡ fault2)
  one_copied x bytes copy copy2 kept kept2 edited edited2 rest rest2 fault fault2 ok c d =
      let s =
      one_step (length bytes) x bytes (result copy kept edited) (result copy2 kept2 edited2) rest rest2 fault fault2
      (omega arith) ok (first_step x bytes copy kept edited rest fault c)
      (first_step x bytes copy2 kept2 edited2 rest2 fault2 d) in search rules

pub one_copy : (mode : ModeValue) (test : PacketValue → Bool) (edits : PacketValue → Option EditedValue → Bool)
    (x : CaptureExpectation) (bytes : List ℕ) (c d : Copy mode test edits x bytes)
    → IsBytes bytes → EditsOnce (λ p o. IsTrue (edits p o))
    → (c.copy ≡ d.copy) × (c.kept ≡ d.kept) × (c.edited ≡ d.edited) × (c.rest ≡ d.rest) × (c.fault ≡ d.fault)
one_copy mode test edits x bytes c d ok once = search (rules, one_copied)
