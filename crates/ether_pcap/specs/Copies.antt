-- A copy of a capture file of either format without some of its packets, in which the others may be edited. A packet
-- that is not edited is copied byte for byte, and so is each unit without a packet, unless the copy is another
-- capture.
use Rattle.std.specs.Prelude.{◌≡◌, ◌≢◌, ◌⊎◌, ℕ, ◌+◌, ◌<◌, ◌≤◌, List, [], ◌∷◌, ◌++◌, length, take, drop, Bool, true, false, ◌&&◌, IsTrue, Option, Some, None, All, ⊤}
use Rattle.ether_base.specs.Bytes.{IsBytes}
use Rattle.ether_pcap.specs.Capture.{PacketValue, IsWithinSnap, CaptureExpectation, Beginning, CaptureRefusal, Begins, RefusesCapture, HasBegun, IsEnd, HasPackets}
use Rattle.ether_pcap.specs.Editing.{EditedValue}
use Rattle.ether_pcap.specs.CopiedUnits.{ModeValue, Exact, Changed, expected_in, other_unit, unit_after, packet_after}
use Rattle.ether_pcap.specs.Interfaces.{KeepsInterfaces}

-- why a copy ends before the file does: the rest is refused, or begins with a packet that is to be edited but can't be
pub data CopyFault : Type 0 where
  Refused : CaptureRefusal → CopyFault
  NotEdited : PacketValue → CopyFault

-- From a place of a file where this is expected, these bytes are copied. They have the kept packets, each as it is
-- edited. The rest after the last copied unit is empty, or there is a fault that says why the copy ends there.
pub data Copies (mode : ModeValue) (Keeps : PacketValue → Type 0) (Edits : PacketValue → Option EditedValue → Type 0)
    : CaptureExpectation → (bytes copy : List ℕ) → (kept edited : List PacketValue) → (rest : List ℕ) → Option CopyFault
    → Type 0 where
  ended : (x : CaptureExpectation) (bytes : List ℕ) → IsEnd x bytes → Copies mode Keeps Edits x bytes [] [] [] [] None
  refused : (x : CaptureExpectation) (bytes : List ℕ) (r : CaptureRefusal) → ¬ (IsEnd x bytes)
      → RefusesCapture bytes x r → Copies mode Keeps Edits x bytes [] [] [] bytes (Some (Refused r))
  not_edited : (x y : CaptureExpectation) (bytes : List ℕ) (len : ℕ) (p : PacketValue) (o : Option EditedValue)
      → Begins bytes x len (Some p) y → Keeps p → Edits p o → unit_after mode x p o (take len bytes) ≡ None
      → Copies mode Keeps Edits x bytes [] [] [] bytes (Some (NotEdited p))
  unit : (x y : CaptureExpectation) (bytes copy : List ℕ) (len : ℕ) (kept edited : List PacketValue) (rest : List ℕ)
      (fault : Option CopyFault)
      → Begins bytes x len None y → Copies mode Keeps Edits y (drop len bytes) copy kept edited rest fault
      → Copies mode Keeps Edits x bytes (other_unit mode y (take len bytes) ++ copy) kept edited rest fault
  keeps : (x y : CaptureExpectation) (bytes front copy : List ℕ) (len : ℕ) (p : PacketValue) (o : Option EditedValue)
      (kept edited : List PacketValue) (rest : List ℕ) (fault : Option CopyFault)
      → Begins bytes x len (Some p) y → Keeps p → Edits p o → unit_after mode x p o (take len bytes) ≡ Some front
      → Copies mode Keeps Edits y (drop len bytes) copy kept edited rest fault
      → Copies mode Keeps Edits x bytes (front ++ copy) (p ∷ kept) (packet_after mode p o ∷ edited) rest fault
  leaves : (x y : CaptureExpectation) (bytes copy : List ℕ) (len : ℕ) (p : PacketValue) (kept edited : List PacketValue)
      (rest : List ℕ) (fault : Option CopyFault)
      → Begins bytes x len (Some p) y → ¬ (Keeps p)
      → Copies mode Keeps Edits y (drop len bytes) copy kept edited rest fault
      → Copies mode Keeps Edits x bytes copy kept edited rest fault

-- the packets that are kept, in order
pub data Selected (Keeps : PacketValue → Type 0) : (packets kept : List PacketValue) → Type 0 where
  none : Selected Keeps [] []
  one_kept : (p : PacketValue) (packets kept : List PacketValue) → Keeps p → Selected Keeps packets kept
      → Selected Keeps (p ∷ packets) (p ∷ kept)
  one_left : (p : PacketValue) (packets kept : List PacketValue) → ¬ (Keeps p) → Selected Keeps packets kept
      → Selected Keeps (p ∷ packets) kept

-- what each of the kept packets is edited to
pub data AreEdited (mode : ModeValue) (Edits : PacketValue → Option EditedValue → Type 0) :
    (kept edited : List PacketValue) → Type 0 where
  none_edited : AreEdited mode Edits [] []
  one_edited : (p : PacketValue) (o : Option EditedValue) (kept edited : List PacketValue) → Edits p o
      → AreEdited mode Edits kept edited
      → AreEdited mode Edits (p ∷ kept) (packet_after mode p o ∷ edited)

-- no packet is edited
abbrev pub EditsNone : (Edits : PacketValue → Option EditedValue → Type 0) → Type 0
EditsNone Edits = (p : PacketValue) (o : Option EditedValue) → Edits p o → o ≡ None

-- no edit makes a packet more than `raise` bytes longer
abbrev pub EditsWithin : (raise : ℕ) → (Edits : PacketValue → Option EditedValue → Type 0) → Type 0
EditsWithin raise Edits = (p : PacketValue) (e : EditedValue) → Edits p (Some e) → length e.packet ≤ length p.packet
    + raise

-- each packet has exactly one edit, or is unchanged
pub record EditsOnce (Edits : PacketValue → Option EditedValue → Type 0) : Type 0 where
  pub some : (p : PacketValue) → IsBytes p.packet → (o : Option EditedValue) × Edits p o
  pub one : (p : PacketValue) (o q : Option EditedValue) → Edits p o → Edits p q → o ≡ q

-- ---- the laws

-- The copy has these packets and nothing else, read from this expectation on. At the beginning of a file this holds
-- unless nothing was copied.
abbrev pub IsRead : ModeValue → CaptureExpectation → (copy : List ℕ) → (edited : List PacketValue) → Type 0
IsRead mode x copy edited = HasBegun x ⊎ (copy ≢ []) → HasPackets (expected_in mode x) copy edited [] None

-- all packets from a place up to the rest; if the rest begins with a packet that can't be edited, others may follow it
abbrev pub HasPacketsTo : CaptureExpectation → (bytes : List ℕ) → List PacketValue → (rest : List ℕ) → Option CopyFault
    → Type 0
HasPacketsTo x bytes packets rest None = HasPackets x bytes packets rest None
HasPacketsTo x bytes packets rest (Some (Refused r)) = HasPackets x bytes packets rest (Some r)
HasPacketsTo x bytes packets rest (Some (NotEdited p)) =
    (more : List PacketValue) × (left : List ℕ) × (fault : Option CaptureRefusal)
    × HasPackets x bytes (packets ++ p ∷ more) left fault

-- .. from which those that are kept are selected
pub record HasSource (Keeps : PacketValue → Type 0) (x : CaptureExpectation) (bytes : List ℕ) (kept : List PacketValue)
    (rest : List ℕ) (fault : Option CopyFault) : Type 0 where
  pub packets : List PacketValue
  pub has : HasPacketsTo x bytes packets rest fault
  pub selected : Selected Keeps packets kept

-- The rest begins with a packet that is kept but can't be written: it has no time, as a simple packet; or its edit
-- makes it longer; or its edited original length does not fit in four bytes.
pub record IsNotEdited (mode : ModeValue) (Keeps : PacketValue → Type 0) (Edits : PacketValue → Option EditedValue
    → Type 0) (rest : List ℕ) (p : PacketValue) : Type 0 where
  pub expected : CaptureExpectation
  pub len : ℕ
  pub edited : Option EditedValue
  pub begins : Begins rest expected len (Some p) expected
  pub kept : Keeps p
  pub edits : Edits p edited
  pub not_written : unit_after mode expected p edited (take len rest) ≡ None
  pub why : (p.time ≡ None)
      ⊎ ((e : EditedValue) × (edited ≡ Some e) × ((length p.packet < length e.packet) ⊎ (4294967295 < e.original_len)))

-- a copy by a test of packets and a test of edits
abbrev pub CopiesBy : ModeValue → (test : PacketValue → Bool) → (edits : PacketValue → Option EditedValue → Bool)
    → CaptureExpectation → (bytes copy : List ℕ) → (kept edited : List PacketValue) → (rest : List ℕ) → Option CopyFault
    → Type 0
CopiesBy mode test edits = Copies mode (λ p. IsTrue (test p)) (λ p o. IsTrue (edits p o))

-- A copy is a file whose packets are the kept packets of the file, in order, each as it is edited. If nothing of a
-- file is copied, the file is refused at its beginning. In a copy that is another capture snap lengths are still
-- bounds, if they are raised by as many bytes as an edit adds to a packet; and libpcap reads the copy with all its
-- interfaces if it reads the file with all of them. If no packet is edited, an exact copy with all packets is the file
-- itself, up to the rest.
pub record CopiesAreRead : Type 0 where
  pub read : (mode : ModeValue) (test : PacketValue → Bool) (edits : PacketValue → Option EditedValue → Bool)
      (x : CaptureExpectation) (bytes copy : List ℕ) (kept edited : List PacketValue) (rest : List ℕ)
      (fault : Option CopyFault)
      → CopiesBy mode test edits x bytes copy kept edited rest fault → IsRead mode x copy edited
  pub are_edited : (mode : ModeValue) (test : PacketValue → Bool) (edits : PacketValue → Option EditedValue → Bool)
      (x : CaptureExpectation) (bytes copy : List ℕ) (kept edited : List PacketValue) (rest : List ℕ)
      (fault : Option CopyFault)
      → CopiesBy mode test edits x bytes copy kept edited rest fault
      → AreEdited mode (λ p o. IsTrue (edits p o)) kept edited
  pub source : (mode : ModeValue) (test : PacketValue → Bool) (edits : PacketValue → Option EditedValue → Bool)
      (x : CaptureExpectation) (bytes copy : List ℕ) (kept edited : List PacketValue) (rest : List ℕ)
      (fault : Option CopyFault)
      → CopiesBy mode test edits x bytes copy kept edited rest fault
      → HasSource (λ p. IsTrue (test p)) x bytes kept rest fault
  pub nothing : (mode : ModeValue) (most : ℕ) (test : PacketValue → Bool) (edits : PacketValue → Option EditedValue
      → Bool) (bytes : List ℕ) (kept edited : List PacketValue) (rest : List ℕ) (fault : Option CopyFault)
      → CopiesBy mode test edits (Beginning most) bytes [] kept edited rest fault → (kept ≡ []) × (rest ≡ bytes)
      × (fault ≢ None)
  pub stopped : (mode : ModeValue) (test : PacketValue → Bool) (edits : PacketValue → Option EditedValue → Bool)
      (x : CaptureExpectation) (bytes copy : List ℕ) (kept edited : List PacketValue) (rest : List ℕ) (p : PacketValue)
      → CopiesBy mode test edits x bytes copy kept edited rest (Some (NotEdited p))
      → IsNotEdited mode (λ q. IsTrue (test q)) (λ q o. IsTrue (edits q o)) rest p
  pub within : (raise : ℕ) (test : PacketValue → Bool) (edits : PacketValue → Option EditedValue → Bool)
      (x : CaptureExpectation) (bytes copy : List ℕ) (kept edited : List PacketValue) (rest : List ℕ)
      (fault : Option CopyFault)
      → CopiesBy (Changed raise) test edits x bytes copy kept edited rest fault
      → EditsWithin raise (λ p o. IsTrue (edits p o)) → All IsWithinSnap kept → All IsWithinSnap edited
  pub interfaces : (raise : ℕ) (test : PacketValue → Bool) (edits : PacketValue → Option EditedValue → Bool)
      (x : CaptureExpectation) (bytes copy : List ℕ) (kept edited : List PacketValue) (rest : List ℕ)
      (fault : Option CopyFault)
      → CopiesBy (Changed raise) test edits x bytes copy kept edited rest fault
      → KeepsInterfaces raise x bytes copy rest
  pub unedited : (edits : PacketValue → Option EditedValue → Bool) (kept edited : List PacketValue)
      → EditsNone (λ p o. IsTrue (edits p o))
      → AreEdited Exact (λ p o. IsTrue (edits p o)) kept edited → edited ≡ kept
  pub all : (edits : PacketValue → Option EditedValue → Bool) (x : CaptureExpectation) (bytes copy : List ℕ)
      (kept edited : List PacketValue) (rest : List ℕ) (fault : Option CopyFault)
      → EditsNone (λ p o. IsTrue (edits p o))
      → Copies Exact (λ p. ⊤) (λ p o. IsTrue (edits p o)) x bytes copy kept edited rest fault → copy ++ rest ≡ bytes

-- a copy of bytes
pub record Copy (mode : ModeValue) (test : PacketValue → Bool) (edits : PacketValue → Option EditedValue → Bool)
    (x : CaptureExpectation) (bytes : List ℕ) : Type 0 where
  pub copy : List ℕ
  pub kept : List PacketValue
  pub edited : List PacketValue
  pub rest : List ℕ
  pub fault : Option CopyFault
  pub copies : CopiesBy mode test edits x bytes copy kept edited rest fault

-- any bytes have exactly one copy
pub record CopiesAreOne : Type 0 where
  pub some : (mode : ModeValue) (test : PacketValue → Bool) (edits : PacketValue → Option EditedValue → Bool)
      (x : CaptureExpectation) (bytes : List ℕ) → IsBytes bytes → EditsOnce (λ p o. IsTrue (edits p o))
      → Copy mode test edits x bytes
  pub one : (mode : ModeValue) (test : PacketValue → Bool) (edits : PacketValue → Option EditedValue → Bool)
      (x : CaptureExpectation) (bytes : List ℕ) (c d : Copy mode test edits x bytes) → IsBytes bytes
      → EditsOnce (λ p o. IsTrue (edits p o)) → (c.copy ≡ d.copy) × (c.kept ≡ d.kept) × (c.edited ≡ d.edited)
      × (c.rest ≡ d.rest) × (c.fault ≡ d.fault)

-- ---- a copy of a copy

-- no packet is edited
abbrev pub edits_none : PacketValue → Option EditedValue → Bool
edits_none p None = true
edits_none p (Some e) = false

-- If packets of a file are selected into a second capture, and packets of that into a third, the third is the copy of
-- those packets of the file that both tests select. The second capture must not be an empty list, which is not a
-- capture file.
pub record CopiesCompose : Type 0 where
  pub selected : (most : ℕ) (first second : PacketValue → Bool) (bytes between copy : List ℕ)
      (kept edited chosen last : List PacketValue) (rest left : List ℕ) (fault other : Option CopyFault)
      → IsBytes bytes → IsBytes between → between ≢ []
      → CopiesBy (Changed 0) first edits_none (Beginning most) bytes between kept edited rest fault
      → CopiesBy (Changed 0) second edits_none (Beginning most) between copy chosen last left other
      → CopiesBy (Changed 0) (λ p. first p && second p) edits_none (Beginning most) bytes copy chosen last rest fault
      × (left ≡ []) × (other ≡ None)
  -- selecting twice by the same test gives the first copy again
  pub again : (most : ℕ) (test : PacketValue → Bool) (bytes between copy : List ℕ)
      (kept edited chosen last : List PacketValue) (rest left : List ℕ) (fault other : Option CopyFault)
      → IsBytes bytes → IsBytes between → between ≢ []
      → CopiesBy (Changed 0) test edits_none (Beginning most) bytes between kept edited rest fault
      → CopiesBy (Changed 0) test edits_none (Beginning most) between copy chosen last left other
      → copy ≡ between
