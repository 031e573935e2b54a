-- The lines of a packet of Linux cooked capture v2.
use Rattle.std.specs.Prelude.{◌≡◌, ℕ, List, [], ◌∷◌, ◌++◌, length, slice_range, codes, Bool, true, false, Option, Some, None}
use Rattle.std.specs.Fmt.{decimal}
use Rattle.etherparse.specs.Bytes.{spelled}
use Rattle.etherparse.specs.NumberText.{hex_number}
use Rattle.ether_base.specs.Formats.LinuxSllProtocolType.{told_ether_type}
use Rattle.ether_peel.specs.Grammar.Expectation.{EtherType}
use Rattle.ether_peel.specs.Walker.Start.{next_of}
use Rattle.ether_peel.specs.declared.start.Start.{Start}
use Rattle.ether_sll2.specs.LinuxSll2.{LinuxSll2Value, linux_sll2_of, LinuxSll2Refusal, Short, PacketType, RefusesLinuxSll2, AcceptsLinuxSll2, protocol_of_header}
use Rattle.ether_output.specs.HexText.{hex_text}
use Rattle.ether_text.specs.Lines.{spaced, protocol_text}
use Rattle.ether_text.specs.WalkText.{AnswersWalkAfter}

unfoldable pub linux_sll2_text : LinuxSll2Value → List ℕ
linux_sll2_text s =
    spaced (codes "linux_sll2" ∷ decimal 0 ∷ codes "packet" ∷ decimal s.packet_type ∷ codes "hw"
    ∷ decimal s.hardware_type
    ∷ codes "if" ∷ decimal s.interface_index ∷ codes "alen" ∷ decimal s.address_len ∷ codes "addr"
    ∷ hex_text (spelled 8 s.address)
    ∷ hex_number s.protocol ∷ [])

unfoldable pub linux_sll2_fault_text : LinuxSll2Refusal → List ℕ
linux_sll2_fault_text (Short required len) =
    spaced (codes "fault" ∷ decimal 0 ∷ codes "open" ∷ codes "length" ∷ decimal required ∷ decimal len ∷ codes "slice"
    ∷ [])
linux_sll2_fault_text (PacketType n) =
    spaced (codes "fault" ∷ decimal 0 ∷ codes "open" ∷ codes "content" ∷ codes "sll_packet_type" ∷ decimal n ∷ [])

-- The lines after the header's, which no limit counts: those of the walk of its payload, which begins with what the
-- ether type announces, or what is left.
abbrev pub AnswersPayload : (limit : Option ℕ) → (ether_type : Option ℕ) → (bytes text : List ℕ) → (accepted : Bool)
    → Type 0
AnswersPayload limit (Some n) bytes text accepted =
    AnswersWalkAfter 20 (record { next = EtherType n; limit = limit }) (slice_range bytes 20 (length bytes)) text
    accepted
AnswersPayload limit None bytes text accepted =
    (text ≡ spaced (codes "rest" ∷ decimal 20 ∷ decimal (length bytes) ∷ protocol_text (protocol_of_header bytes) ∷ [])
    ++ codes "\n")
    × (accepted ≡ true)

-- the text for a packet
pub data AnswersLinuxSll2 (limit : Option ℕ) (bytes : List ℕ) : (text : List ℕ) → (accepted : Bool) → Type 0 where
  read : (lines : List ℕ) (accepted : Bool) → AcceptsLinuxSll2 bytes
      → AnswersPayload limit (told_ether_type (protocol_of_header bytes)) bytes lines accepted
      → AnswersLinuxSll2 limit bytes ((linux_sll2_text (linux_sll2_of bytes) ++ codes "\n") ++ lines) accepted
  refused : (r : LinuxSll2Refusal) → RefusesLinuxSll2 bytes r
      → AnswersLinuxSll2 limit bytes (linux_sll2_fault_text r ++ codes "\n") false

-- ---- how it is written

-- a header is read, and this is its payload, which begins with this
pub record BeginsWalk (bytes : List ℕ) (start : Start) (payload : List ℕ) : Type 0 where
  pub accepted : AcceptsLinuxSll2 bytes
  pub ether_type : ℕ
  pub announced : told_ether_type (protocol_of_header bytes) ≡ Some ether_type
  pub next : next_of start ≡ EtherType ether_type
  pub rest : payload ≡ slice_range bytes 20 (length bytes)
