-- The laws of the format, and what is read back of a header that was written.
use Rattle.std.proofs.Common.{◌≡◌, ℕ, ◌≤◌, List, ◌++◌, length, Ok, Err, refl, sym, ap, subst, ◌∙◌, arith, inl, inr}
use Rattle.std.specs.Prelude.{◌↔◌, ◌⊎◌, Result, slice_range}
use Rattle.std.proofs.lemmas.Bool.{cases_lt}
use Rattle.std.proofs.lemmas.List.{length-append}
use Rattle.ether_base.specs.Bytes.{IsBytes}
use Rattle.ether_base.specs.Formats.LinuxSllProtocolType.{protocol_number}
use Rattle.ether_base.proofs.Numbers.{length-spelled}
use Rattle.ether_base.proofs.SubLists.{IsBytes-part, length-part, part-append, part_all}
use Rattle.ether_sll2.specs.declared.linux_sll2_error.LinuxSll2Error.{LinuxSll2Error}
use Rattle.ether_sll2.specs.declared.linux_sll2_error.LinuxSll2Error.TheVariants as errors
use Rattle.ether_sll2.specs.declared.linux_sll2_header.LinuxSll2Header.{LinuxSll2Header}
use Rattle.ether_sll2.specs.LinuxSll2.{LinuxSll2Value, FitsLinuxSll2, IsLinuxSll2, BeginsLinuxSll2, linux_sll2_number, linux_sll2_bytes, linux_sll2_of, cleared, LinuxSll2Refusal, Short, PacketType, RefusesLinuxSll2, AcceptsLinuxSll2, short, packet_type, protocol_on, protocol_of_header}
use Rattle.ether_sll2.specs.Laws.{RowsAreApart, HeadersAreMeant, BytesMeanTheirValue}
use Rattle.ether_sll2.specs.Views.{AnswersHeader, HasOwnType, HoldsHeader, linux_sll2_view}
use Rattle.ether_sll2.proofs.LinuxSll2Fields.{one_value, linux_sll2_begins, linux_sll2_whole, linux_sll2_accepted, linux_sll2_bytes-means, written_back}

-- ---- rows

row_one : (bytes : List ℕ) (r s : LinuxSll2Refusal) → RefusesLinuxSll2 bytes r → RefusesLinuxSll2 bytes s → r ≡ s
row_one bytes _ _ (short lt) (short m) = refl
row_one bytes _ _ (short lt) (packet_type t h above) = absurd (omega (arith, lt, h.whole))
row_one bytes _ _ (packet_type t h above) (short m) = absurd (omega (arith, m, h.whole))
row_one bytes _ _ (packet_type t h above) (packet_type u k more) =
    ap (λ (v : LinuxSll2Value). PacketType v.packet_type) (one_value (slice_range bytes 0 20) t u h.spells k.spells)

decided : (bytes : List ℕ) → IsBytes bytes
    → ((r : LinuxSll2Refusal) × RefusesLinuxSll2 bytes r) ⊎ AcceptsLinuxSll2 bytes
decided bytes ok =
    elim (cases_lt (length bytes) 20) [
      | inl lt ↦ inl (Short 20 (length bytes), short lt)
      | inr le ↦ elim (cases_lt 7 (linux_sll2_of bytes).packet_type) [
        | inl above ↦ inl (_, packet_type (linux_sll2_of bytes) (linux_sll2_begins bytes ok le) above)
        | inr within ↦ inr (linux_sll2_accepted bytes ok le within)
      ]
    ]

pub rows_apart : RowsAreApart
rows_apart = record { one = row_one; decided = decided }

-- ---- meaning

one_begun : (bytes : List ℕ) (s t : LinuxSll2Value) → BeginsLinuxSll2 bytes s → BeginsLinuxSll2 bytes t → s ≡ t
one_begun bytes s t h k = one_value (slice_range bytes 0 20) s t h.spells k.spells

pub headers_meant : HeadersAreMeant
headers_meant = record { some = linux_sll2_begins; one = one_begun }

means : (s : LinuxSll2Value) (more : List ℕ) → FitsLinuxSll2 s → BeginsLinuxSll2 (linux_sll2_bytes s ++ more) s
means s more fits =
    let b = linux_sll2_bytes s in
    let len : length b ≡ 20 = length-spelled 20 (linux_sll2_number 0 s) in
    let front : slice_range (b ++ more) 0 20 ≡ b =
    part-append b more 0 20 (omega arith) (omega arith) ∙ part_all b 20 (omega arith) in
    record {
      whole = omega (arith, length-append b more);
      spells = subst (λ (l : List ℕ). IsLinuxSll2 l s) (sym front) (linux_sll2_bytes-means s fits);
    }

front_written : (bytes : List ℕ) (s : LinuxSll2Value) → IsBytes bytes → BeginsLinuxSll2 bytes s
    → linux_sll2_bytes s ≡ cleared (slice_range bytes 0 20)
front_written bytes s ok h =
    let len = length-part bytes 0 20 h.whole ∙ omega arith in
    written_back (slice_range bytes 0 20) s (IsBytes-part 0 20 bytes ok) len h.spells

pub bytes_mean : BytesMeanTheirValue
bytes_mean = record {
  len = λ s. length-spelled 20 (linux_sll2_number 0 s);
  means = means;
  written_back = front_written;
}

-- ---- reading back

module _ (bytes : List ℕ) (h : LinuxSll2Header) (ok : IsBytes bytes) (len : length bytes ≡ 20)
    (is : IsLinuxSll2 bytes (linux_sll2_view h)) (address : slice_range bytes 12 20 ≡ h.sender_address)
    (packet : h.packet_type ≤ 7) where
  -- the numbers of the bytes are those of the header
  same : linux_sll2_of bytes ≡ linux_sll2_view h
  same = one_value bytes (linux_sll2_of bytes) (linux_sll2_view h) (linux_sll2_whole bytes ok len) is

  protocol_same : protocol_of_header bytes ≡ protocol_on h.arp_hrd_type.0 (protocol_number h.protocol_type)
  protocol_same = ap (λ (s : LinuxSll2Value). protocol_on s.hardware_type s.protocol) same

  tells : (k : LinuxSll2Header) → HoldsHeader bytes k → k ≡ h → HasOwnType h
  tells k holds e = sym protocol_same ∙ sym holds.protocol ∙ ap (λ (x : LinuxSll2Header). x.protocol_type) e

  is_told : (k : LinuxSll2Header) → HoldsHeader bytes k → HasOwnType h → k ≡ h
  is_told k holds own =
      let v = one_value bytes (linux_sll2_view k) (linux_sll2_view h) holds.value is in
      let a : k.sender_address ≡ h.sender_address = holds.address ∙ address in
      let p : k.protocol_type ≡ h.protocol_type = holds.protocol ∙ protocol_same ∙ own in
      λ i. record {
        protocol_type = p i;
        interface_index = (v i).interface_index;
        arp_hrd_type = record { 0 = (v i).hardware_type };
        packet_type = (v i).packet_type;
        sender_address_valid_length = (v i).address_len;
        sender_address = a i;
      }

  never_refused : (r : LinuxSll2Refusal) → RefusesLinuxSll2 bytes r → ⊥
  never_refused _ (short lt) = omega (arith, lt, len)
  never_refused _ (packet_type t k above) =
      let w = linux_sll2_begins bytes ok (omega arith) in
      let e = ap (λ (v : LinuxSll2Value). v.packet_type) (sym (one_begun bytes (linux_sll2_of bytes) t w k) ∙ same) in
      omega (arith, e, above, packet)

  pub read_back : (r : Result LinuxSll2Header LinuxSll2Error) → AnswersHeader bytes r → ((r ≡ Ok h) ↔ HasOwnType h)
  read_back (Ok k) holds = ((λ e. tells k holds cc), (λ own. ap Ok (is_told k holds own)))
  read_back (Err (errors.Len required n)) row = ((λ f. absurd cc), (λ own. absurd (never_refused _ row)))
  read_back (Err (errors.PacketType n)) row = ((λ f. absurd cc), (λ own. absurd (never_refused _ row)))
