-- What is refused and what is read of a header of cooked capture.
use Rattle.std.proofs.Common.{◌≡◌, ℕ, ◌<◌, ◌≤◌, List, length, Bool, true, false, Ok, Err, refl, sym, ap, subst, ◌∙◌, arith}
use Rattle.std.specs.Prelude.{◌↔◌, Result, slice_range, if◌then◌else◌}
use Rattle.ether_base.specs.Bytes.{IsBytes, number}
use Rattle.ether_base.specs.declared.arp_hardware_id.ArpHardwareId.{ArpHardwareId}
use Rattle.ether_base.specs.declared.err.linux_sll.header_error.HeaderError.{HeaderError}
use Rattle.ether_base.specs.declared.err.linux_sll.header_error.HeaderError.TheVariants.{UnsupportedPacketTypeField, UnsupportedArpHardwareId}
use Rattle.ether_base.specs.declared.len_source.LenSource.TheVariants as sources
use Rattle.ether_base.specs.declared.linux_sll_protocol_type.LinuxSllProtocolType.{LinuxSllProtocolType}
use Rattle.ether_base.specs.Formats.Kind as kinds
use Rattle.ether_base.specs.Formats.LinuxSll.{LinuxSllValue, IsLinuxSll, linux_sll_of, is_supported}
use Rattle.ether_base.specs.Formats.LinuxSllProtocolType.{protocol_of, protocol_type_of, protocol_number}
use Rattle.ether_base.specs.Formats.Refusal.{UnsupportedPacketType, UnsupportedHardwareType, Refuses, Accepts}
use Rattle.ether_base.specs.Formats.Refusal as rows
use Rattle.ether_base.proofs.LinuxSllFields.{linux_sll_begins, linux_sll_whole, linux_sll_accepted}
use Rattle.ether_base.proofs.Values.{linux_sll_unique}
use Rattle.ether_sll.specs.declared.linux_sll_header.LinuxSllHeader.{LinuxSllHeader}
use Rattle.ether_sll.specs.LinuxSll.{HoldsLinuxSll, HoldsHeader, AnswersHeader, IsRefusedContent, linux_sll_view, HasOwnType}

-- ---- the tests

pub refused_packet_type : (bytes : List ℕ) (n : ℕ) (e : HeaderError) → IsBytes bytes → 16 ≤ length bytes
    → n ≡ number (slice_range bytes 0 2) → 7 < n → e ≡ UnsupportedPacketTypeField n → IsRefusedContent bytes e
refused_packet_type bytes n e ok le is above same =
    let row : Refuses sources.Slice bytes kinds.LinuxSll (UnsupportedPacketType n) =
    subst (λ (k : ℕ). Refuses sources.Slice bytes kinds.LinuxSll (UnsupportedPacketType k)) (sym is)
    (rows.linux_sll_packet_type (linux_sll_of bytes) le (linux_sll_begins bytes ok le)
    (subst (λ (k : ℕ). 7 < k) is above)) in
    subst (IsRefusedContent bytes) (sym same) row

-- the row of an unsupported hardware type, and none of a supported one
pub unsupported : (b : Bool) (p : LinuxSllProtocolType) (hardware : ArpHardwareId) (e : HeaderError)
    → Err e ≡ (if b then Ok p else Err (UnsupportedArpHardwareId hardware))
    → (b ≡ false) × (e ≡ UnsupportedArpHardwareId hardware)
unsupported true p hardware e h = absurd cc
unsupported false p hardware e h = (refl, cc)

pub supported : (b : Bool) (p q : LinuxSllProtocolType) (e : HeaderError) → (if b then Ok p else Err e) ≡ Ok q
    → (b ≡ true) × (p ≡ q)
supported true p q e h = (refl, cc)
supported false p q e h = absurd cc

pub refused_hardware : (bytes : List ℕ) (hardware : ArpHardwareId) (n : ℕ) (e : HeaderError) → IsBytes bytes
    → 16 ≤ length bytes → number (slice_range bytes 0 2) ≤ 7 → hardware.0 ≡ number (slice_range bytes 2 4)
    → Err e ≡ protocol_type_of hardware n
    → IsRefusedContent bytes e
refused_hardware bytes hardware n e ok le packet is answer =
    let u = unsupported (is_supported hardware.0) (protocol_of hardware.0 n) hardware e answer in
    let row : Refuses sources.Slice bytes kinds.LinuxSll (UnsupportedHardwareType hardware.0) =
    subst (λ (k : ℕ). Refuses sources.Slice bytes kinds.LinuxSll (UnsupportedHardwareType k)) (sym is)
    (rows.linux_sll_hardware_type (linux_sll_of bytes) le (linux_sll_begins bytes ok le) packet
    (subst (λ (k : ℕ). is_supported k ≡ false) is u.0)) in
    subst (IsRefusedContent bytes) (sym u.1) row

pub holds_accepts : (bytes : List ℕ) → IsBytes bytes → HoldsLinuxSll bytes → Accepts sources.Slice bytes kinds.LinuxSll
holds_accepts bytes ok h = linux_sll_accepted sources.Slice bytes ok h.0 h.1 h.2

-- ---- reading back

-- the hardware type of accepted bytes
accepts_hardware : (bytes : List ℕ) (b : Bool) → IsBytes bytes → 16 ≤ length bytes
    → (linux_sll_of bytes).packet_type ≤ 7 → is_supported (linux_sll_of bytes).hardware_type ≡ b
    → Accepts sources.Slice bytes kinds.LinuxSll
    → is_supported (linux_sll_of bytes).hardware_type ≡ true
accepts_hardware bytes true ok le packet is accepted = is
accepts_hardware bytes false ok le packet is accepted =
    absurd (accepted _ (rows.linux_sll_hardware_type (linux_sll_of bytes) le (linux_sll_begins bytes ok le) packet is))

refused_not_accepted : (bytes : List ℕ) (e : HeaderError) → IsRefusedContent bytes e
    → Accepts sources.Slice bytes kinds.LinuxSll → ⊥
refused_not_accepted bytes (UnsupportedPacketTypeField n) row accepted = accepted _ row
refused_not_accepted bytes (UnsupportedArpHardwareId hardware) row accepted = accepted _ row

module _ (bytes : List ℕ) (h : LinuxSllHeader) (ok : IsBytes bytes) (len : length bytes ≡ 16)
    (is : IsLinuxSll bytes (linux_sll_view h)) (address : slice_range bytes 6 14 ≡ h.sender_address)
    (packet : h.packet_type ≤ 7) where
  -- the numbers of the bytes are those of the header
  same : linux_sll_of bytes ≡ linux_sll_view h
  same =
      let w = linux_sll_whole bytes ok len in
      linux_sll_unique (linux_sll_of bytes) (linux_sll_view h) w.fits is.fits (sym w.sum ∙ is.sum)

  packet_of : (linux_sll_of bytes).packet_type ≤ 7
  packet_of = subst (λ (s : LinuxSllValue). s.packet_type ≤ 7) (sym same) packet

  protocol_same : protocol_of (linux_sll_of bytes).hardware_type (linux_sll_of bytes).protocol
      ≡ protocol_of h.arp_hrd_type.0 (protocol_number h.protocol_type)
  protocol_same = ap (λ (s : LinuxSllValue). protocol_of s.hardware_type s.protocol) same

  tells : (k : LinuxSllHeader) → HoldsHeader bytes k → k ≡ h → HasOwnType h
  tells k holds e =
      let s =
      accepts_hardware bytes (is_supported (linux_sll_of bytes).hardware_type) ok (omega arith) packet_of refl
      holds.accepted in
      let t : is_supported h.arp_hrd_type.0 ≡ true =
      subst (λ (v : LinuxSllValue). is_supported v.hardware_type ≡ true) same s in
      let p : protocol_of h.arp_hrd_type.0 (protocol_number h.protocol_type) ≡ h.protocol_type =
      sym protocol_same ∙ sym holds.protocol ∙ ap (λ (x : LinuxSllHeader). x.protocol_type) e in
      ap
      (λ (b : Bool).
      if b then Ok (protocol_of h.arp_hrd_type.0 (protocol_number h.protocol_type))
      else Err (UnsupportedArpHardwareId h.arp_hrd_type))
      t
      ∙ ap Ok p

  is_told : (k : LinuxSllHeader) → HoldsHeader bytes k → HasOwnType h → k ≡ h
  is_told k holds e =
      let v : linux_sll_view k ≡ linux_sll_view h =
      linux_sll_unique (linux_sll_view k) (linux_sll_view h) holds.value.fits is.fits
      (sym holds.value.sum ∙ is.sum) in
      let a : k.sender_address ≡ h.sender_address = holds.address ∙ address in
      let u =
      supported (is_supported h.arp_hrd_type.0) (protocol_of h.arp_hrd_type.0 (protocol_number h.protocol_type))
      h.protocol_type (UnsupportedArpHardwareId h.arp_hrd_type) e in
      let p : k.protocol_type ≡ h.protocol_type = holds.protocol ∙ protocol_same ∙ u.1 in
      λ i. record {
        packet_type = (v i).packet_type;
        arp_hrd_type = record { 0 = (v i).hardware_type };
        sender_address_valid_length = (v i).address_len;
        sender_address = a i;
        protocol_type = p i;
      }

  never_refused : (e : HeaderError) → IsRefusedContent bytes e → HasOwnType h → ⊥
  never_refused e row told =
      let u =
      supported (is_supported h.arp_hrd_type.0) (protocol_of h.arp_hrd_type.0 (protocol_number h.protocol_type))
      h.protocol_type (UnsupportedArpHardwareId h.arp_hrd_type) told in
      let t : is_supported (linux_sll_of bytes).hardware_type ≡ true =
      subst (λ (v : LinuxSllValue). is_supported v.hardware_type ≡ true) (sym same) u.0 in
      refused_not_accepted bytes e row (linux_sll_accepted sources.Slice bytes ok (omega arith) packet_of t)

  pub read_back : (r : Result LinuxSllHeader HeaderError) → AnswersHeader bytes r → ((r ≡ Ok h) ↔ (HasOwnType h))
  read_back (Ok k) holds = ((λ e. tells k holds cc), (λ p. ap Ok (is_told k holds p)))
  read_back (Err e) row = ((λ f. absurd cc), (λ p. absurd (never_refused e row p)))
