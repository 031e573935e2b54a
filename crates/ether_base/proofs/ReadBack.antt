-- The bytes of a header mean that header.
use Rattle.std.proofs.Common.{◌≡◌, ℕ, ◌+◌, ◌*◌, ◌^◌, ◌<◌, List, [], ◌++◌, length, refl, sym, ap, subst, ◌∙◌, arith}
use Rattle.std.specs.Prelude.{slice_range, Option, Some, None}
use Rattle.std.proofs.lemmas.List.{length-append, append_assoc, append-nil}
use Rattle.ether_base.specs.Bytes.{number, spelled}
use Rattle.ether_base.specs.Formats.Ethernet2.{ethernet2_number}
use Rattle.ether_base.specs.Formats.Vlan.{vlan_number}
use Rattle.ether_base.specs.Formats.LinuxSll.{linux_sll_number}
use Rattle.ether_base.specs.Formats.Macsec.{BeginsSecTag, sec_tag_front_number, PayloadType, Unmodified, Modified, Encrypted, EncryptedUnmodified, SecTagValue, encrypted_of, changed_of, ether_type_len, sci_present_of, sec_tag_front_of, sec_tag_len, HasSci, HasEtherType, IsSecTag, FitsSci, FitsPayloadType, FitsSecTag, sci_bytes, ether_type_bytes, sec_tag_bytes}
use Rattle.ether_base.specs.Formats.Arp.{ArpValue, FitsArp, IsArp, arp_front_of, arp_front_number, arp_len, arp_bytes}
use Rattle.ether_base.specs.Formats.Header.{Header, header_len, header_bytes, Spells, Means, FitsHeader}
use Rattle.ether_base.specs.Formats.Header as headers
use Rattle.ether_base.proofs.Numbers.{length-spelled, number-spelled}
use Rattle.ether_base.proofs.SubLists.{part-append, part_all, part_after_front}

-- a list of its own and more after it
means_front : (bytes more : List ℕ) (h : Header) → length bytes ≡ header_len h → Spells bytes h
    → Means (bytes ++ more) h
means_front bytes more h len spells = record {
  whole = omega (arith, length-append bytes more);
  spells =
      subst (λ (b : List ℕ). Spells b h)
      (sym
      (part-append bytes more 0 (header_len h) (omega arith) (omega arith)
      ∙ part_all bytes (header_len h) (omega arith)))
      spells;
}

length-sci : (s : Option ℕ) → length (sci_bytes s) ≡ 8 * sci_present_of s
unfolding spelled
length-sci None = refl
length-sci (Some n) = refl

length-type : (p : PayloadType) → length (ether_type_bytes p) ≡ ether_type_len (encrypted_of p) (changed_of p)
unfolding spelled
length-type (Unmodified n) = refl
length-type Modified = refl
length-type EncryptedUnmodified = refl
length-type Encrypted = refl

-- a number that follows some bytes
number_after : (front more : List ℕ) (i k n : ℕ) → length front ≡ i → n < 256 ^ k
    → number (slice_range (front ++ spelled k n ++ more) i (i + k)) ≡ n
number_after front more i k n len lt =
    ap number (part_after_front front (spelled k n) more i (i + k) len (omega (arith, length-spelled k n)))
    ∙ number-spelled k n lt

sci_back : (a : List ℕ) (s : Option ℕ) (more : List ℕ) → length a ≡ 6 → FitsSci s → HasSci (a ++ sci_bytes s ++ more) s
sci_back a None more len fits = tt
sci_back a (Some n) more len fits = number_after a more 6 8 n len fits

type_back : (a : List ℕ) (from : ℕ) (p : PayloadType) (more : List ℕ) → length a ≡ from → FitsPayloadType p
    → HasEtherType (a ++ ether_type_bytes p ++ more) from p
type_back a from (Unmodified n) more len fits = number_after a more from 2 n len fits
type_back a from Modified more len fits = tt
type_back a from EncryptedUnmodified more len fits = tt
type_back a from Encrypted more len fits = tt

pub sec_tag_front_back : (t : SecTagValue) → FitsSecTag t → BeginsSecTag (sec_tag_bytes t) (sec_tag_front_of 0 0 t)
unfolding spelled
sec_tag_front_back t f =
    let r = f.front in
    let c = sec_tag_front_number (sec_tag_front_of 0 0 t) in
    let small : c < 256 ^ 2 = omega arith in
    record { sum = number-spelled 2 c small; fits = f.front }

tag_back : (t : SecTagValue) → FitsSecTag t → IsSecTag (sec_tag_bytes t) t
unfolding spelled
tag_back t f =
    let a = spelled 2 (sec_tag_front_number (sec_tag_front_of 0 0 t)) in
    let b = a ++ spelled 4 t.packet_number in
    let d = b ++ sci_bytes t.sci in
    let ls = length-sci t.sci in
    let p =
    number_after a (sci_bytes t.sci ++ ether_type_bytes t.payload_type) 2 4 t.packet_number refl f.packet_number in
    let y =
    type_back d (6 + 8 * sci_present_of t.sci) t.payload_type []
    (omega (arith, length-append b (sci_bytes t.sci))) f.payload_type in
    record {
      version = 0;
      reserved = 0;
      front = sec_tag_front_back t f;
      packet_number =
          ap (λ (l : List ℕ). number (slice_range l 2 6))
          (append_assoc b (sci_bytes t.sci) (ether_type_bytes t.payload_type))
          ∙ p;
      sci = sci_back b t.sci (ether_type_bytes t.payload_type) refl f.sci;
      ether_type =
          subst (λ (l : List ℕ). HasEtherType l (6 + 8 * sci_present_of t.sci) t.payload_type)
          (append-nil (sec_tag_bytes t)) y;
    }

length-tag : (t : SecTagValue) → length (sec_tag_bytes t) ≡ sec_tag_len (sec_tag_front_of 0 0 t)
unfolding spelled
length-tag t =
    let a = spelled 2 (sec_tag_front_number (sec_tag_front_of 0 0 t)) ++ spelled 4 t.packet_number in
    omega (
      arith,
      length-append (a ++ sci_bytes t.sci) (ether_type_bytes t.payload_type),
      length-append a (sci_bytes t.sci),
      length-sci t.sci,
      length-type t.payload_type,
    )

arp_back : (a : ArpValue) → FitsArp a → IsArp (arp_bytes a) a
unfolding spelled
arp_back a f =
    let r = f.front in
    let n = arp_front_number (arp_front_of a) in
    let small : n < 256 ^ 8 = omega arith in
    let x = spelled 8 n ++ a.sender_hardware in
    let y = x ++ a.sender_protocol in
    let z = y ++ a.target_hardware in
    let lx : length x ≡ 8 + length a.sender_hardware = length-append (spelled 8 n) a.sender_hardware in
    let ly : length y ≡ 8 + length a.sender_hardware + length a.sender_protocol =
    length-append x a.sender_protocol ∙ ap (λ (k : ℕ). k + length a.sender_protocol) lx in
    let hw = f.hardware in
    let lz : length z ≡ 8 + 2 * length a.sender_hardware + length a.sender_protocol =
    length-append y a.target_hardware ∙ omega arith in
    let two = append_assoc y a.target_hardware a.target_protocol in
    let three = two ∙ append_assoc x a.sender_protocol (a.target_hardware ++ a.target_protocol) in
    record {
      front = record { sum = number-spelled 8 n small; fits = r };
      sender_hardware =
          ap (λ (l : List ℕ). slice_range l 8 (8 + length a.sender_hardware)) three
          ∙ part_after_front (spelled 8 n) a.sender_hardware
          (a.sender_protocol ++ (a.target_hardware ++ a.target_protocol)) 8 (8 + length a.sender_hardware) refl
          refl;
      sender_protocol =
          ap
          (λ (l : List ℕ).
          slice_range l (8 + length a.sender_hardware) (8 + length a.sender_hardware + length a.sender_protocol))
          two
          ∙ part_after_front x a.sender_protocol (a.target_hardware ++ a.target_protocol)
          (8 + length a.sender_hardware) (8 + length a.sender_hardware + length a.sender_protocol) lx refl;
      target_hardware =
          part_after_front y a.target_hardware a.target_protocol
          (8 + length a.sender_hardware + length a.sender_protocol)
          (8 + length a.sender_hardware + length a.sender_protocol + length a.sender_hardware) ly (omega arith);
      target_protocol =
          ap
          (λ (l : List ℕ).
          slice_range l (8 + 2 * length a.sender_hardware + length a.sender_protocol)
          (8 + 2 * length a.sender_hardware + length a.sender_protocol + length a.sender_protocol))
          (sym (append-nil (arp_bytes a)))
          ∙ part_after_front z a.target_protocol [] (8 + 2 * length a.sender_hardware + length a.sender_protocol)
          (8 + 2 * length a.sender_hardware + length a.sender_protocol + length a.sender_protocol) lz
          (let pr = f.protocol in omega arith);
    }

length-arp : (a : ArpValue) → FitsArp a → length (arp_bytes a) ≡ arp_len (arp_front_of a)
unfolding spelled
length-arp a f =
    let x = spelled 8 (arp_front_number (arp_front_of a)) ++ a.sender_hardware in
    let y = x ++ a.sender_protocol in
    let hw = f.hardware in
    let pr = f.protocol in
    omega (
      arith,
      length-append (spelled 8 (arp_front_number (arp_front_of a))) a.sender_hardware,
      length-append x a.sender_protocol,
      length-append y a.target_hardware,
      length-append (y ++ a.target_hardware) a.target_protocol,
    )

pub length-header_bytes : (h : Header) → FitsHeader h → length (header_bytes h) ≡ header_len h
unfolding spelled
length-header_bytes (headers.Ethernet2 e) f = refl
length-header_bytes (headers.Ethernet2Fcs e) f = refl
length-header_bytes (headers.LinuxSll s) f = refl
length-header_bytes (headers.Vlan v) f = refl
length-header_bytes (headers.Macsec t) f = length-tag t
length-header_bytes (headers.Arp a) f = length-arp a f

pub spells-header_bytes : (h : Header) → FitsHeader h → Spells (header_bytes h) h
unfolding spelled
spells-header_bytes (headers.Ethernet2 e) f = record {
  sum = number-spelled 14 (ethernet2_number e) (omega arith);
  fits = f;
}
spells-header_bytes (headers.Ethernet2Fcs e) f = record {
  sum = number-spelled 14 (ethernet2_number e) (omega arith);
  fits = f;
}
spells-header_bytes (headers.LinuxSll s) f = record {
  sum = number-spelled 16 (linux_sll_number s) (omega arith);
  fits = f;
}
spells-header_bytes (headers.Vlan v) f = record { sum = number-spelled 4 (vlan_number v) (omega arith); fits = f }
spells-header_bytes (headers.Macsec t) f = tag_back t f
spells-header_bytes (headers.Arp a) f = arp_back a f

pub means-header_bytes : (h : Header) (more : List ℕ) → FitsHeader h → Means (header_bytes h ++ more) h
means-header_bytes h more f = means_front (header_bytes h) more h (length-header_bytes h f) (spells-header_bytes h f)
