-- The object of an ARP packet of a line means the bytes of the packet.
use Rattle.std.proofs.Common.{◌≡◌, ℕ, ◌+◌, ◌*◌, ◌^◌, ◌<◌, Bool, true, false, ◌&&◌, nat_eq, cond, List, [], ◌∷◌, ◌++◌, codes, length, Option, Some, None, Ok, option_and_then, refl, sym, ap, ◌∙◌, arith, append-nil, append_assoc}
use Rattle.std.proofs.lemmas.Bool.{and_parts, eqb-true, lt-ltb}
use Rattle.std.specs.Prelude.{unwrap_or}
use Rattle.std.specs.Option.{option_or}
use Rattle.etherparse.specs.Arp.{ArpValue, FitsArp, arp_front_of, arp_front_number, arp_bytes}
use Rattle.etherparse.specs.Bytes.{IsBytes, spelled}
use Rattle.etherparse.specs.Header as headers
use Rattle.serde_json.specs.Data.{Data, number, unsigned, string}
use Rattle.ether_fields.specs.Fields.{section_rows}
use Rattle.ether_fields.specs.Rows.{arp_rows}
use Rattle.ether_fields.specs.declared.kind.Kind.TheVariants as kinds
use Rattle.ether_fields.specs.declared.section.Section.{Section}
use Rattle.ether_fields.specs.declared.section.Section.TheVariants as sections
use Rattle.ether_format.specs.declared.place.Place.{Place}
use Rattle.ether_format.specs.Members.{Member, Bytes, Dotted}
use Rattle.ether_format.specs.Spelling.{colon_text}
use Rattle.ether_format.specs.Told.{Walked, told_members}
use Rattle.ether_make.specs.Bits.{bits, bits_of, packed}
use Rattle.ether_make.specs.FieldBits.{bytes_bits, given_bits}
use Rattle.ether_make.specs.Headers.{fields_meaning, header_bytes, names, section_given}
use Rattle.ether_make.specs.Objects.{first_given, not_null_of, number_of}
use Rattle.ether_make.specs.PacketData.{value_data, members_data}
use Rattle.ether_make.specs.Sizes.{address_size, byte_size, lengths_of, size}
use Rattle.ether_make.specs.declared.sizes.Lengths.{Lengths}
use Rattle.ether_make.proofs.BitBytes.{bits-join, number_packed, bytes_packed}
use Rattle.ether_make.proofs.DataLemmas.{data_known}
use Rattle.ether_make.proofs.FieldsBack.{number_given, bytes_given, colon_given, places_skipped, fields_are}
use Rattle.ether_make.proofs.HeadersBack.{given_data, made, raw_data}
use Rattle.ether_make.proofs.TextsBack.{colon_no_dot, dotted_read, dotted_has_dot}

-- ---- the address of a protocol

abbrev address_data : (t : Bool) → List ℕ → Data
address_data t bytes = value_data (cond t (Dotted bytes) (Bytes bytes))

not_missing : (t : Bool) (bytes : List ℕ) → not_null_of (address_data t bytes) ≡ Some (address_data t bytes)
not_missing true bytes = refl
not_missing false bytes = refl

address_given : (t : Bool) (len : ℕ) (bytes : List ℕ) → IsBytes bytes → (t ≡ true → length bytes ≡ 4)
    → 8 * length bytes ≡ len
    → given_bits kinds.ProtocolAddress len len (address_data t bytes) ≡ Ok (bits_of bytes)
address_given false len bytes ok four e = rw (colon_no_dot bytes ok) (colon_given len bytes ok e)
address_given true len [] ok four e = absurd (omega (arith, four refl))
address_given true len (a ∷ []) ok four e = absurd (omega (arith, four refl))
address_given true len (a ∷ b ∷ bs) ok four e =
    rw (dotted_has_dot a b bs) (ap (bytes_bits len len) (dotted_read a (b ∷ bs) ok) ∙ bytes_given len (a ∷ b ∷ bs) e)

-- ---- sizes

size_given : (count first second : List ℕ) (usual n : ℕ) (d : Data) → n < 256
    → first_given count d ≡ Some (number (unsigned n))
    → size count first second usual d ≡ n
size_given count first second usual n d small e =
    ap (λ o. unwrap_or (option_or (option_and_then byte_size (option_and_then number_of o)) (option_or
    (address_size first d) (address_size second d))) usual) e
    ∙ rw (lt-ltb n 256 small) refl

joined_left : (s a b c d : List ℕ) → s ++ (a ++ (b ++ (c ++ d))) ≡ s ++ a ++ b ++ c ++ d
joined_left s a b c d = simp append_assoc

five_parts : (a b c d e r : List Bool) → (a ++ (b ++ (c ++ (d ++ e)))) ++ r ≡ a ++ (b ++ (c ++ (d ++ (e ++ r))))
five_parts a b c d e r = simp append_assoc

module _ (at : ℕ) (next : Option Section) (place : Place) (a : ArpValue) (fits : FitsArp a) where
  abbrev arp : List Member
  arp = told_members (Walked place (headers.Arp a) None)

  abbrev arp_data : Data
  arp_data = members_data arp

  abbrev l : Lengths
  l = lengths_of arp_data

  abbrev four : List ℕ → Bool
  four bytes = nat_eq a.protocol_type 0x0800 && nat_eq (length bytes) 4

  is_four : (bytes : List ℕ) → four bytes ≡ true → length bytes ≡ 4
  is_four bytes e = eqb-true (length bytes) 4 (and_parts (nat_eq a.protocol_type 0x0800) _ e).1

  hardware_len : (bytes : List ℕ) → length bytes ≡ length a.sender_hardware → 8 * length bytes ≡ l.sizes.hardware
  hardware_len bytes e =
      ap (λ n. 8 * n) (e ∙ sym (size_given (codes "hln") (codes "sha") (codes "tha") 6
      (length a.sender_hardware) arp_data
      fits.front.hardware_size (given_data (codes "hln") arp)))

  protocol_len : (bytes : List ℕ) → length bytes ≡ length a.sender_protocol → 8 * length bytes ≡ l.sizes.protocol
  protocol_len bytes e =
      ap (λ n. 8 * n) (e ∙ sym (size_given (codes "pln") (codes "spa") (codes "tpa") 4
      (length a.sender_protocol) arp_data
      fits.front.protocol_size (given_data (codes "pln") arp)))

  arp_fields : fields_meaning at l next arp_data (section_rows sections.Arp)
      ≡ Ok (bits 16 a.hardware_type ++ (bits 16 a.protocol_type ++ (bits 8 (length a.sender_hardware)
      ++ (bits 8 (length a.sender_protocol) ++ (bits 16 a.operation ++ (bits_of a.sender_hardware ++
      (bits_of a.sender_protocol
      ++ (bits_of a.target_hardware ++ (bits_of a.target_protocol ++ [])))))))))
  arp_fields =
      places_skipped at l next arp_data arp_rows
      ∙ fields_are at l next arp_data arp_rows
      ((Some (number (unsigned a.hardware_type)), bits 16 a.hardware_type)
      ∷ (Some (number (unsigned a.protocol_type)), bits 16 a.protocol_type)
      ∷ (Some (number (unsigned (length a.sender_hardware))), bits 8 (length a.sender_hardware))
      ∷ (Some (number (unsigned (length a.sender_protocol))), bits 8 (length a.sender_protocol))
      ∷ (Some (number (unsigned a.operation)), bits 16 a.operation)
      ∷ (Some (string (colon_text a.sender_hardware)), bits_of a.sender_hardware)
      ∷ (Some (address_data (four a.sender_protocol) a.sender_protocol), bits_of a.sender_protocol)
      ∷ (Some (string (colon_text a.target_hardware)), bits_of a.target_hardware)
      ∷ (Some (address_data (four a.target_protocol) a.target_protocol), bits_of a.target_protocol) ∷ []) (
        given_data (codes "hrd") arp,
        number_given 16 a.hardware_type fits.front.hardware_type,
        (
          given_data (codes "pro") arp,
          number_given 16 a.protocol_type fits.front.protocol_type,
          (
            given_data (codes "hln") arp,
            number_given 8 (length a.sender_hardware) fits.front.hardware_size,
            (
              given_data (codes "pln") arp,
              number_given 8 (length a.sender_protocol) fits.front.protocol_size,
              (
                given_data (codes "op") arp,
                number_given 16 a.operation fits.front.operation,
                (
                  given_data (codes "sha") arp,
                  colon_given l.sizes.hardware a.sender_hardware fits.sender_hardware
                      (hardware_len a.sender_hardware refl),
                  (
                    given_data (codes "spa") arp ∙ not_missing (four a.sender_protocol) a.sender_protocol,
                    address_given (four a.sender_protocol) l.sizes.protocol a.sender_protocol fits.sender_protocol
                        (is_four a.sender_protocol) (protocol_len a.sender_protocol refl),
                    (
                      given_data (codes "tha") arp,
                      colon_given l.sizes.hardware a.target_hardware fits.target_hardware
                          (hardware_len a.target_hardware fits.hardware),
                      (
                        given_data (codes "tpa") arp ∙ not_missing (four a.target_protocol) a.target_protocol,
                        address_given (four a.target_protocol) l.sizes.protocol a.target_protocol fits.target_protocol
                            (is_four a.target_protocol) (protocol_len a.target_protocol fits.protocol),
                        tt,
                      ),
                    ),
                  ),
                ),
              ),
            ),
          ),
        ),
      )

  -- the five numbers of the front, in 64 bits
  front_joined : bits 16 a.hardware_type ++ (bits 16 a.protocol_type ++ (bits 8 (length a.sender_hardware)
      ++ (bits 8 (length a.sender_protocol) ++ bits 16 a.operation))) ≡ bits 64 (arp_front_number (arp_front_of a))
  front_joined =
      let h = length a.sender_hardware in
      let p = length a.sender_protocol in
      let f = fits.front in
      let one : p * 2 ^ 16 + a.operation < 2 ^ 24 = omega (arith, f.protocol_size, f.operation) in
      let two : h * 2 ^ 24 + (p * 2 ^ 16 + a.operation) < 2 ^ 32 =
      omega (arith, f.hardware_size, f.protocol_size, f.operation) in
      let three : a.protocol_type * 2 ^ 32 + (h * 2 ^ 24 + (p * 2 ^ 16 + a.operation)) < 2 ^ 48 =
      omega (arith, f.protocol_type, f.hardware_size, f.protocol_size, f.operation) in
      let sum : a.hardware_type * 2 ^ 48 + (a.protocol_type * 2 ^ 32 + (h * 2 ^ 24 + (p * 2 ^ 16 + a.operation)))
      ≡ arp_front_number (arp_front_of a) = omega arith in
      ap (λ b. bits 16 a.hardware_type ++ (bits 16 a.protocol_type ++ (bits 8 h ++ b)))
      (sym (bits-join 8 16 p a.operation (omega (arith, f.operation))))
      ∙ ap (λ b. bits 16 a.hardware_type ++ (bits 16 a.protocol_type ++ b)) (sym (bits-join 8 24 h _ one))
      ∙ ap (λ b. bits 16 a.hardware_type ++ b) (sym (bits-join 16 32 a.protocol_type _ two))
      ∙ sym (bits-join 16 48 a.hardware_type _ three) ∙ ap (bits 64) sum

  addresses_packed : packed (bits_of a.sender_hardware ++ (bits_of a.sender_protocol ++ (bits_of a.target_hardware
      ++ (bits_of a.target_protocol ++ []))))
      ≡ a.sender_hardware ++ (a.sender_protocol ++ (a.target_hardware ++ a.target_protocol))
  addresses_packed =
      bytes_packed a.sender_hardware fits.sender_hardware _
      ∙ ap (λ x. a.sender_hardware ++ x) (bytes_packed a.sender_protocol fits.sender_protocol _
      ∙ ap (λ x. a.sender_protocol ++ x) (bytes_packed a.target_hardware fits.target_hardware _
      ∙ ap (λ x. a.target_hardware ++ x) (bytes_packed a.target_protocol fits.target_protocol []
      ∙ append-nil a.target_protocol)))

  abbrev addresses : List Bool
  addresses = bits_of a.sender_hardware ++ (bits_of a.sender_protocol ++ (bits_of a.target_hardware
      ++ (bits_of a.target_protocol ++ [])))

  front_append : bits 16 a.hardware_type ++ (bits 16 a.protocol_type ++ (bits 8 (length a.sender_hardware)
      ++ (bits 8 (length a.sender_protocol) ++ (bits 16 a.operation ++ addresses))))
      ≡ bits 64 (arp_front_number (arp_front_of a)) ++ addresses
  front_append =
      sym (five_parts (bits 16 a.hardware_type) (bits 16 a.protocol_type) (bits 8 (length a.sender_hardware))
      (bits 8 (length a.sender_protocol)) (bits 16 a.operation) addresses)
      ∙ ap (λ b. b ++ addresses) front_joined

  pub arp_back : header_bytes at next arp_data ≡ Ok (arp_bytes a)
  arp_back =
      made at next arp_data sections.Arp _ (ap section_given (raw_data (codes "header") arp))
      (data_known (names sections.Arp) arp refl) arp_fields
      ∙ ap Ok (ap packed front_append ∙ number_packed 8 (arp_front_number (arp_front_of a)) addresses
      ∙ ap (λ x. spelled 8 (arp_front_number (arp_front_of a)) ++ x) addresses_packed
      ∙ joined_left (spelled 8 (arp_front_number
      (arp_front_of a))) a.sender_hardware a.sender_protocol a.target_hardware
      a.target_protocol)
