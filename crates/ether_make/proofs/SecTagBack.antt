-- The object of a SecTag of a line means the bytes of the tag.
use Rattle.std.proofs.Common.{◌≡◌, ℕ, ◌+◌, ◌*◌, ◌^◌, ◌<◌, Bool, true, false, not, ◌&&◌, cond, List, [], ◌∷◌, ◌++◌, codes, Option, Some, None, is_some, Ok, refl, sym, ap, ap₂, ◌∙◌, arith, append-nil, append_assoc, bytes_eq, nat_eq}
use Rattle.std.specs.Prelude.{if◌then◌else◌}
use Rattle.std.proofs.lemmas.Bool.{and_parts, eqb-true}
use Rattle.etherparse.specs.Bytes.{IsBytes, spelled}
use Rattle.etherparse.specs.Header as headers
use Rattle.etherparse.specs.Macsec.{SecTagValue, PayloadType, FitsSecTag, FitsPayloadType, encrypted_of, changed_of, sci_present_of, sec_tag_front_of, sec_tag_front_number, sci_bytes, ether_type_bytes}
use Rattle.etherparse.specs.Macsec as payloads
use Rattle.etherparse.proofs.Numbers.{IsBytes-nil, IsBytes-spelled, length-spelled}
use Rattle.serde_json.specs.Data.{Data, number, unsigned}
use Rattle.ether_fields.specs.Fields.{section_rows}
use Rattle.ether_fields.specs.Rows.{macsec_rows}
use Rattle.ether_fields.specs.Units.{is_unmodified}
use Rattle.ether_fields.specs.declared.extent.Extent.TheVariants.{Bits, SecureChannel, PayloadType as TypeExtent}
use Rattle.ether_fields.specs.declared.kind.Kind.TheVariants as kinds
use Rattle.ether_fields.specs.declared.section.Section.{Section}
use Rattle.ether_fields.specs.declared.section.Section.TheVariants as sections
use Rattle.ether_format.specs.declared.place.Place.{Place}
use Rattle.ether_format.specs.JsonBytes.{reserved_members}
use Rattle.ether_format.specs.Members.{Member, Bytes, Number, if_some, member, payload_type_value}
use Rattle.ether_format.specs.Told.{Walked, told_members}
use Rattle.ether_make.specs.Bits.{bits, bits_of, packed}
use Rattle.ether_make.specs.FieldBits.{field_bits}
use Rattle.ether_make.specs.Headers.{announced, fields_meaning, flag, header_bytes, names, section_given}
use Rattle.ether_make.specs.Objects.{first_given, given, is_among, not_null}
use Rattle.ether_make.specs.PacketData.{value_data, members_data}
use Rattle.ether_make.specs.Sizes.{is_zero_of, lengths_of}
use Rattle.ether_make.specs.declared.sizes.Lengths.{Lengths}
use Rattle.ether_make.proofs.BitBytes.{bits-join, number_packed, bytes_packed}
use Rattle.ether_make.proofs.DataLemmas.{all_known, data_known, latest}
use Rattle.ether_make.proofs.FieldsBack.{number_given, colon_given, places_skipped, fields_are}
use Rattle.ether_make.proofs.HeadersBack.{given_data, made, raw_data}

-- ---- the fields that a tag may have

abbrev sci_data : Option ℕ → Option Data
sci_data sci = not_null (Some (value_data (if_some (λ n. Bytes (spelled 8 n)) sci)))

abbrev sci_bits : Option ℕ → List Bool
sci_bits sci = bits_of (sci_bytes sci)

sci_found : (sci : Option ℕ) → is_some (sci_data sci) ≡ is_some sci
sci_found None = refl
sci_found (Some n) = refl

sci_field : (b : Bool) (sci : Option ℕ) (rule : ℕ) → b ≡ is_some sci
    → field_bits kinds.Bytes SecureChannel (cond b (Some 64) None) None (sci_data sci) rule ≡ Ok (sci_bits sci)
sci_field true None rule e = absurd (cc)
sci_field false None rule e = refl
sci_field true (Some n) rule e = colon_given 64 (spelled 8 n) (IsBytes-spelled 8 n) (omega (arith, length-spelled 8 n))
sci_field false (Some n) rule e = absurd (cc)

abbrev type_data : PayloadType → Option Data
type_data p = not_null (Some (value_data (payload_type_value p)))

abbrev type_bits : PayloadType → List Bool
type_bits (payloads.Unmodified ether_type) = bits 16 ether_type
type_bits _ = []

type_found : (p : PayloadType)
    → (is_zero_of (Some (number (unsigned (encrypted_of p)))) && is_zero_of (Some (number (unsigned (changed_of p)))))
    ≡ is_unmodified p
type_found (payloads.Unmodified ether_type) = refl
type_found payloads.Modified = refl
type_found payloads.EncryptedUnmodified = refl
type_found payloads.Encrypted = refl

type_field : (b : Bool) (p : PayloadType) (rule : ℕ) → FitsPayloadType p → b ≡ is_unmodified p
    → field_bits kinds.EtherType TypeExtent (cond b (Some 16) None) None (type_data p) rule ≡ Ok (type_bits p)
type_field true (payloads.Unmodified n) rule fits e = number_given 16 n fits
type_field false (payloads.Unmodified n) rule fits e = absurd (cc)
type_field true payloads.Modified rule fits e = absurd (cc)
type_field false payloads.Modified rule fits e = refl
type_field true payloads.EncryptedUnmodified rule fits e = absurd (cc)
type_field false payloads.EncryptedUnmodified rule fits e = refl
type_field true payloads.Encrypted rule fits e = absurd (cc)
type_field false payloads.Encrypted rule fits e = refl

type_packed : (p : PayloadType) → packed (type_bits p ++ []) ≡ ether_type_bytes p
type_packed (payloads.Unmodified n) = number_packed 2 n [] ∙ append-nil (spelled 2 n)
type_packed payloads.Modified = refl
type_packed payloads.EncryptedUnmodified = refl
type_packed payloads.Encrypted = refl

sci_flag : (sci : Option ℕ) → flag (is_some sci) ≡ sci_present_of sci
sci_flag None = refl
sci_flag (Some n) = refl

sci_ok : (sci : Option ℕ) → IsBytes (sci_bytes sci)
sci_ok None = IsBytes-nil
sci_ok (Some n) = IsBytes-spelled 8 n

nine_parts : (a b c d e f g h i r : List Bool) → (a ++ (b ++ (c ++ (d ++ (e ++ (f ++ (g ++ (h ++ i)))))))) ++ r
    ≡ a ++ (b ++ (c ++ (d ++ (e ++ (f ++ (g ++ (h ++ (i ++ r))))))))
nine_parts a b c d e f g h i r = simp append_assoc

joined_left : (a b c d : List ℕ) → a ++ (b ++ (c ++ d)) ≡ a ++ b ++ c ++ d
joined_left a b c d = simp append_assoc

-- ---- the tag

-- the bytes of a tag with these reserved bits
abbrev pub reserved_tag_bytes : (reserved : ℕ) → SecTagValue → List ℕ
reserved_tag_bytes reserved t = spelled 2 (sec_tag_front_number (sec_tag_front_of 0 reserved t))
    ++ spelled 4 t.packet_number ++ sci_bytes t.sci ++ ether_type_bytes t.payload_type

abbrev more_if : (b : Bool) → (r : ℕ) → List Member
more_if b r = if b then [] else member (codes "reserved") (Number r) ∷ []

latest_append : (name : List ℕ) (ms more : List Member) (o : Option Data)
    → latest name (ms ++ more) o ≡ latest name more (latest name ms o)
latest_append name [] more o = refl
latest_append name (m ∷ ms) more o =
    latest_append name ms more (cond (bytes_eq name m.name) (Some (value_data m.value)) o)

latest_other : (name : List ℕ) (b : Bool) (r : ℕ) (o : Option Data) → bytes_eq name (codes "reserved") ≡ false
    → latest name (more_if b r) o ≡ o
latest_other name true r o e = refl
latest_other name false r o e = ap (λ t. cond t (Some (number (unsigned r))) o) e

-- reserved bits that are 0 are not given
reserved_data : (b : Bool) → ℕ → Option Data
reserved_data b r = if b then None else Some (number (unsigned r))

reserved_given : (b : Bool) (r : ℕ) → not_null (latest (codes "reserved") (more_if b r) None) ≡ reserved_data b r
unfolding reserved_data
reserved_given true r = refl
reserved_given false r = refl

reserved_field : (b : Bool) (r : ℕ) → nat_eq r 0 ≡ b → r < 4
    → field_bits kinds.Number (Bits 2) (Some 2) None (reserved_data b r) 0 ≡ Ok (bits 2 r)
unfolding reserved_data
reserved_field true r e small = ap (λ n. Ok (bits 2 n)) (sym (eqb-true r 0 e))
reserved_field false r e small = number_given 2 r small

reserved_known : (b : Bool) (r : ℕ) → all_known (names sections.Macsec) (more_if b r) ≡ true
reserved_known true r = refl
reserved_known false r = refl

known_append : (known : List (List ℕ)) (ms more : List Member) → all_known known ms ≡ true
    → all_known known more ≡ true → all_known known (ms ++ more) ≡ true
known_append known [] more h k = k
known_append known (m ∷ ms) more h k =
    let p = and_parts (is_among known m.name) (all_known known ms) h in rw p.0 (known_append known ms more p.1 k)

module _ (at : ℕ) (next : Option Section) (place : Place) (t : SecTagValue) (r : ℕ) (small : r < 4)
    (fits : FitsSecTag t) where
  abbrev plain : List Member
  plain = told_members (Walked place (headers.Macsec t) None)

  abbrev tag : List Member
  tag = plain ++ reserved_members r

  abbrev tag_data : Data
  tag_data = members_data tag

  abbrev l : Lengths
  l = lengths_of tag_data

  -- a member that says no reserved bits
  plain_latest : (name : List ℕ) → bytes_eq name (codes "reserved") ≡ false
      → not_null (latest name tag None) ≡ not_null (latest name plain None)
  plain_latest name e =
      ap not_null (latest_append name plain (reserved_members r) None
      ∙ latest_other name (nat_eq r 0) r (latest name plain None) e)

  given_tag : (name : List ℕ) → bytes_eq name (codes "reserved") ≡ false
      → first_given name tag_data ≡ not_null (latest name plain None)
  given_tag name e = given_data name tag ∙ plain_latest name e

  raw_tag : (name : List ℕ) → bytes_eq name (codes "reserved") ≡ false
      → given name tag_data ≡ not_null (latest name plain None)
  raw_tag name e = raw_data name tag ∙ plain_latest name e

  given_reserved : first_given (codes "reserved") tag_data ≡ reserved_data (nat_eq r 0) r
  given_reserved =
      given_data (codes "reserved") tag
      ∙ ap not_null (latest_append (codes "reserved") plain (reserved_members r) None)
      ∙ reserved_given (nat_eq r 0) r

  names_known : all_known (names sections.Macsec) tag ≡ true
  names_known =
      known_append (names sections.Macsec) plain (reserved_members r) refl (reserved_known (nat_eq r 0) r)

  has_sci_is : l.sizes.has_sci ≡ is_some t.sci
  has_sci_is =
      ap₂ (λ a b. cond (is_some a) (not (is_zero_of a)) (is_some b)) (given_tag (codes "sc") refl)
      (given_tag (codes "sci") refl)
      ∙ sci_found t.sci

  has_type_is : l.sizes.has_payload_type ≡ is_unmodified t.payload_type
  has_type_is =
      ap₂ (λ a b. is_zero_of a && is_zero_of b) (given_tag (codes "e") refl) (given_tag (codes "c") refl)
      ∙ type_found t.payload_type

  tag_fields : fields_meaning at l next tag_data (section_rows sections.Macsec)
      ≡ Ok ([] ++ (bits 1 0 ++ (bits 1 t.end_station ++ (bits 1 (flag l.sizes.has_sci) ++
      (bits 1 t.single_copy_broadcast
      ++ (bits 1 (encrypted_of t.payload_type) ++ (bits 1 (changed_of t.payload_type) ++ (bits 2 t.association_number
      ++ (bits 2 r ++ (bits 6 t.short_len ++ (bits 32 t.packet_number ++ (sci_bits t.sci ++ (type_bits t.payload_type
      ++ [])))))))))))))
  tag_fields =
      let f = fits.front in
      places_skipped at l next tag_data macsec_rows
      ∙ fields_are at l next tag_data macsec_rows
      ((first_given (codes "payload") tag_data, []) ∷ (None, bits 1 0) ∷ (
        Some (number
            (unsigned t.end_station)),
        bits 1 t.end_station,
      )
      ∷ (None, bits 1 (flag l.sizes.has_sci))
      ∷ (Some (number (unsigned t.single_copy_broadcast)), bits 1 t.single_copy_broadcast)
      ∷ (Some (number (unsigned (encrypted_of t.payload_type))), bits 1 (encrypted_of t.payload_type))
      ∷ (Some (number (unsigned (changed_of t.payload_type))), bits 1 (changed_of t.payload_type))
      ∷ (Some (number (unsigned t.association_number)), bits 2 t.association_number)
      ∷ (reserved_data (nat_eq r 0) r, bits 2 r)
      ∷ (Some (number (unsigned t.short_len)), bits 6 t.short_len)
      ∷ (Some (number (unsigned t.packet_number)), bits 32 t.packet_number) ∷ (sci_data t.sci, sci_bits t.sci)
      ∷ (type_data t.payload_type, type_bits t.payload_type) ∷ []) (
        refl,
        refl,
        (
          given_tag (codes "v") refl,
          refl,
          (
            given_tag (codes "es") refl,
            number_given 1 t.end_station f.end_station,
            (
              given_tag (codes "sc") refl,
              refl,
              (
                given_tag (codes "scb") refl,
                number_given 1 t.single_copy_broadcast f.single_copy_broadcast,
                (
                  given_tag (codes "e") refl,
                  number_given 1 (encrypted_of t.payload_type) f.encrypted,
                  (
                    given_tag (codes "c") refl,
                    number_given 1 (changed_of t.payload_type) f.changed,
                    (
                      given_tag (codes "an") refl,
                      number_given 2 t.association_number f.association_number,
                      (
                        given_reserved,
                        reserved_field (nat_eq r 0) r refl small,
                        (
                          given_tag (codes "sl") refl,
                          number_given 6 t.short_len f.short_len,
                          (
                            given_tag (codes "pn") refl,
                            number_given 32 t.packet_number fits.packet_number,
                            (
                              given_tag (codes "sci") refl,
                              sci_field l.sizes.has_sci t.sci 0 has_sci_is,
                              (
                                given_tag (codes "type") refl,
                                type_field l.sizes.has_payload_type t.payload_type
                                    (announced next) fits.payload_type has_type_is,
                                tt,
                              ),
                            ),
                          ),
                        ),
                      ),
                    ),
                  ),
                ),
              ),
            ),
          ),
        ),
      )

  -- what follows the first two bytes
  abbrev later : List Bool
  later = bits 32 t.packet_number ++ (sci_bits t.sci ++ (type_bits t.payload_type ++ []))

  -- the first two bytes: V is 0
  front_joined : (sc : ℕ) → sc ≡ sci_present_of t.sci
      → bits 1 0 ++ (bits 1 t.end_station ++ (bits 1 sc ++ (bits 1 t.single_copy_broadcast
      ++ (bits 1 (encrypted_of t.payload_type) ++ (bits 1 (changed_of t.payload_type) ++ (bits 2 t.association_number
      ++ (bits 2 r ++ bits 6 t.short_len))))))) ≡ bits 16 (sec_tag_front_number (sec_tag_front_of 0 r t))
  front_joined sc same =
      let f = fits.front in
      let es = t.end_station in
      let scb = t.single_copy_broadcast in
      let e = encrypted_of t.payload_type in
      let c = changed_of t.payload_type in
      let an = t.association_number in
      let sl = t.short_len in
      let n8 : ℕ = r * 2 ^ 6 + sl in
      let n10 : ℕ = an * 2 ^ 8 + n8 in
      let n11 : ℕ = c * 2 ^ 10 + n10 in
      let n12 : ℕ = e * 2 ^ 11 + n11 in
      let n13 : ℕ = scb * 2 ^ 12 + n12 in
      let n14 : ℕ = sc * 2 ^ 13 + n13 in
      let n15 : ℕ = es * 2 ^ 14 + n14 in
      let sc_small : sc < 2 = omega (arith, f.sci_present, same) in
      let l6 : sl < 2 ^ 6 = f.short_len in
      let l8 : n8 < 2 ^ 8 = omega (arith, l6, small) in
      let l10 : n10 < 2 ^ 10 = omega (arith, l8, f.association_number) in
      let l11 : n11 < 2 ^ 11 = omega (arith, l10, f.changed) in
      let l12 : n12 < 2 ^ 12 = omega (arith, l11, f.encrypted) in
      let l13 : n13 < 2 ^ 13 = omega (arith, l12, f.single_copy_broadcast) in
      let l14 : n14 < 2 ^ 14 = omega (arith, l13, sc_small) in
      let l15 : n15 < 2 ^ 15 = omega (arith, l14, f.end_station) in
      let sum : 0 * 2 ^ 15 + n15 ≡ sec_tag_front_number (sec_tag_front_of 0 r t) = omega (arith, same) in
      let j : (x : ℕ) (a b : List Bool) → a ≡ b → bits 1 x ++ a
      ≡ bits 1 x ++ b = λ x a b same_rest. ap (λ r. bits 1 x ++ r) same_rest in
      j 0 _ _ (j es _ _ (j sc _ _ (j scb _ _ (j e _ _ (j c _ _ (ap (λ r. bits 2 an ++ r) (sym (bits-join 2 6 r sl l6))
      ∙ sym (bits-join 2 8 an n8 l8)) ∙ sym (bits-join 1 10 c n10 l10)) ∙ sym (bits-join 1 11 e n11 l11))
      ∙ sym (bits-join 1 12 scb n12 l12)) ∙ sym (bits-join 1 13 sc n13 l13)) ∙ sym (bits-join 1 14 es n14 l14))
      ∙ sym (bits-join 1 15 0 n15 l15) ∙ ap (bits 16) sum

  later_packed : packed later ≡ spelled 4 t.packet_number ++ (sci_bytes t.sci ++ ether_type_bytes t.payload_type)
  later_packed =
      number_packed 4 t.packet_number (sci_bits t.sci ++ (type_bits t.payload_type ++ []))
      ∙ ap (λ x. spelled 4 t.packet_number ++ x) (bytes_packed (sci_bytes t.sci) (sci_ok t.sci)
      (type_bits t.payload_type ++ [])
      ∙ ap (λ x. sci_bytes t.sci ++ x) (type_packed t.payload_type))

  pub tag_back : header_bytes at next tag_data ≡ Ok (reserved_tag_bytes r t)
  tag_back =
      made at next tag_data sections.Macsec _ (ap section_given (raw_tag (codes "header") refl))
      (data_known (names sections.Macsec) tag names_known) tag_fields
      ∙ ap Ok (ap packed (sym (nine_parts (bits 1 0) (bits 1 t.end_station) (bits 1 (flag l.sizes.has_sci))
      (bits 1 t.single_copy_broadcast) (bits 1 (encrypted_of t.payload_type)) (bits 1 (changed_of t.payload_type))
      (bits 2 t.association_number) (bits 2 r) (bits 6 t.short_len) later)
      ∙ ap (λ b. b ++ later) (front_joined (flag l.sizes.has_sci) (ap flag has_sci_is ∙ sci_flag t.sci)))
      ∙ number_packed 2 (sec_tag_front_number (sec_tag_front_of 0 r t)) later
      ∙ ap (λ x. spelled 2 (sec_tag_front_number (sec_tag_front_of 0 r t)) ++ x) later_packed
      ∙ joined_left (spelled 2 (sec_tag_front_number (sec_tag_front_of 0 r t))) (spelled 4 t.packet_number)
      (sci_bytes t.sci)
      (ether_type_bytes t.payload_type))
