-- The object of a header of a packet's line means the bytes of the header.
use Rattle.std.proofs.Common.{◌≡◌, ℕ, ◌+◌, ◌*◌, ◌^◌, ◌<◌, Bool, List, [], ◌∷◌, ◌++◌, codes, Option, Some, None, Ok, refl, sym, ap, ap₂, ◌∙◌, arith, append-nil}
use Rattle.etherparse.specs.Bytes.{spelled}
use Rattle.etherparse.specs.Ethernet2.{Ethernet2Value, FitsEthernet2, ethernet2_number, ethernet2_bytes}
use Rattle.etherparse.specs.Vlan.{VlanValue, FitsVlan, vlan_number, vlan_bytes}
use Rattle.etherparse.specs.Header as headers
use Rattle.etherparse.proofs.Numbers.{IsBytes-spelled, length-spelled}
use Rattle.std.specs.Option.{option_and_then}
use Rattle.serde_json.specs.Data.{Data, number, unsigned, string}
use Rattle.ether_fields.specs.Fields.{section_rows}
use Rattle.ether_fields.specs.Rows.{vlan_rows, ethernet2_rows}
use Rattle.ether_fields.specs.declared.kind.Kind.TheVariants as kinds
use Rattle.ether_fields.specs.declared.section.Section.{Section}
use Rattle.ether_fields.specs.declared.section.Section.TheVariants as sections
use Rattle.ether_format.specs.declared.place.Place.{Place}
use Rattle.ether_format.specs.Members.{Member}
use Rattle.ether_format.specs.Told.{Walked, told_members}
use Rattle.ether_make.specs.Bits.{bits, bits_of, packed}
use Rattle.ether_format.specs.Spelling.{colon_text}
use Rattle.ether_make.specs.FieldBits.{given_bits}
use Rattle.ether_make.specs.Headers.{fields_meaning, header_bytes, names, section_in, section_given}
use Rattle.ether_make.specs.Objects.{first_given, first_of, given, not_null, unknown_member}
use Rattle.ether_make.specs.PacketData.{members_data}
use Rattle.ether_make.specs.Refusals.{result_map}
use Rattle.ether_make.specs.Sizes.{lengths_of}
use Rattle.ether_make.specs.declared.sizes.Lengths.{Lengths}
use Rattle.ether_make.proofs.BitBytes.{bits-join, number_packed, bits_of-spelled}
use Rattle.ether_make.proofs.DataLemmas.{latest, latest_plain, get_data, data_known}
use Rattle.ether_make.proofs.FieldsBack.{number_given, colon_given, places_skipped, fields_are}

pub raw_data : (name : List ℕ) (ms : List Member) → given name (members_data ms) ≡ not_null (latest name ms None)
raw_data name ms = ap not_null (get_data name ms)

-- the value of a field, which is no range
pub given_data : (name : List ℕ) (ms : List Member)
    → first_given name (members_data ms) ≡ not_null (latest name ms None)
given_data name ms = ap (option_and_then first_of) (raw_data name ms) ∙ latest_plain name ms None refl

-- the bytes of an object that names a section, has no other members, and whose fields have these bits
pub made : (at : ℕ) (next : Option Section) (d : Data) (s : Section) (bs : List Bool) → section_in d ≡ Ok s
    → unknown_member (names s) d ≡ None → fields_meaning at (lengths_of d) next d (section_rows s) ≡ Ok bs
    → header_bytes at next d ≡ Ok (packed bs)
made at next d s bs named known fields =
    rw (named, known) (ap (result_map packed) fields)

-- ---- a VLAN tag

module _ (at : ℕ) (next : Option Section) (place : Place) (v : VlanValue) (fits : FitsVlan v) where
  abbrev vlan : List Member
  vlan = told_members (Walked place (headers.Vlan v) None)

  abbrev vlan_data : Data
  vlan_data = members_data vlan

  vlan_fields : (l : Lengths) → fields_meaning at l next vlan_data (section_rows sections.Vlan)
      ≡ Ok (bits 3 v.pcp ++ (bits 1 v.dei ++ (bits 12 v.vid ++ (bits 16 v.ether_type ++ []))))
  vlan_fields l =
      places_skipped at l next vlan_data vlan_rows
      ∙ fields_are at l next vlan_data vlan_rows ((Some (number (unsigned v.pcp)), bits 3 v.pcp)
      ∷ (Some (number (unsigned v.dei)), bits 1 v.dei) ∷ (Some (number (unsigned v.vid)), bits 12 v.vid)
      ∷ (Some (number (unsigned v.ether_type)), bits 16 v.ether_type) ∷ []) (
        given_data (codes "pcp") vlan,
        number_given 3 v.pcp fits.pcp,
        (
          given_data (codes "dei") vlan,
          number_given 1 v.dei fits.dei,
          (
            given_data (codes "vid") vlan,
            number_given 12 v.vid fits.vid,
            (given_data (codes "type") vlan, number_given 16 v.ether_type fits.ether_type, tt),
          ),
        ),
      )

  vlan_packed : packed (bits 3 v.pcp ++ (bits 1 v.dei ++ (bits 12 v.vid ++ (bits 16 v.ether_type ++ []))))
      ≡ vlan_bytes v
  vlan_packed =
      let t = v.ether_type in
      let tag : v.vid * 2 ^ 16 + t < 2 ^ 28 = omega (arith, fits.vid, fits.ether_type) in
      let control : v.dei * 2 ^ 28 + (v.vid * 2 ^ 16 + t) < 2 ^ 29 = omega
      (arith, fits.dei, fits.vid, fits.ether_type) in
      let sum : v.pcp * 2 ^ 29 + (v.dei * 2 ^ 28 + (v.vid * 2 ^ 16 + t)) ≡ vlan_number v = omega arith in
      let joined : bits 3 v.pcp ++ (bits 1 v.dei ++ (bits 12 v.vid ++ bits 16 t)) ≡ bits 32 (vlan_number v) =
      ap (λ b. bits 3 v.pcp ++ (bits 1 v.dei ++ b)) (sym (bits-join 12 16 v.vid t (omega (arith, fits.ether_type))))
      ∙ ap (λ b. bits 3 v.pcp ++ b) (sym (bits-join 1 28 v.dei (v.vid * 2 ^ 16 + t) tag))
      ∙ sym (bits-join 3 29 v.pcp (v.dei * 2 ^ 28 + (v.vid * 2 ^ 16 + t)) control) ∙ ap (bits 32) sum in
      ap (λ b. packed (bits 3 v.pcp ++ (bits 1 v.dei ++ (bits 12 v.vid ++ b)))) (append-nil (bits 16 t))
      ∙ ap packed (joined ∙ sym (append-nil (bits 32 (vlan_number v)))) ∙ number_packed 4 (vlan_number v) []
      ∙ append-nil (vlan_bytes v)

  pub vlan_back : header_bytes at next vlan_data ≡ Ok (vlan_bytes v)
  vlan_back =
      made at next vlan_data sections.Vlan _ (ap section_given (raw_data (codes "header") vlan))
      (data_known (names sections.Vlan) vlan refl) (vlan_fields (lengths_of vlan_data))
      ∙ ap Ok vlan_packed

-- ---- Ethernet II

module _ (at : ℕ) (next : Option Section) (place : Place) (e : Ethernet2Value) (fits : FitsEthernet2 e) where
  abbrev eth : List Member
  eth = told_members (Walked place (headers.Ethernet2 e) None)

  abbrev eth_data : Data
  eth_data = members_data eth

  address_given : (n : ℕ)
      → given_bits kinds.Bytes 48 48 (string (colon_text (spelled 6 n))) ≡ Ok (bits_of (spelled 6 n))
  address_given n = colon_given 48 (spelled 6 n) (IsBytes-spelled 6 n) (omega (arith, length-spelled 6 n))

  eth_fields : (l : Lengths) → fields_meaning at l next eth_data (section_rows sections.Eth)
      ≡ Ok (bits_of (spelled 6 e.destination) ++ (bits_of (spelled 6 e.source) ++ (bits 16 e.ether_type ++ ([]
      ++ []))))
  eth_fields l =
      places_skipped at l next eth_data ethernet2_rows
      ∙ fields_are at l next eth_data ethernet2_rows
      ((Some (string (colon_text (spelled 6 e.destination))), bits_of (spelled 6 e.destination))
      ∷ (Some (string (colon_text (spelled 6 e.source))), bits_of (spelled 6 e.source))
      ∷ (Some (number (unsigned e.ether_type)), bits 16 e.ether_type) ∷ (None, []) ∷ []) (
        given_data (codes "dst") eth,
        address_given e.destination,
        (
          given_data (codes "src") eth,
          address_given e.source,
          (
            given_data (codes "type") eth,
            number_given 16 e.ether_type fits.ether_type,
            (given_data (codes "fcs") eth, refl, tt),
          ),
        ),
      )

  eth_packed : packed (bits_of (spelled 6 e.destination) ++ (bits_of (spelled 6 e.source) ++
      (bits 16 e.ether_type ++ [])))
      ≡ ethernet2_bytes e
  eth_packed =
      let t = e.ether_type in
      let low : e.source * 2 ^ 16 + t < 2 ^ 64 = omega (arith, fits.source, fits.ether_type) in
      let sum : e.destination * 2 ^ 64 + (e.source * 2 ^ 16 + t) ≡ ethernet2_number e = omega arith in
      let joined : bits 48 e.destination ++ (bits 48 e.source ++ bits 16 t) ≡ bits 112 (ethernet2_number e) =
      ap (λ b. bits 48 e.destination ++ b) (sym (bits-join 48 16 e.source t (omega (arith, fits.ether_type))))
      ∙ sym (bits-join 48 64 e.destination (e.source * 2 ^ 16 + t) low) ∙ ap (bits 112) sum in
      ap₂ (λ a b. packed (a ++ b)) (bits_of-spelled 6 e.destination)
      (ap₂ (λ (a b : List Bool). a ++ b) (bits_of-spelled 6 e.source) (append-nil (bits 16 t)))
      ∙ ap packed (joined ∙ sym (append-nil (bits 112 (ethernet2_number e))))
      ∙ number_packed 14 (ethernet2_number e) []
      ∙ append-nil (ethernet2_bytes e)

  pub eth_back : header_bytes at next eth_data ≡ Ok (ethernet2_bytes e)
  eth_back =
      made at next eth_data sections.Eth _ (ap section_given (raw_data (codes "header") eth))
      (data_known (names sections.Eth) eth refl) (eth_fields (lengths_of eth_data))
      ∙ ap Ok eth_packed
