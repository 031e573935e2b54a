-- The bits of fields that are given as a packet's line has them.
use Rattle.std.proofs.Common.{◌≡◌, ℕ, ◌-◌, ◌*◌, ◌^◌, ◌<◌, Bool, List, [], ◌∷◌, ◌++◌, length, Option, Some, Ok, Err, refl, ap, ap₂, ◌∙◌, arith, append-nil}
use Rattle.std.proofs.lemmas.Bool.{eq-eqb, lt-ltb}
use Rattle.etherparse.specs.Bytes.{IsBytes}
use Rattle.serde_json.specs.Data.{Data, string}
use Rattle.ether_fields.specs.Places as places
use Rattle.std.specs.Prelude.{⊤}
use Rattle.ether_fields.specs.Rows.{Row, place_rows}
use Rattle.ether_fields.specs.declared.kind.Kind.TheVariants as kinds
use Rattle.ether_fields.specs.declared.part.Part.TheVariants.{Header}
use Rattle.ether_fields.specs.declared.section.Section.{Section}
use Rattle.ether_format.specs.Spelling.{colon_text}
use Rattle.ether_make.specs.Bits.{bits, bits_of}
use Rattle.ether_make.specs.FieldBits.{number_bits, bytes_bits, given_bits, field_bits}
use Rattle.ether_make.specs.Headers.{fields_meaning, part, rule, told}
use Rattle.ether_make.specs.Objects.{first_given}
use Rattle.ether_make.specs.Refusals.{Meaning, joined}
use Rattle.ether_make.specs.declared.sizes.Lengths.{Lengths}
use Rattle.ether_make.proofs.BitBytes.{bits-zero}
use Rattle.ether_make.proofs.TextsBack.{colon_read}

-- ---- one value

pub number_given : (len n : ℕ) → n < 2 ^ len → number_bits len (Some n) ≡ Ok (bits len n)
number_given len n h = rw (lt-ltb n (2 ^ len) h) refl

pub bytes_given : (len : ℕ) (bytes : List ℕ) → 8 * length bytes ≡ len
    → bytes_bits len len (Some bytes) ≡ Ok (bits_of bytes)
bytes_given len bytes e =
    let none : len - len ≡ 0 = omega arith in
    rw (eq-eqb (8 * length bytes) len e) (ap (λ k. Ok (bits_of bytes ++ bits k 0)) none
    ∙ ap (λ l. Ok (bits_of bytes ++ l)) (bits-zero 0)
    ∙ ap Ok (append-nil (bits_of bytes)))

pub colon_given : (len : ℕ) (bytes : List ℕ) → IsBytes bytes → 8 * length bytes ≡ len
    → given_bits kinds.Bytes len len (string (colon_text bytes)) ≡ Ok (bits_of bytes)
colon_given len bytes ok e = ap (bytes_bits len len) (colon_read bytes ok) ∙ bytes_given len bytes e

-- ---- fields one after another

joined-nil : (m : Meaning (List Bool)) → joined (Ok []) m ≡ m
joined-nil (Ok bs) = refl
joined-nil (Err r) = refl

module _ (at : ℕ) (l : Lengths) (next : Option Section) (d : Data) where
  -- the name and the place of a header are no fields
  pub places_skipped : (rows : List Row)
      → fields_meaning at l next d (place_rows ++ rows) ≡ fields_meaning at l next d rows
  places_skipped rows =
      let m = fields_meaning at l next d rows in
      let j : Meaning (List Bool) → Meaning (List Bool) = λ x. joined (Ok []) x in
      ap (λ x. j (j (j (j x)))) (joined-nil m) ∙ ap (λ x. j (j (j x))) (joined-nil m)
      ∙ ap (λ x. j (j x)) (joined-nil m)
      ∙ ap j (joined-nil m) ∙ joined-nil m

  -- each field is given this value, which has these bits
  abbrev pub FieldsAre : List Row → List (Option Data × List Bool) → Type 0
  FieldsAre [] [] = ⊤
  FieldsAre (r ∷ rs) (f ∷ fs) =
      (first_given r.name d ≡ f.0)
      × (field_bits r.kind r.extent (places.bits_of (Header l.sizes) r.extent) (part l r.number) f.0
      (rule l next r.number) ≡ Ok f.1)
      × FieldsAre rs fs
  FieldsAre rows fields = ⊥

  abbrev pub all_bits : List (Option Data × List Bool) → List Bool
  all_bits [] = []
  all_bits (f ∷ fs) = f.1 ++ all_bits fs

  pub fields_are : (rows : List Row) (fs : List (Option Data × List Bool)) → FieldsAre rows fs
      → fields_meaning at l next d rows ≡ Ok (all_bits fs)
  fields_are [] [] h = refl
  fields_are [] (f ∷ fs) h = absurd h
  fields_are (r ∷ rs) [] h = absurd h
  fields_are (r ∷ rs) (f ∷ fs) h =
      let bits_are = λ (v : Option Data). field_bits r.kind r.extent (places.bits_of (Header l.sizes) r.extent)
      (part l r.number) v
      (rule l next r.number) in
      ap₂ (λ (x y : Meaning (List Bool)). joined x y)
      (ap (λ v. told (Some at) r.name (bits_are v)) h.0 ∙ ap (told (Some at) r.name) h.1) (fields_are rs fs h.2)
