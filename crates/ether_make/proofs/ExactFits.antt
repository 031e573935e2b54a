-- What a packet tells with each of its bytes can be spelled as JSON.
use Rattle.std.proofs.Common.{ℕ, ◌^◌, ◌<◌, Bool, true, false, List, [], ◌∷◌, ◌++◌, drop, codes, refl, arith}
use Rattle.std.specs.Prelude.{if◌then◌else◌, nat_eq}
use Rattle.etherparse.specs.Bytes.{IsBytes}
use Rattle.ether_base.specs.Texts.NumberText.{hex_byte}
use Rattle.etherparse.proofs.SubLists.{IsBytes-drop}
use Rattle.ether_output.specs.HexText.{hex_text}
use Rattle.ether_fields.specs.declared.section.Section.{Section}
use Rattle.ether_fields.specs.declared.section.Section.TheVariants as sections
use Rattle.ether_format.specs.declared.end.End.{End}
use Rattle.ether_format.specs.JsonBytes.{exact_end_members, exact_members, headers_end, reserved_bits, reserved_members, told_reserved, without_check}
use Rattle.ether_format.specs.Members.{Number, member}
use Rattle.ether_format.specs.Told.{Told, Walked, CookedV2, told_place, told_section}
use Rattle.ether_make.proofs.JsonFits.{Each, ArePlain, FitsMember}
use Rattle.ether_make.proofs.JsonStrings.{ArePlain-flat_map}
use Rattle.ether_make.proofs.JsonValues.{ArePlain-hex_byte}
use Rattle.ether_make.proofs.PacketFits.{ArePlain-constant, FitsEnd, FitsTold, each_byte, end_fits, told_fits}

each_append : {X : Type 0} (P : X → Type 0) (xs ys : List X) → Each P xs → Each P ys → Each P (xs ++ ys)
each_append P [] ys h k = k
each_append P (x ∷ xs) ys h k = (h.0, each_append P xs ys h.1 k)

-- ---- headers

pub reserved_small : (s : Section) (bytes : List ℕ) → IsBytes bytes → reserved_bits s bytes < 2 ^ 16
reserved_small sections.Macsec bytes ok = let b = ok 1 in omega arith
reserved_small sections.Sll2 bytes ok = let b = ok 2 in let c = ok 3 in omega arith
reserved_small sections.Frame bytes ok = omega arith
reserved_small sections.Eth bytes ok = omega arith
reserved_small sections.Sll bytes ok = omega arith
reserved_small sections.Vlan bytes ok = omega arith
reserved_small sections.Arp bytes ok = omega arith
reserved_small sections.Headers bytes ok = omega arith
reserved_small sections.Rest bytes ok = omega arith
reserved_small sections.Fault bytes ok = omega arith

reserved_if : (bits : ℕ) (b : Bool) → bits < 2 ^ 64
    → Each FitsMember (if b then [] else member (codes "reserved") (Number bits) ∷ [])
reserved_if bits true h = tt
reserved_if bits false h = (record { name = ArePlain-constant (codes "reserved") refl; value = h }, tt)

without_fits : (h : Told) → FitsTold h → FitsTold (without_check h)
without_fits (Walked place h fcs) fits = (fits.0, fits.1, tt)
without_fits (CookedV2 place s) fits = fits

pub exact_fits : (packet : List ℕ) → IsBytes packet → (h : Told) → FitsTold h
    → Each FitsMember (exact_members packet h)
exact_fits packet ok h fits =
    let bits = told_reserved packet h in
    let small = reserved_small (told_section h) (drop (told_place h).start packet)
    (IsBytes-drop (told_place h).start packet ok) in
    each_append FitsMember _ (reserved_members bits) (told_fits (without_check h) (without_fits h fits))
    (reserved_if bits (nat_eq bits 0) (omega (arith, small)))

-- ---- the end

hex_plain : (bytes : List ℕ) → IsBytes bytes → ArePlain (hex_text bytes)
unfolding hex_text
hex_plain bytes ok =
    ArePlain-flat_map (hex_byte false) (λ b. b < 256) ArePlain-hex_byte bytes (each_byte bytes ok)

pub exact_end_fits : (packet : List ℕ) → IsBytes packet → (end : End) → FitsEnd end
    → Each FitsMember (exact_end_members packet end)
exact_end_fits packet ok end fits =
    let after = drop (headers_end end) packet in
    each_append FitsMember _ _ (end_fits end fits) (
      record {
        name = ArePlain-constant (codes "bytes") refl;
        value = hex_plain after (IsBytes-drop (headers_end end) packet ok);
      },
      tt,
    )
