-- How the operation of an ARP packet decides its text, and what the first bytes of client data say.
use Rattle.std.proofs.Common.{◌≡◌, ℕ, ◌/◌, ◌%◌, ◌<◌, ◌≤◌, List, [], ◌∷◌, length, true, refl, ap, ◌∙◌, arith}
use Rattle.std.specs.Prelude.{nat_eq, slice_index_or, if◌then◌else◌}
use Rattle.std.specs.Fmt.{digit_glyph}
use Rattle.std.proofs.lemmas.Bool.{eq-eqb, ne_eqb}
use Rattle.etherparse.specs.Arp.{ArpValue}
use Rattle.etherparse.specs.NumberText.{hex_number}
use Rattle.ether_base.specs.Texts.NumberText.{hex_byte}
use Rattle.ether_format.specs.Brief.{arp_other, arp_reply, arp_request, brief_arp, llc_text, saps_text}

pub of_request : (a : ArpValue) → a.operation ≡ 1 → brief_arp a ≡ arp_request a
of_request a is = ap (λ b. if b then arp_request a else (if nat_eq a.operation 2 then arp_reply a else arp_other a))
    (eq-eqb _ _ is)

pub of_reply : (a : ArpValue) → ¬ (a.operation ≡ 1) → a.operation ≡ 2 → brief_arp a ≡ arp_reply a
of_reply a not is =
    ap (λ b. if b then arp_request a else (if nat_eq a.operation 2 then arp_reply a else arp_other a)) (ne_eqb _ _ not)
    ∙ ap (λ b. if b then arp_reply a else arp_other a) (eq-eqb _ _ is)

-- ---- LLC

pub two_saps : (bytes : List ℕ) → 2 ≤ length bytes
    → saps_text (slice_index_or bytes 0 0) (slice_index_or bytes 1 0) ≡ llc_text bytes
unfolding llc_text
two_saps [] le = absurd (omega (arith, le))
two_saps (a ∷ []) le = absurd (omega (arith, le))
two_saps (a ∷ b ∷ more) le = refl

pub no_saps : (bytes : List ℕ) → length bytes < 2 → [] ≡ llc_text bytes
unfolding llc_text
no_saps [] lt = refl
no_saps (a ∷ []) lt = refl
no_saps (a ∷ b ∷ more) lt = absurd (omega (arith, lt))

-- the last two digits of a byte as a number of 16 bits
pub last_digits : (byte : ℕ) → byte < 256
    → slice_index_or (hex_number byte) 4 0 ∷ slice_index_or (hex_number byte) 5 0 ∷ [] ≡ hex_byte true byte
unfolding hex_number
last_digits byte lt =
    let e : byte / 16 % 16 ≡ byte / 16 = omega (arith, lt) in
    ap (λ n. digit_glyph true n ∷ digit_glyph true (byte % 16) ∷ []) e
