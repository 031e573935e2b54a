use Rattle.std.proofs.Common.{ℕ, ◌/◌, ◌%◌, ◌^◌, sym, ap, ◌∙◌, arith}
use Rattle.std.proofs.lemmas.Nat.{shr-shr}
use Rattle.std.specs.Prelude.{slice_range}
use Rattle.ether_base.specs.Bytes.{number}
use Rattle.ether_tags.proofs.MacsecFields.{first_byte}
use Rattle.ether_tags.proofs.macsec_fields.is_set.Goals as goal

pub returns : goal.returns
returns c =
    let bytes = c.args.bytes.now in
    let first = first_byte bytes (λ i. omega (arith, c.type_inv.bytes i)) c.requires.whole in
    c.bit_of.ensures ∙ ap (λ (n : ℕ). n / 2 ^ c.args.power % 2) (sym first)
    ∙ ap (λ (n : ℕ). n % 2) (shr-shr (number (slice_range bytes 0 2)) 8 c.args.power)
