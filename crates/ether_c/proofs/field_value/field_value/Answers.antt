use Rattle.std.proofs.Common.{◌≡◌, ◌+◌, ◌*◌, ◌/◌, ◌%◌, ◌-◌, ◌^◌, ◌≤◌, ◌<◌, Bool, length, false, sym, ap, ◌∙◌, arith, rules}
use Rattle.std.proofs.Math.Nat.{mod-eq_of_lt}
use Rattle.std.proofs.Math.Pow.{pow-lt}
use Rattle.std.specs.Prelude.{if◌then◌else◌, nat_lt}
use Rattle.ether_fields.specs.Places.{bits_number}
use Rattle.ether_fields.proofs.BitNumbers.{bits_within}
use Rattle.ether_c.proofs.field_value.field_value.Goals as goal

pub returns : goal.returns
returns c =
    let list = c.args.bytes.now in
    let bit = c.args.bit in
    let len = c.args.len in
    let count = (bit + len + 7) / 8 in
    let inside : c.args.at + count ≤ length list = let within = c.requires.within in omega arith in
    let fits : bit + len ≤ 8 * count = omega arith in
    let most = c.if-len-gt64.false in
    let few : nat_lt 64 len ≡ false = search (arith, rules, most) in
    let least : len < 128 = omega (arith, most) in
    let below : 1 * 2 ^ len < 340282366920938463463374607431768211456 = let e = pow-lt least in omega arith in
    let whole : 1 * 2 ^ len % 340282366920938463463374607431768211456 ≡ 2 ^ len = mod-eq_of_lt below ∙ omega arith in
    (λ i. c.number_of-number.ensures i / 2 ^ (8 * count - (bit + len)) % whole i)
    ∙ bits_within list c.args.at bit len count (λ i. omega (arith, c.type_inv.bytes i)) inside fits
    ∙ ap (λ (b : Bool). if b then 0 else bits_number list (8 * c.args.at + bit) len) (sym few)
