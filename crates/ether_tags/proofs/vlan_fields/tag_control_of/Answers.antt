use Rattle.std.proofs.Common.{◌≡◌, ◌+◌, ◌*◌, ◌%◌, ◌^◌, ◌<◌, ◌∙◌, ℕ, ap, arith, bit_or}
use Rattle.std.proofs.lemmas.Nat.{or_shifted}
use Rattle.std.proofs.lemmas.Grind.{common_steps}
use Rattle.ether_base.specs.Bytes.{bit}
use Rattle.ether_tags.proofs.vlan_fields.tag_control_of.Goals as goal

pub returns-clause-sum : goal.returns-clause-sum
returns-clause-sum c =
    let p = c.value.ensures in
    let v = c.value-2.ensures in
    let d : c.from-2.result ≡ bit c.args.drop_eligible = grind (arith, common_steps) in
    let two : bit c.args.drop_eligible < 2 = grind (arith, common_steps) in
    let low : c.from-2.result * 4096 % 65536 ≡ c.from-2.result * 2 ^ 12 = omega arith in
    let high : c.from.result * 8192 % 65536 ≡ c.from.result * 2 ^ 13 = omega arith in
    let one =
    ap (λ (k : ℕ). bit_or k c.value-2.result) low ∙ or_shifted c.from-2.result 12 c.value-2.result (omega arith) in
    let all =
    ap (λ (k : ℕ). bit_or (c.from.result * 8192 % 65536) k) one
    ∙ ap (λ (k : ℕ). bit_or k (c.from-2.result * 2 ^ 12 + c.value-2.result)) high
    ∙ or_shifted c.from.result 13 (c.from-2.result * 2 ^ 12 + c.value-2.result) (omega arith) in
    all ∙ omega arith
