use Rattle.std.proofs.Common.{◌≡◌, take, ap, ◌∙◌, rules, arith}
use Rattle.std.proofs.lemmas.List.{take_all}
use Rattle.ether_base.specs.Bytes.{number}
use Rattle.ether_base.proofs.NumberAt.{number_within}
use Rattle.ether_base.proofs.big_endian.u32_in.Goals as goal

pub overflow_cast-result : goal.overflow_cast-result
overflow_cast-result c =
    let short = c.in-None.ensures.cases in
    omega (
      arith,
      c.number_of.ensures,
      number_within c.args.field.now 4 (λ i. omega (arith, c.type_inv.field i)) (omega arith),
    )

pub returns-in-Some-clause-field : goal.returns-in-Some-clause-field
returns-in-Some-clause-field c =
    let value : c.u32_of.result ≡ number (take 4 c.args.field.now) = search rules in
    λ le. value ∙ ap number (take_all 4 c.args.field.now le)
