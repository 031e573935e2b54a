use Rattle.std.proofs.Common.{◌≡◌, ◌<◌, ◌∙◌, None, Some, sym, ap, arith, rules}
use Rattle.std.specs.Option.{option_copied}
use Rattle.ether_base.specs.Enumerations.EtherType.{ether_type_description}
use Rattle.ether_base.proofs.NumberText.{four_digits}
use Rattle.ether_base.proofs.number_text.ShownEtherTypeDisplay.fmt.Goals as goal

pub returns-in-Some-clause-writes : goal.returns-in-Some-clause-writes
returns-in-Some-clause-writes g c =
    let n = c.args.self.now.0.0 in
    let small : n < 65536 = omega arith in
    let some : ether_type_description n ≡ Some c.in-Some.description.now =
    sym c.name.ensures ∙ ap option_copied c.in-Some.is in
    rw (some, ← four_digits n small) (search rules)

pub returns-in-None-clause-writes : goal.returns-in-None-clause-writes
returns-in-None-clause-writes g c =
    let n = c.args.self.now.0.0 in
    let small : n < 65536 = omega arith in
    let none : ether_type_description n ≡ None = sym c.name.ensures ∙ ap option_copied c.in-None.is in
    rw (none, ← four_digits n small) (search rules)
