use Rattle.std.proofs.Common.{◌≡◌, take, ap, ◌∙◌, rules}
use Rattle.std.proofs.lemmas.List.{take_all}
use Rattle.ether_base.specs.Bytes.{number}
use Rattle.ether_base.proofs.big_endian.u64_in.Goals as goal

pub returns-in-Some-clause-field : goal.returns-in-Some-clause-field
returns-in-Some-clause-field c =
    let value : c.u64_of.result ≡ number (take 8 c.args.field.now) = search rules in
    λ le. value ∙ ap number (take_all 8 c.args.field.now le)
