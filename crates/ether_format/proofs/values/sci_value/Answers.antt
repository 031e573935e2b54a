use Rattle.std.proofs.Common.{sym, ap, ◌∙◌}
use Rattle.etherparse.proofs.Numbers.{spelled-high}
use Rattle.ether_base.specs.Bytes.{spelled}
use Rattle.ether_format.specs.Members.{Bytes, if_some}
use Rattle.ether_format.proofs.values.sci_value.Goals as goal

pub returns-in-Some : goal.returns-in-Some
returns-in-Some c =
    ap Bytes (c.to_be_bytes.ensures ∙ spelled-high 8 c.in-Some.sci)
    ∙ ap (if_some (λ n. Bytes (spelled 8 n))) (sym c.in-Some.is)
