use Rattle.std.proofs.Common.{sym, subst}
use Rattle.ether_filter.specs.declared.prospect.OpenKind.{OpenKind}
use Rattle.ether_filter.specs.OwnFields.{FitsOwn}
use Rattle.ether_filter.proofs.own_fields.own_of.Goals as goal

pub returns-in-Ethernet2 : goal.returns-in-Ethernet2
returns-in-Ethernet2 c =
    subst (λ (k : OpenKind). FitsOwn c.args.primitive k c.args.known.now c.of_link.result) (sym c.in-Ethernet2.is)
    c.of_link.ensures
