use Rattle.std.proofs.Common.{ap, sym, ◌∙◌}
use Rattle.ether_format.specs.declared.end.End.{End}
use Rattle.ether_format.specs.Told.{end_values}
use Rattle.ether_format.specs.Values.{value_at}
use Rattle.ether_format.proofs.end_values.end_value.Goals as goal

pub returns-in-Fault : goal.returns-in-Fault
returns-in-Fault c =
    c.fault_value.ensures ∙ ap (λ (e : End). value_at (end_values e) c.args.index) (sym c.in-Fault.is)
