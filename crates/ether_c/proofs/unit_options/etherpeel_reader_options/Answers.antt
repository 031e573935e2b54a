use Rattle.std.proofs.Common.{refl}
use Rattle.ether_c.specs.UnitOptions.{some}
use Rattle.ether_c.proofs.unit_options.etherpeel_reader_options.Goals as goal

pub returns-in-Some-options-clause-given : goal.returns-in-Some-options-clause-given
returns-in-Some-options-clause-given c =
    let found = c.in-Some-options.found in
    rw (← c.to_state.ensures, c.in-Some.is)
    (some found.byte_order found.rest c.in-Some-options.ensures c.put_options.ensures refl)
