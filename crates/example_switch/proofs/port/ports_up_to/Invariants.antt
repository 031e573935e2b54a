use Rattle.ether_switch.specs.Ports.{IsSet}
use Rattle.example_switch.proofs.Numbered.{up_to}
use Rattle.example_switch.proofs.port.ports_up_to.Given as goal

abbrev pub invariant-loop-i : goal.invariant-loop-i
invariant-loop-i l = IsSet l.set (up_to l.i)
