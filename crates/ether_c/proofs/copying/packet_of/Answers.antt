use Rattle.std.proofs.Common.{rules}
use Rattle.ether_c.proofs.UnitsRead.{read_packet, no_refusal}
use Rattle.ether_c.proofs.copying.packet_of.Goals as goal
use Rattle.ether_c.proofs.copying.packet_of.Goals.{in_default-via-in-Some+in_default, in_default-via-in_default}

pub returns-in-Some-Ok : goal.returns-in-Some-Ok
returns-in-Some-Ok c after p expected begins = search (rules, read_packet)

pub returns-in_default : goal.returns-in_default
returns-in_default c after p expected begins =
    elim c.in_default.branch [
      | in_default-via-in-Some+in_default w ↦ search (rules, no_refusal)
      | in_default-via-in_default w ↦ search rules
    ]
