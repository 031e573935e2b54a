use Rattle.ether_c.specs.Building.{is_packet}
use Rattle.ether_c.proofs.building.etherpeel_build.Goals as goal

pub returns-in-Ok : goal.returns-in-Ok
returns-in-Ok c =
    is_packet _ record { arp = c.in-Ok.parts.arp; parts = c.in-Ok.ensures.parts; content = c.content.ensures }
    c.write.ensures
