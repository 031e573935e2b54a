use Rattle.ether_c.specs.FrameWriting.{given}
use Rattle.ether_c.proofs.frame_writing.etherpeel_write_frame.Goals as goal

pub returns-in-Ok : goal.returns-in-Ok
returns-in-Ok c =
    given _ record { arp = c.in-Ok.parts.arp; parts = c.in-Ok.ensures.parts; content = c.content.ensures }
    c.write_rest.ensures
