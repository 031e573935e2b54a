use Rattle.ether_peel.specs.Walker.Start.{start_of}
use Rattle.ether_packet.specs.TypedLink.{link_len}
use Rattle.ether_packet.proofs.Fronts.{tag_read, none_popped}
use Rattle.ether_packet.proofs.front.outer_vlan.Goals as goal

pub returns-in-Ok : goal.returns-in-Ok
returns-in-Ok c hs e walk =
    tag_read (start_of c.args.start) c.args.frame.now hs e (link_len c.args.start) _ (c.in-Ok.ensures.ok hs e walk)
    (rw (c.chunk_at.ensures, c.link_len.ensures) at c.from_bytes.ensures.value) walk

pub returns-in-Err : goal.returns-in-Err
returns-in-Err c hs e walk = none_popped c.args.start c.args.frame.now hs e _ walk (c.in-Err.ensures.refused hs e walk)
