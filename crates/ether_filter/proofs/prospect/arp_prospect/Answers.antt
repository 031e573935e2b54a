use Rattle.std.proofs.Common.{arith}
use Rattle.ether_filter.proofs.ArpProspects.{arp_prospect}
use Rattle.ether_filter.proofs.prospect.arp_prospect.Goals as goal

pub returns : goal.returns
returns c =
    arp_prospect c.args.known.now c.args.room _ _ (λ i. omega (arith, c.type_inv.known i)) c.requires.inside
    (omega arith) (omega arith)
