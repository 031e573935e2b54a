use Rattle.std.proofs.Common.{sym, subst}
use Rattle.etherparse.specs.Vlan.{VlanValue}
use Rattle.etherparse.specs.Macsec.{SecTagValue}
use Rattle.etherparse.specs.Header as headers
use Rattle.ether_c.specs.Passed.{PassesExt, vlan, macsec}
use Rattle.ether_c.proofs.ether_unit.EtherUnit.to_link_ext.Goals as goal

pub returns-in-Some-clause-ext : goal.returns-in-Some-clause-ext
returns-in-Some-clause-ext c =
    subst (λ (v : VlanValue). PassesExt c.args.self.now (headers.Vlan v)) (sym c.in-Some.ensures.0)
    (vlan c.in-3.is c.in-Some.ensures.1)

pub returns-in-Some-to_header-clause-ext : goal.returns-in-Some-to_header-clause-ext
returns-in-Some-to_header-clause-ext c =
    subst (λ (t : SecTagValue). PassesExt c.args.self.now (headers.Macsec t)) (sym c.in-Some-to_header.ensures.0)
    (macsec c.in-4.is c.in-Some-to_header.ensures.1)
