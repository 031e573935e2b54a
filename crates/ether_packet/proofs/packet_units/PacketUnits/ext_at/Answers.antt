use Rattle.std.proofs.Common.{sym, ◌∙◌, rules}
use Rattle.ether_packet.specs.Places.{IsReadableExt}
use Rattle.ether_packet.proofs.Places.{all_get, ext_got, ext_missing}
use Rattle.ether_packet.proofs.packet_units.PacketUnits.ext_at.Goals as goal

pub ext_of-requires : goal.ext_of-requires
ext_of-requires c =
    let a = c.self.inside in
    all_get IsReadableExt a.exts c.args.index c.in-Some.ext c.self.invariant.exts (sym c.get.ensures ∙ c.in-Some.is)

pub returns-in-Some : goal.returns-in-Some
returns-in-Some c = search (rules, ext_got)

pub returns-in-None : goal.returns-in-None
returns-in-None c = search (rules, ext_missing)
