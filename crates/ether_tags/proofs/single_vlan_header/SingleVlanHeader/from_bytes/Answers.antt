use Rattle.std.proofs.Common.{◌≡◌, length, sym, subst, rules}
use Rattle.ether_base.specs.Formats.Vlan.{IsVlan}
use Rattle.ether_base.proofs.VlanFields.{vlan_whole, vlan_bytes-read}
use Rattle.ether_tags.proofs.single_vlan_header.SingleVlanHeader.from_bytes.Goals as goal

pub returns : goal.returns
returns c =
    let b = c.args.bytes in
    let len : length b ≡ 4 = search rules in
    let h = c.header.ensures in
    let value = subst (IsVlan b) (sym h.value) (vlan_whole b h.bytes len) in
    record { value = value; inverse = vlan_bytes-read b _ h.bytes len value }
