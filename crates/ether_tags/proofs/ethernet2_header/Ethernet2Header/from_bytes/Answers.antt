use Rattle.std.proofs.Common.{◌≡◌, length, sym, subst, rules}
use Rattle.ether_base.specs.Formats.Ethernet2.{IsEthernet2}
use Rattle.ether_base.proofs.Ethernet2Fields.{ethernet2_whole, ethernet2_bytes-read}
use Rattle.ether_tags.proofs.ethernet2_header.Ethernet2Header.from_bytes.Goals as goal

pub returns : goal.returns
returns c =
    let b = c.args.bytes in
    let len : length b ≡ 14 = search rules in
    let h = c.header.ensures in
    let value = subst (IsEthernet2 b) (sym h.value) (ethernet2_whole b h.bytes len) in
    record { fields = h.fields; value = value; inverse = ethernet2_bytes-read b _ h.bytes len value }
