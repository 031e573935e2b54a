use Rattle.std.proofs.Common.{◌≡◌, length, sym, subst, rules}
use Rattle.ether_sll2.specs.LinuxSll2.{IsLinuxSll2}
use Rattle.ether_sll2.proofs.LinuxSll2Fields.{linux_sll2_accepted, linux_sll2_whole, written_back}
use Rattle.ether_sll2.proofs.linux_sll2_header.LinuxSll2Header.from_bytes.Goals as goal

pub returns : goal.returns
returns c =
    let b = c.args.bytes in
    let h = c.header.ensures in
    let holds = c.in_ok-require_packet_type.ensures.holds in
    let len : length b ≡ 20 = search rules in
    let value = subst (IsLinuxSll2 b) (sym h.view) (linux_sll2_whole b h.bytes len) in
    record {
      answers = record {
        accepted = linux_sll2_accepted b h.bytes holds.0 holds.1;
        value = value;
        address = h.address;
        protocol = h.protocol;
      };
      inverse = written_back b _ h.bytes len value;
    }
