use Rattle.std.proofs.Common.{◌≤◌, ℕ, length, sym, ap, subst, ◌∙◌}
use Rattle.ether_base.specs.Bytes.{IsBytes, number}
use Rattle.ether_base.specs.Formats.LinuxSll.{LinuxSllValue, IsLinuxSll}
use Rattle.ether_base.proofs.Numbers.{IsBytes-spelled, length-spelled}
use Rattle.ether_sll.proofs.LinuxSllFields.{read_back}
use Rattle.ether_sll.proofs.linux_sll_header.LinuxSllHeader.to_bytes.Goals as goal

pub returns-clause-read_back : goal.returns-clause-read_back
returns-clause-read_back c =
    let h = c.args.self.now in
    let b = c.joined.result in
    let w = c.joined.ensures in
    let p = c.from.ensures.0 in
    let t = c.from-2.ensures in
    let is =
    subst (IsLinuxSll b)
    (λ i. let s : LinuxSllValue =
    record {
      packet_type = p i;
      hardware_type = h.arp_hrd_type.0;
      address_len = h.sender_address_valid_length;
      address = number h.sender_address;
      protocol = t i;
    }
    in s)
    w.value in
    let ok = subst IsBytes (sym w.bytes) (IsBytes-spelled 16 _) in
    read_back b h ok (ap length w.bytes ∙ length-spelled 16 _) is w.address
    (subst (λ (k : ℕ). k ≤ 7) p c.from.ensures.1)
