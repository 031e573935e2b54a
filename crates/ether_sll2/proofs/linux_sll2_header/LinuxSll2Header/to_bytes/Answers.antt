use Rattle.std.proofs.Common.{◌≡◌, ◌≤◌, ℕ, length, sym, ap, subst, ◌∙◌}
use Rattle.ether_base.specs.Bytes.{IsBytes}
use Rattle.ether_base.proofs.Numbers.{IsBytes-spelled, length-spelled}
use Rattle.ether_sll2.specs.LinuxSll2.{IsLinuxSll2}
use Rattle.ether_sll2.specs.Views.{linux_sll2_value, linux_sll2_view}
use Rattle.ether_sll2.proofs.LinuxSll2Laws.{read_back}
use Rattle.ether_sll2.proofs.linux_sll2_header.LinuxSll2Header.to_bytes.Goals as goal

pub returns-clause-read_back : goal.returns-clause-read_back
returns-clause-read_back c =
    let h = c.args.self.now in
    let b = c.joined.result in
    let w = c.joined.ensures in
    let p = c.from-2.ensures.0 in
    let t = c.from.ensures in
    let len = h.sender_address_valid_length in
    let same : linux_sll2_value c.from.result h.interface_index h.arp_hrd_type.0 c.from-2.result len h.sender_address
    ≡ linux_sll2_view h =
    λ i. linux_sll2_value (t i) h.interface_index h.arp_hrd_type.0 (p i) len h.sender_address in
    let is = subst (IsLinuxSll2 b) same w.value in
    let ok = subst IsBytes (sym w.bytes) (IsBytes-spelled 20 _) in
    let packet = subst (λ (k : ℕ). k ≤ 7) p c.from-2.ensures.1 in
    read_back b h ok (ap length w.bytes ∙ length-spelled 20 _) is w.address packet
