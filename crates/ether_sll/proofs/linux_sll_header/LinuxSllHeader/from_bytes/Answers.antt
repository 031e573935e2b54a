use Rattle.std.proofs.Common.{◌≡◌, length, sym, subst, rules}
use Rattle.ether_base.specs.Formats.LinuxSll.{IsLinuxSll}
use Rattle.ether_base.proofs.LinuxSllFields.{linux_sll_whole, linux_sll_bytes-read}
use Rattle.ether_sll.proofs.LinuxSllFields.{holds_accepts}
use Rattle.ether_sll.proofs.linux_sll_header.LinuxSllHeader.from_bytes.Goals as goal

pub returns : goal.returns
returns c =
    let b = c.args.bytes in
    let h = c.header.ensures in
    let len : length b ≡ 16 = search rules in
    let value = subst (IsLinuxSll b) (sym h.view) (linux_sll_whole b h.bytes len) in
    record {
      answers =
          record {
            accepted = holds_accepts b h.bytes c.in_ok-require_content.ensures.holds;
            value = value;
            address = h.address;
            protocol = h.protocol;
          };
      inverse = linux_sll_bytes-read b _ h.bytes len value;
    }
