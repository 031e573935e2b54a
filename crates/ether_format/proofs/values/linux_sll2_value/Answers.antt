use Rattle.std.proofs.Common.{ℕ, take, sym, ap, ◌∙◌}
use Rattle.std.specs.Prelude.{Some}
use Rattle.ether_sll2.specs.LinuxSll2.{linux_sll2_of}
use Rattle.ether_format.specs.Members.{Bytes, linux_sll2_values}
use Rattle.ether_format.specs.Values.{value_at}
use Rattle.ether_format.proofs.values.linux_sll2_value.Goals as goal

pub returns-in-6 : goal.returns-in-6
returns-in-6 c =
    let len = c.from-in-6.ensures ∙ c.sender_address_valid_length-len.ensures in
    (λ i. Some (Bytes (take (len i) (c.sender_address_full.ensures i))))
    ∙ ap (λ (n : ℕ). value_at (linux_sll2_values (linux_sll2_of c.args.packet.now)) n) (sym c.in-6.is)
