use Rattle.std.proofs.Common.{ℕ, take, sym, ap, ◌∙◌}
use Rattle.std.specs.Prelude.{Some}
use Rattle.etherparse.specs.LinuxSll.{linux_sll_of}
use Rattle.ether_format.specs.Members.{Bytes, linux_sll_values}
use Rattle.ether_format.specs.Values.{value_at}
use Rattle.ether_format.proofs.values.linux_sll_value.Goals as goal

pub returns-in-3 : goal.returns-in-3
returns-in-3 c =
    let len = c.from-in-3.ensures ∙ c.sender_address_valid_length-len.ensures in
    (λ i. Some (Bytes (take (len i) (c.sender_address_full.ensures i))))
    ∙ ap (λ (n : ℕ). value_at (linux_sll_values (linux_sll_of c.args.slice.now)) n) (sym c.in-3.is)
