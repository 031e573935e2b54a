use Rattle.std.proofs.Common.{sym, ap, ◌∙◌, arith}
use Rattle.ether_base.specs.Bytes.{IsBytes}
use Rattle.ether_base.proofs.ArrayElements.{cells-all}
use Rattle.ether_base.proofs.Numbers.{spelled-is}
use Rattle.ether_output.specs.HexText.{hex_text}
use Rattle.ether_stream.proofs.linux_sll_lines.address_digits.Goals as goal

pub returns : goal.returns
returns c =
    let address = c.args.address.now in
    let ok : IsBytes address = λ i. omega (arith, c.type_inv.address i) in
    c.hex_long.ensures ∙ ap hex_text (cells-all 8 address c.requires ∙ sym (spelled-is 8 address c.requires ok))
