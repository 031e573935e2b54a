use Rattle.std.proofs.Common.{◌++◌, codes, sym, ap, ◌∙◌}
use Rattle.etherparse.specs.NumberText.{hex_number}
use Rattle.ether_output.specs.HexText.{hex_text}
use Rattle.ether_text.proofs.write_lines.ethernet2_fields.Goals as goal

pub returns : goal.returns
unfolding hex_number
returns c =
    let destination =
    sym c.hex_address-d.ensures.pairs ∙ c.hex_address-d.ensures.text ∙ ap hex_text c.destination.ensures in
    let source =
    sym c.hex_address-s.ensures.pairs ∙ c.hex_address-s.ensures.text ∙ ap hex_text c.source.ensures in
    let ether_type = ap hex_number c.ether_type.ensures in
    rw (c.hex_address-d.ensures.pairs, c.hex_address-s.ensures.pairs, c.hex_type-t.ensures)
    (λ i. codes " " ++ (destination i ++ (codes " " ++ (source i ++ (codes " " ++ ether_type i)))))
