use Rattle.std.proofs.Common.{ℕ, List, ap, ◌∙◌, arith}
use Rattle.ether_base.specs.Bytes.{number}
use Rattle.ether_base.proofs.ArrayElements.{cells, cells-all}
use Rattle.ether_base.proofs.Ethernet2Fields.{ethernet2_written}
use Rattle.ether_tags.proofs.ethernet2_header.joined.Goals as goal

pub returns : goal.returns
returns c =
    let w =
    ethernet2_written c.args.destination.now c.args.source.now c.args.ether_type c.to_be_bytes-t.result
    (λ i. omega (arith, c.type_inv.destination i)) (λ i. omega (arith, c.type_inv.source i))
    c.requires.destination c.requires.source (omega arith) c.to_be_bytes-t.ensures in
    record {
      destination = cells-all 6 c.args.destination.now c.requires.destination;
      source = cells-all 6 c.args.source.now c.requires.source;
      ether_type = ap (λ (l : List ℕ). number (cells 0 2 l)) c.to_be_bytes-t.ensures ∙ omega arith;
      value = w.0;
      bytes = w.1;
    }
