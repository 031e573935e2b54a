use Rattle.std.proofs.Common.{◌++◌, ap, ◌∙◌}
use Rattle.ether_output.proofs.OutputBufferLemmas.{Takes-then, Takes-same}
use Rattle.ether_format.specs.JsonBytes.{reserved_bits}
use Rattle.ether_format.specs.Values.{comma_if}
use Rattle.ether_format.proofs.JsonBytesLemmas.{exact_object}
use Rattle.ether_format.proofs.json_bytes.write_exact_header.Goals as goal

pub returns : goal.returns
returns g c =
    let f = c.args.found.now in
    Takes-same
    (ap (λ l. comma_if c.args.is_first ++ l)
    (exact_object c.args.packet.now f c.reserved_bits.result f.own
    (c.reserved_bits.ensures ∙ ap (reserved_bits f.section) c.bytes_from-bytes.ensures)))
    (Takes-then c.write_comma.ensures
    (Takes-then c.write_placed.ensures
    (Takes-then c.write_exact_own.ensures (Takes-then c.write_reserved.ensures c.append.ensures))))
