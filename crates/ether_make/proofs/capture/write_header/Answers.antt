use Rattle.std.proofs.Common.{ℕ, Option, subst}
use Rattle.ether_pcap.specs.Writing.{WritesFileHeader}
use Rattle.ether_make.specs.Captures.{header_of_capture}
use Rattle.ether_make.proofs.capture.write_header.Goals as goal

pub returns : goal.returns
returns g c = record {
  part = c.to_bytes.result;
  is_part = record {
    len = c.to_bytes.ensures.len;
    writes =
        subst (λ (len : Option ℕ). WritesFileHeader c.to_bytes.result (record
        (header_of_capture c.args.fcs c.args.link) { fcs_len = len }))
        c.fcs_len.ensures c.to_bytes.ensures.value;
  };
  written = c.in_ok-write_all.ensures.bytes;
}
