use Rattle.ether_base.proofs.ReadBack.{length-header_bytes, means-header_bytes}
use Rattle.ether_base.proofs.laws.bytes_mean_their_header.Goals as goal

pub returns : goal.returns
returns c = record { len = length-header_bytes; means = means-header_bytes }
