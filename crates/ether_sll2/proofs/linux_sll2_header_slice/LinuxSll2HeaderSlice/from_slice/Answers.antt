use Rattle.std.proofs.Common.{arith}
use Rattle.std.specs.Prelude.{slice_range}
use Rattle.ether_base.proofs.SubLists.{IsBytes-part, length-part}
use Rattle.ether_sll2.proofs.LinuxSll2Fields.{linux_sll2_accepted, linux_sll2_whole}
use Rattle.ether_sll2.proofs.linux_sll2_header_slice.LinuxSll2HeaderSlice.from_slice.Goals as goal

pub returns-clause-accepted : goal.returns-clause-accepted
returns-clause-accepted c =
    let h = c.in_ok-require_header.ensures.holds in
    linux_sll2_accepted c.args.slice.now (λ i. omega (arith, c.type_inv.slice i)) h.0 h.1

pub returns-clause-value : goal.returns-clause-value
returns-clause-value c =
    let bytes = c.args.slice.now in
    let le = c.in_ok-require_header.ensures.holds.0 in
    let ok = IsBytes-part 0 20 bytes (λ i. omega (arith, c.type_inv.slice i)) in
    record { whole = le; spells = linux_sll2_whole (slice_range bytes 0 20) ok (length-part bytes 0 20 le) }
