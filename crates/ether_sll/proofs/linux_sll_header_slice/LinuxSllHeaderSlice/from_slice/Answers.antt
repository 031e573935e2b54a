use Rattle.std.proofs.Common.{arith}
use Rattle.std.specs.Prelude.{slice_range}
use Rattle.ether_base.proofs.SubLists.{IsBytes-part, length-part}
use Rattle.ether_base.proofs.LinuxSllFields.{linux_sll_whole}
use Rattle.ether_sll.proofs.LinuxSllFields.{holds_accepts}
use Rattle.ether_sll.proofs.linux_sll_header_slice.LinuxSllHeaderSlice.from_slice.Goals as goal

pub returns-clause-accepted : goal.returns-clause-accepted
returns-clause-accepted c =
    holds_accepts c.args.slice.now (λ i. omega (arith, c.type_inv.slice i)) c.in_ok-require_header.ensures.holds

pub returns-clause-value : goal.returns-clause-value
returns-clause-value c =
    let bytes = c.args.slice.now in
    let le = c.in_ok-require_header.ensures.holds.0 in
    let ok = IsBytes-part 0 16 bytes (λ i. omega (arith, c.type_inv.slice i)) in
    record { whole = le; spells = linux_sll_whole (slice_range bytes 0 16) ok (length-part bytes 0 16 le) }
