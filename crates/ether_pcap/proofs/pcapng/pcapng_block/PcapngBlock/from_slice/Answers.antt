use Rattle.std.proofs.Common.{arith, rules, ◌≡◌, ℕ, ◌+◌, ◌-◌, ◌≤◌, sym, ap, ◌∙◌}
use Rattle.ether_pcap.specs.Numbers.{field}
use Rattle.ether_pcap.specs.Views.{order_of}
use Rattle.ether_pcap.specs.Block.{trailer, IsTotalLen}
use Rattle.ether_pcap.proofs.pcapng.pcapng_block.PcapngBlock.from_slice.Goals as goal

same_end : (n : ℕ) → 12 ≤ n → n - 4 + 4 ≡ n
same_end n le = omega arith

pub returns-then-trailer-total_len-clause-refused : goal.returns-then-trailer-total_len-clause-refused
returns-then-trailer-total_len-clause-refused c =
    let n : ℕ = c.u32_at-total_len.result in
    let total : IsTotalLen n = c.if-not-is_total_len.ensures.0 (search rules) in
    let e : field (order_of c.args.byte_order) c.args.slice.now (n - 4) n ≡ c.u32_at-trailer.result =
    ap (field (order_of c.args.byte_order) c.args.slice.now (n - 4)) (sym (same_end n total.least))
    ∙ sym c.u32_at-trailer.ensures in
    trailer n c.u32_at-trailer.result c.if-slice-lt-MIN_LEN.false (sym c.u32_at-total_len.ensures) total
    c.if-slice-end.false e c.if-trailer-total_len.true
