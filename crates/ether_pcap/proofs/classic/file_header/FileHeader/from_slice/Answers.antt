use Rattle.std.proofs.Common.{arith, ◌≡◌, ℕ, true, sym, ◌∙◌}
use Rattle.std.specs.Prelude.{◌&&◌, not, nat_eq}
use Rattle.ether_pcap.specs.FileHeader.{version}
use Rattle.ether_pcap.specs.Views.{order_of, resolution_of}
use Rattle.ether_pcap.proofs.classic.file_header.FileHeader.from_slice.Goals as goal

differ : (a b : ℕ) → true ≡ not (nat_eq a 2 && nat_eq b 4) → (a ≡ 2) × (b ≡ 4) → ⊥
differ a b h e = grind (arith, h, e.0, e.1)

pub returns-then-ne-clause-refused : goal.returns-then-ne-clause-refused
returns-then-ne-clause-refused c =
    let row =
    version (order_of c.in_ok-byte_order.byte_order) (resolution_of c.in_ok-byte_order.resolution) (omega arith)
    c.in_ok-byte_order.ensures.magic
    (λ e.
    differ c.u16_at-major.result c.u16_at-minor.result (sym c.if-ne.true ∙ c.ne.ensures)
    (c.u16_at-major.ensures ∙ e.0, c.u16_at-minor.ensures ∙ e.1)) in
    rw (c.u16_at-major.ensures, c.u16_at-minor.ensures) row
