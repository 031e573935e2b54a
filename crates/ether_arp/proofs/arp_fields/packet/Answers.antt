use Rattle.std.proofs.Common.{ℕ, length, refl, sym, subst, arith}
use Rattle.ether_base.specs.Formats.Arp.{arp_front_in}
use Rattle.ether_base.specs.declared.err.layer.Layer.TheVariants as layers
use Rattle.ether_base.specs.declared.len_source.LenSource.TheVariants as sources
use Rattle.ether_base.specs.Formats.Kind as kinds
use Rattle.ether_base.specs.Formats.Refusal.{Length, Refuses}
use Rattle.ether_base.specs.Formats.Refusal as rows
use Rattle.ether_base.specs.Formats.RefusedLen.{IsRefusedLen}
use Rattle.ether_arp.proofs.Reading.{arp_begins_read}
use Rattle.ether_arp.proofs.arp_fields.packet.Goals as goal

pub returns-then-slice-lt-FRONT_LEN-clause-refused : goal.returns-then-slice-lt-FRONT_LEN-clause-refused
returns-then-slice-lt-FRONT_LEN-clause-refused c =
    subst (IsRefusedLen c.args.slice.now kinds.Arp) (sym c.too_short.ensures)
    (record { row = rows.arp c.if-slice-lt-FRONT_LEN.true; start = refl })

pub returns-then-slice-required_len-clause-refused : goal.returns-then-slice-required_len-clause-refused
returns-then-slice-required_len-clause-refused c =
    let bytes = c.args.slice.now in
    let front = arp_front_in bytes in
    let le = c.if-slice-lt-FRONT_LEN.false in
    let is = c.packet_len-required_len.ensures in
    let lt = c.if-slice-required_len.true in
    let row =
    rows.arp_addresses front le (arp_begins_read bytes (λ i. omega (arith, c.type_inv.slice i)) le) (omega arith) in
    let told =
    subst
    (λ (n : ℕ).
    Refuses sources.Slice bytes kinds.Arp (Length n (length bytes) sources.ArpAddrLengths layers.Arp))
    (sym is) row in
    subst (IsRefusedLen bytes kinds.Arp) (sym c.too_short-then-slice-required_len.ensures)
    (record { row = told; start = refl })
