use Rattle.std.proofs.Common.{arith, sym, ap, ◌∙◌}
use Rattle.etherparse.specs.LinuxSll.{is_supported}
use Rattle.ether_filter.proofs.Behinds.{sll_packet_behind, sll_hardware_behind, sll_ethernet_behind, sll_other_behind}
use Rattle.ether_filter.proofs.behind.behind_sll.Goals as goal

pub returns-then-number_at-gt7 : goal.returns-then-number_at-gt7
returns-then-number_at-gt7 c =
    sll_packet_behind c.args.known.now c.args.room c.requires.whole c.requires.inside
    (omega (arith, c.number_at.ensures, c.if-number_at-gt7.true))

pub returns-then-not-is_supported : goal.returns-then-not-is_supported
returns-then-not-is_supported c =
    sll_hardware_behind c.args.known.now c.args.room c.requires.whole c.requires.inside
    (sym (ap is_supported (c.from-hardware.ensures ∙ c.number_at-2.ensures)) ∙ sym c.is_supported.ensures
    ∙ c.if-not-is_supported.true)

pub returns-then-hardware-eq1 : goal.returns-then-hardware-eq1
returns-then-hardware-eq1 c =
    let hardware = c.from-hardware.ensures ∙ c.number_at-2.ensures in
    sll_ethernet_behind c.args.known.now c.args.room c.behind_fixed.result (λ i. omega (arith, c.type_inv.known i))
    c.requires.whole c.requires.inside (omega (arith, c.number_at.ensures, c.if-number_at-gt7.false))
    (sym (ap is_supported hardware) ∙ sym c.is_supported.ensures ∙ c.if-not-is_supported.false)
    (sym hardware ∙ c.if-hardware-eq1.true) c.behind_fixed.ensures.header c.behind_fixed.ensures.room
    c.behind_fixed.ensures.ether_type

pub returns : goal.returns
returns c =
    let hardware = c.from-hardware.ensures ∙ c.number_at-2.ensures in
    sll_other_behind c.args.known.now c.args.room (λ i. omega (arith, c.type_inv.known i)) c.requires.whole
    c.requires.inside (omega (arith, c.number_at.ensures, c.if-number_at-gt7.false))
    (sym (ap is_supported hardware) ∙ sym c.is_supported.ensures ∙ c.if-not-is_supported.false)
    (λ is. c.if-hardware-eq1.false (hardware ∙ is))
