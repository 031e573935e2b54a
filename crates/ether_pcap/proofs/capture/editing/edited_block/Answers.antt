use Rattle.std.proofs.Common.{◌≡◌, ℕ, sym, ap, ◌∙◌, inl, inr}
use Rattle.std.specs.Option.{option_map}
use Rattle.ether_pcap.specs.Numbers.{field}
use Rattle.ether_pcap.specs.Capture.{EnhancedPacket, kind_of_block}
use Rattle.ether_pcap.specs.Editing.{EditedValue, unit_bytes}
use Rattle.ether_pcap.specs.Views.{order_of}
use Rattle.ether_pcap.proofs.PacketUnits.{enhanced_edited}
use Rattle.ether_pcap.proofs.capture.editing.edited_block.Goals as goal

pub returns-in-6-clause-unit : goal.returns-in-6-clause-unit
returns-in-6-clause-unit c most interfaces p begins =
    let order = order_of c.args.order in
    let e : EditedValue = record { original_len = c.args.original_len; packet = c.args.packet.now } in
    let call = c.edited_enhanced_packet in
    let t = sym c.u32_at.ensures in
    let edits = λ (number_len : ℕ) (is : kind_of_block (field order c.args.block.now 0 4) ≡ EnhancedPacket number_len).
    enhanced_edited most order interfaces c.args.block.now p begins number_len e (option_map unit_bytes call.result) is
    call.ensures.unit in
    elim c.in-6.is [
      | inl two ↦ edits 2 (ap kind_of_block (t ∙ two))
      | inr six ↦ edits 4 (ap kind_of_block (t ∙ six))
    ]
