use Rattle.std.proofs.Common.{rules, ◌≡◌, ◌==◌, ◌&&◌, Bor, List, ℕ, ap, ◌∙◌}
use Rattle.std.specs.Bool.{Decides}
use Rattle.std.specs.Cmp.{unsigned_Decides}
use Rattle.std.specs.Cmp.Lexicographic.{pointwise}
use Rattle.std.specs.contracts.prelude.U8PartialEq.TheImpl as bytes
use Rattle.std.specs.Option.{option_eq, option_map}
use Rattle.std.specs.Prelude.{Option, Some, None}
use Rattle.std.proofs.lemmas.Bool.{and_parts}
use Rattle.ether_pcap.specs.CaptureViews.{captured_packet_view, direction_view}
use Rattle.ether_pcap.specs.contracts.capture.captured_packet.CapturedPacketPartialEq.TheImpl as packet
use Rattle.ether_pcap.specs.contracts.capture.direction.DirectionPartialEq.TheImpl as direction
use Rattle.ether_pcap.specs.declared.capture.capture_unit.CaptureUnit.{CaptureUnit}
use Rattle.ether_pcap.specs.declared.capture.captured_packet.CapturedPacket.{CapturedPacket}
use Rattle.ether_pcap.specs.declared.capture.direction.Direction.{Direction}
use Rattle.ether_pcap.specs.declared.capture.direction.Direction.TheVariants.{Inbound, Outbound}
use Rattle.derived_traits.proofs.pcap.equality.Goals as goal

directions_Decide : (a b : Option Direction)
    → Decides (option_eq (direction.ghosts).eq a b) (option_map direction_view a ≡ option_map direction_view b)
directions_Decide None None = (search rules, search rules)
directions_Decide None (Some b) = (search rules, search rules)
directions_Decide (Some a) None = (search rules, search rules)
directions_Decide (Some Inbound) (Some Inbound) = (search rules, search rules)
directions_Decide (Some Inbound) (Some Outbound) = (search rules, search rules)
directions_Decide (Some Outbound) (Some Inbound) = (search rules, search rules)
directions_Decide (Some Outbound) (Some Outbound) = (search rules, search rules)

comments_Decide : (a b : Option (Bor (List ℕ)))
    → Decides (option_eq (λ x y. pointwise (bytes.ghosts).eq x.now y.now) a b)
    (option_map (λ t. t.now) a ≡ option_map (λ t. t.now) b)
comments_Decide None None = (search rules, search rules)
comments_Decide None (Some b) = (search rules, search rules)
comments_Decide (Some a) None = (search rules, search rules)
comments_Decide (Some a) (Some b) = (search rules, search rules)

packets_Decides : (a b : CapturedPacket)
    → Decides ((packet.ghosts).eq a b) (captured_packet_view a ≡ captured_packet_view b)
packets_Decides a b =
    let direction_is = directions_Decide a.direction b.direction in
    let comment_is = comments_Decide a.comment b.comment in (
      λ e.
          let time = and_parts _ _ e in
          let interface = and_parts _ _ time.1 in
          let direction = and_parts _ _ interface.1 in
          let comment = and_parts _ _ direction.1 in
          let same_direction = direction_is.0 direction.0 in
          let same_comment = comment_is.0 comment.0 in
          let first = time.0 in
          let second = interface.0 in
          let rest = comment.1 in search rules,
      search rules,
    )

found_Decides : (a b : Option CapturedPacket)
    → Decides (option_eq (packet.ghosts).eq a b) (option_map captured_packet_view a ≡ option_map captured_packet_view b)
found_Decides None b = (search rules, search rules)
found_Decides (Some a) None = (search rules, search rules)
found_Decides (Some a) (Some b) = let d = packets_Decides a b in (λ same. ap Some (d.0 same), λ e. d.1 cc)

units_Decides : (a b : CaptureUnit)
    → Decides (a.len == b.len && option_eq (packet.ghosts).eq a.packet b.packet)
    ((a.len ≡ b.len) × (option_map captured_packet_view a.packet ≡ option_map captured_packet_view b.packet))
units_Decides a b =
    let len = unsigned_Decides a.len b.len in
    let found = found_Decides a.packet b.packet in (
      λ same. let parts = and_parts (a.len == b.len) (option_eq (packet.ghosts).eq a.packet b.packet) same in
          (len.0 parts.0, found.0 parts.1),
      λ both. ap (λ t. t && option_eq (packet.ghosts).eq a.packet b.packet) (len.1 both.0) ∙ found.1 both.1,
    )

pub returns-clause-capture_unit : goal.returns-clause-capture_unit
returns-clause-capture_unit c = units_Decides

pub returns-clause-captured_packet : goal.returns-clause-captured_packet
returns-clause-captured_packet c = packets_Decides
