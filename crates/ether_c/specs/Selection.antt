-- Which packets of a capture a filter selects.
use Rattle.std.specs.Prelude.{◌≡◌, ◌⊎◌, ℕ, nat_eq, Option, Some, None, Bool, true, false, if◌then◌else◌}
use Rattle.ether_filter.specs.Expressions.{Expression}
use Rattle.ether_pcap.specs.Capture.{TimeValue, PacketValue}
use Rattle.ether_content.specs.Selecting.{IsOutcome, Selects}
use Rattle.ether_c.specs.declared.ether_captured.EtherCaptured.{EtherCaptured}

-- ---- the packet that is passed

-- a mark of 0 says that the value is absent
abbrev pub marked : {T : Type 0} → (mark : ℕ) → T → Option T
marked mark value = if nat_eq mark 0 then None else Some value

abbrev pub captured_time : EtherCaptured → TimeValue
captured_time c = record { seconds = c.seconds; nanoseconds = c.nanoseconds }

abbrev pub packet_value : EtherCaptured → PacketValue
packet_value c = record {
  time = marked c.has_time (captured_time c);
  interface = None;
  direction = None;
  comment = None;
  original_len = c.original_len;
  link_type = c.link_type;
  snap_len = 0;
  fcs_len = marked c.has_fcs_len c.fcs_len;
  packet = c.packet.now;
}

-- ---- which packets are selected

-- 1 for a selected packet, 0 for any other
abbrev pub IsMark : Expression → EtherCaptured → (mark : ℕ) → Type 0
IsMark x c mark = (Selects x (packet_value c) × (mark ≡ 1)) ⊎ ((Selects x (packet_value c) → ⊥) × (mark ≡ 0))

-- the number of what the captured bytes decide: 2 if they do not
abbrev pub decision_number : Option Bool → ℕ
decision_number None = 2
decision_number (Some true) = 1
decision_number (Some false) = 0

abbrev pub IsDecision : Expression → EtherCaptured → (number : ℕ) → Type 0
IsDecision x c number = (outcome : Option Bool) × IsOutcome x (packet_value c) outcome
    × (number ≡ decision_number outcome)
