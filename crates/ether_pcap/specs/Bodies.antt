-- The bodies of the blocks of a pcapng file that are read (draft-ietf-opsawg-pcapng, sections 4.1 to 4.4).
use Rattle.std.specs.Prelude.{◌≡◌, ℕ, ◌+◌, ◌*◌, ◌^◌, ◌<◌, ◌≤◌, List, length, drop, min, nat_eq, slice_range, if◌then◌else◌}
use Rattle.ether_pcap.specs.Numbers.{Order, field}
use Rattle.ether_pcap.specs.Options.{padded}
use Rattle.ether_pcap.specs.Record.{max_captured_len}

-- too few bytes in a body; a captured length above the maximum
pub data BodyRefusal : Type 0 where
  Short : (required len : ℕ) → BodyRefusal
  TooLong : ℕ → BodyRefusal

-- ---- interface description (4.2): link type 2 bytes, reserved 2 bytes, snap length 4 bytes, options

pub record InterfaceValue : Type 0 where
  pub link_type : ℕ
  pub snap_len : ℕ
  pub options : List ℕ

pub record IsInterface (order : Order) (body : List ℕ) (v : InterfaceValue) : Type 0 where
  pub len : 8 ≤ length body
  pub link_type : field order body 0 2 ≡ v.link_type
  pub snap_len : field order body 4 8 ≡ v.snap_len
  pub options : slice_range body 8 (length body) ≡ v.options

pub data RefusesInterface (body : List ℕ) : BodyRefusal → Type 0 where
  interface : length body < 8 → RefusesInterface body (Short 8 (length body))

-- ---- enhanced packet (4.3) and the obsolete packet block (appendix A): interface 4 bytes, or 2 bytes and a count of
-- dropped packets in 2 bytes; time 8 bytes with the upper 4 first; captured and original length 4 bytes each; packet,
-- padding, options

pub record EnhancedPacketValue : Type 0 where
  pub interface : ℕ
  pub time : ℕ
  pub original_len : ℕ
  pub packet : List ℕ
  pub options : List ℕ

-- .. whose interface has number_len bytes
pub record IsEnhancedPacket (number_len : ℕ) (order : Order) (body : List ℕ) (v : EnhancedPacketValue) : Type 0 where
  pub interface : field order body 0 number_len ≡ v.interface
  pub time : field order body 4 8 * 2 ^ 32 + field order body 8 12 ≡ v.time
  pub captured_len : field order body 12 16 ≡ length v.packet
  pub original_len : field order body 16 20 ≡ v.original_len
  pub packet : slice_range body 20 (20 + length v.packet) ≡ v.packet
  pub options : drop (20 + padded (length v.packet)) body ≡ v.options
  pub whole : 20 + length v.packet ≤ length body
  pub room : length v.packet ≤ max_captured_len

pub data RefusesEnhancedPacket (order : Order) (body : List ℕ) : BodyRefusal → Type 0 where
  enhanced : length body < 20 → RefusesEnhancedPacket order body (Short 20 (length body))
  enhanced_too_long : 20 ≤ length body → max_captured_len < field order body 12 16
      → RefusesEnhancedPacket order body (TooLong (field order body 12 16))
  enhanced_packet : 20 ≤ length body → field order body 12 16 ≤ max_captured_len → length body < 20
      + field order body 12 16
      → RefusesEnhancedPacket order body (Short (20 + field order body 12 16) (length body))

-- ---- simple packet (4.4): original length 4 bytes, packet; its interface is the section's first, whose snap length
-- cuts it

-- the number of captured bytes of a packet with this original length, where a snap length of 0 is no limit
abbrev pub captured_by : (snap_len original_len : ℕ) → ℕ
captured_by snap_len original_len = if nat_eq snap_len 0 then original_len else min snap_len original_len

pub record SimplePacketValue : Type 0 where
  pub original_len : ℕ
  pub packet : List ℕ

pub record IsSimplePacket (order : Order) (snap_len : ℕ) (body : List ℕ) (v : SimplePacketValue) : Type 0 where
  pub original_len : field order body 0 4 ≡ v.original_len
  pub captured_len : captured_by snap_len (field order body 0 4) ≡ length v.packet
  pub packet : slice_range body 4 (4 + length v.packet) ≡ v.packet
  pub whole : 4 + length v.packet ≤ length body
  pub room : length v.packet ≤ max_captured_len

pub data RefusesSimplePacket (order : Order) (snap_len : ℕ) (body : List ℕ) : BodyRefusal → Type 0 where
  simple : length body < 4 → RefusesSimplePacket order snap_len body (Short 4 (length body))
  simple_too_long : (n : ℕ) → 4 ≤ length body → captured_by snap_len (field order body 0 4) ≡ n → max_captured_len < n
      → RefusesSimplePacket order snap_len body (TooLong n)
  simple_packet : (n : ℕ) → 4 ≤ length body → captured_by snap_len (field order body 0 4) ≡ n → n ≤ max_captured_len
      → length body < 4 + n
      → RefusesSimplePacket order snap_len body (Short (4 + n) (length body))
