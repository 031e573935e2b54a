-- The unit of a packet whose captured bytes and original length are edited: a record (draft-ietf-opsawg-pcap, section
-- 5), or a block with an enhanced packet or an obsolete packet block (draft-ietf-opsawg-pcapng, sections 3.1 and 4.3,
-- appendix A).
use Rattle.std.specs.Prelude.{◌≡◌, ℕ, ◌+◌, ◌-◌, List, ◌++◌, length, drop, Option, Some, None, IfSome, Bool, true, nat_lt, slice_range, if◌then◌else◌}
use Rattle.std.specs.Option.{option_map}
use Rattle.ether_pcap.specs.Numbers.{Order, field}
use Rattle.ether_pcap.specs.Block.{max_block_len}
use Rattle.ether_pcap.specs.Options.{padded}
use Rattle.ether_pcap.specs.Record.{max_captured_len}
use Rattle.ether_pcap.specs.Writing.{bytes_of, zeros}
use Rattle.ether_pcap.specs.Capture.{PacketValue, CaptureExpectation, Beginning, Records, Blocks, BlockKind, EnhancedPacket, kind_of_block, Begins}
use Rattle.ether_pcap.specs.declared.capture.edited_unit.EditedUnit.{EditedUnit}
use Rattle.ether_pcap.specs.declared.capture.edited_unit.EditedUnit.TheVariants as units

-- what a packet is edited to: its length before it was cut, and its captured bytes
pub record EditedValue : Type 0 where
  pub original_len : ℕ
  pub packet : List ℕ

-- the bytes before the captured length; captured length and original length, 4 bytes each; the captured bytes
abbrev pub edited_front : Order → (place : ℕ) → EditedValue → List ℕ → List ℕ
edited_front order place e bytes =
    slice_range bytes 0 place ++ bytes_of order 4 (length e.packet) ++ bytes_of order 4 e.original_len ++ e.packet

-- a record: seconds and fraction precede the captured length
abbrev pub edited_record : Order → EditedValue → List ℕ → List ℕ
edited_record order e record_bytes = edited_front order 8 e record_bytes

-- The body of a packet with m captured bytes: interface and time precede the captured length; padding and the options
-- follow the packet.
abbrev pub edited_body : Order → (m : ℕ) → EditedValue → List ℕ → List ℕ
edited_body order m e body =
    edited_front order 12 e body ++ zeros (padded (length e.packet) - length e.packet) ++ drop (20 + padded m) body

-- a block: type, total length, body, total length
abbrev pub block_bytes : Order → (block_type body : List ℕ) → List ℕ
block_bytes order block_type body =
    let total_len = bytes_of order 4 (12 + length body) in block_type ++ total_len ++ body ++ total_len

-- .. or None if it is longer than a reader accepts
abbrev pub edited_block : BlockKind → Order → (m : ℕ) → EditedValue → List ℕ → Option (List ℕ)
edited_block (EnhancedPacket number_len) order m e block =
    let body = edited_body order m e (slice_range block 8 (length block - 4)) in
    if nat_lt max_block_len (12 + length body) then None else Some (block_bytes order (slice_range block 0 4) body)
edited_block _ order m e block = None

-- The unit of a packet that had m captured bytes, after an edit. A simple packet has no captured length of its own
-- (4.4), and can't be edited.
abbrev pub unit_with : CaptureExpectation → (m : ℕ) → EditedValue → List ℕ → Option (List ℕ)
unit_with (Beginning most) m e unit = None
unit_with (Records h) m e unit = Some (edited_record h.order e unit)
unit_with (Blocks most order interfaces) m e unit = edited_block (kind_of_block (field order unit 0 4)) order m e unit

-- more captured bytes than a reader accepts, or an original length that does not fit in 4 bytes
abbrev pub is_too_long : EditedValue → Bool
is_too_long e = if nat_lt max_captured_len (length e.packet) then true else nat_lt 4294967295 e.original_len

abbrev pub edited_unit : CaptureExpectation → (m : ℕ) → EditedValue → List ℕ → Option (List ℕ)
edited_unit x m e unit = if is_too_long e then None else unit_with x m e unit

-- the packet after the edit: all else is unchanged
abbrev pub edited_packet : EditedValue → PacketValue → PacketValue
edited_packet e p = record p { original_len = e.original_len; packet = e.packet }

-- ---- what a call returns

-- the bytes of an edited unit
abbrev pub unit_bytes : EditedUnit → List ℕ
unit_bytes (units.Record header packet) = header ++ packet.now
unit_bytes (units.Block header packet padding_len options trailer) =
    header ++ packet.now ++ zeros padding_len ++ options.now ++ trailer

-- how many zeros pad the packet
abbrev pub padding_of : EditedUnit → ℕ
padding_of (units.Record header packet) = 0
padding_of (units.Block header packet padding_len options trailer) = padding_len

-- if the bytes are the unit of a packet, the result is the unit of the edited packet
abbrev pub EditsUnit : CaptureExpectation → (unit : List ℕ) → EditedValue → Option EditedUnit → Type 0
EditsUnit x unit e result =
    (p : PacketValue) → Begins unit x (length unit) (Some p) x → option_map unit_bytes result
    ≡ edited_unit x (length p.packet) e unit

-- .. which is read as the edited packet, whatever follows it
abbrev pub HasEditedPacket : CaptureExpectation → (unit : List ℕ) → EditedValue → Option EditedUnit → Type 0
HasEditedPacket x unit e result =
    (p : PacketValue) → Begins unit x (length unit) (Some p) x
    → IfSome result (λ u. (more : List ℕ) → Begins (unit_bytes u ++ more) x (length (unit_bytes u))
    (Some (edited_packet e p)) x)
