-- What a copy of a capture file has for each unit: its bytes; or, if the copy is another capture, bytes that are true
-- of that capture (draft-ietf-opsawg-pcap, section 4; draft-ietf-opsawg-pcapng, section 4).
use Rattle.std.specs.Prelude.{ℕ, ◌+◌, ◌-◌, ◌^◌, min, max, List, [], ◌∷◌, ◌++◌, length, map, drop, Option, Some, None, Bool, true, nat_eq, slice_range, if◌then◌else◌}
use Rattle.ether_base.specs.Bytes.{number}
use Rattle.ether_pcap.specs.Numbers.{Order, field}
use Rattle.ether_pcap.specs.Record.{max_captured_len}
use Rattle.ether_pcap.specs.Bodies.{captured_by}
use Rattle.ether_pcap.specs.FileHeader.{FileHeaderValue}
use Rattle.ether_pcap.specs.Section.{section_type}
use Rattle.ether_pcap.specs.Writing.{bytes_of}
use Rattle.ether_pcap.specs.Capture.{PacketValue, CaptureInterfaceValue, CaptureExpectation, Beginning, Records, Blocks, BlockKind, SimplePacket, kind_of_block}
use Rattle.ether_pcap.specs.Editing.{EditedValue, edited_unit, edited_packet}
use Rattle.ether_pcap.specs.declared.capture.copy_mode.CopyMode.{CopyMode}
use Rattle.ether_pcap.specs.declared.capture.copy_mode.CopyMode.TheVariants as modes
use Rattle.ether_pcap.specs.declared.capture.copied_unit.CopiedUnit.{CopiedUnit}
use Rattle.ether_pcap.specs.declared.capture.copied_unit.CopiedUnit.TheVariants as units

-- byte for byte; or as another capture, in which an edit adds at most this many bytes to a packet
pub data ModeValue : Type 0 where
  Exact : ModeValue
  Changed : (raise : ℕ) → ModeValue

abbrev pub copy_mode_view : CopyMode → ModeValue
copy_mode_view modes.Exact = Exact
copy_mode_view (modes.Changed raise) = Changed raise

-- ---- snap lengths

-- The raised snap length, a number of four bytes: at most as many bytes as a packet has. One that is not less is
-- unchanged, as is 0, no limit.
abbrev pub raised_len : (raise snap_len : ℕ) → ℕ
raised_len raise n = if nat_eq n 0 then 0 else min (max n (min (n + raise) max_captured_len)) (2 ^ 32 - 1)

abbrev pub raised_header : ℕ → FileHeaderValue → FileHeaderValue
raised_header raise h = record h { snap_len = raised_len raise h.snap_len }

abbrev pub raised_interface : ℕ → CaptureInterfaceValue → CaptureInterfaceValue
raised_interface raise i = record i { snap_len = raised_len raise i.snap_len }

-- what is expected in the copy where this is expected in the capture
abbrev pub expected_in : ModeValue → CaptureExpectation → CaptureExpectation
expected_in Exact x = x
expected_in (Changed raise) (Beginning most) = Beginning most
expected_in (Changed raise) (Records h) = Records (raised_header raise h)
expected_in (Changed raise) (Blocks most order interfaces) = Blocks most order (map (raised_interface raise) interfaces)

-- ---- units without a packet

-- the bytes, in which new ones replace as many from the offset `at` on
abbrev pub with_bytes : (at : ℕ) → (new bytes : List ℕ) → List ℕ
with_bytes at new bytes = slice_range bytes 0 at ++ new ++ drop (at + length new) bytes

-- a section length of -1: it is not given (4.1)
abbrev pub no_section_len : List ℕ
no_section_len = 255 ∷ 255 ∷ 255 ∷ 255 ∷ 255 ∷ 255 ∷ 255 ∷ 255 ∷ []

-- The snap length of an interface description (4.2) is raised. A custom block that is not meant to be copied to
-- another capture is left out.
abbrev pub changed_block : ℕ → Order → (block : List ℕ) → List ℕ
changed_block raise order block =
    if nat_eq (field order block 0 4) 1
    then with_bytes 12 (bytes_of order 4 (raised_len raise (field order block 12 16))) block
    else (if nat_eq (field order block 0 4) 0x40000BAD then [] else block)

-- A unit after which this is expected. The snap length of a file header is raised, too, and a section header gives no
-- section length.
abbrev pub changed_unit : ℕ → (after : CaptureExpectation) → (unit : List ℕ) → List ℕ
changed_unit raise (Beginning most) unit = unit
changed_unit raise (Records h) unit = with_bytes 16 (bytes_of h.order 4 (raised_len raise h.snap_len)) unit
changed_unit raise (Blocks most order interfaces) unit =
    if nat_eq (number (slice_range unit 0 4)) section_type then with_bytes 16 no_section_len unit
    else changed_block raise order unit

abbrev pub other_unit : ModeValue → (after : CaptureExpectation) → (unit : List ℕ) → List ℕ
other_unit Exact after unit = unit
other_unit (Changed raise) after unit = changed_unit raise after unit

-- ---- packets

-- the packet that a unit has in the copy
abbrev pub packet_in : ModeValue → PacketValue → PacketValue
packet_in Exact p = p
packet_in (Changed raise) p = record p { snap_len = raised_len raise p.snap_len }

-- The snap length gives the number of captured bytes of a simple packet (4.4). So one that was cut can't be copied
-- where the snap length is raised.
abbrev pub is_kept : ℕ → BlockKind → PacketValue → Bool
is_kept raise SimplePacket p = nat_eq (captured_by (raised_len raise p.snap_len) p.original_len) (length p.packet)
is_kept raise _ p = true

-- the unit of a packet that is not edited
abbrev pub packet_unit : ModeValue → CaptureExpectation → PacketValue → List ℕ → Option (List ℕ)
packet_unit (Changed raise) (Blocks most order interfaces) p unit =
    if is_kept raise (kind_of_block (field order unit 0 4)) p then Some unit else None
packet_unit _ x p unit = Some unit

-- .. and of one that is edited, if there is an edit
abbrev pub unit_after : ModeValue → CaptureExpectation → PacketValue → Option EditedValue → List ℕ → Option (List ℕ)
unit_after mode x p None unit = packet_unit mode x p unit
unit_after mode x p (Some e) unit = edited_unit x (length p.packet) e unit

abbrev pub packet_after : ModeValue → PacketValue → Option EditedValue → PacketValue
packet_after mode p None = packet_in mode p
packet_after mode p (Some e) = edited_packet e (packet_in mode p)

-- ---- what a call returns

abbrev pub copied_bytes : CopiedUnit → List ℕ
copied_bytes (units.Same unit) = unit.now
copied_bytes units.LeftOut = []
copied_bytes (units.SnapLen front snap_len rest) = front.now ++ snap_len ++ rest.now
copied_bytes (units.SectionLen front rest) = front.now ++ no_section_len ++ rest.now
