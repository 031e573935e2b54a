-- Ethernet II headers as values of the wire format, and what callers see of a view of a frame.
use Rattle.std.specs.Prelude.{ℕ, ◌-◌, List, length, slice_range, Bool, if◌then◌else◌, Option, Some, None}
use Rattle.ether_base.specs.Bytes.{number}
use Rattle.ether_base.specs.Formats.Ethernet2.{Ethernet2Value}
use Rattle.ether_tags.specs.declared.ethernet2_header.Ethernet2Header.{Ethernet2Header}

-- the addresses are the numbers of their bytes
abbrev pub ethernet2_value : (destination source : List ℕ) (ether_type : ℕ) → Ethernet2Value
ethernet2_value destination source ether_type =
    record { destination = number destination; source = number source; ether_type = ether_type }

abbrev pub ethernet2_view : Ethernet2Header → Ethernet2Value
ethernet2_view h = ethernet2_value h.destination h.source h.ether_type.0

-- the header in a list of at least fourteen bytes
abbrev pub ethernet2_header_of : List ℕ → Ethernet2Header
ethernet2_header_of bytes =
    record {
      source = slice_range bytes 6 12;
      destination = slice_range bytes 0 6;
      ether_type = record { 0 = number (slice_range bytes 12 14) };
    }

-- the frame's bytes as they were handed in, and whether the last four are a frame check sequence
pub record Frame : Type 0 where
  pub bytes : List ℕ
  pub has_fcs : Bool

abbrev pub fcs_len : Frame → ℕ
fcs_len f = if f.has_fcs then 4 else 0

-- the bytes between the header and the frame check sequence
abbrev pub payload_of : Frame → List ℕ
payload_of f = slice_range f.bytes 14 (length f.bytes - fcs_len f)

-- the frame check sequence, at the frame's very end
abbrev pub fcs_of : Frame → Option (List ℕ)
fcs_of f = if f.has_fcs then Some (slice_range f.bytes (length f.bytes - 4) (length f.bytes)) else None
