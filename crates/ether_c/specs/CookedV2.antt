-- Packets of Linux cooked capture v2, for calls from C.
use Rattle.std.specs.Prelude.{◌≡◌, ℕ, List, map, replicate, Option, Some, None, unwrap_or}
use Rattle.ether_base.specs.Bytes.{spelled}
use Rattle.ether_base.specs.Formats.LinuxSllProtocolType.{told_ether_type}
use Rattle.ether_sll2.specs.LinuxSll2.{LinuxSll2Value, BeginsLinuxSll2, LinuxSll2Refusal, Short, PacketType, RefusesLinuxSll2, AcceptsLinuxSll2, protocol_on}
use Rattle.ether_c.specs.declared.ether_field.EtherField.{EtherField}
use Rattle.ether_c.specs.declared.ether_linux_sll2.EtherLinuxSll2.{EtherLinuxSll2}
use Rattle.ether_fields.specs.Units.{linux_sll2_fields}
use Rattle.ether_c.specs.Fields.{c_field, Fronts}
use Rattle.ether_c.specs.Numbers.{done}
use Rattle.ether_c.specs.Captured.{short}

abbrev pub bad_packet_type : ℕ
bad_packet_type = 15

-- the start of the payload's walk: by its ether type, if it has one
abbrev pub start_number : (ether_type : Option ℕ) → ℕ
start_number None = 0
start_number (Some n) = 4

-- a header of twenty bytes, after which the payload begins
abbrev pub c_linux_sll2 : LinuxSll2Value → EtherLinuxSll2
c_linux_sll2 s = let ether_type = told_ether_type (protocol_on s.hardware_type s.protocol) in record {
  payload_start = 20;
  interface_index = s.interface_index;
  start = start_number ether_type;
  protocol = s.protocol;
  ether_type = unwrap_or ether_type 0;
  hardware_type = s.hardware_type;
  packet_type = s.packet_type;
  address_len = s.address_len;
  address = spelled 8 s.address;
}

-- all 0, except for the unsupported packet type
abbrev pub no_linux_sll2 : (packet_type : ℕ) → EtherLinuxSll2
no_linux_sll2 packet_type = record {
  payload_start = 0;
  interface_index = 0;
  start = 0;
  protocol = 0;
  ether_type = 0;
  hardware_type = 0;
  packet_type = packet_type;
  address_len = 0;
  address = replicate 8 0;
}

abbrev pub c_linux_sll2_refusal : LinuxSll2Refusal → EtherLinuxSll2
c_linux_sll2_refusal (Short required len) = no_linux_sll2 0
c_linux_sll2_refusal (PacketType n) = no_linux_sll2 n

abbrev pub linux_sll2_status : LinuxSll2Refusal → ℕ
linux_sll2_status (Short required len) = short
linux_sll2_status (PacketType n) = bad_packet_type

-- the bytes begin with a header, or the header is refused
pub data GivesLinuxSll2 (bytes : List ℕ) : (given : EtherLinuxSll2) → (status : ℕ) → Type 0 where
  read : (s : LinuxSll2Value) → AcceptsLinuxSll2 bytes → BeginsLinuxSll2 bytes s
      → GivesLinuxSll2 bytes (c_linux_sll2 s) done
  refused : (r : LinuxSll2Refusal) → RefusesLinuxSll2 bytes r
      → GivesLinuxSll2 bytes (c_linux_sll2_refusal r) (linux_sll2_status r)

-- The array holds the fields of the header from its front on, as many as it has room for. For a refused header nothing
-- is written.
pub record GivesLinuxSll2Fields (bytes : List ℕ) (old new : List EtherField) (count_old count : ℕ)
    (status : ℕ) : Type 0 where
  pub accepted : AcceptsLinuxSll2 bytes
      → Fronts (map (c_field bytes 0) linux_sll2_fields) old new count × (status ≡ done)
  pub refused : (r : LinuxSll2Refusal) → RefusesLinuxSll2 bytes r
      → (new ≡ old) × (count ≡ count_old) × (status ≡ linux_sll2_status r)
