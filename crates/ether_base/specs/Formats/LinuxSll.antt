-- The header of Linux cooked capture, version 1 (LINKTYPE_LINUX_SLL of the tcpdump group).
use Rattle.std.specs.Prelude.{◌≡◌, ℕ, ◌+◌, ◌*◌, ◌^◌, ◌<◌, List, slice_range, Bool, nat_eq, ◌||◌}
use Rattle.ether_base.specs.Bytes.{number, spelled}

pub record LinuxSllValue : Type 0 where
  pub packet_type : ℕ
  pub hardware_type : ℕ
  pub address_len : ℕ
  pub address : ℕ
  pub protocol : ℕ

-- packet type 2 bytes, ARPHRD_ type 2 bytes, address length 2 bytes, address 8 bytes, protocol type 2 bytes
abbrev pub linux_sll_number : LinuxSllValue → ℕ
linux_sll_number s = s.packet_type * 2 ^ 112 + s.hardware_type * 2 ^ 96 + s.address_len * 2 ^ 80 + s.address * 2 ^ 16
    + s.protocol

pub record FitsLinuxSll (s : LinuxSllValue) : Type 0 where
  pub packet_type : s.packet_type < 2 ^ 16
  pub hardware_type : s.hardware_type < 2 ^ 16
  pub address_len : s.address_len < 2 ^ 16
  pub address : s.address < 2 ^ 64
  pub protocol : s.protocol < 2 ^ 16

-- sixteen bytes mean a value
pub record IsLinuxSll (bytes : List ℕ) (s : LinuxSllValue) : Type 0 where
  pub sum : number bytes ≡ linux_sll_number s
  pub fits : FitsLinuxSll s

-- a list begins with the sixteen bytes of a value
abbrev pub BeginsLinuxSll : List ℕ → LinuxSllValue → Type 0
BeginsLinuxSll bytes s = IsLinuxSll (slice_range bytes 0 16) s

-- the sixteen bytes of a value
abbrev pub linux_sll_bytes : LinuxSllValue → List ℕ
linux_sll_bytes s = spelled 16 (linux_sll_number s)

-- the value in a list of at least sixteen bytes
abbrev pub linux_sll_of : List ℕ → LinuxSllValue
linux_sll_of bytes = record {
  packet_type = number (slice_range bytes 0 2);
  hardware_type = number (slice_range bytes 2 4);
  address_len = number (slice_range bytes 4 6);
  address = number (slice_range bytes 6 14);
  protocol = number (slice_range bytes 14 16);
}

-- the hardware types that are supported: 824 netlink, 778 GRE over IP, 803 radiotap, 770 frame relay, 1 Ethernet
abbrev pub is_supported : ℕ → Bool
is_supported hardware = nat_eq hardware 824 || nat_eq hardware 778 || nat_eq hardware 803 || nat_eq hardware 770
    || nat_eq hardware 1
