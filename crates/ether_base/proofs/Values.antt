-- Each number of a format's fields is that of one value, and each number that has room is one.
use Rattle.std.proofs.Common.{◌≡◌, ℕ, ◌/◌, ◌%◌, ◌^◌, ◌<◌, arith}
use Rattle.ether_base.specs.Formats.Ethernet2.{Ethernet2Value, ethernet2_number, FitsEthernet2}
use Rattle.ether_base.specs.Formats.Vlan.{VlanValue, vlan_number, FitsVlan}
use Rattle.ether_base.specs.Formats.LinuxSll.{LinuxSllValue, linux_sll_number, FitsLinuxSll}
use Rattle.ether_base.specs.Formats.Macsec.{SecTagFront, sec_tag_front_number, FitsSecTagFront, sec_tag_front_at}
use Rattle.ether_base.specs.Formats.Arp.{ArpFront, arp_front_number, FitsArpFront}

pub ethernet2_unique : (v w : Ethernet2Value) → FitsEthernet2 v → FitsEthernet2 w
    → ethernet2_number v ≡ ethernet2_number w → v ≡ w
ethernet2_unique v w f g e =
    let a : v.destination ≡ w.destination = omega arith in
    let b : v.source ≡ w.source = omega arith in
    let c : v.ether_type ≡ w.ether_type = omega arith in
    λ i. record { destination = a i; source = b i; ether_type = c i }

pub vlan_unique : (v w : VlanValue) → FitsVlan v → FitsVlan w → vlan_number v ≡ vlan_number w → v ≡ w
vlan_unique v w f g e =
    let a : v.pcp ≡ w.pcp = omega arith in
    let b : v.dei ≡ w.dei = omega arith in
    let c : v.vid ≡ w.vid = omega arith in
    let d : v.ether_type ≡ w.ether_type = omega arith in
    λ i. record { pcp = a i; dei = b i; vid = c i; ether_type = d i }

pub linux_sll_unique : (v w : LinuxSllValue) → FitsLinuxSll v → FitsLinuxSll w → linux_sll_number v ≡ linux_sll_number w
    → v ≡ w
linux_sll_unique v w f g e =
    let a : v.packet_type ≡ w.packet_type = omega arith in
    let b : v.hardware_type ≡ w.hardware_type = omega arith in
    let c : v.address_len ≡ w.address_len = omega arith in
    let d : v.address ≡ w.address = omega arith in
    let k : v.protocol ≡ w.protocol = omega arith in
    λ i. record { packet_type = a i; hardware_type = b i; address_len = c i; address = d i; protocol = k i }

pub sec_tag_front_unique : (v w : SecTagFront) → FitsSecTagFront v → FitsSecTagFront w
    → sec_tag_front_number v ≡ sec_tag_front_number w → v ≡ w
sec_tag_front_unique v w f g e =
    let a : v.version ≡ w.version = omega arith in
    let b : v.end_station ≡ w.end_station = omega arith in
    let c : v.sci_present ≡ w.sci_present = omega arith in
    let d : v.single_copy_broadcast ≡ w.single_copy_broadcast = omega arith in
    let k : v.encrypted ≡ w.encrypted = omega arith in
    let l : v.changed ≡ w.changed = omega arith in
    let m : v.association_number ≡ w.association_number = omega arith in
    let n : v.reserved ≡ w.reserved = omega arith in
    let o : v.short_len ≡ w.short_len = omega arith in
    λ i.
    record {
      version = a i;
      end_station = b i;
      sci_present = c i;
      single_copy_broadcast = d i;
      encrypted = k i;
      changed = l i;
      association_number = m i;
      reserved = n i;
      short_len = o i;
    }

pub arp_front_unique : (v w : ArpFront) → FitsArpFront v → FitsArpFront w → arp_front_number v ≡ arp_front_number w
    → v ≡ w
arp_front_unique v w f g e =
    let a : v.hardware_type ≡ w.hardware_type = omega arith in
    let b : v.protocol_type ≡ w.protocol_type = omega arith in
    let c : v.hardware_size ≡ w.hardware_size = omega arith in
    let d : v.protocol_size ≡ w.protocol_size = omega arith in
    let k : v.operation ≡ w.operation = omega arith in
    λ i. record { hardware_type = a i; protocol_type = b i; hardware_size = c i; protocol_size = d i; operation = k i }

abbrev pub linux_sll_at : ℕ → LinuxSllValue
linux_sll_at n = record {
  packet_type = n / 2 ^ 112;
  hardware_type = n / 2 ^ 96 % 2 ^ 16;
  address_len = n / 2 ^ 80 % 2 ^ 16;
  address = n / 2 ^ 16 % 2 ^ 64;
  protocol = n % 2 ^ 16;
}

pub linux_sll_exists : (n : ℕ) → n < 2 ^ 128 → (n ≡ linux_sll_number (linux_sll_at n)) × FitsLinuxSll (linux_sll_at n)
linux_sll_exists n lt = omega arith

pub sec_tag_front_exists : (n : ℕ) → n < 2 ^ 16
    → (n ≡ sec_tag_front_number (sec_tag_front_at n)) × FitsSecTagFront (sec_tag_front_at n)
sec_tag_front_exists n lt = omega arith

abbrev pub arp_front_at : ℕ → ArpFront
arp_front_at n = record {
  hardware_type = n / 2 ^ 48;
  protocol_type = n / 2 ^ 32 % 2 ^ 16;
  hardware_size = n / 2 ^ 24 % 2 ^ 8;
  protocol_size = n / 2 ^ 16 % 2 ^ 8;
  operation = n % 2 ^ 16;
}

pub arp_front_exists : (n : ℕ) → n < 2 ^ 64 → (n ≡ arp_front_number (arp_front_at n)) × FitsArpFront (arp_front_at n)
arp_front_exists n lt = omega arith
