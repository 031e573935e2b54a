-- The header that a list begins with is the one that its bytes mean.
use Rattle.std.proofs.Common.{◌≡◌, ℕ, ◌≤◌, List, length, sym, ap, arith, refl, rules}
use Rattle.etherparse.specs.Bytes.{IsBytes}
use Rattle.etherparse.specs.Macsec.{SecTagValue, sec_tag_front_in, sec_tag_front_of, sec_tag_len, sec_tag_of}
use Rattle.etherparse.specs.Arp.{ArpValue, BeginsWithArp, arp_front_in, arp_front_of, arp_len, arp_of}
use Rattle.etherparse.specs.Header.{Header, kind_of, header_len, Means}
use Rattle.etherparse.specs.Header as headers
use Rattle.etherparse.proofs.MacsecFields.{sec_tag_means}
use Rattle.etherparse.proofs.Reading.{arp_begins_read, arp_means}
use Rattle.etherparse.proofs.Rows.{one_arp_front, one_sec_tag_front, sec_tag_front_read}
use Rattle.etherparse.proofs.Means.{arp_begins, one_header, tag_begins, tag_unique}
use Rattle.ether_peel.proofs.Walker.ViewValues.{ethernet2_shown, linux_sll_shown, vlan_shown}
use Rattle.ether_packet.specs.Views.{header_in}

pub sec_tag_shown : (bytes : List ℕ) (t : SecTagValue) → IsBytes bytes → Means bytes (headers.Macsec t)
    → sec_tag_of bytes ≡ t
sec_tag_shown bytes t ok means =
    let le = means.whole in
    let six : 6 ≤ length bytes = omega arith in
    let begins = tag_begins bytes t means in
    let front =
    one_sec_tag_front bytes (sec_tag_front_in bytes) (sec_tag_front_of begins.0 begins.1 t)
    (sec_tag_front_read bytes ok six) begins.2 in
    let len : header_len (headers.Macsec t) ≡ sec_tag_len (sec_tag_front_in bytes) = ap sec_tag_len (sym front) in
    tag_unique bytes (sec_tag_of bytes) t (sec_tag_means bytes ok six (omega arith)) means

same_arp : (a b : ArpValue) → headers.Arp a ≡ headers.Arp b → a ≡ b
same_arp a b e = cc

pub packet_shown : (bytes : List ℕ) (a : ArpValue) → IsBytes bytes → Means bytes (headers.Arp a) → arp_of bytes ≡ a
packet_shown bytes a ok means =
    let le = means.whole in
    let eight : 8 ≤ length bytes = omega arith in
    let front =
    one_arp_front bytes (arp_front_in bytes) (arp_front_of a) (arp_begins_read bytes ok eight)
    (arp_begins bytes a means) in
    let len : header_len (headers.Arp a) ≡ arp_len (arp_front_in bytes) = ap arp_len (sym front) in
    let begins : BeginsWithArp bytes = record { front = eight; whole = omega arith } in
    same_arp (arp_of bytes) a
    (one_header bytes (headers.Arp (arp_of bytes)) (headers.Arp a) refl (arp_means bytes ok begins) means)

pub header_shown : (bytes : List ℕ) (h : Header) → IsBytes bytes → Means bytes h → header_in (kind_of h) bytes ≡ h
header_shown bytes (headers.Ethernet2 e) ok means = ap headers.Ethernet2 (ethernet2_shown bytes e ok means)
header_shown bytes h ok means =
    search (rules, ethernet2_shown, linux_sll_shown, vlan_shown, sec_tag_shown, packet_shown)
