-- Addresses of two lengths, each that of a byte, are those of an ARP packet.
use Rattle.std.proofs.Common.{◌≡◌, ℕ, ◌+◌, ◌≤◌, List, length, arith, rules}
use Rattle.etherparse.proofs.SubLists.{length-part}
use Rattle.etherparse.specs.Arp.{bytes_at}
use Rattle.etherparse.specs.ArpAddresses.{RefusesAddrs, hardware_unequal, protocol_unequal}
use Rattle.etherparse.specs.ArpAddresses.{hardware_too_long, protocol_too_long}
use Rattle.ether_base.specs.declared.err.arp.arp_new_error.ArpNewError.{ArpNewError}

pub address_len : (bytes address : List ℕ) (at n : ℕ) → (at + n ≤ length bytes) × (address ≡ bytes_at bytes at n)
    → length address ≡ n
address_len bytes address at n is = search (rules, length-part)

pub never_refused : (n m a b c d : ℕ) (e : ArpNewError) → a ≡ n → b ≡ m → c ≡ n → d ≡ m → n ≤ 255 → m ≤ 255
    → RefusesAddrs a b c d e → ⊥
never_refused n m a b c d e an bm cn dm few short (hardware_unequal differ) = differ (omega (arith, an, cn))
never_refused n m a b c d e an bm cn dm few short (protocol_unequal same differ) = differ (omega (arith, bm, dm))
never_refused n m a b c d e an bm cn dm few short (hardware_too_long same alike long) = search rules
never_refused n m a b c d e an bm cn dm few short (protocol_too_long same alike most long) = search rules
