-- Packets that are completed so that a refused unit follows.
use Rattle.std.proofs.Common.{◌≡◌, ℕ, zero, suc, ◌-◌, ◌<◌, ◌≤◌, List, [], ◌∷◌, ◌++◌, length, refl, sym, ap, subst, arith, inl, inr, true, IsTrue}
use Rattle.std.specs.Prelude.{replicate}
use Rattle.std.proofs.lemmas.List.{length-replicate}
use Rattle.etherparse.specs.Bytes.{IsBytes}
use Rattle.etherparse.specs.Macsec.{sec_tag_front_in}
use Rattle.etherparse.specs.Kind.{Kind}
use Rattle.etherparse.specs.Kind as kinds
use Rattle.etherparse.specs.Header.{Header}
use Rattle.etherparse.specs.Header as headers
use Rattle.etherparse.proofs.Numbers.{IsBytes-nil, IsBytes-cons}
use Rattle.std.proofs.lemmas.Bool.{cases_lt}
use Rattle.etherparse.specs.Refusal.{UnexpectedVersion}
use Rattle.etherparse.specs.Refusal as rows
use Rattle.etherparse.proofs.Rows.{sec_tag_front_read, some_arp_front}
use Rattle.ether_filter.specs.declared.packet.Packet.{Packet}
use Rattle.ether_filter.specs.declared.prospect.Prospect.{Prospect}
use Rattle.ether_filter.specs.Prospects.{AreRefused, Offers, IsProspect}
use Rattle.ether_filter.proofs.Read.{begins_nothing}
use Rattle.ether_filter.proofs.Typed.{zeros_are_bytes}
use Rattle.ether_filter.proofs.Tails.{Opens}
use Rattle.ether_filter.proofs.Leads.{TagType}
use Rattle.ether_filter.proofs.Follows.{zeros_before, Has, vlan_announced, HasNext, follow_next, follow_tag_next}

-- ---- a refused unit follows

-- a SecTag whose version bit is 1, as far as it has room
abbrev version_bytes : (room : ℕ) → List ℕ
version_bytes zero = []
version_bytes (suc n) = 0x80 ∷ replicate n 0

version_ok : (room : ℕ) → IsBytes (version_bytes room)
version_ok zero = IsBytes-nil
version_ok (suc n) = IsBytes-cons 0x80 (replicate n 0) (omega arith) (zeros_are_bytes n)

version_len : (room : ℕ) → length (version_bytes room) ≡ room
version_len zero = refl
version_len (suc n) = ap suc (length-replicate {A = ℕ} n 0)

version_is : (room : ℕ) → 6 ≤ length (version_bytes room) → (sec_tag_front_in (version_bytes room)).version ≡ 1
version_is zero le = absurd (omega (arith, le))
version_is (suc zero) le = absurd (omega (arith, le))
version_is (suc (suc n)) le = refl

version_refused : (room : ℕ) → AreRefused kinds.Macsec (version_bytes room)
version_refused room bound = elim (cases_lt (length (version_bytes room)) 6) [
  | inl lt ↦ (_, rows.macsec lt)
  | inr le ↦ (
    UnexpectedVersion,
    rows.macsec_version (sec_tag_front_in (version_bytes room)) le
        (sec_tag_front_read (version_bytes room) (version_ok room) le) (version_is room le),
  )
]

-- an ARP packet with two sizes of 255, as far as it has room
abbrev sizes_bytes : (room : ℕ) → List ℕ
sizes_bytes room = 0 ∷ 0 ∷ 0 ∷ 0 ∷ 255 ∷ 255 ∷ 0 ∷ 0 ∷ replicate (room - 8) 0

sizes_ok : (room : ℕ) → IsBytes (sizes_bytes room)
sizes_ok room =
    let zeros = replicate (room - 8) 0 in
    zeros_before 4 (255 ∷ 255 ∷ 0 ∷ 0 ∷ zeros)
    (IsBytes-cons 255 (255 ∷ 0 ∷ 0 ∷ zeros) (omega arith)
    (IsBytes-cons 255 (0 ∷ 0 ∷ zeros) (omega arith) (zeros_before 2 zeros (zeros_are_bytes (room - 8)))))

sizes_refused : (room : ℕ) → 8 ≤ room → room < 1028 → AreRefused kinds.Arp (sizes_bytes room)
sizes_refused room le lt bound =
    let bytes = sizes_bytes room in
    let long : 8 ≤ length bytes = omega arith in
    let front = some_arp_front bytes (sizes_ok room) long in
    (_, rows.arp_addresses front.0 long front.1 (omega (arith, le, lt, length-replicate {A = ℕ} (room - 8) 0)))

-- bytes that are refused after an ARP type
record ArpRefused (room : ℕ) : Type 0 where
  bytes : List ℕ
  ok : IsBytes bytes
  len : length bytes ≡ room
  refused : AreRefused kinds.Arp bytes

arp_refused : (room : ℕ) → room < 1028 → ArpRefused room
arp_refused room lt = elim (cases_lt room 8) [
  | inl short ↦ record {
    bytes = replicate room 0;
    ok = zeros_are_bytes room;
    len = length-replicate {A = ℕ} room 0;
    refused = λ bound. (_, rows.arp (omega (arith, short, length-replicate {A = ℕ} room 0)));
  }
  | inr long ↦ record {
    bytes = sizes_bytes room;
    ok = sizes_ok room;
    len = omega (arith, long, length-replicate {A = ℕ} (room - 8) 0);
    refused = sizes_refused room long lt;
  }
]

-- a completed packet with a refusal
pub record HasRefusal (packet : Packet) (hs : List Header) : Type 0 where
  pub unit : Header
  pub later : List Header
  pub has : Has packet hs (unit ∷ later) true

refused_next : (packet : Packet) (hs : List Header) (kind next : Kind) (bytes : List ℕ)
    (f : HasNext packet hs kind next bytes) → AreRefused next bytes → HasRefusal packet hs
refused_next packet hs kind next bytes f refused =
    let list = packet.frame.now ++ f.more in
    let r = begins_nothing list f.expected f.window f.later f.ending next f.announces
    (subst (AreRefused next) (sym f.window_is) refused) f.stack in
    record {
      unit = f.unit;
      later = f.later;
      has = record { more = f.more; completes = f.completes; ending = f.ending; walk = f.walk; refused_is = r.1 };
    }

-- a SecTag of another version
pub follow_version : (packet : Packet) (hs : List Header) (kind : Kind) (known : List ℕ) (room : ℕ)
    (o : Opens packet hs kind known room) (p : Prospect) → IsBytes packet.frame.now
    → (kind ≡ kinds.Ethernet2Fcs → ⊥) → IsProspect kind known room p → IsTrue p.can_be_accepted → Offers p.next 0x88E5
    → HasRefusal packet hs
follow_version packet hs kind known room o p ok free is accepted offers =
    refused_next packet hs kind kinds.Macsec (version_bytes p.room)
    (follow_next packet hs kind kinds.Macsec known room o p 0x88E5 (version_bytes p.room) ok free is accepted
    (omega arith) offers refl (version_ok p.room) (version_len p.room)) (version_refused p.room)

-- an ARP packet that has no room
pub follow_sizes : (packet : Packet) (hs : List Header) (kind : Kind) (known : List ℕ) (room : ℕ)
    (o : Opens packet hs kind known room) (p : Prospect) → IsBytes packet.frame.now
    → (kind ≡ kinds.Ethernet2Fcs → ⊥) → IsProspect kind known room p → IsTrue p.can_be_accepted → Offers p.next 0x0806
    → p.room < 1028 → HasRefusal packet hs
follow_sizes packet hs kind known room o p ok free is accepted offers short =
    let a = arp_refused p.room short in
    refused_next packet hs kind kinds.Arp a.bytes
    (follow_next packet hs kind kinds.Arp known room o p 0x0806 a.bytes ok free is accepted (omega arith) offers refl
    a.ok a.len) a.refused

-- a VLAN tag that has no room, or else one before a SecTag of another version
pub follow_tagged_refusal : (packet : Packet) (hs : List Header) (kind : Kind) (known : List ℕ) (room : ℕ)
    (o : Opens packet hs kind known room) (p : Prospect) → IsBytes packet.frame.now
    → (kind ≡ kinds.Ethernet2Fcs → ⊥) → IsProspect kind known room p → IsTrue p.can_be_accepted → TagType p.next
    → HasRefusal packet hs
follow_tagged_refusal packet hs kind known room o p ok free is accepted type = elim (cases_lt p.room 4) [
  | inl short ↦
      let zeros = replicate p.room 0 in
      let len = length-replicate {A = ℕ} p.room 0 in
      refused_next packet hs kind kinds.Vlan zeros
      (follow_next packet hs kind kinds.Vlan known room o p type.number zeros ok free is accepted type.fits
      type.offered (vlan_announced type.number type.is_vlan) (zeros_are_bytes p.room) len)
      (λ bound. (_, rows.vlan (omega (arith, short, len))))
  | inr long ↦
      let n = p.room - 4 in
      let f = follow_tag_next packet hs kind known room o p 0x88E5 (version_bytes n) ok free is accepted type
      (omega arith) (version_ok n) (omega (arith, long, version_len n)) in
      let list = packet.frame.now ++ f.more in
      let r = begins_nothing list f.expected f.window f.later f.ending kinds.Macsec f.announces
      (subst (AreRefused kinds.Macsec) (sym f.window_is) (version_refused n)) f.stack in
      record {
        unit = f.unit;
        later = headers.Vlan f.tag ∷ f.later;
        has = record { more = f.more; completes = f.completes; ending = f.ending; walk = f.walk; refused_is = r.1 };
      }
]
