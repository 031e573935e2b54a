-- Headers that are certain, since all of their bytes are known.
use Rattle.std.proofs.Common.{◌≡◌, ℕ, ◌-◌, ◌≤◌, List, length, refl, sym, ap, subst, ◌∙◌, arith, true}
use Rattle.std.specs.Prelude.{slice_range}
use Rattle.std.proofs.lemmas.List.{length-append, take-append-le}
use Rattle.etherparse.specs.Types.LenSource.TheVariants as sources
use Rattle.etherparse.specs.Bytes.{IsBytes, number}
use Rattle.etherparse.specs.Ethernet2.{ethernet2_of}
use Rattle.etherparse.specs.LinuxSll.{linux_sll_of, is_supported}
use Rattle.etherparse.specs.Macsec.{sec_tag_front_in, sec_tag_front_at, sec_tag_len, sec_tag_of}
use Rattle.etherparse.specs.Vlan.{vlan_of}
use Rattle.etherparse.specs.Kind.{Kind}
use Rattle.etherparse.specs.Kind as kinds
use Rattle.etherparse.specs.Header.{Header, kind_of, header_len, trailer_len, Means, Spells}
use Rattle.etherparse.specs.Header as headers
use Rattle.etherparse.specs.Refusal.{Refuses}
use Rattle.etherparse.proofs.Ethernet2Fields.{ethernet2_means}
use Rattle.etherparse.proofs.LinuxSllFields.{linux_sll_means}
use Rattle.etherparse.proofs.MacsecFields.{sec_tag_means}
use Rattle.etherparse.proofs.Means.{one_header, unit_fits}
use Rattle.etherparse.proofs.Rows.{accepts_ethernet2, accepts_vlan, accepts_linux_sll}
use Rattle.etherparse.proofs.VlanFields.{vlan_means}
use Rattle.ether_filter.specs.Prospects.{Continues, AreAccepted, IsRoomy}
use Rattle.ether_filter.specs.Behind.{IsCertain}
use Rattle.ether_filter.proofs.Prospects.{zeros_continue}
use Rattle.ether_filter.proofs.SecTags.{tag_read}

-- the first bytes of bytes that go on
pub front_kept : (known : List ℕ) (room : ℕ) (bytes : List ℕ) (n : ℕ) → Continues known room bytes → n ≤ length known
    → slice_range bytes 0 n ≡ slice_range known 0 n
front_kept known room bytes n on le =
    ap (λ (l : List ℕ). slice_range l 0 n) on.is ∙ take-append-le (n - 0) known on.more (omega (arith, le))

means_on : (known : List ℕ) (room : ℕ) (bytes : List ℕ) (h : Header) → Continues known room bytes → Means known h
    → Means bytes h
means_on known room bytes h on m = record {
  whole = omega (arith, m.whole, ap length on.is, length-append known on.more);
  spells = subst (λ (l : List ℕ). Spells l h) (sym (front_kept known room bytes (header_len h) on m.whole)) m.spells;
}

-- a header that all bytes have has room in each of them
certain : (kind : Kind) (known : List ℕ) (room : ℕ) (h : Header) → IsBytes known → length known ≤ room → Means known h
    → kind_of h ≡ kind → trailer_len h ≡ 0
    → ((bytes : List ℕ) → Continues known room bytes → AreAccepted kind bytes h) → IsCertain kind known room h
certain kind known room h ok inside m of_kind no_trailer accepts =
    let z = zeros_continue known room ok inside in
    let a = accepts z.0 z.1 in
    let fits = unit_fits sources.Slice z.0 h
    (λ r row. a.accepted sources.Slice r (subst (λ (k : Kind). Refuses sources.Slice z.0 k r) of_kind row)) a.means in
    record {
      accepts = accepts;
      of_kind = of_kind;
      means = m;
      whole = m.whole;
      inside = inside;
      fits = omega (arith, fits, z.1.len);
      no_trailer = no_trailer;
    }

pub certain_ethernet2 : (known : List ℕ) (room : ℕ) → IsBytes known → 14 ≤ length known → length known ≤ room
    → IsCertain kinds.Ethernet2 known room (headers.Ethernet2 (ethernet2_of known))
certain_ethernet2 known room ok le inside =
    let m = ethernet2_means known ok le in
    certain kinds.Ethernet2 known room (headers.Ethernet2 (ethernet2_of known)) ok inside m refl refl
    (λ bytes on. record {
      of_kind = refl;
      accepted = λ bound. accepts_ethernet2 bound bytes (omega (arith, on.len, le, inside));
      means = means_on known room bytes (headers.Ethernet2 (ethernet2_of known)) on m;
    })

pub certain_vlan : (known : List ℕ) (room : ℕ) → IsBytes known → 4 ≤ length known → length known ≤ room
    → IsCertain kinds.Vlan known room (headers.Vlan (vlan_of known))
certain_vlan known room ok le inside =
    let m = vlan_means known ok le in
    certain kinds.Vlan known room (headers.Vlan (vlan_of known)) ok inside m refl refl
    (λ bytes on. record {
      of_kind = refl;
      accepted = λ bound. accepts_vlan bound bytes (omega (arith, on.len, le, inside));
      means = means_on known room bytes (headers.Vlan (vlan_of known)) on m;
    })

-- of a packet type and a hardware type that no row refuses
pub certain_sll : (known : List ℕ) (room : ℕ) → IsBytes known → 16 ≤ length known → length known ≤ room
    → (linux_sll_of known).packet_type ≤ 7 → is_supported (linux_sll_of known).hardware_type ≡ true
    → IsCertain kinds.LinuxSll known room (headers.LinuxSll (linux_sll_of known))
certain_sll known room ok le inside packet hardware =
    let m = linux_sll_means known ok le in
    certain kinds.LinuxSll known room (headers.LinuxSll (linux_sll_of known)) ok inside m refl refl
    (λ bytes on. (let n = means_on known room bytes (headers.LinuxSll (linux_sll_of known)) on m in
    record {
      of_kind = refl;
      accepted = λ bound. accepts_linux_sll bound bytes (linux_sll_of known) n.whole n.spells packet hardware;
      means = n;
    }))

-- of a front with which a tag is accepted in this window
pub certain_sec_tag : (known : List ℕ) (room : ℕ) → IsBytes known → 6 ≤ length known → length known ≤ room
    → IsRoomy (sec_tag_front_in known) room → sec_tag_len (sec_tag_front_in known) ≤ length known
    → IsCertain kinds.Macsec known room (headers.Macsec (sec_tag_of known))
certain_sec_tag known room ok six inside roomy whole =
    let h = headers.Macsec (sec_tag_of known) in
    let m = sec_tag_means known ok six whole in
    certain kinds.Macsec known room h ok inside m refl refl
    (λ bytes on. (let front : sec_tag_front_in bytes ≡ sec_tag_front_in known =
    ap (λ (l : List ℕ). sec_tag_front_at (number l)) (front_kept known room bytes 2 on (omega (arith, six))) in
    let read = tag_read bytes (sec_tag_front_in known) room on.are_bytes
    (omega (arith, six, inside)) on.len front roomy in
    let same : headers.Macsec (sec_tag_of bytes) ≡ h =
    one_header bytes (headers.Macsec (sec_tag_of bytes)) h refl read.accepted.means
    (means_on known room bytes h on m) in
    subst (AreAccepted kinds.Macsec bytes) same read.accepted))
