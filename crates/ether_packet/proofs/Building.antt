-- The headers of a packet that is built are found by the walk.
use Rattle.std.proofs.Common.{◌≡◌, ℕ, ◌+◌, ◌-◌, ◌≤◌, List, [], ◌∷◌, ◌++◌, length, refl, sym, ap, subst, ◌∙◌, arith, Bool, true, false, rules}
use Rattle.std.specs.Prelude.{flat_map, Some, None, nat_lt, if◌then◌else◌}
use Rattle.std.proofs.lemmas.List.{length-append}
use Rattle.etherparse.specs.Ethernet2.{Ethernet2Value}
use Rattle.etherparse.specs.LinuxSll.{LinuxSllValue, is_supported}
use Rattle.etherparse.specs.Vlan.{VlanValue, is_vlan_ether_type}
use Rattle.etherparse.specs.Macsec.{PayloadType, SecTagValue, ether_type_len, known_len, sec_tag_len, sec_tag_front_of, encrypted_of, changed_of, short_len_for}
use Rattle.etherparse.specs.Macsec as payloads
use Rattle.etherparse.specs.Kind.{Kind}
use Rattle.etherparse.specs.Kind as kinds
use Rattle.etherparse.specs.Header.{Header, header_len, header_bytes, FitsHeader}
use Rattle.etherparse.specs.Header as headers
use Rattle.etherparse.specs.Refusal.{IsTooShort}
use Rattle.etherparse.proofs.Rows.{accepts_vlan, accepts_packet, accepts_ethernet2, accepts_linux_sll}
use Rattle.etherparse.proofs.MacsecFields.{sec_tag_bytes_accepted, sec_tag_bytes_begin}
use Rattle.etherparse.proofs.Writing.{written_accepted}
use Rattle.etherparse.proofs.SubLists.{part_all}
use Rattle.etherparse.proofs.ReadBack.{length-header_bytes, means-header_bytes}
use Rattle.ether_peel.specs.Grammar.Window.{within}
use Rattle.ether_peel.specs.Grammar.Expectation.{Expectation, EtherType, Start, announced, after}
use Rattle.ether_peel.specs.Grammar.Places.{place}
use Rattle.ether_peel.specs.Grammar.Stack.{whole}
use Rattle.ether_peel.proofs.Grammar.Carrying.{led}
use Rattle.ether_peel.proofs.Grammar.Cleared.{whole_in}
use Rattle.ether_packet.specs.Building.{vlan_type, own_type, type_of, retyped, before, built, IsChain, AllFit, BeginsWith}
use Rattle.ether_packet.proofs.Written.{Fitting, Fits, written}
use Rattle.ether_packet.proofs.TypedLinks.{announced_vlan}

-- ---- a header before n bytes is as long as it is before others

ether_type_kept : (p : PayloadType) (t : ℕ)
    → ether_type_len (encrypted_of (retyped p t)) (changed_of (retyped p t))
    ≡ ether_type_len (encrypted_of p) (changed_of p)
ether_type_kept (payloads.Unmodified old) t = refl
ether_type_kept p t = refl

pub header_len_before : (h : Header) (t n : ℕ) → header_len (before h t n) ≡ header_len h
header_len_before (headers.Macsec m) t n = let e = ether_type_kept m.payload_type t in omega (arith, e)
header_len_before h t n = refl

pub place-built : (at : ℕ) (hs : List Header) (t n : ℕ) → place at (built hs t n) ≡ place at hs
place-built at [] t n = refl
place-built at (h ∷ hs) t n =
    ap (λ (k : ℕ). place (at + k) (built hs t n)) (header_len_before h (type_of (own_type h) hs t) (place n hs))
    ∙ place-built (at + header_len h) hs t n

-- ---- the short length of a SecTag

some_of : (b : Bool) (s k : ℕ) → (if b then None else Some s) ≡ Some k → k ≡ s
some_of true s k e = absurd cc
some_of false s k e = cc

named_by : (b : Bool) (known n k : ℕ) → known_len known (if b then n + known else 0) ≡ Some k → k ≡ n
named_by true known n k e = let s = some_of _ (n + known - known) k e in omega (arith, s)
named_by false known n k e = absurd cc

named_plain : (b : Bool) (n k : ℕ) → known_len 0 (if b then n else 0) ≡ Some k → k ≡ n
named_plain true n k e = let s = some_of _ (n - 0) k e in omega (arith, s)
named_plain false n k e = absurd cc

named_for : (p : PayloadType) (n k : ℕ)
    → known_len (ether_type_len (encrypted_of p) (changed_of p)) (short_len_for p n) ≡ Some k → k ≡ n
named_for (payloads.Unmodified t) n k e = named_by (nat_lt n 62) 2 n k e
named_for p n k e = named_plain (nat_lt n 64) n k e

not_one : (b : Bool) (n : ℕ) → (if b then n + 2 else 0) ≡ 1 → ⊥
not_one true n e = omega (arith, e)
not_one false n e = omega (arith, e)

long_enough : (p : PayloadType) (n : ℕ) → encrypted_of p ≡ 0 → changed_of p ≡ 0 → short_len_for p n ≡ 1 → ⊥
long_enough (payloads.Unmodified t) n e c s = not_one (nat_lt n 62) n s
long_enough payloads.Modified n e c s = omega (arith, c)
long_enough p n e c s = omega (arith, e)

-- ---- each header where it is announced

vlan_fits : (x : Expectation) (v : VlanValue) (n : ℕ) → announced x ≡ Some kinds.Vlan → FitsHeader (headers.Vlan v)
    → Fitting x (headers.Vlan v) n
vlan_fits x v n announced fits = record {
  announced = announced;
  fits = fits;
  accepted =
      λ bound more len. let all =
      length-append (header_bytes (headers.Vlan v)) more in let own =
      length-header_bytes (headers.Vlan v) fits in accepts_vlan bound (header_bytes (headers.Vlan v) ++ more)
      (omega (arith, all, own));
  named = λ p e. absurd cc;
  no_trailer = refl;
}

macsec_fits : (x : Expectation) (m : SecTagValue) (t n : ℕ) → announced x ≡ Some kinds.Macsec
    → FitsHeader (before (headers.Macsec m) t n) → Fitting x (before (headers.Macsec m) t n) n
macsec_fits x m t n announced fits =
    let p = retyped m.payload_type t in
    let tag : SecTagValue = record m { payload_type = p; short_len = short_len_for p n } in
    let bytes = header_bytes (headers.Macsec tag) in
    let own : length bytes ≡ sec_tag_len (sec_tag_front_of 0 0 tag) = length-header_bytes (headers.Macsec tag) fits in
    let long : IsTooShort (sec_tag_front_of 0 0 tag) → ⊥ = λ s. long_enough p n s.encrypted s.changed s.short_len in
    record {
      announced = announced;
      fits = fits;
      accepted = λ bound more len.
          let all = length-append bytes more in
          accepts_packet bound (bytes ++ more) (sec_tag_front_of 0 0 tag)
          (sec_tag_bytes_accepted bound tag more fits long) (sec_tag_bytes_begin tag more fits)
          (λ k e. let is = named_for p n k e in omega (arith, all, own, len, is));
      named = λ k e. named_for p n k e;
      no_trailer = refl;
    }

-- ---- headers that an ether type announces

abbrev pub IsInner : Header → Type 0
IsInner (headers.Vlan v) = Unit {0}
IsInner (headers.Macsec m) = Unit {0}
IsInner (headers.Arp a) = Unit {0}
IsInner h = ⊥

abbrev pub AreInner : List Header → Type 0
AreInner [] = Unit {0}
AreInner (h ∷ hs) = IsInner h × AreInner hs

abbrev pub expecting : ℕ → Expectation
expecting t = record { next = EtherType t; limit = None }

set_announced : (hs : List Header) → announced (expecting (vlan_type hs)) ≡ Some kinds.Vlan
set_announced [] = refl
set_announced h = search rules

either_announced : (b : Bool) (own t : ℕ) → (b ≡ true → announced (expecting own) ≡ Some kinds.Vlan)
    → announced (expecting t) ≡ Some kinds.Vlan → announced (expecting (if b then own else t)) ≡ Some kinds.Vlan
either_announced true own t kept set = kept refl
either_announced false own t kept set = set

vlan_announced : (own : ℕ) (v : VlanValue) (hs : List Header) (t : ℕ)
    → announced (expecting (type_of own (headers.Vlan v ∷ hs) t)) ≡ Some kinds.Vlan
vlan_announced own v hs t =
    either_announced (is_vlan_ether_type own) own (vlan_type hs) (announced_vlan own) (set_announced hs)

later_chain : (h : Header) (hs : List Header) → IsChain (h ∷ hs) → IsChain hs
later_chain h [] chain = tt
later_chain h (g ∷ hs) chain = chain.1

-- after a SecTag whose payload can be read comes what its ether type announces, and after another one nothing
after_tag : (m : SecTagValue) (p : PayloadType) (own : ℕ) (hs : List Header) (t n k : ℕ) → m.payload_type ≡ p
    → IsChain (headers.Macsec m ∷ hs)
    → Fits (expecting (type_of own hs t)) (built hs t n) n
    → Fits (after (expecting k) (before (headers.Macsec m) (type_of own hs t) (place n hs))) (built hs t n) n
after_tag m p own [] t n k e chain fits = tt
after_tag m p own h t n k e chain fits = search rules

pub inner_fits : (own : ℕ) (hs : List Header) (t n : ℕ) → AreInner hs → IsChain hs → AllFit (built hs t n)
    → Fits (expecting (type_of own hs t)) (built hs t n) n
inner_fits own (headers.Vlan v ∷ hs) t n inner chain fit =
    let more = inner_fits v.ether_type hs t n inner.1 (later_chain (headers.Vlan v) hs chain) fit.1 in
    search (rules, vlan_fits, vlan_announced, later_chain)
inner_fits own (headers.Macsec m ∷ hs) t n inner chain fit =
    let k = own_type (headers.Macsec m) in
    let mine = macsec_fits (expecting 0x88E5) m (type_of k hs t) (place n hs) refl fit.0 in
    let later = inner_fits k hs t n inner.1 (later_chain (headers.Macsec m) hs chain) fit.1 in
    search (rules, place-built, after_tag)
inner_fits own hs t n inner chain fit = search (rules, written_accepted)

-- ---- the header of a link

abbrev pub beginning : Kind → Expectation
beginning kind = record { next = Start kind; limit = None }

pub ethernet2_fits : (e : Ethernet2Value) (hs : List Header) (t n : ℕ) → AreInner hs → IsChain hs
    → AllFit (built (headers.Ethernet2 e ∷ hs) t n)
    → Fits (beginning kinds.Ethernet2) (built (headers.Ethernet2 e ∷ hs) t n) n
ethernet2_fits e hs t n inner chain fit =
    let h = before (headers.Ethernet2 e) (type_of e.ether_type hs t) (place n hs) in (
      record {
        announced = refl;
        fits = fit.0;
        accepted =
            λ bound more len. let all =
            length-append (header_bytes h) more in let own =
            length-header_bytes h fit.0 in accepts_ethernet2 bound (header_bytes h ++ more)
            (omega (arith, all, own));
        named = λ p e. absurd cc;
        no_trailer = refl;
      },
      inner_fits e.ether_type hs t n inner chain fit.1,
    )

-- a cooked capture of Ethernet
pub linux_sll_fits : (s : LinuxSllValue) (hs : List Header) (t n : ℕ) → s.hardware_type ≡ 1 → s.packet_type ≤ 7
    → AreInner hs → IsChain hs
    → AllFit (built (headers.LinuxSll s ∷ hs) t n)
    → Fits (beginning kinds.LinuxSll) (built (headers.LinuxSll s ∷ hs) t n) n
linux_sll_fits s hs t n hardware packet inner chain fit =
    let v : LinuxSllValue = record s { protocol = type_of s.protocol hs t } in
    let h = headers.LinuxSll v in
    let supported : is_supported v.hardware_type ≡ true = ap is_supported hardware in
    let later = inner_fits s.protocol hs t n inner chain fit.1 in (
      record {
        announced = refl;
        fits = fit.0;
        accepted = λ bound more len.
            let bytes = header_bytes h ++ more in
            let m = means-header_bytes h more fit.0 in
            let whole = m.whole in
            accepts_linux_sll bound bytes v (omega (arith, whole)) m.spells packet supported;
        named = λ p e. absurd cc;
        no_trailer = refl;
      },
      subst
          (λ (k : ℕ).
          Fits (after (beginning kinds.LinuxSll) (headers.LinuxSll (record v { hardware_type = k }))) (built hs t n)
          n)
          (sym hardware) later,
    )

-- ---- the walk

pub begins_with : (start : Expectation) (list rest : List ℕ) (hs : List Header)
    → list ≡ flat_map header_bytes hs ++ rest → Fits start hs (length rest) → BeginsWith start list hs rest
begins_with start list rest hs e fits =
    let all : within list (whole start list) ≡ list = part_all list (length list) (omega arith) in
    let w = written list start (whole start list) hs rest (whole_in start list) (all ∙ e) fits in
    search (rules, led)
