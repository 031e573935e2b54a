-- The bytes that a header is written as, and those that it was read from.
use Rattle.std.proofs.Common.{◌≡◌, ℕ, ◌+◌, ◌-◌, ◌*◌, ◌/◌, ◌%◌, ◌^◌, ◌<◌, ◌≤◌, List, [], ◌∷◌, ◌++◌, length, get_or, take, drop, set, refl, sym, ap, subst, ◌∙◌, arith}
use Rattle.std.specs.Prelude.{slice_range, Option, Some, None}
use Rattle.std.proofs.lemmas.List.{append_assoc}
use Rattle.etherparse.specs.Types.LenSource.{LenSource}
use Rattle.etherparse.specs.Bytes.{IsBytes, number, spelled}
use Rattle.etherparse.specs.Macsec.{sec_tag_front_number, FitsSecTagFront, BeginsSecTag, ether_type_len, sec_tag_len, PayloadType, SecTagValue, encrypted_of, changed_of, sci_present_of, sec_tag_front_of, HasSci, HasEtherType, FitsSci, FitsPayloadType, FitsSecTag, sci_bytes, ether_type_bytes, sec_tag_bytes}
use Rattle.etherparse.specs.Macsec as payloads
use Rattle.etherparse.specs.Arp.{ArpValue, arp_front_number, arp_len, arp_front_of, IsArp, arp_bytes}
use Rattle.etherparse.specs.Kind as kinds
use Rattle.etherparse.specs.Header.{Header, kind_of, header_len, Means, FitsHeader, header_bytes}
use Rattle.etherparse.specs.Header as headers
use Rattle.etherparse.specs.Refusal.{Accepts}
use Rattle.etherparse.proofs.Numbers.{spelled-is}
use Rattle.etherparse.proofs.SubLists.{length-part, part_all, part_join, IsBytes-part, number-part_below}
use Rattle.etherparse.proofs.Rows.{version_zero}
use Rattle.etherparse.proofs.Means.{begins_whole}
use Rattle.etherparse.proofs.Reading.{arp_fits}
use Rattle.etherparse.proofs.ReadBack.{length-header_bytes}

-- ---- what bytes mean fits

sci_fits : (bytes : List ℕ) (s : Option ℕ) → IsBytes bytes → 6 + 8 * sci_present_of s ≤ length bytes → HasSci bytes s
    → FitsSci s
sci_fits bytes None ok le is = tt
sci_fits bytes (Some n) ok le is = let k = number-part_below bytes 6 14 ok le in omega arith

type_fits : (bytes : List ℕ) (at : ℕ) (p : PayloadType) → IsBytes bytes
    → at + ether_type_len (encrypted_of p) (changed_of p) ≤ length bytes → HasEtherType bytes at p → FitsPayloadType p
type_fits bytes at (payloads.Unmodified n) ok le is =
    let two : at + 2 - at ≡ 2 = omega arith in
    let k : number (slice_range bytes at (at + 2)) < 256 ^ 2 =
    subst (λ (j : ℕ). number (slice_range bytes at (at + 2)) < 256 ^ j) two
    (number-part_below bytes at (at + 2) ok le) in
    omega arith
type_fits bytes at payloads.Modified ok le is = tt
type_fits bytes at payloads.EncryptedUnmodified ok le is = tt
type_fits bytes at payloads.Encrypted ok le is = tt

tag_fits : (bytes : List ℕ) (t : SecTagValue) → IsBytes bytes → Means bytes (headers.Macsec t) → FitsSecTag t
tag_fits bytes t ok m =
    let n = sec_tag_len (sec_tag_front_of 0 0 t) in
    let part = slice_range bytes 0 n in
    let w : n ≤ length bytes = m.whole in
    let len : length part ≡ n = length-part bytes 0 n w ∙ omega arith in
    let okp = IsBytes-part 0 n bytes ok in
    let f = m.spells.front.fits in
    let k = number-part_below part 2 6 okp (omega arith) in
    let e = m.spells.packet_number in
    record {
      front = record {
        version = omega arith;
        end_station = f.end_station;
        sci_present = f.sci_present;
        single_copy_broadcast = f.single_copy_broadcast;
        encrypted = f.encrypted;
        changed = f.changed;
        association_number = f.association_number;
        reserved = omega arith;
        short_len = f.short_len;
      };
      packet_number = omega arith;
      sci = sci_fits part t.sci okp (omega arith) m.spells.sci;
      payload_type = type_fits part (6 + 8 * sci_present_of t.sci) t.payload_type okp (omega arith) m.spells.ether_type;
    }

pub means_fits : (bytes : List ℕ) (h : Header) → IsBytes bytes → Means bytes h → FitsHeader h
means_fits bytes (headers.Ethernet2 e) ok m = m.spells.fits
means_fits bytes (headers.Ethernet2Fcs e) ok m = m.spells.fits
means_fits bytes (headers.LinuxSll s) ok m = m.spells.fits
means_fits bytes (headers.Vlan v) ok m = m.spells.fits
means_fits bytes (headers.Macsec t) ok m = tag_fits bytes t ok m
means_fits bytes (headers.Arp a) ok m = arp_fits bytes ok a m

pub length-means : (bytes : List ℕ) (h : Header) → IsBytes bytes → Means bytes h
    → length (header_bytes h) ≡ header_len h
length-means bytes h ok m = length-header_bytes h (means_fits bytes h ok m)

-- ---- bytes of a number

-- a part of bytes is spelled by its number
spelled-part : (bytes : List ℕ) (i j n : ℕ) → IsBytes bytes → j ≤ length bytes → number (slice_range bytes i j) ≡ n
    → spelled (j - i) n ≡ slice_range bytes i j
spelled-part bytes i j n ok le e =
    ap (spelled (j - i)) (sym e)
    ∙ spelled-is (j - i) (slice_range bytes i j) (length-part bytes i j le) (IsBytes-part i j bytes ok)

-- ---- ARP

arp_written : (bytes : List ℕ) (a : ArpValue) → IsBytes bytes → length bytes ≡ arp_len (arp_front_of a) → IsArp bytes a
    → arp_bytes a ≡ bytes
arp_written bytes a ok len m =
    let h = length a.sender_hardware in
    let p = length a.sender_protocol in
    let f : spelled 8 (arp_front_number (arp_front_of a)) ≡ slice_range bytes 0 8 =
    spelled-part bytes 0 8 (arp_front_number (arp_front_of a)) ok (omega arith) m.front.sum in
    let w1 = 8 + h in
    let w2 = 8 + h + p in
    let w3 = 8 + 2 * h + p in
    let e3 : w2 + h ≡ w3 = omega arith in
    let s1 =
    ap (λ (l : List ℕ). l ++ a.sender_hardware) f
    ∙ ap (λ (l : List ℕ). slice_range bytes 0 8 ++ l) (sym m.sender_hardware)
    ∙ part_join bytes 0 8 w1 (omega arith) (omega arith) in
    let s2 =
    ap (λ (l : List ℕ). l ++ a.sender_protocol) s1
    ∙ ap (λ (l : List ℕ). slice_range bytes 0 w1 ++ l) (sym m.sender_protocol)
    ∙ part_join bytes 0 w1 w2 (omega arith) (omega arith) in
    let s3 =
    ap (λ (l : List ℕ). l ++ a.target_hardware) s2
    ∙ ap (λ (l : List ℕ). slice_range bytes 0 w2 ++ l) (sym m.target_hardware)
    ∙ part_join bytes 0 w2 (w2 + h) (omega arith) (omega arith) ∙ ap (slice_range bytes 0) e3 in
    ap (λ (l : List ℕ). l ++ a.target_protocol) s3
    ∙ ap (λ (l : List ℕ). slice_range bytes 0 w3 ++ l) (sym m.target_protocol)
    ∙ part_join bytes 0 w3 (w3 + p) (omega arith) (omega arith) ∙ part_all bytes (w3 + p) (omega arith)

-- ---- SecTag

sci_written : (bytes : List ℕ) (s : Option ℕ) → IsBytes bytes → 6 + 8 * sci_present_of s ≤ length bytes → HasSci bytes s
    → sci_bytes s ≡ slice_range bytes 6 (6 + 8 * sci_present_of s)
sci_written bytes None ok le m = refl
sci_written bytes (Some n) ok le m = spelled-part bytes 6 14 n ok le m

nothing : (bytes : List ℕ) (at : ℕ) → [] ≡ slice_range bytes at (at + 0)
nothing bytes at = let e : 0 ≡ at + 0 - at = omega arith in ap (λ (k : ℕ). take k (drop at bytes)) e

type_written : (bytes : List ℕ) (at : ℕ) (p : PayloadType) → IsBytes bytes
    → at + ether_type_len (encrypted_of p) (changed_of p) ≤ length bytes → HasEtherType bytes at p
    → ether_type_bytes p ≡ slice_range bytes at (at + ether_type_len (encrypted_of p) (changed_of p))
type_written bytes at (payloads.Unmodified n) ok le m =
    let e : 2 ≡ at + 2 - at = omega arith in
    ap (λ (k : ℕ). spelled k n) e ∙ spelled-part bytes at (at + 2) n ok le m
type_written bytes at payloads.Modified ok le m = nothing bytes at
type_written bytes at payloads.EncryptedUnmodified ok le m = nothing bytes at
type_written bytes at payloads.Encrypted ok le m = nothing bytes at

-- the first two bytes, without their reserved bits
front_written : (a b : ℕ) (t : SecTagValue) (r : ℕ) → a < 256 → b < 256
    → number (a ∷ b ∷ []) ≡ sec_tag_front_number (sec_tag_front_of 0 r t) → FitsSecTagFront (sec_tag_front_of 0 r t)
    → spelled 2 (sec_tag_front_number (sec_tag_front_of 0 0 t)) ≡ a ∷ b % 64 ∷ []
unfolding spelled
front_written a b t r ha hb e f =
    let x : sec_tag_front_number (sec_tag_front_of 0 0 t) / 256 % 256 ≡ a = omega arith in
    let y : sec_tag_front_number (sec_tag_front_of 0 0 t) / 1 % 256 ≡ b % 64 = omega arith in
    λ i. x i ∷ y i ∷ []

tag_written : (bytes : List ℕ) (t : SecTagValue) (r : ℕ) → IsBytes bytes
    → length bytes ≡ sec_tag_len (sec_tag_front_of 0 0 t) → BeginsSecTag bytes (sec_tag_front_of 0 r t)
    → number (slice_range bytes 2 6) ≡ t.packet_number → HasSci bytes t.sci
    → HasEtherType bytes (6 + 8 * sci_present_of t.sci) t.payload_type
    → set bytes 1 (get_or bytes 1 0 % 64) ≡ sec_tag_bytes t
tag_written [] t r ok len begins pn sci ty = absurd (omega arith)
tag_written (a ∷ []) t r ok len begins pn sci ty = absurd (omega arith)
tag_written (a ∷ b ∷ rest) t r ok len begins pn sci ty =
    let bytes = a ∷ b ∷ rest in
    let at = 6 + 8 * sci_present_of t.sci in
    let till = at + ether_type_len (encrypted_of t.payload_type) (changed_of t.payload_type) in
    let c = front_written a b t r (ok 0) (ok 1) begins.sum begins.fits in
    let p : spelled 4 t.packet_number ≡ slice_range bytes 2 6 =
    spelled-part bytes 2 6 t.packet_number ok (omega arith) pn in
    let s = sci_written bytes t.sci ok (omega arith) sci in
    let y = type_written bytes at t.payload_type ok (omega arith) ty in
    let j1 = part_join bytes 2 6 at (omega arith) (omega arith) in
    let j2 = part_join bytes 2 at till (omega arith) (omega arith) in
    let e : till - 2 ≡ length rest - 0 = omega arith in
    let all : slice_range bytes 2 till ≡ rest =
    ap (λ (k : ℕ). take k rest) e ∙ part_all rest (length rest) (omega arith) in
    let x : List ℕ = a ∷ b % 64 ∷ [] in
    let front : sec_tag_bytes t ≡ x ++ slice_range bytes 2 6 ++ slice_range bytes 6 at ++ slice_range bytes at till =
    λ i. c i ++ p i ++ s i ++ y i in
    let back : x ++ slice_range bytes 2 6 ++ slice_range bytes 6 at ++ slice_range bytes at till ≡ x ++ rest =
    append_assoc (x ++ slice_range bytes 2 6) (slice_range bytes 6 at) (slice_range bytes at till)
    ∙ append_assoc x (slice_range bytes 2 6) (slice_range bytes 6 at ++ slice_range bytes at till)
    ∙ ap (λ (l : List ℕ). x ++ l)
    (sym (append_assoc (slice_range bytes 2 6) (slice_range bytes 6 at) (slice_range bytes at till))
    ∙ ap (λ (l : List ℕ). l ++ slice_range bytes at till) j1 ∙ j2 ∙ all) in
    sym (front ∙ back)

accepted_version : (bound : LenSource) (bytes : List ℕ) (t : SecTagValue) → Accepts bound bytes kinds.Macsec
    → (m : Means bytes (headers.Macsec t)) → m.spells.version ≡ 0
accepted_version bound bytes t accepted m =
    let c = sec_tag_front_of m.spells.version m.spells.reserved t in
    let w = m.whole in
    version_zero bound bytes c (omega arith) (begins_whole bytes (sec_tag_len c) c (omega arith) m.spells.front)
    (accepted _)

-- ---- any header

-- the bytes of a header without the reserved bits of a SecTag
abbrev pub cleared_bytes : List ℕ → Header → List ℕ
cleared_bytes bytes (headers.Ethernet2 e) = bytes
cleared_bytes bytes (headers.Ethernet2Fcs e) = bytes
cleared_bytes bytes (headers.LinuxSll s) = bytes
cleared_bytes bytes (headers.Vlan v) = bytes
cleared_bytes bytes (headers.Macsec t) = set bytes 1 (get_or bytes 1 0 % 64)
cleared_bytes bytes (headers.Arp a) = bytes

pub written : (bound : LenSource) (bytes : List ℕ) (h : Header) → IsBytes bytes → Accepts bound bytes (kind_of h)
    → Means bytes h → cleared_bytes (slice_range bytes 0 (header_len h)) h ≡ header_bytes h
written bound bytes (headers.Ethernet2 e) ok accepted m = sym (spelled-part bytes 0 14 _ ok m.whole m.spells.sum)
written bound bytes (headers.Ethernet2Fcs e) ok accepted m = sym (spelled-part bytes 0 14 _ ok m.whole m.spells.sum)
written bound bytes (headers.LinuxSll s) ok accepted m = sym (spelled-part bytes 0 16 _ ok m.whole m.spells.sum)
written bound bytes (headers.Vlan v) ok accepted m = sym (spelled-part bytes 0 4 _ ok m.whole m.spells.sum)
written bound bytes (headers.Macsec t) ok accepted m =
    let n = header_len (headers.Macsec t) in
    let part = slice_range bytes 0 n in
    let len : length part ≡ n = length-part bytes 0 n m.whole ∙ omega arith in
    let begins : BeginsSecTag part (sec_tag_front_of 0 m.spells.reserved t) =
    subst (λ (v : ℕ). BeginsSecTag part (sec_tag_front_of v m.spells.reserved t))
    (accepted_version bound bytes t accepted m) m.spells.front in
    tag_written part t m.spells.reserved (IsBytes-part 0 n bytes ok) len begins m.spells.packet_number m.spells.sci
    m.spells.ether_type
written bound bytes (headers.Arp a) ok accepted m =
    let n = header_len (headers.Arp a) in
    let part = slice_range bytes 0 n in
    let len : length part ≡ n = length-part bytes 0 n m.whole ∙ omega arith in
    sym (arp_written part a (IsBytes-part 0 n bytes ok) len m.spells)
