-- The packet that bytes hold, read from their parts.
use Rattle.std.proofs.Common.{◌≡◌, ℕ, ◌+◌, ◌*◌, ◌≤◌, List, length, sym, ap, subst, ◌∙◌, arith, inl, inr}
use Rattle.std.specs.Prelude.{slice_range, slice_index}
use Rattle.std.proofs.lemmas.Bool.{cases_lt}
use Rattle.ether_base.specs.declared.len_source.LenSource.{LenSource}
use Rattle.ether_base.specs.Formats.Arp.{ArpValue, ArpFront, BeginsArp, FitsArp, IsArp, arp_front_in, arp_front_of, arp_len, arp_of, arp_with, bytes_at}
use Rattle.ether_base.specs.Bytes.{IsBytes, number}
use Rattle.ether_base.specs.Formats.Header.{Means}
use Rattle.ether_base.specs.Formats.Header as headers
use Rattle.ether_base.specs.Formats.Kind as kinds
use Rattle.ether_base.specs.Formats.Refusal.{Accepts}
use Rattle.ether_base.specs.Formats.Refusal as rows
use Rattle.ether_base.proofs.ArrayElements.{cells-is}
use Rattle.ether_base.proofs.SubLists.{index_of_front, length-part, part_of_front, IsBytes-part, number-part_below, number-part_join}
use Rattle.ether_base.proofs.Rows.{accepts_arp}
use Rattle.ether_arp.specs.Arp.{BeginsWithArp, HoldsArp}

-- ---- the first eight bytes

number-one : (i : ℕ) (bytes : List ℕ) → i + 1 ≤ length bytes
    → number (slice_range bytes i (i + 1)) ≡ slice_index bytes i
number-one i bytes le = ap number (sym (cells-is i 1 bytes le)) ∙ omega arith

pub arp_begins_read : (bytes : List ℕ) → IsBytes bytes → 8 ≤ length bytes → BeginsArp bytes (arp_front_in bytes)
arp_begins_read bytes ok le =
    let a = number-part_join bytes 0 6 8 (omega arith) (omega arith) le in
    let b = number-part_join bytes 0 5 6 (omega arith) (omega arith) (omega arith) in
    let c = number-part_join bytes 0 4 5 (omega arith) (omega arith) (omega arith) in
    let d = number-part_join bytes 0 2 4 (omega arith) (omega arith) (omega arith) in
    let p : number (slice_range bytes 5 6) ≡ slice_index bytes 5 = number-one 5 bytes (omega arith) in
    let h : number (slice_range bytes 4 5) ≡ slice_index bytes 4 = number-one 4 bytes (omega arith) in
    let t = number-part_below bytes 0 2 ok (omega arith) in
    let u = number-part_below bytes 2 4 ok (omega arith) in
    let o = number-part_below bytes 6 8 ok le in
    record {
      sum = omega arith;
      fits = record { hardware_type = t; protocol_type = u; hardware_size = ok 4; protocol_size = ok 5; operation = o };
    }

-- what follows them changes nothing
pub arp_front_of_part : (bytes : List ℕ) (n : ℕ) → 8 ≤ n → arp_front_in (slice_range bytes 0 n) ≡ arp_front_in bytes
arp_front_of_part bytes n le =
    let t = ap number (part_of_front bytes n 0 2 (omega arith) (omega arith)) in
    let u = ap number (part_of_front bytes n 2 4 (omega arith) (omega arith)) in
    let h = index_of_front bytes n 4 (omega arith) in
    let p = index_of_front bytes n 5 (omega arith) in
    let o = ap number (part_of_front bytes n 6 8 (omega arith) (omega arith)) in
    λ i. record { hardware_type = t i; protocol_type = u i; hardware_size = h i; protocol_size = p i; operation = o i }

-- ---- the addresses

at_same : (bytes : List ℕ) (i j k l : ℕ) → i ≡ j → k ≡ l → bytes_at bytes i k ≡ bytes_at bytes j l
at_same bytes i j k l e f = ap (λ (n : ℕ). bytes_at bytes n k) e ∙ ap (bytes_at bytes j) f

pub length-at : (bytes : List ℕ) (i k : ℕ) → i + k ≤ length bytes → length (bytes_at bytes i k) ≡ k
length-at bytes i k le = length-part bytes i (i + k) le ∙ omega arith

pub arp_with_part : (bytes : List ℕ) (f : ArpFront) (n : ℕ) → arp_len f ≤ n
    → arp_with f (slice_range bytes 0 n) ≡ arp_with f bytes
arp_with_part bytes f n le =
    let h = f.hardware_size in
    let p = f.protocol_size in
    let a = part_of_front bytes n 8 (8 + h) (omega arith) (omega arith) in
    let b = part_of_front bytes n (8 + h) (8 + h + p) (omega arith) (omega arith) in
    let c = part_of_front bytes n (8 + h + p) (8 + h + p + h) (omega arith) (omega arith) in
    let d = part_of_front bytes n (8 + 2 * h + p) (8 + 2 * h + p + p) (omega arith) (omega arith) in
    λ i.
    record {
      hardware_type = f.hardware_type;
      protocol_type = f.protocol_type;
      operation = f.operation;
      sender_hardware = a i;
      sender_protocol = b i;
      target_hardware = c i;
      target_protocol = d i;
    }

-- the packet of a front of the bytes is theirs
pub arp_of_part : (bytes : List ℕ) (n : ℕ) → 8 ≤ n → arp_len (arp_front_in bytes) ≤ n
    → arp_of (slice_range bytes 0 n) ≡ arp_of bytes
arp_of_part bytes n le whole =
    ap (λ (f : ArpFront). arp_with f (slice_range bytes 0 n)) (arp_front_of_part bytes n le)
    ∙ arp_with_part bytes (arp_front_in bytes) n whole

-- its front is the one that was read
pub arp_front_back : (bytes : List ℕ) (f : ArpFront) → arp_len f ≤ length bytes → arp_front_of (arp_with f bytes) ≡ f
arp_front_back bytes f whole =
    let h = length-at bytes 8 f.hardware_size (omega arith) in
    let p = length-at bytes (8 + f.hardware_size) f.protocol_size (omega arith) in
    λ i.
    record {
      hardware_type = f.hardware_type;
      protocol_type = f.protocol_type;
      hardware_size = h i;
      protocol_size = p i;
      operation = f.operation;
    }

arp_is : (bytes : List ℕ) (f : ArpFront) → BeginsArp bytes f → length bytes ≡ arp_len f → IsArp bytes (arp_with f bytes)
arp_is bytes f begins len =
    let h = f.hardware_size in
    let p = f.protocol_size in
    let lh = length-at bytes 8 h (omega arith) in
    let lp = length-at bytes (8 + h) p (omega arith) in
    let ch = length (bytes_at bytes 8 h) in
    let cp = length (bytes_at bytes (8 + h) p) in
    let eh : ch ≡ h = lh in
    let ep : cp ≡ p = lp in
    record {
      front = subst (BeginsArp bytes) (sym (arp_front_back bytes f (omega arith))) begins;
      sender_hardware = ap (bytes_at bytes 8) lh;
      sender_protocol = at_same bytes (8 + ch) (8 + h) cp p (omega arith) lp;
      target_hardware = at_same bytes (8 + ch + cp) (8 + h + p) ch h (omega arith) lh;
      target_protocol = at_same bytes (8 + 2 * ch + cp) (8 + 2 * h + p) cp p (omega arith) lp;
    }

pub arp_means : (bytes : List ℕ) → IsBytes bytes → BeginsWithArp bytes → Means bytes (headers.Arp (arp_of bytes))
arp_means bytes ok begins =
    let f = arp_front_in bytes in
    let n = arp_len f in
    let fr = begins.front in
    let wh = begins.whole in
    let part = slice_range bytes 0 n in
    let len : length part ≡ n = length-part bytes 0 n begins.whole ∙ omega arith in
    let read = arp_begins_read bytes ok begins.front in
    let first : BeginsArp part f = record {
      sum = ap number (part_of_front bytes n 0 8 (omega arith) (omega arith)) ∙ read.sum;
      fits = read.fits;
    } in
    let is : IsArp part (arp_of bytes) =
    subst (IsArp part) (arp_with_part bytes f n (omega arith)) (arp_is part f first len) in
    let size : arp_len (arp_front_of (arp_of bytes)) ≡ n = ap arp_len (arp_front_back bytes f wh) in
    record {
      whole = omega arith;
      spells = subst (λ (k : ℕ). IsArp (slice_range bytes 0 k) (arp_of bytes)) (sym size) is;
    }

pub arp_accepted : (bound : LenSource) (bytes : List ℕ) → IsBytes bytes → BeginsWithArp bytes
    → Accepts bound bytes kinds.Arp
arp_accepted bound bytes ok begins =
    accepts_arp bound bytes (arp_front_in bytes) begins.front (arp_begins_read bytes ok begins.front) begins.whole

-- bytes that no row refuses begin with a packet
pub arp_begins_accepted : (bound : LenSource) (bytes : List ℕ) → IsBytes bytes → Accepts bound bytes kinds.Arp
    → BeginsWithArp bytes
arp_begins_accepted bound bytes ok accepted =
    let le : 8 ≤ length bytes =
    elim (cases_lt (length bytes) 8) [ inl lt ↦ absurd (accepted _ (rows.arp lt)) | inr le ↦ le ] in
    let f = arp_front_in bytes in
    let whole : arp_len f ≤ length bytes =
    elim (cases_lt (length bytes) (arp_len f))
    [ inl lt ↦ absurd (accepted _ (rows.arp_addresses f le (arp_begins_read bytes ok le) lt)) | inr le ↦ le ] in
    record { front = le; whole = whole }

-- ---- views

-- the bytes of a packet alone hold it
pub holds_part : (bytes : List ℕ) (n : ℕ) → BeginsWithArp bytes → n ≡ arp_len (arp_front_in bytes)
    → HoldsArp (slice_range bytes 0 n)
holds_part bytes n begins e =
    let fr = begins.front in
    let wh = begins.whole in
    let len : length (slice_range bytes 0 n) ≡ n = length-part bytes 0 n (omega arith) ∙ omega arith in
    let same = arp_front_of_part bytes n (omega arith) in
    record { front = omega arith; whole = len ∙ e ∙ ap arp_len (sym same) }

pub begins_of_holds : (bytes : List ℕ) → HoldsArp bytes → BeginsWithArp bytes
begins_of_holds bytes h = let w = h.whole in record { front = h.front; whole = omega arith }

pub means_part : (bytes : List ℕ) (n : ℕ) → IsBytes bytes → BeginsWithArp bytes → n ≡ arp_len (arp_front_in bytes)
    → Means bytes (headers.Arp (arp_of (slice_range bytes 0 n)))
means_part bytes n ok begins e =
    let fr = begins.front in
    let wh = begins.whole in
    subst (λ (a : ArpValue). Means bytes (headers.Arp a)) (sym (arp_of_part bytes n (omega arith) (omega arith)))
    (arp_means bytes ok begins)

-- ---- what bytes mean fits

pub arp_fits : (bytes : List ℕ) → IsBytes bytes → (a : ArpValue) → Means bytes (headers.Arp a) → FitsArp a
arp_fits bytes ok a m =
    let n = arp_len (arp_front_of a) in
    let part = slice_range bytes 0 n in
    let w : n ≤ length bytes = m.whole in
    let len : length part ≡ n = length-part bytes 0 n w ∙ omega arith in
    let okp = IsBytes-part 0 n bytes ok in
    let h = length a.sender_hardware in
    let p = length a.sender_protocol in
    let s = m.spells in
    let lth : length (bytes_at part (8 + h + p) h) ≡ h = length-at part (8 + h + p) h (omega arith) in
    let ltp : length (bytes_at part (8 + 2 * h + p) p) ≡ p = length-at part (8 + 2 * h + p) p (omega arith) in
    record {
      front = s.front.fits;
      hardware = ap length (sym s.target_hardware) ∙ lth;
      protocol = ap length (sym s.target_protocol) ∙ ltp;
      sender_hardware = subst IsBytes s.sender_hardware (IsBytes-part 8 (8 + h) part okp);
      sender_protocol = subst IsBytes s.sender_protocol (IsBytes-part (8 + h) (8 + h + p) part okp);
      target_hardware = subst IsBytes s.target_hardware (IsBytes-part (8 + h + p) (8 + h + p + h) part okp);
      target_protocol = subst IsBytes s.target_protocol (IsBytes-part (8 + 2 * h + p) (8 + 2 * h + p + p) part okp);
    }
