-- The fields of a header of Linux cooked capture, read from the parts of a list.
use Rattle.std.proofs.Common.{◌≡◌, ℕ, ◌*◌, ◌/◌, ◌%◌, ◌^◌, ◌<◌, ◌≤◌, List, [], ◌∷◌, ◌++◌, length, true, refl, sym, ap, subst, ◌∙◌, arith}
use Rattle.std.proofs.lemmas.List.{length-append}
use Rattle.std.specs.Prelude.{slice_range}
use Rattle.ether_base.specs.declared.len_source.LenSource.{LenSource}
use Rattle.ether_base.specs.Bytes.{IsBytes, number, spelled}
use Rattle.ether_base.specs.Formats.LinuxSll.{LinuxSllValue, IsLinuxSll, BeginsLinuxSll, linux_sll_bytes, linux_sll_of, is_supported}
use Rattle.ether_base.specs.Formats.Header.{Means}
use Rattle.ether_base.specs.Formats.Header as headers
use Rattle.ether_base.specs.Formats.Kind as kinds
use Rattle.ether_base.specs.Formats.Refusal.{Accepts}
use Rattle.ether_base.proofs.Numbers.{IsBytes-two, IsBytes-append, number-append, number_below, spelled-is}
use Rattle.ether_base.proofs.SubLists.{part_all, part_of_front, number-part_below, number-part_join}
use Rattle.ether_base.proofs.ArrayElements.{cells, cells-all}
use Rattle.ether_base.proofs.Rows.{accepts_linux_sll}

-- ---- reading

pub linux_sll_begins : (bytes : List ℕ) → IsBytes bytes → 16 ≤ length bytes → BeginsLinuxSll bytes (linux_sll_of bytes)
linux_sll_begins bytes ok le =
    let a = number-part_join bytes 0 14 16 (omega arith) (omega arith) le in
    let b = number-part_join bytes 0 6 14 (omega arith) (omega arith) (omega arith) in
    let d = number-part_join bytes 0 4 6 (omega arith) (omega arith) (omega arith) in
    let e = number-part_join bytes 0 2 4 (omega arith) (omega arith) (omega arith) in
    let p = number-part_below bytes 0 2 ok (omega arith) in
    let h = number-part_below bytes 2 4 ok (omega arith) in
    let l = number-part_below bytes 4 6 ok (omega arith) in
    let s = number-part_below bytes 6 14 ok (omega arith) in
    let t = number-part_below bytes 14 16 ok le in
    record {
      sum = omega arith;
      fits = record { packet_type = p; hardware_type = h; address_len = l; address = s; protocol = t };
    }

pub linux_sll_means : (bytes : List ℕ) → IsBytes bytes → 16 ≤ length bytes
    → Means bytes (headers.LinuxSll (linux_sll_of bytes))
linux_sll_means bytes ok le = record { whole = le; spells = linux_sll_begins bytes ok le }

pub linux_sll_whole : (bytes : List ℕ) → IsBytes bytes → length bytes ≡ 16 → IsLinuxSll bytes (linux_sll_of bytes)
linux_sll_whole bytes ok len = rw (part_all bytes 16 (omega arith)) at (linux_sll_begins bytes ok (omega arith))

-- what follows the header changes no field
pub linux_sll_of_front : (bytes : List ℕ) (n : ℕ) → 16 ≤ n → linux_sll_of (slice_range bytes 0 n) ≡ linux_sll_of bytes
linux_sll_of_front bytes n le =
    let p = ap number (part_of_front bytes n 0 2 (omega arith) (omega arith)) in
    let h = ap number (part_of_front bytes n 2 4 (omega arith) (omega arith)) in
    let l = ap number (part_of_front bytes n 4 6 (omega arith) (omega arith)) in
    let s = ap number (part_of_front bytes n 6 14 (omega arith) (omega arith)) in
    let t = ap number (part_of_front bytes n 14 16 (omega arith) (omega arith)) in
    λ i. record { packet_type = p i; hardware_type = h i; address_len = l i; address = s i; protocol = t i }

-- a packet type and a hardware type that no row refuses
pub linux_sll_accepted : (bound : LenSource) (bytes : List ℕ) → IsBytes bytes → 16 ≤ length bytes
    → (linux_sll_of bytes).packet_type ≤ 7 → is_supported (linux_sll_of bytes).hardware_type ≡ true
    → Accepts bound bytes kinds.LinuxSll
linux_sll_accepted bound bytes ok le packet hardware =
    accepts_linux_sll bound bytes (linux_sll_of bytes) le (linux_sll_begins bytes ok le) packet hardware

-- ---- writing

-- bytes are those of the value that they mean
pub linux_sll_bytes-read : (bytes : List ℕ) (s : LinuxSllValue) → IsBytes bytes → length bytes ≡ 16 → IsLinuxSll bytes s
    → linux_sll_bytes s ≡ bytes
linux_sll_bytes-read bytes s ok len is = ap (spelled 16) (sym is.sum) ∙ spelled-is 16 bytes len ok

-- three numbers of two bytes, an address and a number of two bytes, one after the other, mean the header that has them
pub linux_sll_written : (p h l : ℕ) (a : List ℕ) (t : ℕ) (bp bh bl bt : List ℕ) → p < 2 ^ 16 → h < 2 ^ 16 → l < 2 ^ 16
    → IsBytes a → length a ≡ 8 → t < 2 ^ 16
    → bp ≡ p / 256 % 256 ∷ p % 256 ∷ [] → bh ≡ h / 256 % 256 ∷ h % 256 ∷ [] → bl ≡ l / 256 % 256 ∷ l % 256 ∷ []
    → bt ≡ t / 256 % 256 ∷ t % 256 ∷ []
    → let bytes = cells 0 2 bp ++ (cells 0 2 bh ++ (cells 0 2 bl ++ (cells 0 8 a ++ cells 0 2 bt))) in
    let s : LinuxSllValue = record {
      packet_type = p;
      hardware_type = h;
      address_len = l;
      address = number a;
      protocol = t;
    } in
    IsLinuxSll bytes s × (bytes ≡ linux_sll_bytes s) × (slice_range bytes 6 14 ≡ a)
linux_sll_written p h l a t bp bh bl bt lp lh ll oka la lt is_p is_h is_l is_t =
    let s : LinuxSllValue = record {
      packet_type = p;
      hardware_type = h;
      address_len = l;
      address = number a;
      protocol = t;
    } in
    let two = t / 256 % 256 ∷ t % 256 ∷ [] in
    let six = p / 256 % 256 ∷ p % 256 ∷ h / 256 % 256 ∷ h % 256 ∷ l / 256 % 256 ∷ l % 256 ∷ [] in
    let bytes = cells 0 2 bp ++ (cells 0 2 bh ++ (cells 0 2 bl ++ (cells 0 8 a ++ cells 0 2 bt))) in
    let same : bytes ≡ six ++ (a ++ two) =
    ap (λ (k : List ℕ). cells 0 2 k ++ (cells 0 2 bh ++ (cells 0 2 bl ++ (cells 0 8 a ++ cells 0 2 bt)))) is_p
    ∙ ap (λ (k : List ℕ). p / 256 % 256 ∷ p % 256 ∷ (cells 0 2 k ++ (cells 0 2 bl ++ (cells 0 8 a ++ cells 0 2 bt))))
    is_h
    ∙ ap
    (λ (k : List ℕ).
    p / 256 % 256 ∷ p % 256 ∷ h / 256 % 256 ∷ h % 256 ∷ (cells 0 2 k ++ (cells 0 8 a ++ cells 0 2 bt)))
    is_l
    ∙ ap (λ (k : List ℕ). six ++ (k ++ cells 0 2 bt)) (cells-all 8 a la)
    ∙ ap (λ (k : List ℕ). six ++ (a ++ cells 0 2 k)) is_t in
    let x = number-append six (a ++ two) in
    let y = number-append a two in
    let long : length (a ++ two) ≡ 10 = length-append a two ∙ omega arith in
    let z : number six * 256 ^ length (a ++ two) ≡ number six * 256 ^ 10 = ap (λ (k : ℕ). number six * 256 ^ k) long in
    let na = rw la at (number_below a oka) in
    let is : IsLinuxSll bytes s = record {
      sum = ap number same ∙ omega arith;
      fits = record { packet_type = lp; hardware_type = lh; address_len = ll; address = na; protocol = lt };
    } in
    let okt : IsBytes two = IsBytes-two t in
    let oks : IsBytes six =
    IsBytes-append (p / 256 % 256 ∷ p % 256 ∷ []) (h / 256 % 256 ∷ h % 256 ∷ l / 256 % 256 ∷ l % 256 ∷ [])
    (IsBytes-two p)
    (IsBytes-append (h / 256 % 256 ∷ h % 256 ∷ []) (l / 256 % 256 ∷ l % 256 ∷ []) (IsBytes-two h)
    (IsBytes-two l)) in
    let ok : IsBytes bytes =
    subst IsBytes (sym same) (IsBytes-append six (a ++ two) oks (IsBytes-append a two oka okt)) in
    (is, sym (linux_sll_bytes-read bytes s ok refl is), cells-all 8 a la)
