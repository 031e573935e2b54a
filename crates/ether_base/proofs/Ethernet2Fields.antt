-- The fields of an Ethernet II header, read from the parts of a list, and the bytes of a header.
use Rattle.std.proofs.Common.{◌≡◌, ℕ, ◌*◌, ◌/◌, ◌%◌, ◌^◌, ◌<◌, ◌≤◌, List, [], ◌∷◌, ◌++◌, length, refl, sym, ap, subst, ◌∙◌, arith}
use Rattle.std.proofs.lemmas.List.{length-append}
use Rattle.std.specs.Prelude.{slice_range}
use Rattle.ether_base.specs.Bytes.{IsBytes, number, spelled}
use Rattle.ether_base.specs.Formats.Ethernet2.{Ethernet2Value, IsEthernet2, ethernet2_bytes, ethernet2_of}
use Rattle.ether_base.specs.Formats.Header.{Means}
use Rattle.ether_base.specs.Formats.Header as headers
use Rattle.ether_base.proofs.Numbers.{IsBytes-two, IsBytes-append, number-append, number_below, spelled-is}
use Rattle.ether_base.proofs.SubLists.{part_all, number-part_below, number-part_join}
use Rattle.ether_base.proofs.ArrayElements.{cells, cells-all}

pub ethernet2_read : (bytes : List ℕ) → IsBytes bytes → 14 ≤ length bytes
    → IsEthernet2 (slice_range bytes 0 14) (ethernet2_of bytes)
ethernet2_read bytes ok le =
    let a = number-part_join bytes 0 12 14 (omega arith) (omega arith) le in
    let b = number-part_join bytes 0 6 12 (omega arith) (omega arith) (omega arith) in
    let d = number-part_below bytes 0 6 ok (omega arith) in
    let s = number-part_below bytes 6 12 ok (omega arith) in
    let t = number-part_below bytes 12 14 ok le in
    record { sum = omega arith; fits = record { destination = d; source = s; ether_type = t } }

pub ethernet2_means : (bytes : List ℕ) → IsBytes bytes → 14 ≤ length bytes
    → Means bytes (headers.Ethernet2 (ethernet2_of bytes))
ethernet2_means bytes ok le = record { whole = le; spells = ethernet2_read bytes ok le }

pub ethernet2_whole : (bytes : List ℕ) → IsBytes bytes → length bytes ≡ 14 → IsEthernet2 bytes (ethernet2_of bytes)
ethernet2_whole bytes ok len = rw (part_all bytes 14 (omega arith)) at (ethernet2_read bytes ok (omega arith))

-- bytes are those of the value that they mean
pub ethernet2_bytes-read : (bytes : List ℕ) (e : Ethernet2Value) → IsBytes bytes → length bytes ≡ 14
    → IsEthernet2 bytes e → ethernet2_bytes e ≡ bytes
ethernet2_bytes-read bytes e ok len is = ap (spelled 14) (sym is.sum) ∙ spelled-is 14 bytes len ok

-- two addresses and the two bytes of an ether type, one after the other, mean the header that has them
pub ethernet2_written : (d s : List ℕ) (t : ℕ) (last : List ℕ) → IsBytes d → IsBytes s → length d ≡ 6 → length s ≡ 6
    → t < 2 ^ 16 → last ≡ t / 256 % 256 ∷ t % 256 ∷ []
    → let bytes = cells 0 6 d ++ (cells 0 6 s ++ cells 0 2 last) in
    let e : Ethernet2Value = record { destination = number d; source = number s; ether_type = t } in
    IsEthernet2 bytes e × (bytes ≡ ethernet2_bytes e)
ethernet2_written d s t last okd oks ld ls lt is_last =
    let e : Ethernet2Value = record { destination = number d; source = number s; ether_type = t } in
    let two = t / 256 % 256 ∷ t % 256 ∷ [] in
    let bytes = cells 0 6 d ++ (cells 0 6 s ++ cells 0 2 last) in
    let same : bytes ≡ d ++ (s ++ two) =
    ap (λ (l : List ℕ). l ++ (cells 0 6 s ++ cells 0 2 last)) (cells-all 6 d ld)
    ∙ ap (λ (l : List ℕ). d ++ (l ++ cells 0 2 last)) (cells-all 6 s ls)
    ∙ ap (λ (l : List ℕ). d ++ (s ++ cells 0 2 l)) is_last in
    let a = number-append d (s ++ two) in
    let b = number-append s two in
    let ll : length (s ++ two) ≡ 8 = length-append s two ∙ omega arith in
    let p : number d * 256 ^ length (s ++ two) ≡ number d * 256 ^ 8 = ap (λ (k : ℕ). number d * 256 ^ k) ll in
    let nd = rw ld at (number_below d okd) in
    let ns = rw ls at (number_below s oks) in
    let is : IsEthernet2 bytes e = record {
      sum = ap number same ∙ omega arith;
      fits = record { destination = nd; source = ns; ether_type = lt };
    } in
    let ok : IsBytes bytes =
    subst IsBytes (sym same) (IsBytes-append d (s ++ two) okd (IsBytes-append s two oks (IsBytes-two t))) in
    (is, sym (ethernet2_bytes-read bytes e ok refl is))
