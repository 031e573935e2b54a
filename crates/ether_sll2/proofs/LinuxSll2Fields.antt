-- The fields of a header of Linux cooked capture v2, read from the parts of a list and written.
use Rattle.std.proofs.Common.{◌≡◌, ℕ, suc, ◌+◌, ◌*◌, ◌^◌, ◌<◌, ◌≤◌, List, [], ◌∷◌, ◌++◌, length, take, drop, refl, sym, ap, subst, ◌∙◌, arith}
use Rattle.std.proofs.lemmas.List.{length-append, length-take, length-drop, take_all}
use Rattle.std.specs.Prelude.{slice_range}
use Rattle.ether_base.specs.Bytes.{IsBytes, number, spelled}
use Rattle.ether_base.proofs.Numbers.{IsBytes-append, IsBytes-cons, IsBytes-nil, IsBytes-spelled, length-spelled, number-append, number-spelled, number_below, spelled-is}
use Rattle.ether_base.proofs.SubLists.{IsBytes-drop, IsBytes-take, part_all, part_of_front, number-part_below, number-part_join}
use Rattle.ether_base.proofs.ArrayElements.{cells, cells-all}
use Rattle.ether_sll2.specs.LinuxSll2.{LinuxSll2Value, FitsLinuxSll2, IsLinuxSll2, BeginsLinuxSll2, linux_sll2_number, linux_sll2_bytes, linux_sll2_of, cleared, PacketType, RefusesLinuxSll2, AcceptsLinuxSll2, short, packet_type}
use Rattle.ether_sll2.specs.Views.{linux_sll2_value}

-- ---- one value

pub linux_sll2_unique : (v w : LinuxSll2Value) (j k : ℕ) → FitsLinuxSll2 v → FitsLinuxSll2 w → j < 2 ^ 16 → k < 2 ^ 16
    → linux_sll2_number j v ≡ linux_sll2_number k w → v ≡ w
linux_sll2_unique v w j k f g lj lk e =
    let a : v.protocol ≡ w.protocol = omega arith in
    let r : j ≡ k = omega arith in
    let b : v.interface_index ≡ w.interface_index = omega arith in
    let c : v.hardware_type ≡ w.hardware_type = omega arith in
    let d : v.packet_type ≡ w.packet_type = omega arith in
    let l : v.address_len ≡ w.address_len = omega arith in
    let s : v.address ≡ w.address = omega arith in
    λ i. record {
      protocol = a i;
      interface_index = b i;
      hardware_type = c i;
      packet_type = d i;
      address_len = l i;
      address = s i;
    }

pub one_value : (bytes : List ℕ) (v w : LinuxSll2Value) → IsLinuxSll2 bytes v → IsLinuxSll2 bytes w → v ≡ w
one_value bytes v w h k =
    linux_sll2_unique v w h.reserved k.reserved h.fits k.fits h.reserved_fits k.reserved_fits (sym h.sum ∙ k.sum)

-- ---- reading

pub linux_sll2_begins : (bytes : List ℕ) → IsBytes bytes → 20 ≤ length bytes
    → BeginsLinuxSll2 bytes (linux_sll2_of bytes)
linux_sll2_begins bytes ok le =
    let a = number-part_join bytes 0 12 20 (omega arith) (omega arith) le in
    let b = number-part_join bytes 0 11 12 (omega arith) (omega arith) (omega arith) in
    let d = number-part_join bytes 0 10 11 (omega arith) (omega arith) (omega arith) in
    let e = number-part_join bytes 0 8 10 (omega arith) (omega arith) (omega arith) in
    let f = number-part_join bytes 0 4 8 (omega arith) (omega arith) (omega arith) in
    let g = number-part_join bytes 0 2 4 (omega arith) (omega arith) (omega arith) in
    let p = number-part_below bytes 0 2 ok (omega arith) in
    let r = number-part_below bytes 2 4 ok (omega arith) in
    let i = number-part_below bytes 4 8 ok (omega arith) in
    let h = number-part_below bytes 8 10 ok (omega arith) in
    let k = number-part_below bytes 10 11 ok (omega arith) in
    let l = number-part_below bytes 11 12 ok (omega arith) in
    let s = number-part_below bytes 12 20 ok le in
    record {
      whole = le;
      spells = record {
        reserved = number (slice_range bytes 2 4);
        sum = omega arith;
        fits = record {
          protocol = p;
          interface_index = i;
          hardware_type = h;
          packet_type = k;
          address_len = l;
          address = s;
        };
        reserved_fits = r;
      };
    }

pub linux_sll2_whole : (bytes : List ℕ) → IsBytes bytes → length bytes ≡ 20 → IsLinuxSll2 bytes (linux_sll2_of bytes)
linux_sll2_whole bytes ok len =
    let h = linux_sll2_begins bytes ok (omega arith) in
    subst (λ (l : List ℕ). IsLinuxSll2 l (linux_sll2_of bytes)) (part_all bytes 20 (omega arith)) h.spells

-- what follows the header changes no field
pub linux_sll2_of_front : (bytes : List ℕ) (n : ℕ) → 20 ≤ n
    → linux_sll2_of (slice_range bytes 0 n) ≡ linux_sll2_of bytes
linux_sll2_of_front bytes n le =
    let p = ap number (part_of_front bytes n 0 2 (omega arith) (omega arith)) in
    let x = ap number (part_of_front bytes n 4 8 (omega arith) (omega arith)) in
    let h = ap number (part_of_front bytes n 8 10 (omega arith) (omega arith)) in
    let k = ap number (part_of_front bytes n 10 11 (omega arith) (omega arith)) in
    let l = ap number (part_of_front bytes n 11 12 (omega arith) (omega arith)) in
    let s = ap number (part_of_front bytes n 12 20 (omega arith) (omega arith)) in
    λ i. record {
      protocol = p i;
      interface_index = x i;
      hardware_type = h i;
      packet_type = k i;
      address_len = l i;
      address = s i;
    }

-- a packet type that no row refuses
accepted : (bytes : List ℕ) (s : LinuxSll2Value) → BeginsLinuxSll2 bytes s → s.packet_type ≤ 7 → AcceptsLinuxSll2 bytes
accepted bytes s h packet _ (short lt) = omega (arith, h.whole, lt)
accepted bytes s h packet _ (packet_type t k above) =
    let e = ap (λ (v : LinuxSll2Value). v.packet_type) (one_value (slice_range bytes 0 20) s t h.spells k.spells) in
    omega (arith, e, packet, above)

pub linux_sll2_accepted : (bytes : List ℕ) → IsBytes bytes → 20 ≤ length bytes → (linux_sll2_of bytes).packet_type ≤ 7
    → AcceptsLinuxSll2 bytes
linux_sll2_accepted bytes ok le packet = accepted bytes (linux_sll2_of bytes) (linux_sll2_begins bytes ok le) packet

pub refused_packet_type : (bytes : List ℕ) (n : ℕ) → IsBytes bytes → 20 ≤ length bytes
    → n ≡ (linux_sll2_of bytes).packet_type → 7 < n → RefusesLinuxSll2 bytes (PacketType n)
refused_packet_type bytes n ok le is above =
    let row = packet_type (linux_sll2_of bytes) (linux_sll2_begins bytes ok le) (omega (arith, is, above)) in
    subst (λ (k : ℕ). RefusesLinuxSll2 bytes (PacketType k)) (sym is) row

-- ---- writing

-- the bytes of a value mean it
pub linux_sll2_bytes-means : (s : LinuxSll2Value) → FitsLinuxSll2 s → IsLinuxSll2 (linux_sll2_bytes s) s
linux_sll2_bytes-means s fits =
    let sum = number-spelled 20 (linux_sll2_number 0 s) (omega arith) in
    record { reserved = 0; sum = sum; fits = fits; reserved_fits = omega arith }

-- what was read is written as the bytes that were read, with zeros in the place of the reserved ones
pub written_back : (bytes : List ℕ) (s : LinuxSll2Value) → IsBytes bytes → length bytes ≡ 20 → IsLinuxSll2 bytes s
    → linux_sll2_bytes s ≡ cleared bytes
written_back bytes s ok len is =
    let y = drop 4 bytes in
    let x = take 2 bytes ++ 0 ∷ 0 ∷ [] in
    let longy : length y ≡ 16 = omega (arith, length-drop 4 bytes) in
    let longx : length x ≡ 4 = omega (arith, length-append (take 2 bytes) (0 ∷ 0 ∷ []), length-take 2 bytes) in
    let same : slice_range bytes 4 20 ≡ y = take_all 16 y (omega arith) in
    let a = number-part_join bytes 0 4 20 (omega arith) (omega arith) (omega arith) in
    let b = number-part_join bytes 0 2 4 (omega arith) (omega arith) (omega arith) in
    let d = ap number (part_all bytes 20 (omega arith)) in
    let p = number-part_below bytes 0 2 ok (omega arith) in
    let r = number-part_below bytes 2 4 ok (omega arith) in
    let l = number-part_below bytes 4 20 ok (omega arith) in
    let m = number-append x y in
    let n = number-append (take 2 bytes) (0 ∷ 0 ∷ []) in
    let o : number x * 256 ^ length y ≡ number x * 256 ^ 16 = ap (λ (k : ℕ). number x * 256 ^ k) longy in
    let q : number (slice_range bytes 4 20) ≡ number y = ap number same in
    let f = is.fits in
    let sum : linux_sll2_number 0 s ≡ number (x ++ y) = omega arith in
    let okz = IsBytes-cons 0 (0 ∷ []) (omega arith) (IsBytes-cons 0 [] (omega arith) IsBytes-nil) in
    let okx : IsBytes x = IsBytes-append (take 2 bytes) (0 ∷ 0 ∷ []) (IsBytes-take 2 bytes ok) okz in
    let long : length (x ++ y) ≡ 20 = omega (arith, length-append x y) in
    ap (spelled 20) sum ∙ spelled-is 20 (x ++ y) long (IsBytes-append x y okx (IsBytes-drop 4 bytes ok))

-- a number before other bytes
number_before : (w n m : ℕ) (rest : List ℕ) → n < 256 ^ w → length rest ≡ m
    → number (spelled w n ++ rest) ≡ n * 256 ^ m + number rest
number_before w n m rest lt len =
    number-append (spelled w n) rest
    ∙ ap (λ (k : ℕ). number (spelled w n) * 256 ^ k + number rest) len
    ∙ ap (λ (k : ℕ). k * 256 ^ m + number rest) (number-spelled w n lt)

-- the bytes of three numbers, with two zeros after the first, two bytes and an address
abbrev laid : (k l : ℕ) (p i h a : List ℕ) → List ℕ
laid k l p i h a = p ++ (0 ∷ 0 ∷ (i ++ (h ++ (k ∷ l ∷ a))))

IsBytes-laid : (p i h k l : ℕ) (a : List ℕ) → k < 2 ^ 8 → l < 2 ^ 8 → IsBytes a
    → IsBytes (laid k l (spelled 2 p) (spelled 4 i) (spelled 2 h) a)
IsBytes-laid p i h k l a lk ll ok =
    let t3 = k ∷ l ∷ a in
    let t2 = spelled 2 h ++ t3 in
    let t1 = spelled 4 i ++ t2 in
    let ok3 : IsBytes t3 = IsBytes-cons k (l ∷ a) (omega arith) (IsBytes-cons l a (omega arith) ok) in
    let ok2 : IsBytes t2 = IsBytes-append (spelled 2 h) t3 (IsBytes-spelled 2 h) ok3 in
    let ok1 : IsBytes t1 = IsBytes-append (spelled 4 i) t2 (IsBytes-spelled 4 i) ok2 in
    let ok0 = IsBytes-cons 0 (0 ∷ t1) (omega arith) (IsBytes-cons 0 t1 (omega arith) ok1) in
    IsBytes-append (spelled 2 p) (0 ∷ 0 ∷ t1) (IsBytes-spelled 2 p) ok0

number-laid : (p i h k l : ℕ) (a : List ℕ) → p < 2 ^ 16 → i < 2 ^ 32 → h < 2 ^ 16 → length a ≡ 8
    → number (laid k l (spelled 2 p) (spelled 4 i) (spelled 2 h) a) ≡ linux_sll2_number 0 (linux_sll2_value p i h k l a)
number-laid p i h k l a lp li lh la =
    let t3 = k ∷ l ∷ a in
    let t2 = spelled 2 h ++ t3 in
    let t1 = spelled 4 i ++ t2 in
    let l2 : length t2 ≡ 12 = omega (arith, length-append (spelled 2 h) t3, length-spelled 2 h, la) in
    let l1 : length t1 ≡ 16 = omega (arith, length-append (spelled 4 i) t2, length-spelled 4 i) in
    let n3 : number t3 ≡ k * 256 ^ 9 + (l * 256 ^ 8 + number a) =
    ap (λ (n : ℕ). k * 256 ^ suc n + (l * 256 ^ n + number a)) la in
    let n2 = number_before 2 h 10 t3 (omega arith) (omega (arith, la)) in
    let n1 = number_before 4 i 12 t2 (omega arith) l2 in
    let n0 = number_before 2 p 18 (0 ∷ 0 ∷ t1) (omega arith) (omega (arith, l1)) in
    n0 ∙ omega (arith, n1, n2, n3)

-- they mean the header that has them
pub linux_sll2_written : (p i h k l : ℕ) (a bp bi bh : List ℕ)
    → p < 2 ^ 16 → i < 2 ^ 32 → h < 2 ^ 16 → k < 2 ^ 8 → l < 2 ^ 8 → IsBytes a → length a ≡ 8
    → bp ≡ spelled 2 p → bi ≡ spelled 4 i → bh ≡ spelled 2 h
    → let bytes = laid k l (cells 0 2 bp) (cells 0 4 bi) (cells 0 2 bh) (cells 0 8 a) in
    let s = linux_sll2_value p i h k l a in
    IsLinuxSll2 bytes s × (bytes ≡ linux_sll2_bytes s) × (slice_range bytes 12 20 ≡ a)
linux_sll2_written p i h k l a bp bi bh lp li lh lk ll oka la is_p is_i is_h =
    let s = linux_sll2_value p i h k l a in
    let bytes = laid k l (cells 0 2 bp) (cells 0 4 bi) (cells 0 2 bh) (cells 0 8 a) in
    let ep : cells 0 2 bp ≡ spelled 2 p = cells-all 2 bp (ap length is_p ∙ length-spelled 2 p) ∙ is_p in
    let ei : cells 0 4 bi ≡ spelled 4 i = cells-all 4 bi (ap length is_i ∙ length-spelled 4 i) ∙ is_i in
    let eh : cells 0 2 bh ≡ spelled 2 h = cells-all 2 bh (ap length is_h ∙ length-spelled 2 h) ∙ is_h in
    let ea : cells 0 8 a ≡ a = cells-all 8 a la in
    let same : bytes ≡ laid k l (spelled 2 p) (spelled 4 i) (spelled 2 h) a =
    λ j. laid k l (ep j) (ei j) (eh j) (ea j) in
    let sum : number bytes ≡ linux_sll2_number 0 s = ap number same ∙ number-laid p i h k l a lp li lh la in
    let na = rw la at (number_below a oka) in
    let fits : FitsLinuxSll2 s = record {
      protocol = lp;
      interface_index = li;
      hardware_type = lh;
      packet_type = lk;
      address_len = ll;
      address = na;
    } in
    let is : IsLinuxSll2 bytes s = record { reserved = 0; sum = sum; fits = fits; reserved_fits = omega arith } in
    let ok : IsBytes bytes = subst IsBytes (sym same) (IsBytes-laid p i h k l a lk ll oka) in
    (is, sym (ap (spelled 20) (sym sum) ∙ spelled-is 20 bytes refl ok), ea)
