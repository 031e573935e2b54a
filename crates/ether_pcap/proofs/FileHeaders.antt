-- File headers: one for each list of bytes, or one refusal.
use Rattle.std.proofs.Common.{◌≡◌, ℕ, List, [], ◌∷◌, length, refl, arith, rules}
use Rattle.ether_base.specs.Bytes.{IsBytes, number}
use Rattle.ether_pcap.specs.Numbers.{number_from_low}
use Rattle.ether_pcap.specs.FileHeader.{Resolution, Microseconds, Nanoseconds, magic_of, FileHeaderValue, IsFileHeader, FileRefusal, RefusesFile, short, magic, version}

-- no four bytes are a magic number in both orders
ends : (l : List ℕ) → length l ≡ 4 → IsBytes l → (r s : Resolution) → number l ≡ magic_of r
    → number_from_low l ≡ magic_of s → ⊥
ends [] len ok r s p q = omega arith
ends (a ∷ []) len ok r s p q = omega arith
ends (a ∷ b ∷ []) len ok r s p q = omega arith
ends (a ∷ b ∷ c ∷ []) len ok r s p q = omega arith
ends (a ∷ b ∷ c ∷ d ∷ []) len ok Microseconds Microseconds p q =
    let x = ok 0 in let y = ok 1 in let z = ok 2 in let w = ok 3 in omega (arith, x, y, z, w, p, q)
ends (a ∷ b ∷ c ∷ d ∷ []) len ok Microseconds Nanoseconds p q =
    let x = ok 0 in let y = ok 1 in let z = ok 2 in let w = ok 3 in omega (arith, x, y, z, w, p, q)
ends (a ∷ b ∷ c ∷ d ∷ []) len ok Nanoseconds Microseconds p q =
    let x = ok 0 in let y = ok 1 in let z = ok 2 in let w = ok 3 in omega (arith, x, y, z, w, p, q)
ends (a ∷ b ∷ c ∷ d ∷ []) len ok Nanoseconds Nanoseconds p q =
    let x = ok 0 in let y = ok 1 in let z = ok 2 in let w = ok 3 in omega (arith, x, y, z, w, p, q)
ends (a ∷ b ∷ c ∷ d ∷ e ∷ l) len ok r s p q = omega arith

pub one_header : (bytes : List ℕ) (h k : FileHeaderValue) → IsBytes bytes → IsFileHeader bytes h → IsFileHeader bytes k
    → h ≡ k
one_header bytes h k ok is are = search rules

pub apart : (bytes : List ℕ) (h : FileHeaderValue) (r : FileRefusal) → IsBytes bytes → IsFileHeader bytes h
    → RefusesFile bytes r → ⊥
apart bytes h r ok is (short lt) = omega (arith, is.len, lt)
apart bytes h r ok is (magic le none) = none h.order h.resolution is.magic
apart bytes h r ok is (version o s le has other) = search rules

pub refused_once : (bytes : List ℕ) (r s : FileRefusal) → IsBytes bytes → RefusesFile bytes r → RefusesFile bytes s
    → r ≡ s
refused_once bytes r s ok (short lt) (short m) = refl
refused_once bytes r s ok (short lt) (magic le none) = absurd (omega (arith, lt, le))
refused_once bytes r s ok (short lt) (version o x le has other) = absurd (omega (arith, lt, le))
refused_once bytes r s ok (magic le none) (short m) = absurd (omega (arith, le, m))
refused_once bytes r s ok (magic le none) (magic le2 none2) = refl
refused_once bytes r s ok (magic le none) (version o x le2 has other) = absurd (none o x has)
refused_once bytes r s ok (version o x le has other) (short m) = absurd (omega (arith, le, m))
refused_once bytes r s ok (version o x le has other) (magic le2 none) = absurd (none o x has)
refused_once bytes r s ok (version o x le has other) (version p y le2 has2 other2) = search rules
