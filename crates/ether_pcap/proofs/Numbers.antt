-- The bytes of a number, in either order.
use Rattle.std.proofs.Common.{◌≡◌, ℕ, ◌+◌, ◌*◌, ◌^◌, ◌<◌, List, [], ◌∷◌, ◌++◌, length, reverse, refl, sym, ap, ◌∙◌, arith, rules}
use Rattle.std.proofs.lemmas.List.{reverse-reverse, length-reverse, reverse-append}
use Rattle.ether_base.specs.Bytes.{IsBytes, number, spelled}
use Rattle.ether_base.proofs.Numbers.{IsBytes-nil, IsBytes-cons, IsBytes-tail, IsBytes-append, number-append, length-spelled, number-spelled, spelled-is}
use Rattle.ether_pcap.specs.Numbers.{Order, BigEndian, LittleEndian, number_from_low, number_in}
use Rattle.ether_pcap.specs.Writing.{bytes_of}

pub length-bytes_of : (order : Order) (k n : ℕ) → length (bytes_of order k n) ≡ k
length-bytes_of BigEndian k n = length-spelled k n
length-bytes_of LittleEndian k n = length-reverse (spelled k n) ∙ length-spelled k n

pub number_reversed : (l : List ℕ) → number_from_low l ≡ number (reverse l)
number_reversed [] = refl
number_reversed (b ∷ l) =
    let e = number_reversed l in
    let one = number-append (reverse l) (b ∷ []) in
    let back : reverse (b ∷ l) ≡ reverse l ++ b ∷ [] = reverse-append (b ∷ []) l in
    let sum : b + 256 * number_from_low l ≡ number (reverse l ++ b ∷ []) = omega (arith, e, one) in
    sum ∙ ap number (sym back)

pub IsBytes-reversed : (l : List ℕ) → IsBytes l → IsBytes (reverse l)
IsBytes-reversed [] ok = ok
IsBytes-reversed (b ∷ l) ok =
    rw (reverse-append (b ∷ []) l)
    (IsBytes-append (reverse l) (b ∷ []) (IsBytes-reversed l (IsBytes-tail b l ok))
    (IsBytes-cons b [] (ok 0) IsBytes-nil))

pub number-bytes_of : (order : Order) (k n : ℕ) → n < 256 ^ k → number_in order (bytes_of order k n) ≡ n
number-bytes_of BigEndian k n lt = number-spelled k n lt
number-bytes_of LittleEndian k n lt =
    number_reversed (reverse (spelled k n)) ∙ ap number (reverse-reverse (spelled k n)) ∙ number-spelled k n lt

-- bytes are those of their number
pub bytes_are : (order : Order) (k : ℕ) (bytes : List ℕ) (n : ℕ) → length bytes ≡ k → IsBytes bytes
    → number_in order bytes ≡ n → bytes ≡ bytes_of order k n
bytes_are BigEndian k bytes n len ok e = sym (spelled-is k bytes len ok) ∙ ap (spelled k) e
bytes_are LittleEndian k bytes n len ok e =
    search (rules, spelled-is, length-reverse, IsBytes-reversed, number_reversed, reverse-reverse)
