-- Numbers in the bits of ranges.
use Rattle.std.proofs.Common.{◌≡◌, ℕ, ◌+◌, ◌*◌, ◌<◌, ◌≤◌, List, [], length, sym, ap, ◌∙◌, nat_le, true, false, refl, arith}
use Rattle.std.proofs.lemmas.List.{append-nil}
use Rattle.ether_base.specs.Bytes.{IsBytes}
use Rattle.ether_make.specs.declared.slot.Slot.{Slot}
use Rattle.ether_make.specs.Bits.{bits_of, packed, with_bits}
use Rattle.ether_make.specs.Templates.{all_filled, filled, numbered}
use Rattle.ether_make.proofs.BitBytes.{bytes_packed}
use Rattle.ether_make.proofs.BitPlaces.{bits_of-length}

pub filled-inside : (s : Slot) (n : ℕ) (bytes : List ℕ) → s.at + s.len ≤ 8 * length bytes
    → filled s n (bits_of bytes) ≡ with_bits s.at s.len n (bits_of bytes)
filled-inside s n bytes h =
    let inside : nat_le (s.at + s.len) (8 * length bytes) ≡ true = grind arith in
    rw (bits_of-length bytes, inside) refl

pub filled-outside : (s : Slot) (n : ℕ) (bytes : List ℕ) → 8 * length bytes < s.at + s.len
    → filled s n (bits_of bytes) ≡ bits_of bytes
filled-outside s n bytes h =
    let outside : nat_le (s.at + s.len) (8 * length bytes) ≡ false = grind arith in
    rw (bits_of-length bytes, outside) refl

-- bytes with the bits of a frame in which each range has its number
pub numbered-bytes : (index state : ℕ) (ss : List Slot) (old new : List ℕ) → IsBytes new
    → bits_of new ≡ all_filled index state ss (bits_of old) → new ≡ numbered index state ss old
numbered-bytes index state ss old new ok e =
    sym (ap packed (sym (append-nil (bits_of new))) ∙ bytes_packed new ok [] ∙ append-nil new) ∙ ap packed e
