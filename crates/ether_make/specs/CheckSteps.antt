-- Steps of the division of a check sequence.
use Rattle.std.specs.Prelude.{◌≡◌, ℕ, ◌+◌, ◌*◌, ◌≤◌, List, ◌++◌, length, Bool}
use Rattle.ether_make.specs.CheckSequences.{added, divided, low_bits, sent}

-- a division of bytes and of what follows them goes on with what follows: one register is added to the first 32 bits
-- before, another one after
abbrev pub TakesIn : (register : ℕ) → (bytes : List ℕ) → (after : ℕ) → Type 0
TakesIn register bytes after =
    (n : ℕ) (rest : List Bool) → 32 ≤ length rest
    → divided (8 * length bytes + n) (added (low_bits 32 register) (sent bytes ++ rest))
    ≡ divided n (added (low_bits 32 after) rest)
