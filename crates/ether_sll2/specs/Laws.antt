-- The laws of the format.
use Rattle.std.specs.Prelude.{◌≡◌, ◌⊎◌, ℕ, ◌≤◌, List, ◌++◌, length, slice_range}
use Rattle.ether_base.specs.Bytes.{IsBytes}
use Rattle.ether_sll2.specs.LinuxSll2.{LinuxSll2Value, FitsLinuxSll2, BeginsLinuxSll2, linux_sll2_bytes, linux_sll2_of, cleared, LinuxSll2Refusal, RefusesLinuxSll2, AcceptsLinuxSll2}

-- at most one row holds, and it is decided whether one does
pub record RowsAreApart : Type 0 where
  pub one : (bytes : List ℕ) (r s : LinuxSll2Refusal) → RefusesLinuxSll2 bytes r → RefusesLinuxSll2 bytes s → r ≡ s
  pub decided : (bytes : List ℕ) → IsBytes bytes → ((r : LinuxSll2Refusal) × RefusesLinuxSll2 bytes r)
      ⊎ AcceptsLinuxSll2 bytes

-- twenty bytes, whatever follows them, mean exactly one value, whose numbers are at their places
pub record HeadersAreMeant : Type 0 where
  pub some : (bytes : List ℕ) → IsBytes bytes → 20 ≤ length bytes → BeginsLinuxSll2 bytes (linux_sll2_of bytes)
  pub one : (bytes : List ℕ) (s t : LinuxSll2Value) → BeginsLinuxSll2 bytes s → BeginsLinuxSll2 bytes t → s ≡ t

-- A value has twenty bytes, and they mean it, whatever follows them. If the value was read, they are the first twenty
-- bytes that were read, in which the reserved ones are 0.
pub record BytesMeanTheirValue : Type 0 where
  pub len : (s : LinuxSll2Value) → length (linux_sll2_bytes s) ≡ 20
  pub means : (s : LinuxSll2Value) (more : List ℕ) → FitsLinuxSll2 s → BeginsLinuxSll2 (linux_sll2_bytes s ++ more) s
  pub written_back : (bytes : List ℕ) (s : LinuxSll2Value) → IsBytes bytes → BeginsLinuxSll2 bytes s
      → linux_sll2_bytes s ≡ cleared (slice_range bytes 0 20)
