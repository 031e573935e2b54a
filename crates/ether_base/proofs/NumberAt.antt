-- The number of the bytes that a slice has from a place on.
use Rattle.std.proofs.Common.{ℕ, ◌+◌, ◌^◌, ◌<◌, ◌≤◌, List, length, take, drop, arith}
use Rattle.std.proofs.Math.Nat.{pow-le-pow_right}
use Rattle.std.proofs.lemmas.List.{length-take, length-drop}
use Rattle.ether_base.specs.Bytes.{IsBytes, number}
use Rattle.ether_base.proofs.Numbers.{number_below}
use Rattle.ether_base.proofs.SubLists.{IsBytes-take, IsBytes-drop}

-- at most k bytes
pub number_within : (bytes : List ℕ) (k : ℕ) → IsBytes bytes → length bytes ≤ k → number bytes < 256 ^ k
number_within bytes k ok le =
    let wider : 256 ^ length bytes ≤ 256 ^ k = pow-le-pow_right (omega arith) le in
    omega (arith, number_below bytes ok, wider)

-- those from a place on, if fewer than k
pub rest_below : (bytes : List ℕ) (at k : ℕ) → IsBytes bytes → length bytes < at + k → number (drop at bytes) < 256 ^ k
rest_below bytes at k ok short =
    number_within (drop at bytes) k (IsBytes-drop at bytes ok) (omega (arith, length-drop at bytes))

-- the first of fewer than eight bytes
pub taken_below : (bytes : List ℕ) (i : ℕ) → IsBytes bytes → i < length bytes → length bytes < 8
    → number (take i bytes) < 256 ^ 7
taken_below bytes i ok lt few =
    number_within (take i bytes) 7 (IsBytes-take i bytes ok) (omega (arith, length-take i bytes))
