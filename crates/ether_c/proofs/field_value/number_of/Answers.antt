use Rattle.std.proofs.Common.{◌≡◌, ℕ, suc, ◌+◌, ◌*◌, ◌^◌, ◌<◌, ◌≤◌, List, [], ◌∷◌, ◌++◌, length, take, ap, ◌∙◌, arith, rules}
use Rattle.std.specs.Prelude.{slice_index_or}
use Rattle.std.proofs.Math.Nat.{pow-le-pow_right}
use Rattle.std.proofs.Math.Seq.{take-suc}
use Rattle.std.proofs.lemmas.Grind.{pow_more}
use Rattle.etherparse.specs.Bytes.{number}
use Rattle.ether_base.proofs.Numbers.{number-append}
use Rattle.ether_c.proofs.field_value.number_of.Goals as goal

number-take_next : (bytes : List ℕ) (i d : ℕ) → i < length bytes
    → number (take (i + 1) bytes) ≡ number (take i bytes) * 256 + slice_index_or bytes i d
number-take_next bytes i d lt =
    let more : i + 1 ≡ suc i = omega arith in
    let next : take (i + 1) bytes ≡ take i bytes ++ slice_index_or bytes i d ∷ [] = ap (λ (k : ℕ). take k bytes) more
    ∙ take-suc bytes i d lt in
    let joined = number-append (take i bytes) (slice_index_or bytes i d ∷ []) in
    let e = ap number next in
    omega arith

-- at most eight bytes have been read
few : (n i len : ℕ) → n < 256 ^ i → i < len → len ≤ 9 → n < 256 ^ 8
few n i len below lt le =
    let least : i ≤ 8 = omega arith in
    let one : 0 < 256 = omega arith in
    let power : 256 ^ i ≤ 256 ^ 8 = pow-le-pow_right one least in
    omega arith

pub overflow_mul-number : goal.overflow_mul-number
overflow_mul-number c =
    let below = few c.loop-byte.number c.loop-byte.byte-index (length c.args.bytes.now) c.loop-byte.invariant.1
    (omega (arith, c.loop-byte-test.true)) c.requires in
    omega arith

pub overflow_add-number : goal.overflow_add-number
overflow_add-number c =
    let below = few c.loop-byte.number c.loop-byte.byte-index (length c.args.bytes.now) c.loop-byte.invariant.1
    (omega (arith, c.loop-byte-test.true)) c.requires in
    let byte = c.from.ensures in
    let fits = c.type_inv.bytes c.loop-byte.byte-index in
    omega arith

pub loop-byte-preserved : goal.loop-byte-preserved
loop-byte-preserved c = search (rules, number-take_next, pow_more)
