-- Blocks: one for each list of bytes, or one refusal; and one where the lengths are the same.
use Rattle.std.proofs.Common.{◌≡◌, ℕ, ◌+◌, ◌-◌, ◌≤◌, List, length, refl, sym, ap, subst, ◌∙◌, arith, rules}
use Rattle.std.specs.Prelude.{slice_range}
use Rattle.ether_base.proofs.SubLists.{length-part}
use Rattle.ether_pcap.specs.Numbers.{Order, field}
use Rattle.ether_pcap.specs.Block.{BlockValue, IsTotalLen, BeginsBlock, BlockRefusal, Trailer, Short, RefusesBlock, front, total_len, body, trailer}

pub block_one : (order : Order) (bytes : List ℕ) (b c : BlockValue) → BeginsBlock order bytes b
    → BeginsBlock order bytes c → b ≡ c
block_one order bytes b c h k = search rules

-- the length at the end, by the place at which the block ends
same_trailer : (order : Order) (bytes : List ℕ) (len n m : ℕ) → field order bytes (8 + len) (12 + len) ≡ 12 + len
    → n ≡ 12 + len → field order bytes (n - 4) n ≡ m → m ≡ n
same_trailer order bytes len n m end e at = search rules

pub block_apart : (order : Order) (bytes : List ℕ) (b : BlockValue) (r : BlockRefusal) → BeginsBlock order bytes b
    → RefusesBlock order bytes r → ⊥
block_apart order bytes b r h (front lt) = omega (arith, h.whole, lt)
block_apart order bytes b r h (total_len le none) = none (subst IsTotalLen (sym h.total_len) h.sound)
block_apart order bytes b r h (body n le is sound lt) =
    let e : n ≡ 12 + length b.body = sym is ∙ h.total_len in omega (arith, h.whole, lt, e)
block_apart order bytes b r h (trailer n m le is sound whole at other) =
    other (same_trailer order bytes (length b.body) n m h.trailer (sym is ∙ h.total_len) at)

pub block_refusal_one : (order : Order) (bytes : List ℕ) (r s : BlockRefusal) → RefusesBlock order bytes r
    → RefusesBlock order bytes s → r ≡ s
block_refusal_one order bytes r s (front lt) (front m) = refl
block_refusal_one order bytes r s (front lt) (total_len le none) = absurd (omega (arith, lt, le))
block_refusal_one order bytes r s (front lt) (body n le is sound m) = absurd (omega (arith, lt, le))
block_refusal_one order bytes r s (front lt) (trailer n k le is sound whole at other) = absurd (omega (arith, lt, le))
block_refusal_one order bytes r s (total_len le none) (front m) = absurd (omega (arith, le, m))
block_refusal_one order bytes r s (total_len le none) (total_len le2 none2) = refl
block_refusal_one order bytes r s (total_len le none) (body n le2 is sound m) =
    absurd (none (subst IsTotalLen (sym is) sound))
block_refusal_one order bytes r s (total_len le none) (trailer n k le2 is sound whole at other) =
    absurd (none (subst IsTotalLen (sym is) sound))
block_refusal_one order bytes r s (body n le is sound lt) (front m) = absurd (omega (arith, le, m))
block_refusal_one order bytes r s (body n le is sound lt) (total_len le2 none) =
    absurd (none (subst IsTotalLen (sym is) sound))
block_refusal_one order bytes r s (body n le is sound lt) (body o le2 is2 sound2 lt2) =
    ap (λ (k : ℕ). Short k (length bytes)) (sym is ∙ is2)
block_refusal_one order bytes r s (body n le is sound lt) (trailer o k le2 is2 sound2 whole at other) =
    let e : n ≡ o = sym is ∙ is2 in absurd (omega (arith, lt, whole, e))
block_refusal_one order bytes r s (trailer n k le is sound whole at other) (front m) = absurd (omega (arith, le, m))
block_refusal_one order bytes r s (trailer n k le is sound whole at other) (total_len le2 none) =
    absurd (none (subst IsTotalLen (sym is) sound))
block_refusal_one order bytes r s (trailer n k le is sound whole at other) (body o le2 is2 sound2 lt) =
    let e : n ≡ o = sym is ∙ is2 in absurd (omega (arith, lt, whole, e))
block_refusal_one order bytes r s (trailer n k le is sound whole at other)
    (trailer o l le2 is2 sound2 whole2 at2 other2) =
    let e : n ≡ o = sym is ∙ is2 in
    let f : k ≡ l = sym at ∙ ap (λ (x : ℕ). field order bytes (x - 4) x) e ∙ at2 in
    λ i. Trailer (e i) (f i)

-- a length that is the same at both places makes a block
pub whole_block : (order : Order) (bytes : List ℕ) (n : ℕ) → field order bytes 4 8 ≡ n → IsTotalLen n → n ≤ length bytes
    → field order bytes (n - 4) n ≡ n
    → (b : BlockValue) × BeginsBlock order bytes b × (b.block_type ≡ field order bytes 0 4) × (12 + length b.body ≡ n)
whole_block order bytes n is sound whole same =
    let least : 12 ≤ n = sound.least in
    let len : length (slice_range bytes 8 (n - 4)) ≡ n - 12 = length-part bytes 8 (n - 4) (omega arith) ∙ omega arith in
    let total : 12 + length (slice_range bytes 8 (n - 4)) ≡ n = omega (arith, len, least) in
    let end : 8 + length (slice_range bytes 8 (n - 4)) ≡ n - 4 = omega (arith, len, least) in (
      record { block_type = field order bytes 0 4; body = slice_range bytes 8 (n - 4) },
      record {
        block_type = refl;
        total_len = is ∙ sym total;
        sound = subst IsTotalLen (sym total) sound;
        whole = omega (arith, total, whole);
        body = ap (slice_range bytes 8) end;
        trailer =
            ap (λ (k : ℕ). field order bytes k (12 + length (slice_range bytes 8 (n - 4)))) end
            ∙ ap (field order bytes (n - 4)) total ∙ same ∙ sym total;
      },
      refl,
      total,
    )
