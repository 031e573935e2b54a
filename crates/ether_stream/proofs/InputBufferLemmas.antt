-- The bytes of a buffer after some are taken, and after more are read to the end of its room.
use Rattle.std.proofs.Common.{◌≡◌, ℕ, ◌+◌, ◌-◌, ◌≤◌, List, ◌++◌, length, take, drop, sym, ap, subst, ◌∙◌, arith, rules}
use borrow.Rule.Slice.PartMut.{put_mid}
use Rattle.std.specs.Prelude.{slice_range}
use Rattle.std.proofs.lemmas.List.{drop-take}
use Rattle.std.proofs.lemmas.Slice.{between-put_mid}
use Rattle.ether_base.proofs.SubLists.{length-part, rest_of_part, part_join}

pub consumed : (xs : List ℕ) (start end count : ℕ) → start + count ≤ end
    → slice_range xs (start + count) end ≡ drop count (slice_range xs start end)
consumed xs start end count inside = sym (rest_of_part xs start end count inside)

-- what stands before the end stays
pub kept : (xs ys : List ℕ) (start end : ℕ) → start ≤ end → take end ys ≡ take end xs
    → slice_range ys start end ≡ slice_range xs start end
kept xs ys start end ordered same =
    let m = end - start in
    let parts : end ≡ start + m = omega arith in
    let front : take (start + m) ys ≡ take (start + m) xs = subst (λ (j : ℕ). take j ys ≡ take j xs) parts same in
    sym (drop-take start m ys) ∙ ap (drop start) front ∙ drop-take start m xs

pub grown : (xs ys : List ℕ) (start end n : ℕ) → start ≤ end → take end ys ≡ take end xs
    → slice_range ys start (end + n) ≡ slice_range xs start end ++ slice_range ys end (end + n)
grown xs ys start end n ordered same = search (rules, part_join, kept)

-- what is left of a part that was written, but for its front
left_part : (bytes mid : List ℕ) (start end taken : ℕ) → start ≤ end → end ≤ length bytes
    → length mid ≡ length (slice_range bytes start end) → taken ≤ length (slice_range bytes start end)
    → drop taken mid ≡ drop taken (slice_range bytes start end)
    → slice_range (put_mid start (end - start) bytes mid) (start + taken) end
    ≡ drop taken (slice_range bytes start end)
left_part bytes mid start end taken ordered within len most same =
    search (rules, length-part, consumed, between-put_mid)
