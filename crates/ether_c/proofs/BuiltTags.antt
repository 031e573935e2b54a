-- The tags of a packet, one after the other.
use Rattle.std.proofs.Common.{◌≡◌, ℕ, suc, ◌+◌, ◌≤◌, ◌<◌, List, [], ◌∷◌, ◌++◌, length, drop, set, take, rules}
use Rattle.std.proofs.Common.{subst, ◌∙◌, arith}
use Rattle.std.specs.Prelude.{slice_index_or}
use Rattle.std.proofs.Math.Seq.{take-suc, take-suc-set, split_at}
use Rattle.std.proofs.lemmas.List.{length-take-le}
use Rattle.etherparse.specs.Types.LinkExtHeader.{LinkExtHeader}
use Rattle.etherparse.specs.LinkExt.{ext_header_view}
use Rattle.ether_c.specs.declared.ether_unit.EtherUnit.{EtherUnit}
use Rattle.ether_c.specs.Passed.{PassesExt, PassesNoExt}
use Rattle.ether_c.specs.Building.{AreExts, RefusesTags, bad_tag, too_many}

exts-append : (us : List EtherUnit) (xs : List LinkExtHeader) (u : EtherUnit) (x : LinkExtHeader) → AreExts us xs
    → PassesExt u (ext_header_view x) → AreExts (us ++ u ∷ []) (xs ++ x ∷ [])
exts-append [] [] u x are is = (is, tt)
exts-append [] (y ∷ ys) u x are is = absurd are
exts-append (v ∷ vs) [] u x are is = absurd are
exts-append (v ∷ vs) (y ∷ ys) u x are is = (are.0, exts-append vs ys u x are.1 is)

pub next_ext : (us : List EtherUnit) (old new : List LinkExtHeader) (i : ℕ) (d : EtherUnit) (x : LinkExtHeader)
    → i < length us → i < length old → AreExts (take i us) (take i old)
    → PassesExt (slice_index_or us i d) (ext_header_view x) → new ≡ set old i x
    → AreExts (take (i + 1) us) (take (i + 1) new)
next_ext us old new i d x lt room are is put = search (rules, take-suc, take-suc-set, exts-append)

pub refused_at : (us : List EtherUnit) (xs : List LinkExtHeader) (i : ℕ) (d : EtherUnit) (status : ℕ)
    → i < length us → i ≤ 8 → AreExts (take i us) (take i xs) → PassesNoExt (slice_index_or us i d) status
    → RefusesTags us status (i + 1)
refused_at us xs i d status lt few are is =
    let counted : length (take i us) ≡ i = length-take-le i us (omega arith) in
    let index : 1 + length (take i us) ≡ i + 1 = omega (arith, counted) in
    subst (RefusesTags us status) index
    (bad_tag (take i us) (take i xs) (slice_index_or us i d) (drop (suc i) us) status (split_at us i d lt) are
    (omega (arith, counted, few)) is)

pub too_many_at : (us : List EtherUnit) (xs : List LinkExtHeader) (i : ℕ) (d : EtherUnit) (x : LinkExtHeader)
    → i < length us → i ≡ 8 → AreExts (take i us) (take i xs) → PassesExt (slice_index_or us i d) (ext_header_view x)
    → RefusesTags us 19 9
too_many_at us xs i d x lt eight are is =
    let counted : length (take i us) ≡ i = length-take-le i us (omega arith) in
    too_many (take i us) (take i xs) (slice_index_or us i d) (drop (suc i) us) (ext_header_view x)
    (split_at us i d lt) are (counted ∙ eight) is
