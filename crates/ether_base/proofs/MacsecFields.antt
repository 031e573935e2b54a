-- The fields of a MACsec SecTag, read from the parts of a list.
use Rattle.std.proofs.Common.{◌≡◌, ℕ, ◌-◌, ◌≤◌, List, ◌++◌, length, take, refl, sym, ap, subst, ◌∙◌, arith}
use Rattle.std.specs.Prelude.{slice_range}
use Rattle.std.proofs.lemmas.List.{length-append}
use Rattle.ether_base.specs.declared.len_source.LenSource.{LenSource}
use Rattle.ether_base.specs.Bytes.{IsBytes, number}
use Rattle.ether_base.specs.Formats.Macsec.{SecTagValue, BeginsSecTag, FitsSecTag, sec_tag_bytes, sec_tag_front_of, sec_tag_front_at, sec_tag_front_in, sec_tag_len, sec_tag_of}
use Rattle.ether_base.specs.Formats.Kind as kinds
use Rattle.ether_base.specs.Formats.Header.{Means}
use Rattle.ether_base.specs.Formats.Header as headers
use Rattle.ether_base.specs.Formats.Refusal.{InvalidShortLen, IsTooShort, RefusesHeader, AcceptsHeader}
use Rattle.ether_base.specs.Formats.Refusal as rows
use Rattle.ether_base.proofs.Rows.{sec_tag_front_read, accepts_tag}
use Rattle.ether_base.proofs.SubLists.{length-part, IsBytes-part, part_of_front, part-append}
use Rattle.ether_base.proofs.Means.{tag_means, means_whole}
use Rattle.ether_base.proofs.ReadBack.{sec_tag_front_back, length-header_bytes}

pub sec_tag_means : (bytes : List ℕ) → IsBytes bytes → 6 ≤ length bytes
    → sec_tag_len (sec_tag_front_in bytes) ≤ length bytes → Means bytes (headers.Macsec (sec_tag_of bytes))
sec_tag_means bytes ok six whole = tag_means bytes (sec_tag_front_in bytes) (sec_tag_front_read bytes ok six) whole

-- the front of a list's first bytes is that of the list
pub sec_tag_front_part : (bytes : List ℕ) (n : ℕ) → 2 ≤ n
    → sec_tag_front_in (slice_range bytes 0 n) ≡ sec_tag_front_in bytes
sec_tag_front_part bytes n le =
    ap (λ (l : List ℕ). sec_tag_front_at (number l)) (part_of_front bytes n 0 2 (omega arith) le)

pub sec_tag_front_taken : (bytes : List ℕ) (n : ℕ) → 2 ≤ n → sec_tag_front_in (take n bytes) ≡ sec_tag_front_in bytes
sec_tag_front_taken bytes n le =
    let same : n - 0 ≡ n = omega arith in
    ap (λ (k : ℕ). sec_tag_front_in (take k bytes)) (sym same) ∙ sec_tag_front_part bytes n le

-- as many bytes as the front's length mean the value that the list means
pub sec_tag_taken : (bytes : List ℕ) (n : ℕ) → IsBytes bytes → 6 ≤ length bytes
    → n ≡ sec_tag_len (sec_tag_front_in bytes) → n ≤ length bytes
    → Means bytes (headers.Macsec (sec_tag_of (take n bytes)))
sec_tag_taken bytes n ok six e le =
    let same : n - 0 ≡ n = omega arith in
    let part = slice_range bytes 0 n in
    let tag : sec_tag_len (sec_tag_front_in part) ≡ n =
    ap sec_tag_len (sec_tag_front_part bytes n (omega arith)) ∙ sym e in
    let len : length part ≡ n = length-part bytes 0 n le ∙ same in
    let means = sec_tag_means part (IsBytes-part 0 n bytes ok) (omega arith) (omega arith) in
    subst (λ (k : ℕ). Means bytes (headers.Macsec (sec_tag_of (take k bytes)))) same
    (means_whole bytes n (headers.Macsec (sec_tag_of part)) le means)

-- ---- writing

-- the bytes of a value begin with its front
pub sec_tag_bytes_begin : (t : SecTagValue) (more : List ℕ) → FitsSecTag t
    → BeginsSecTag (sec_tag_bytes t ++ more) (sec_tag_front_of 0 0 t)
sec_tag_bytes_begin t more f =
    let begins = sec_tag_front_back t f in
    let len = length-header_bytes (headers.Macsec t) f in
    record {
      sum = ap number (part-append (sec_tag_bytes t) more 0 2 (omega arith) (omega arith)) ∙ begins.sum;
      fits = begins.fits;
    }

-- they are accepted, whatever follows them, unless the short length has no room for the ether type
pub sec_tag_bytes_accepted : (bound : LenSource) (t : SecTagValue) (more : List ℕ) → FitsSecTag t
    → (IsTooShort (sec_tag_front_of 0 0 t) → ⊥) → AcceptsHeader bound (sec_tag_bytes t ++ more) kinds.Macsec
sec_tag_bytes_accepted bound t more f long =
    let len = length-header_bytes (headers.Macsec t) f in
    let all = length-append (sec_tag_bytes t) more in
    accepts_tag bound (sec_tag_bytes t ++ more) (sec_tag_front_of 0 0 t) (omega arith) (sec_tag_bytes_begin t more f)
    refl long (omega arith)

pub sec_tag_bytes_refused : (bound : LenSource) (t : SecTagValue) (more : List ℕ) → FitsSecTag t
    → IsTooShort (sec_tag_front_of 0 0 t) → RefusesHeader bound (sec_tag_bytes t ++ more) kinds.Macsec InvalidShortLen
sec_tag_bytes_refused bound t more f short =
    let len = length-header_bytes (headers.Macsec t) f in
    let all = length-append (sec_tag_bytes t) more in
    record {
      row = rows.macsec_short_len (sec_tag_front_of 0 0 t) (omega arith) (sec_tag_bytes_begin t more f) refl short;
      of_header = λ e. e;
    }
