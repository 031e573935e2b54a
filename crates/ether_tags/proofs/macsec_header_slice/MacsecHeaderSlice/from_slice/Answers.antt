use Rattle.std.proofs.Common.{◌≡◌, ℕ, ◌∙◌, length, take, Bool, false, ap, sym, subst, refl, arith}
use Rattle.std.specs.Prelude.{IsTrue}
use Rattle.std.proofs.lemmas.List.{length-take}
use Rattle.ether_base.specs.Bytes.{IsBytes}
use Rattle.ether_base.specs.declared.len_source.LenSource.TheVariants as sources
use Rattle.ether_base.specs.declared.err.layer.Layer.TheVariants as layers
use Rattle.ether_base.specs.declared.err.len_error.LenError.{LenError}
use Rattle.ether_base.specs.declared.header_slice_error.HeaderSliceError.TheVariants.{Len}
use Rattle.ether_base.specs.Formats.Macsec.{SecTagFront, sec_tag_front_in, sec_tag_len}
use Rattle.ether_base.specs.Formats.Refusal.{Length, UnexpectedVersion, InvalidShortLen, IsTooShort}
use Rattle.ether_base.specs.Formats.Refusal as rows
use Rattle.ether_base.proofs.Rows.{sec_tag_front_read, accepts_tag}
use Rattle.ether_base.proofs.MacsecFields.{sec_tag_front_taken, sec_tag_taken}
use Rattle.ether_tags.specs.Macsec.{IsRefusedTag}
use Rattle.ether_tags.proofs.macsec_header_slice.MacsecHeaderSlice.from_slice.Goals as goal

pub returns-then-slice-lt-MIN_LEN-clause-refused : goal.returns-then-slice-lt-MIN_LEN-clause-refused
returns-then-slice-lt-MIN_LEN-clause-refused c =
    let bytes = c.args.slice.now in
    subst (λ (e : LenError). IsRefusedTag bytes (Len e)) (sym c.too_short.ensures) (record {
      refusal = Length 6 (length bytes) sources.Slice layers.MacsecHeader;
      row = record { row = rows.macsec c.if-slice-lt-MIN_LEN.true; of_header = λ e. absurd cc };
      is = (refl, refl);
    })

pub returns-then-has_version_one-clause-refused : goal.returns-then-has_version_one-clause-refused
returns-then-has_version_one-clause-refused c =
    let bytes = c.args.slice.now in
    let ok : IsBytes bytes = λ i. omega (arith, c.type_inv.slice i) in
    let one = c.if-has_version_one.ensures in
    record {
      refusal = UnexpectedVersion;
      row =
          record {
            row =
                rows.macsec_version (sec_tag_front_in bytes) c.if-slice-lt-MIN_LEN.false
                (sec_tag_front_read bytes ok c.if-slice-lt-MIN_LEN.false) (omega arith);
            of_header = λ e. e;
          };
      is = refl;
    }

pub returns-then-is_too_short-clause-refused : goal.returns-then-is_too_short-clause-refused
returns-then-is_too_short-clause-refused c =
    let bytes = c.args.slice.now in
    let ok : IsBytes bytes = λ i. omega (arith, c.type_inv.slice i) in
    let zero = c.if-has_version_one.ensures in
    let short = c.is_too_short.ensures.0 c.if-is_too_short.true in
    record {
      refusal = InvalidShortLen;
      row =
          record {
            row =
                rows.macsec_short_len (sec_tag_front_in bytes) c.if-slice-lt-MIN_LEN.false
                (sec_tag_front_read bytes ok c.if-slice-lt-MIN_LEN.false) (omega arith) short;
            of_header = λ e. e;
          };
      is = refl;
    }

-- a tag that was not found too short is not
long : (front : SecTagFront) (found : Bool) → (IsTooShort front → IsTrue found) → found ≡ false → IsTooShort front → ⊥
long front found says not s = let f = says s in absurd cc

pub returns-then-slice-len-clause-refused : goal.returns-then-slice-len-clause-refused
returns-then-slice-len-clause-refused c =
    let bytes = c.args.slice.now in
    let front = sec_tag_front_in bytes in
    let ok : IsBytes bytes = λ i. omega (arith, c.type_inv.slice i) in
    let zero = c.if-has_version_one.ensures in
    let not_short =
    long (sec_tag_front_in bytes) c.is_too_short.result c.is_too_short.ensures.1 c.if-is_too_short.false in
    let len : c.header_len-len.result ≡ sec_tag_len front = c.header_len-len.ensures in
    let lt = c.if-slice-len.true in
    subst (λ (e : LenError). IsRefusedTag bytes (Len e)) (sym c.too_short-then-slice-len.ensures) (record {
      refusal = Length (sec_tag_len front) (length bytes) sources.Slice layers.MacsecHeader;
      row =
          record {
            row =
                rows.macsec_header front c.if-slice-lt-MIN_LEN.false
                (sec_tag_front_read bytes ok c.if-slice-lt-MIN_LEN.false) (omega arith) not_short (omega arith);
            of_header = λ e. absurd cc;
          };
      is = (ap (λ (k : ℕ). Length k (length bytes) sources.Slice layers.MacsecHeader) (sym len), refl);
    })

pub invariant_of-result : goal.invariant_of-result
invariant_of-result c =
    let bytes = c.args.slice.now in
    let n = c.header_len-len.result in
    let zero = c.if-has_version_one.ensures in
    let len : n ≡ sec_tag_len (sec_tag_front_in bytes) = c.header_len-len.ensures in
    let not_short =
    long (sec_tag_front_in bytes) c.is_too_short.result c.is_too_short.ensures.1 c.if-is_too_short.false in
    let front = sec_tag_front_taken bytes n (omega arith) in
    let taken : length (take n bytes) ≡ n = omega (arith, length-take n bytes) in
    record {
      whole = taken ∙ len ∙ ap sec_tag_len (sym front);
      version = ap (λ (f : SecTagFront). f.version) front ∙ omega arith;
      long = λ short. not_short (subst IsTooShort front short);
    }

pub returns-clause-accepted : goal.returns-clause-accepted
returns-clause-accepted c =
    let bytes = c.args.slice.now in
    let front = sec_tag_front_in bytes in
    let ok : IsBytes bytes = λ i. omega (arith, c.type_inv.slice i) in
    let zero = c.if-has_version_one.ensures in
    let not_short =
    long (sec_tag_front_in bytes) c.is_too_short.result c.is_too_short.ensures.1 c.if-is_too_short.false in
    let len : c.header_len-len.result ≡ sec_tag_len front = c.header_len-len.ensures in
    let le = c.if-slice-len.false in
    accepts_tag sources.Slice bytes front c.if-slice-lt-MIN_LEN.false
    (sec_tag_front_read bytes ok c.if-slice-lt-MIN_LEN.false) (omega arith) not_short (omega arith)

pub returns-clause-value : goal.returns-clause-value
returns-clause-value c =
    let bytes = c.args.slice.now in
    let ok : IsBytes bytes = λ i. omega (arith, c.type_inv.slice i) in
    let len : c.header_len-len.result ≡ sec_tag_len (sec_tag_front_in bytes) = c.header_len-len.ensures in
    let le = c.if-slice-len.false in
    sec_tag_taken bytes c.header_len-len.result ok c.if-slice-lt-MIN_LEN.false len (omega arith)
