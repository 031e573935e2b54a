use Rattle.std.proofs.Common.{◌++◌, ◌∙◌, List, ℕ, length, sym, ap, subst}
use Rattle.ether_base.specs.declared.len_source.LenSource.TheVariants as sources
use Rattle.ether_base.specs.Formats.Header as headers
use Rattle.ether_base.specs.Formats.Header.{Means}
use Rattle.ether_base.specs.Formats.Kind as kinds
use Rattle.ether_base.specs.Formats.Refusal.{AcceptsHeader, InvalidShortLen, RefusesHeader}
use Rattle.ether_base.proofs.Means.{tag_unique}
use Rattle.ether_tags.proofs.SameHeaders.{macsec_headers_same}
use Rattle.ether_base.proofs.ReadBack.{length-header_bytes, means-header_bytes}
use Rattle.ether_base.proofs.MacsecFields.{sec_tag_bytes_accepted, sec_tag_bytes_refused}
use Rattle.ether_tags.specs.Macsec.{sec_tag_view}
use Rattle.ether_tags.proofs.macsec_header.MacsecHeader.to_bytes.Goals as goal

pub returns-clause-len : goal.returns-clause-len
returns-clause-len c =
    ap (λ (l : List ℕ). length l) c.spelled.ensures.value
    ∙ length-header_bytes (headers.Macsec (sec_tag_view c.args.self.now)) c.spelled.ensures.fits

pub returns-clause-read : goal.returns-clause-read
returns-clause-read c more =
    let tag = sec_tag_view c.args.self.now in
    subst (λ (l : List ℕ). Means (l ++ more) (headers.Macsec tag)) (sym c.spelled.ensures.value)
    (means-header_bytes (headers.Macsec tag) more c.spelled.ensures.fits)

pub returns-clause-accepted : goal.returns-clause-accepted
returns-clause-accepted c more long =
    subst (λ (l : List ℕ). AcceptsHeader sources.Slice (l ++ more) kinds.Macsec) (sym c.spelled.ensures.value)
    (sec_tag_bytes_accepted sources.Slice (sec_tag_view c.args.self.now) more c.spelled.ensures.fits long)

pub returns-clause-refused : goal.returns-clause-refused
returns-clause-refused c more short =
    subst (λ (l : List ℕ). RefusesHeader sources.Slice (l ++ more) kinds.Macsec InvalidShortLen)
    (sym c.spelled.ensures.value)
    (sec_tag_bytes_refused sources.Slice (sec_tag_view c.args.self.now) more c.spelled.ensures.fits short)

pub returns-clause-read_back : goal.returns-clause-read_back
returns-clause-read_back c more h means =
    let tag = sec_tag_view c.args.self.now in
    let own =
    subst (λ (l : List ℕ). Means (l ++ more) (headers.Macsec tag)) (sym c.spelled.ensures.value)
    (means-header_bytes (headers.Macsec tag) more c.spelled.ensures.fits) in
    macsec_headers_same h c.args.self.now (tag_unique (c.spelled.result.items ++ more) (sec_tag_view h) tag means own)
