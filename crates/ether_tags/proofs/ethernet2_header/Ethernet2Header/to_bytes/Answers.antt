use Rattle.std.proofs.Common.{◌++◌, sym, ap, ◌∙◌, arith}
use Rattle.std.proofs.lemmas.List.{length-append}
use Rattle.ether_base.specs.Bytes.{number}
use Rattle.ether_base.specs.declared.len_source.LenSource.TheVariants as sources
use Rattle.ether_base.proofs.Rows.{accepts_ethernet2}
use Rattle.ether_base.proofs.SubLists.{part-append}
use Rattle.ether_base.proofs.Values.{ethernet2_unique}
use Rattle.ether_tags.specs.Ethernet2.{ethernet2_view}
use Rattle.ether_tags.proofs.ethernet2_header.Ethernet2Header.to_bytes.Goals as goal

pub returns-clause-inverse : goal.returns-clause-inverse
returns-clause-inverse c =
    λ e is. let w =
    c.joined.ensures.value in ethernet2_unique e (ethernet2_view c.args.self.now) is.fits w.fits
    (sym is.sum ∙ w.sum)

pub returns-clause-accepted : goal.returns-clause-accepted
returns-clause-accepted c =
    λ more.
    accepts_ethernet2 sources.Slice (c.joined.result ++ more) (omega (arith, length-append c.joined.result more))

pub returns-clause-read_back : goal.returns-clause-read_back
returns-clause-read_back c = λ more.
    let b = c.joined.result in
    let w = c.joined.ensures in
    let s = part-append b more 6 12 (omega arith) (omega arith) ∙ w.source in
    let d = part-append b more 0 6 (omega arith) (omega arith) ∙ w.destination in
    let t = ap number (part-append b more 12 14 (omega arith) (omega arith)) ∙ w.ether_type in
    λ i. record { source = s i; destination = d i; ether_type = record { 0 = t i } }
