use Rattle.std.proofs.Common.{◌≡◌, ℕ, List, ◌*◌, ◌+◌, ◌^◌, ◌++◌, ◌<◌, refl, sym, ap, subst, ◌∙◌, arith}
use Rattle.std.proofs.lemmas.List.{length-append}
use Rattle.std.proofs.lemmas.Grind.{common_steps}
use Rattle.ether_base.specs.Formats.Vlan.{FitsVlan, IsVlan, vlan_bytes, vlan_number}
use Rattle.ether_base.specs.declared.len_source.LenSource.TheVariants as sources
use Rattle.ether_base.specs.Formats.Header as headers
use Rattle.ether_base.specs.Formats.Header.{Means}
use Rattle.ether_base.proofs.Means.{one_header}
use Rattle.ether_base.proofs.ReadBack.{means-header_bytes, spells-header_bytes}
use Rattle.ether_base.proofs.Rows.{accepts_vlan}
use Rattle.ether_base.proofs.Values.{vlan_unique}
use Rattle.ether_tags.proofs.SameHeaders.{vlan_headers_same}
use Rattle.ether_base.specs.Bytes.{bit, spelled}
use Rattle.ether_tags.specs.Vlan.{vlan_view}
use Rattle.ether_tags.proofs.single_vlan_header.SingleVlanHeader.to_bytes.Goals as goal

pub returns : goal.returns
returns c =
    let h = c.args.self.now in
    let v = vlan_view h in
    let bytes = c.bytes_of.result in
    let k = c.tag_control_of-control.ensures in
    let two : bit h.drop_eligible_indicator < 2 = grind (arith, common_steps) in
    let fits : FitsVlan v = record { pcp = k.pcp; dei = two; vid = k.vid; ether_type = omega arith } in
    let sum = k.sum in
    let n : c.tag_control_of-control.result * 2 ^ 16 + h.ether_type.0 ≡ vlan_number v = omega arith in
    let value : bytes ≡ vlan_bytes v = c.bytes_of.ensures ∙ ap (spelled 4) n in
    let is_tag : IsVlan bytes v =
    subst (λ (l : List ℕ). IsVlan l v) (sym value) (spells-header_bytes (headers.Vlan v) fits) in
    let means : (more : List ℕ) → Means (bytes ++ more) (headers.Vlan v) =
    λ more.
    subst (λ (l : List ℕ). Means (l ++ more) (headers.Vlan v)) (sym value)
    (means-header_bytes (headers.Vlan v) more fits) in
    record {
      value = value;
      len = omega arith;
      fits = fits;
      inverse = λ u is. vlan_unique u v is.fits fits (sym is.sum ∙ is_tag.sum);
      accepted = λ more. accepts_vlan sources.Slice (bytes ++ more) (omega (arith, length-append {A = ℕ}));
      read_back =
          λ more k m.
          vlan_headers_same k h
          (let e = one_header (bytes ++ more) (headers.Vlan (vlan_view k)) (headers.Vlan v) refl m (means more) in
          cc);
      same = λ k is. vlan_headers_same k h (vlan_unique (vlan_view k) v is.fits fits (sym is.sum ∙ is_tag.sum));
    }
