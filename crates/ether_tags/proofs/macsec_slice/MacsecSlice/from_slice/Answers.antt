use Rattle.std.proofs.Common.{◌≡◌, ℕ, ◌∙◌, length, sym, ap, subst, refl, arith, rules}
use Rattle.std.specs.Prelude.{slice_range, Option}
use Rattle.ether_base.specs.declared.len_source.LenSource.TheVariants as sources
use Rattle.ether_base.specs.declared.err.layer.Layer.TheVariants as layers
use Rattle.ether_base.specs.Bytes.{IsBytes}
use Rattle.ether_base.specs.Formats.Macsec.{SecTagValue, known_payload_len, sec_tag_front_in, sec_tag_len, sec_tag_of}
use Rattle.ether_base.specs.Formats.Refusal.{Length}
use Rattle.ether_base.proofs.Means.{tag_unique}
use Rattle.ether_base.proofs.MacsecFields.{sec_tag_means}
use Rattle.ether_tags.specs.Macsec.{IsRefusedPacket, tag_bytes, payload_end, payload_source, readable_type}
use Rattle.ether_tags.proofs.MacsecFields.{placed, packet_refused, packet_accepted, holds_same}
use Rattle.ether_tags.proofs.macsec_slice.MacsecSlice.from_slice.Goals as goal

pub returns-in_err-end-clause-refused : goal.returns-in_err-end-clause-refused
returns-in_err-end-clause-refused c =
    let bytes = c.args.slice.now in
    let ok : IsBytes bytes = λ i. omega (arith, c.type_inv.slice i) in
    let h = c.in_ok-header.ensures in
    let front = sec_tag_front_in (tag_bytes c.in_ok-header.header) in
    let known = known_payload_len front in
    let start = sec_tag_len front in
    let e = c.in_err-end.ensures in
    let finish = payload_end known start (length bytes) in
    let p = placed bytes (tag_bytes c.in_ok-header.header) known start finish h.bytes refl refl refl in
    let told = subst (IsRefusedPacket bytes) (sym e.refused) (record {
      refusal = Length finish (length bytes) sources.MacsecShortLength layers.MacsecPacket;
      row = packet_refused bytes finish known ok h.whole h.accepted (sym p.known_is) p.finish_is e.cut;
      is = (refl, refl);
    }) in
    search (rules, told)

pub returns-clause-accepted : goal.returns-clause-accepted
returns-clause-accepted c =
    let bytes = c.args.slice.now in
    let ok : IsBytes bytes = λ i. omega (arith, c.type_inv.slice i) in
    let h = c.in_ok-header.ensures in
    let front = sec_tag_front_in (tag_bytes c.in_ok-header.header) in
    let known = known_payload_len front in
    let start = sec_tag_len front in
    let p =
    placed bytes (tag_bytes c.in_ok-header.header) known start c.in_ok-end.end h.bytes refl refl
    c.in_ok-end.ensures.end in
    packet_accepted bytes c.in_ok-end.end known ok h.whole h.accepted (sym p.known_is) p.finish_is
    c.in_ok-end.ensures.within

pub returns-clause-payload : goal.returns-clause-payload
returns-clause-payload c =
    let bytes = c.args.slice.now in
    let ok : IsBytes bytes = λ i. omega (arith, c.type_inv.slice i) in
    let h = c.in_ok-header.ensures in
    let front = sec_tag_front_in (tag_bytes c.in_ok-header.header) in
    let known = known_payload_len front in
    let start = sec_tag_len front in
    let p =
    placed bytes (tag_bytes c.in_ok-header.header) known start c.in_ok-end.end h.bytes refl refl
    c.in_ok-end.ensures.end in
    let finish =
    p.finish_is
    ∙ ap (λ (o : Option ℕ). payload_end o (sec_tag_len (sec_tag_front_in bytes)) (length bytes)) p.known_is in
    let tag : sec_tag_of (tag_bytes c.in_ok-header.header) ≡ sec_tag_of bytes =
    tag_unique bytes (sec_tag_of (tag_bytes c.in_ok-header.header)) (sec_tag_of bytes) h.value
    (sec_tag_means bytes ok (omega (arith, h.whole)) h.whole) in
    let type = c.next_ether_type.ensures ∙ ap (λ (t : SecTagValue). readable_type t.payload_type) tag in
    let source = c.source_of.ensures ∙ ap payload_source p.known_is in
    let window =
    ap (λ (n : ℕ). slice_range bytes n c.in_ok-end.end) (c.header_len-start.ensures.tag ∙ p.start_is)
    ∙ ap (slice_range bytes (sec_tag_len (sec_tag_front_in bytes))) finish in
    holds_same c.payload_of-payload.result _ _ _ _ _ _ type source window c.payload_of-payload.ensures
