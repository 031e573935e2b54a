use Rattle.std.proofs.Common.{◌≡◌, ◌<◌, sym, ◌∙◌, arith}
use Rattle.etherparse.specs.Macsec.{ether_type_len}
use Rattle.ether_filter.specs.Prospects.{front_of}
use Rattle.ether_filter.proofs.SecTags.{len_modified, len_unmodified, not_roomy}
use Rattle.ether_filter.proofs.prospect.room_after.Goals as goal
use Rattle.ether_filter.proofs.prospect.room_after.Goals.{then-is_modified, else-is_modified}

pub returns-then-room-len-2 : goal.returns-then-room-len-2
returns-then-room-len-2 c roomy =
    let f = front_of c.args.first c.args.second in
    let small : c.args.second < 256 = omega (arith, c.ranges.second) in
    let iff = c.is_modified.ensures c.args.second small in
    let type : ether_type_len f.encrypted f.changed ≡ c.if-is_modified.ether_type =
    elim c.if-is_modified.branch [
      | then-is_modified w ↦ len_modified f.encrypted f.changed (iff.0 w.if-is_modified.true) ∙ sym w.ether_type-is
      | else-is_modified w ↦
          len_unmodified f.encrypted f.changed c.is_modified.result iff w.if-is_modified.false ∙ sym w.ether_type-is
    ] in
    not_roomy c.args.first c.args.second c.args.room c.tag_len-len.result c.if-is_modified.ether_type small
    (c.tag_len-len.ensures c.args.second small) type (λ is. c.if-short-eq0.false (c.from-short.ensures ∙ is))
    (omega (arith, c.if-short-ether_type.false, c.from-short.ensures))
    (omega (arith, c.if-room-len-2.true, c.from-short.ensures)) roomy
