use Rattle.std.proofs.Common.{◌<◌, ◌+◌, length, sym, subst, ◌∙◌, arith}
use Rattle.etherparse.specs.LinkExt.{ext_slice_header}
use Rattle.ether_packet.proofs.Places.{missing_past}
use Rattle.ether_packet.proofs.Reaching.{Reaches, reaches_next}
use Rattle.ether_packet.proofs.packet_units.tags_reach.Goals as goal
use Rattle.ether_packet.proofs.packet_units.tags_reach.Goals.{in-Some, in_default}

pub loop-index-preserved : goal.loop-index-preserved
loop-index-preserved c =
    let xs = c.args.exts.now in
    let i = c.loop-index.index in
    let lt : i < length xs = let n = c.len-index-end.ensures.value in
    omega arith in
    elim c.match-get.branch [
      | in-Some w ↦
          let len = w.ext_len-at.ensures in
          let named = w.named_len.ensures in
          let next =
          reaches_next c.args.link xs i w.in-Some.ext (ext_slice_header w.ext_of.result.slice) c.loop-index.at
          c.loop-index.end w.ext_len-at.result w.named_len.result (sym c.get.ensures ∙ w.in-Some.is)
          w.ext_of.ensures.header c.loop-index.invariant len.value len.bound named.value named.bound in
          subst (λ n. Reaches c.args.link xs (i + 1) n c.match-get.end) (sym w.at-is)
          (subst (Reaches c.args.link xs (i + 1) _) (sym (w.end-is ∙ w.max-end.ensures)) next)
      | in_default w ↦ let le =
          missing_past xs i (sym c.get.ensures ∙ w.in_default.is) in absurd (omega (arith, lt, le))
    ]
