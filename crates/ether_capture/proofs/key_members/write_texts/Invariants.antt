use Rattle.std.specs.Option.{option_map}
use Rattle.ether_capture.specs.RowFields.{fields_if}
use Rattle.ether_capture.proofs.KeyMemberLemmas.{Writes}
use Rattle.ether_capture.proofs.key_members.write_texts.Given as goal

abbrev pub invariant-loop-left : goal.invariant-loop-left
invariant-loop-left g l =
    Writes g.W.Sink.contents g.W.Sink.can_fail l.fn.out l.is_first l.count l.left
    (fields_if (option_map (λ s. s.now) l.texts)) (fields_if (option_map (λ s. s.now) l.rest)) l.out

abbrev pub decreases-loop-left : goal.decreases-loop-left
decreases-loop-left g l = l.left
