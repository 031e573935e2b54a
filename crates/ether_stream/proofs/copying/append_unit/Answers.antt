use Rattle.std.proofs.Common.{◌≤◌, sym, subst}
use Rattle.ether_pcap.specs.Editing.{padding_of, unit_bytes}
use Rattle.ether_pcap.specs.declared.capture.edited_unit.EditedUnit.{EditedUnit}
use Rattle.ether_output.specs.OutputBuffer.{Takes}
use Rattle.ether_output.proofs.OutputBufferLemmas.{Takes-then, Takes-same}
use Rattle.ether_stream.proofs.CopiesLemmas.{zeros_of_three}
use Rattle.ether_stream.proofs.copying.append_unit.Goals as goal

pub returns-in-Block : goal.returns-in-Block
returns-in-Block g c =
    let few = subst (λ (u : EditedUnit). padding_of u ≤ 3) c.in-Block.is c.requires in
    let padding = Takes-same (zeros_of_three c.in-Block.padding_len few) c.append-in-Block-3.ensures in
    subst
    (λ (u : EditedUnit).
    Takes g.W.Sink.contents g.W.Sink.can_fail c.args.out.now (unit_bytes u) c.append-in-Block-5.new.self)
    (sym c.in-Block.is)
    (Takes-then
    (Takes-then (Takes-then (Takes-then c.append-in-Block.ensures c.append-in-Block-2.ensures) padding)
    c.append-in-Block-4.ensures)
    c.append-in-Block-5.ensures)
