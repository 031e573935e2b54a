use Rattle.std.proofs.Common.{◌∙◌, List, ℕ, ap, length, arith}
use Rattle.ether_make.specs.Templates.{numbered}
use Rattle.ether_make.proofs.SeriesLemmas.{none-left, sequence-left, sequence-made}
use Rattle.ether_make.proofs.series.renew_bytes.Goals as goal

pub returns-then-has_sequence-clause-renewed : goal.returns-then-has_sequence-clause-renewed
returns-then-has_sequence-clause-renewed c =
    sequence-made c.args.has_sequence _ c.number_ranges.new.bytes c.copy_from_slice.new.self c.if-has_sequence.true
    (c.number_ranges.ensures.bytes
    ∙ ap (λ (p : List ℕ). numbered c.args.index c.args.generator.now c.args.slots.now p)
    c.split_at_mut-packet.ensures.front) (c.copy_from_slice.ensures.after ∙ c.check_sequence.ensures)

pub returns-else-has_sequence-clause-renewed : goal.returns-else-has_sequence-clause-renewed
returns-else-has_sequence-clause-renewed c =
    sequence-left c.args.has_sequence _ c.number_ranges.new.bytes c.split_at_mut-packet.result.1.now
    c.if-has_sequence.false
    (c.number_ranges.ensures.bytes
    ∙ ap (λ (p : List ℕ). numbered c.args.index c.args.generator.now c.args.slots.now p)
    c.split_at_mut-packet.ensures.front)
    (none-left c.args.has_sequence c.args.len (length c.args.bytes.now) c.split_at_mut-packet.result.1.now
    c.if-has_sequence.false c.requires.len (omega (arith, c.split_at_mut-packet.ensures.back_len)))
