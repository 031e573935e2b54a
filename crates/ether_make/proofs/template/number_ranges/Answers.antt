use Rattle.ether_make.proofs.TemplateLemmas.{numbered-bytes}
use Rattle.ether_make.proofs.template.number_ranges.Goals as goal

pub returns-clause-bytes : goal.returns-clause-bytes
returns-clause-bytes c =
    numbered-bytes c.args.index c.args.generator.now c.args.slots.now c.args.bytes.now c.fill_all.new.bytes
    (λ i. (c.type_inv.bytes i).fits) c.fill_all.ensures.bits
