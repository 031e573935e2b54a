use Rattle.std.proofs.Common.{◌≡◌, drop}
use Rattle.ether_fields.specs.Fields.{numbered_among}
use Rattle.ether_fields.proofs.field.numbered_among.Given as goal

abbrev pub invariant-loop-section : goal.invariant-loop-section
invariant-loop-section l =
    numbered_among l.number l.sections ≡ numbered_among l.number (drop l.section-index l.sections)
