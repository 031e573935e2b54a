use Rattle.std.proofs.Common.{ℕ, ◌++◌, sym, ap, ◌∙◌}
use Rattle.std.specs.Prelude.{codes}
use Rattle.std.specs.Fmt.{decimal}
use Rattle.ether_output.proofs.OutputBufferLemmas.{Takes-same}
use Rattle.ether_format.specs.Brief.{brief_cause}
use Rattle.ether_format.proofs.brief.write_cause.Goals as goal

pub returns-in-Length : goal.returns-in-Length
returns-in-Length g c = Takes-same (ap brief_cause (sym c.in-Length.is)) c.write_lengths.ensures

pub returns-in-UnknownPacketType : goal.returns-in-UnknownPacketType
returns-in-UnknownPacketType g c =
    Takes-same
    (ap (λ (n : ℕ). codes "packet type " ++ decimal n) c.from.ensures
    ∙ ap brief_cause (sym c.in-UnknownPacketType.is))
    c.write_number.ensures

pub returns-in-UnknownHardwareType : goal.returns-in-UnknownHardwareType
returns-in-UnknownHardwareType g c =
    Takes-same
    (ap (λ (n : ℕ). codes "hardware type " ++ decimal n) c.from-in-UnknownHardwareType.ensures
    ∙ ap brief_cause (sym c.in-UnknownHardwareType.is))
    c.write_number-in-UnknownHardwareType.ensures

pub returns-in-Version : goal.returns-in-Version
returns-in-Version g c = Takes-same (ap brief_cause (sym c.in-Version.is)) c.append.ensures

pub returns-in-ShortLength : goal.returns-in-ShortLength
returns-in-ShortLength g c = Takes-same (ap brief_cause (sym c.in-ShortLength.is)) c.append-in-ShortLength.ensures
