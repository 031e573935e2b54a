use Rattle.std.proofs.Common.{[], ◌∷◌, Some, sym, append-nil}
use Rattle.std.specs.Prelude.{codes}
use Rattle.std.specs.List.{flat_map}
use Rattle.ether_output.proofs.OutputBufferLemmas.{Takes-then, Takes-same}
use Rattle.ether_format.specs.Members.{Nothing}
use Rattle.ether_format.specs.Values.{keyed_text, keyed_with}
use Rattle.ether_format.proofs.members.write_ethernet2_without_fcs.Goals as goal

pub returns : goal.returns
returns g c =
    Takes-same
    (λ i. flat_map keyed_text
    (keyed_with (codes ",\"dst\":") (c.ethernet2_value.ensures i)
    ∷ keyed_with (codes ",\"src\":") (c.ethernet2_value-2.ensures i)
    ∷ keyed_with (codes ",\"type\":") (c.ethernet2_value-3.ensures i)
    ∷ keyed_with (codes ",\"fcs\":") (Some Nothing) ∷ []))
    (Takes-then c.write_rare_member.ensures
    (Takes-then c.write_rare_member-2.ensures
    (Takes-then c.write_rare_member-3.ensures (Takes-same (sym (append-nil _)) c.write_rare_member-4.ensures))))
