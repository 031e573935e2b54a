use Rattle.std.proofs.Common.{[], ◌∷◌, sym, append-nil}
use Rattle.std.specs.Prelude.{codes}
use Rattle.std.specs.List.{flat_map}
use Rattle.ether_output.proofs.OutputBufferLemmas.{Takes-then, Takes-same}
use Rattle.ether_format.specs.Values.{keyed_text, keyed_with}
use Rattle.ether_format.proofs.members.write_placed.Goals as goal

pub returns : goal.returns
returns g c =
    Takes-same
    (λ i. flat_map keyed_text
    (keyed_with (codes "{\"header\":") (c.place_value.ensures i)
    ∷ keyed_with (codes ",\"start\":") (c.place_value-2.ensures i)
    ∷ keyed_with (codes ",\"end\":") (c.place_value-3.ensures i)
    ∷ keyed_with (codes ",\"payload_end\":") (c.place_value-4.ensures i)
    ∷ keyed_with (codes ",\"closed\":") (c.place_value-5.ensures i) ∷ []))
    (Takes-then c.write_member.ensures
    (Takes-then c.write_member-2.ensures
    (Takes-then c.write_member-3.ensures
    (Takes-then c.write_member-4.ensures
    (Takes-same (sym (append-nil _)) c.write_member-5.ensures)))))
