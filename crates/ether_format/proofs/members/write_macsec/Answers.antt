use Rattle.std.proofs.Common.{[], ◌∷◌, sym, append-nil}
use Rattle.std.specs.Prelude.{codes}
use Rattle.std.specs.List.{flat_map}
use Rattle.ether_output.proofs.OutputBufferLemmas.{Takes-then, Takes-same}
use Rattle.ether_format.specs.Values.{keyed_text, keyed_with}
use Rattle.ether_format.proofs.members.write_macsec.Goals as goal

pub returns : goal.returns
returns g c =
    Takes-same
    (λ i. flat_map keyed_text
    (keyed_with (codes ",\"payload\":") (c.macsec_value.ensures i)
    ∷ keyed_with (codes ",\"es\":") (c.macsec_value-2.ensures i)
    ∷ keyed_with (codes ",\"scb\":") (c.macsec_value-3.ensures i)
    ∷ keyed_with (codes ",\"e\":") (c.macsec_value-4.ensures i)
    ∷ keyed_with (codes ",\"c\":") (c.macsec_value-5.ensures i)
    ∷ keyed_with (codes ",\"an\":") (c.macsec_value-6.ensures i)
    ∷ keyed_with (codes ",\"sl\":") (c.macsec_value-7.ensures i)
    ∷ keyed_with (codes ",\"pn\":") (c.macsec_value-8.ensures i)
    ∷ keyed_with (codes ",\"sci\":") (c.macsec_value-9.ensures i)
    ∷ keyed_with (codes ",\"type\":") (c.macsec_value-10.ensures i) ∷ []))
    (Takes-then c.write_member.ensures
    (Takes-then c.write_member-2.ensures
    (Takes-then c.write_member-3.ensures
    (Takes-then c.write_member-4.ensures
    (Takes-then c.write_member-5.ensures
    (Takes-then c.write_member-6.ensures
    (Takes-then c.write_member-7.ensures
    (Takes-then c.write_member-8.ensures
    (Takes-then c.write_member-9.ensures
    (Takes-same (sym (append-nil _)) c.write_member-10.ensures))))))))))
