use Rattle.std.proofs.Common.{[], ◌∷◌, sym, append-nil}
use Rattle.std.specs.Prelude.{codes}
use Rattle.std.specs.List.{flat_map}
use Rattle.ether_output.proofs.OutputBufferLemmas.{Takes-then, Takes-same}
use Rattle.ether_format.specs.Values.{keyed_text, keyed_with}
use Rattle.ether_format.proofs.members.write_packet_members.Goals as goal

pub returns : goal.returns
returns g c moment is =
    Takes-same
    (λ i. flat_map keyed_text
    (keyed_with (codes "{\"number\":") (c.packet_value.ensures moment i)
    ∷ keyed_with (codes ",\"time\":") (c.packet_value-2.ensures moment i)
    ∷ keyed_with (codes ",\"link\":") (c.packet_value-3.ensures moment i)
    ∷ keyed_with (codes ",\"captured\":") (c.packet_value-4.ensures moment i)
    ∷ keyed_with (codes ",\"original\":") (c.packet_value-5.ensures moment i)
    ∷ keyed_with (codes ",\"interface\":") (c.packet_value-6.ensures moment i)
    ∷ keyed_with (codes ",\"direction\":") (c.packet_value-7.ensures moment i)
    ∷ keyed_with (codes ",\"comment\":") (c.packet_value-8.ensures moment i)
    ∷ keyed_with (codes ",\"file\":") (c.packet_value-9.ensures moment i) ∷ []))
    (Takes-then (c.write_shown_member.ensures moment is)
    (Takes-then (c.write_shown_member-2.ensures moment is)
    (Takes-then (c.write_shown_member-3.ensures moment is)
    (Takes-then (c.write_shown_member-4.ensures moment is)
    (Takes-then (c.write_shown_member-5.ensures moment is)
    (Takes-then (c.write_shown_member-6.ensures moment is)
    (Takes-then (c.write_shown_member-7.ensures moment is)
    (Takes-then (c.write_shown_member-8.ensures moment is)
    (Takes-same (sym (append-nil _)) (c.write_shown_member-9.ensures moment is))))))))))
