use Rattle.std.proofs.Common.{◌≡◌, ℕ, List, [], ◌∷◌, ◌++◌, length, Option, None, true, refl, sym, ap, subst, ◌∙◌}
use Rattle.std.specs.Prelude.{codes}
use Rattle.std.specs.Fmt.{decimal}
use Rattle.ether_base.specs.Formats.LinuxSllProtocolType.{told_ether_type}
use Rattle.ether_base.specs.declared.linux_sll_protocol_type.LinuxSllProtocolType.{LinuxSllProtocolType}
use Rattle.ether_peel.specs.Walker.Start.{next_of}
use Rattle.ether_sll2.specs.LinuxSll2.{linux_sll2_of, AcceptsLinuxSll2, protocol_of_header}
use Rattle.ether_sll2.specs.Views.{refusal_view}
use Rattle.ether_text.specs.Lines.{spaced, protocol_text}
use Rattle.ether_text.specs.ViewLines.{rest_view_text}
use Rattle.ether_output.specs.OutputBuffer.{Takes, TakesAnswer}
use Rattle.ether_output.proofs.OutputBufferLemmas.{Takes-then, Takes-same}
use Rattle.ether_stream.specs.LinuxSll2Lines.{AnswersLinuxSll2, AnswersPayload, BeginsWalk, read, refused, linux_sll2_text, linux_sll2_fault_text}
use Rattle.ether_content.proofs.ContentLemmas.{none_of, started}
use Rattle.ether_stream.proofs.linux_sll2_lines.write_linux_sll2.Goals as goal

pub returns-in-Err-clause-ended : goal.returns-in-Err-clause-ended
returns-in-Err-clause-ended g c limit =
    let r = refusal_view c.in-Err.error in
    record {
      text = linux_sll2_fault_text r ++ codes "\n";
      answers = refused r c.in-Err.ensures.refused;
      taken = Takes-then c.write_refusal.ensures c.append.ensures;
    }

pub returns-in-Some-clause-walked : goal.returns-in-Some-clause-walked
returns-in-Some-clause-walked g c =
    let packet = c.in-Ok.packet in
    let found =
    started (told_ether_type (protocol_of_header packet)) c.in-Some.start (sym c.start.ensures ∙ c.in-Some.is) in
    subst (λ (bytes : List ℕ). BeginsWalk bytes c.in-Some.start c.payload_slice.result.now
    × Takes g.W.Sink.contents g.W.Sink.can_fail c.args.out.now (linux_sll2_text (linux_sll2_of bytes) ++ codes "\n")
    c.write_header.new.out)
    c.in-Ok.ensures.bytes (
      record {
        accepted = subst AcceptsLinuxSll2 (sym c.in-Ok.ensures.bytes) c.in-Ok.ensures.accepted;
        ether_type = found.0;
        announced = found.1;
        next = ap next_of found.2;
        rest = c.payload_slice.ensures;
      },
      c.write_header.ensures,
    )

pub returns-in-None-clause-ended : goal.returns-in-None-clause-ended
unfolding rest_view_text
returns-in-None-clause-ended g c limit =
    let packet = c.in-Ok.packet in
    let same = c.in-Ok.ensures.bytes in
    let none : told_ether_type (protocol_of_header packet) ≡ None = none_of _ _ (sym c.start.ensures ∙ c.in-None.is) in
    let line : LinuxSllProtocolType → ℕ → List ℕ =
    λ p n. spaced (codes "rest" ∷ decimal 20 ∷ decimal n ∷ protocol_text p ∷ []) ++ codes "\n" in
    let rest = line (protocol_of_header packet) (length packet) in
    let written = ap (λ (p : LinuxSllProtocolType). line p (length c.args.bytes.now)) c.protocol_type.ensures
    ∙ ap (λ (l : List ℕ). line (protocol_of_header packet) (length l)) (sym same) in
    subst
    (λ (bytes : List ℕ).
    TakesAnswer g.W.Sink.contents g.W.Sink.can_fail (AnswersLinuxSll2 limit bytes) c.args.out.now c.write_rest.new.out
    true)
    same
    (record {
      text = (linux_sll2_text (linux_sll2_of packet) ++ codes "\n") ++ rest;
      answers = read rest true (subst AcceptsLinuxSll2 (sym same) c.in-Ok.ensures.accepted)
          (subst (λ (o : Option ℕ). AnswersPayload limit o packet rest true) (sym none) (refl, refl));
      taken = Takes-then c.write_header.ensures (Takes-same written c.write_rest.ensures);
    })
