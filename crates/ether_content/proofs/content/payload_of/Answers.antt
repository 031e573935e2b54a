use Rattle.std.proofs.Common.{List, ℕ, sym, subst, ◌∙◌}
use Rattle.ether_base.specs.Formats.LinuxSllProtocolType.{told_ether_type}
use Rattle.ether_peel.specs.Walker.Start.{next_of}
use Rattle.ether_sll2.specs.LinuxSll2.{AcceptsLinuxSll2, protocol_of_header}
use Rattle.ether_content.specs.Content.{IsWalked, LinuxSll2}
use Rattle.ether_content.proofs.ContentLemmas.{started, walked_payload}
use Rattle.ether_content.proofs.content.payload_of.Goals as goal

pub returns-in-Some-clause-some : goal.returns-in-Some-clause-some
returns-in-Some-clause-some c =
    let found =
    started (told_ether_type (protocol_of_header c.in-Ok.packet)) c.in-Some.start (sym c.start.ensures ∙ c.in-Some.is)
    in
    subst (λ (bytes : List ℕ). IsWalked (LinuxSll2 bytes) (next_of c.in-Some.start) c.payload_slice.result.now)
    c.in-Ok.ensures.bytes
    (walked_payload c.in-Ok.packet found.0 c.in-Some.start c.payload_slice.result.now
    (subst AcceptsLinuxSll2 (sym c.in-Ok.ensures.bytes) c.in-Ok.ensures.accepted)
    found.1 found.2 c.payload_slice.ensures)
