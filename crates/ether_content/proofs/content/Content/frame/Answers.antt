use Rattle.std.proofs.Common.{sym, subst}
use Rattle.ether_peel.specs.Grammar.Expectation.{EtherType}
use Rattle.ether_peel.specs.Walker.Start.{next_of}
use Rattle.ether_content.specs.Content as contents
use Rattle.ether_content.specs.Content.{IsWalked}
use Rattle.ether_content.specs.ContentViews.{content_view, cooked_view}
use Rattle.ether_content.specs.declared.content.Content.{Content}
use Rattle.ether_content.proofs.ContentLemmas.{not_walked}
use Rattle.ether_content.proofs.content.Content.frame.Goals as goal

pub returns-in-Frame-clause-some : goal.returns-in-Frame-clause-some
returns-in-Frame-clause-some c =
    subst (λ (s : Content). IsWalked (content_view s) (next_of c.in-Frame.start) c.in-Frame.bytes.now)
    (sym c.in-Frame.is)
    (contents.frame (next_of c.in-Frame.start) c.in-Frame.bytes.now)

pub returns-in-LinuxSll-clause-some : goal.returns-in-LinuxSll-clause-some
returns-in-LinuxSll-clause-some c =
    let header = c.in-LinuxSll.header in
    let payload = c.in-LinuxSll.payload.now in
    subst (λ (s : Content). IsWalked (content_view s) (EtherType header.protocol.0) payload) (sym c.in-LinuxSll.is)
    (contents.cooked (cooked_view header) payload)

pub returns-in-LinuxSll2-clause-none : goal.returns-in-LinuxSll2-clause-none
returns-in-LinuxSll2-clause-none c none next bytes walked =
    not_walked c.in-LinuxSll2.bytes.now (c.payload_of.ensures.none none) next bytes
    (subst (λ (s : Content). IsWalked (content_view s) next bytes) c.in-LinuxSll2.is walked)
