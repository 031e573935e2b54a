use Rattle.std.proofs.Common.{ap, subst, ◌+◌, ◌∙◌, sym}
use Rattle.ether_peel.specs.Walker.Start.{next_of}
use Rattle.ether_content.specs.Content.{ContentValue}
use Rattle.ether_content.specs.ContentViews.{content_view, cooked_view}
use Rattle.ether_content.specs.Headers.{HeadersTake}
use Rattle.ether_content.specs.Headers as takes
use Rattle.ether_content.proofs.header_lengths.headers_len.Goals as goal

pub returns-in-Frame : goal.returns-in-Frame
returns-in-Frame c =
    subst (λ (content : ContentValue). HeadersTake content c.frame_len.result)
    (sym (ap content_view c.in-Frame.is) ∙ c.of.ensures)
    (takes.frame (next_of c.in-Frame.start) c.in-Frame.frame.now c.frame_len.result c.frame_len.ensures.reaches)

pub returns-in-LinuxSll : goal.returns-in-LinuxSll
returns-in-LinuxSll c =
    subst (λ (content : ContentValue). HeadersTake content (16 + c.frame_len-in-LinuxSll.result))
    (sym (ap content_view c.in-LinuxSll.is) ∙ c.of.ensures)
    (takes.cooked (cooked_view c.in-LinuxSll.header) c.in-LinuxSll.payload.now c.frame_len-in-LinuxSll.result
    c.frame_len-in-LinuxSll.ensures.reaches)

pub returns-in-LinuxSll2 : goal.returns-in-LinuxSll2
returns-in-LinuxSll2 c =
    subst (λ (content : ContentValue). HeadersTake content c.linux_sll2_len.result)
    (sym (ap content_view c.in-LinuxSll2.is) ∙ c.of.ensures) c.linux_sll2_len.ensures

pub returns-in-Unknown : goal.returns-in-Unknown
returns-in-Unknown c =
    subst (λ (content : ContentValue). HeadersTake content 0)
    (sym (ap content_view c.in-Unknown.is) ∙ c.of.ensures) takes.unknown
