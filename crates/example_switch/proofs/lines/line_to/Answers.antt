use Rattle.std.proofs.Common.{sym, subst, ◌∙◌}
use Rattle.example_switch.specs.Lines.{HasLine, tagged, untagged, passed}
use Rattle.example_switch.proofs.Joined.{if_ok}
use Rattle.example_switch.proofs.lines.line_to.Goals as goal

pub returns-then-contains : goal.returns-then-contains
returns-then-contains c =
    let a = c.args in
    if_ok c.line.result _ _
    (λ text is hs e frame with_tag without.
    subst (HasLine a.received.now a.number frame hs e) (sym is)
    (tagged a.tagged.now (sym c.contains.ensures ∙ c.if-contains.true) with_tag))
    c.line.ensures

pub returns-then-contains-2 : goal.returns-then-contains-2
returns-then-contains-2 c =
    let a = c.args in
    if_ok c.line-then-contains-2.result _ _
    (λ text is hs e frame with_tag without.
    subst (HasLine a.received.now a.number frame hs e) (sym is)
    (untagged a.untagged.now (sym c.contains.ensures ∙ c.if-contains.false)
    (sym c.contains-2.ensures ∙ c.if-contains-2.true) without))
    c.line-then-contains-2.ensures

pub returns : goal.returns
returns c hs e frame with_tag without =
    let a = c.args in
    subst (HasLine a.received.now a.number frame hs e) (sym c.new.ensures.bytes)
    (passed (sym c.contains.ensures ∙ c.if-contains.false) (sym c.contains-2.ensures ∙ c.if-contains-2.false))
