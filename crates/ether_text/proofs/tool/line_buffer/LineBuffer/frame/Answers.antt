use Rattle.std.proofs.Common.{ℕ, List, ap, ◌∙◌, subst, IfNone}
use Rattle.ether_text.specs.Tool.Frame.{IsBadLine}
use Rattle.ether_text.specs.Tool.LineBuffer.{without_end}
use Rattle.ether_text.proofs.tool.ParseFrameLemmas.{none_is}
use Rattle.ether_text.proofs.tool.line_buffer.LineBuffer.frame.Goals as goal

pub returns-clause-bad : goal.returns-clause-bad
returns-clause-bad c = λ line kept.
    let same =
    c.without_end.ensures ∙ ap (without_end c.args.end) (c.as_slice.ensures.value ∙ kept.short c.if-self.false) in
    subst (λ (l : List ℕ). IfNone c.frame_of.result (IsBadLine l)) same (none_is _ _ c.frame_of.ensures.bad)
