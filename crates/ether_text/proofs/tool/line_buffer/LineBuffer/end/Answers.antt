use Rattle.std.proofs.Common.{◌≡◌, ℕ, List, [], ◌++◌, take, ap, sym, ◌∙◌, subst, IfNone, IfSome}
use Rattle.ether_text.specs.Tool.Frame.{IsBadLine, IsFrame}
use Rattle.ether_text.specs.Tool.LineBuffer.{KeepsLine, without_end}
use Rattle.ether_text.proofs.tool.ParseFrameLemmas.{none_is}
use Rattle.ether_text.proofs.tool.InputLinesLemmas.{no_byte}
use Rattle.ether_text.proofs.tool.line_buffer.LineBuffer.end.Goals as goal

pub returns-then-is_empty : goal.returns-then-is_empty
returns-then-is_empty c = record {
  within = c.frame_of.ensures.within;
  frame =
      λ line kept.
      subst (λ (l : List ℕ). IfSome c.frame_of.result (λ len. IsFrame l (take len c.frame_of.new.out)))
      (same line kept) c.frame_of.ensures.frame;
  bad =
      λ line kept.
      subst (λ (l : List ℕ). IfNone c.frame_of.result (IsBadLine l)) (same line kept)
      (none_is _ _ c.frame_of.ensures.bad);
  next = λ line kept. subst (KeepsLine c.args.self.now) (empty line kept) kept;
}
  where
    empty : (line : List ℕ) → KeepsLine c.args.self.now line → line ≡ []
    empty line kept = no_byte line (sym (c.is_empty.ensures line kept) ∙ c.if-is_empty.true)

    same : (line : List ℕ) → KeepsLine c.args.self.now line
        → c.without_end.result.now ≡ without_end c.args.end (line ++ c.args.piece.now)
    same line kept =
        c.without_end.ensures
        ∙ ap (λ (l : List ℕ). without_end c.args.end (l ++ c.args.piece.now)) (sym (empty line kept))

pub returns : goal.returns
returns c = record {
  within = c.frame-len.ensures.within;
  frame = λ line kept. c.frame-len.ensures.frame (line ++ c.args.piece.now) (c.extend.ensures line kept);
  bad = λ line kept. c.frame-len.ensures.bad (line ++ c.args.piece.now) (c.extend.ensures line kept);
  next = λ line kept. c.clear.ensures;
}
