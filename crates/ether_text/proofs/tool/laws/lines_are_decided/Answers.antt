use Rattle.ether_text.proofs.tool.ParseFrameLemmas.{frame_decided, frame_or_bad, one_frame}
use Rattle.ether_text.proofs.tool.laws.lines_are_decided.Goals as goal

pub returns : goal.returns
returns c =
    λ line. record { one_of_them = frame_decided line; never_both = frame_or_bad line; one_frame = one_frame line }
