use Rattle.std.proofs.Common.{◌≡◌, ap, ◌∙◌, sym, arith}
use Rattle.ether_peel.specs.Grammar.Stack.{Ending, last_window}
use Rattle.ether_peel.specs.declared.walk_summary.Summary.{Summary}
use Rattle.ether_peel.proofs.writing_back.written.Goals as goal

pub write_walk-requires : goal.write_walk-requires
write_walk-requires c = λ hs e walk.
    let found = c.summarized-required_len.ensures in
    let one = found.one hs e walk in
    let end : (last_window e).finish ≡ c.summarized-required_len.result.rest_end =
    ap (λ (f : Ending). (last_window f).finish) one.1 ∙ sym (ap (λ (s : Summary). s.rest_end) found.is) in
    omega (arith, c.if-len-required_len.false)
