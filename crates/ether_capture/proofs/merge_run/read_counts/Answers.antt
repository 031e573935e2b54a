use Rattle.std.proofs.Common.{◌≡◌, ◌++◌, List, ℕ, ap, append-nil, arith, length-append, subst, take, ◌∙◌}
use Rattle.std.specs.Io.KnownBytes.{Consumes}
use Rattle.ether_capture.specs.Merges.{IsCut, StopsMerging}
use Rattle.std.proofs.lemmas.List.{length-take-le}
use Rattle.ether_output.proofs.KnownBytesLemmas.{Consumes-then}
use Rattle.ether_capture.proofs.MergerLemmas.{stops_at, stops_cut}
use Rattle.ether_capture.proofs.ResultLemmas.{err_is, then_err, then_ok}
use Rattle.ether_capture.proofs.merge_run.read_counts.Goals as goal

-- nothing more was read
no_more : (text chunk : List ℕ) (len : ℕ) → len ≡ 0 → text ++ take len chunk ≡ text
no_more text chunk len zero = ap (λ n. text ++ take n chunk) zero ∙ append-nil text

pub returns-then-len-eq0-clause-ok : goal.returns-then-len-eq0-clause-ok
returns-then-len-eq0-clause-ok g c =
    let so_far = c.loop.invariant in
    let chunk = c.read_some.new.chunk in
    then_ok c.finish.result
    (λ whole. record {
      text = so_far.0;
      read = subst
          (Consumes (g.R.Source.remaining c.args.reader.now) (g.R.Source.remaining c.read_some.new.self))
          (no_more so_far.0 chunk c.in_ok-len.len c.if-len-eq0.true)
          (Consumes-then _ _ _ so_far.0 (take c.in_ok-len.len chunk) so_far.1 c.in_ok-len.ensures.read);
      at_end = c.in_ok-len.ensures.end c.if-len-eq0.true (omega arith);
      merges = so_far.2;
      whole = whole;
    })
    (c.finish.ensures.whole so_far.0 so_far.2)

pub returns-then-len-eq0-clause-err : goal.returns-then-len-eq0-clause-err
returns-then-len-eq0-clause-err g c =
    let so_far = c.loop.invariant in
    let chunk = c.read_some.new.chunk in
    then_err (IsCut so_far.0)
    (StopsMerging g.R.Source.can_fail (g.R.Source.remaining c.args.reader.now)
    (g.R.Source.remaining c.read_some.new.self)) c.finish.result
    (λ fault cut. stops_cut g.R.Source.can_fail (g.R.Source.remaining c.args.reader.now)
    (g.R.Source.remaining c.read_some.new.self) so_far.0 fault
    (subst (Consumes (g.R.Source.remaining c.args.reader.now) (g.R.Source.remaining c.read_some.new.self))
    (no_more so_far.0 chunk c.in_ok-len.len c.if-len-eq0.true)
    (Consumes-then _ _ _ so_far.0 (take c.in_ok-len.len chunk) so_far.1 c.in_ok-len.ensures.read))
    (c.in_ok-len.ensures.end c.if-len-eq0.true (omega arith)) cut)
    (c.finish.ensures.cut so_far.0 so_far.2)

pub returns-in_err-take-clause-err : goal.returns-in_err-take-clause-err
returns-in_err-take-clause-err g c =
    let so_far = c.loop.invariant in
    let bytes = take c.in_ok-len.len c.read_some.new.chunk in
    err_is _ c.from_residual-in_err-take.result c.in_err-take.field-0.0 c.from_residual-in_err-take.ensures.1
    (stops_at g.R.Source.can_fail (g.R.Source.remaining c.args.reader.now) (g.R.Source.remaining c.read_some.new.self)
    (so_far.0 ++ bytes) c.in_err-take.field-0.0
    (Consumes-then _ _ _ so_far.0 bytes so_far.1 c.in_ok-len.ensures.read)
    (c.in_err-take.ensures.refused so_far.0 so_far.2))

pub loop-preserved : goal.loop-preserved
loop-preserved g c =
    let so_far = c.loop.invariant in
    let bytes = take c.in_ok-len.len c.read_some.new.chunk in
    let long = length-append so_far.0 bytes in
    let all = length-take-le c.in_ok-len.len c.read_some.new.chunk c.in_ok-len.ensures.bound in
    let some = c.if-len-eq0.false in
    let counter = so_far.3 in (
      so_far.0 ++ bytes,
      Consumes-then _ _ _ so_far.0 bytes so_far.1 c.in_ok-len.ensures.read,
      c.in_ok-take.ensures.taken so_far.0 so_far.2,
      omega (arith, long, all, some, counter),
    )
