use Rattle.std.proofs.Common.{◌≡◌, ℕ, ◌-◌, get_or, subst, arith}
use Rattle.ether_make.proofs.ReadLemmas.{reads-last}
use Rattle.ether_make.proofs.program.read_line.Goals as goal
use Rattle.ether_make.proofs.program.read_line.Goals.{else-len-gt0-via-then-len-gt0+else-index-eq10, else-len-gt0-via-else-len-gt0}

pub returns-clause-line : goal.returns-clause-line
returns-clause-line g c =
    elim c.else-len-gt0.branch [
      | else-len-gt0-via-then-len-gt0+else-index-eq10 w ↦
          reads-last _ _ _ c.read_until.new.buf.items c.clear.ensures.items c.in_default.ensures.none_lost
          c.in_default.ensures.stops c.in_default.ensures.bytes c.in_default.ensures.rest w.index.result.now
          (λ some. subst (λ (n : ℕ). w.index.result.now ≡ get_or c.read_until.new.buf.items (n - 1) w.index.result.now)
          (omega (arith, c.len-len.ensures, c.read_until.new.buf.ok)) w.index.ensures) (λ some. w.if-index-eq10.false)
      | else-len-gt0-via-else-len-gt0 w ↦
          reads-last _ _ _ c.read_until.new.buf.items c.clear.ensures.items c.in_default.ensures.none_lost
          c.in_default.ensures.stops c.in_default.ensures.bytes c.in_default.ensures.rest 0
          (λ some. absurd (omega (arith, c.len-len.ensures, c.read_until.new.buf.ok, w.if-len-gt0.false)))
          (λ some. absurd (omega (arith, c.len-len.ensures, c.read_until.new.buf.ok, w.if-len-gt0.false)))
    ]
