use Rattle.std.proofs.Common.{ap, arith, refl, subst, sym, ◌∙◌, ◌≡◌, ◌+◌, length}
use Rattle.ether_filter.specs.Jumps.{ArePassed}
use Rattle.ether_filter.proofs.ProgramLemmas.{instructed}
use Rattle.ether_filter.proofs.filter_program.instructions_of.Goals as goal

pub loop-at-preserved : goal.loop-at-preserved
loop-at-preserved c = (
  c.push.ensures.len ∙ ap (λ n. n + 1) c.loop-at.invariant.0,
  omega (arith, c.loop-at-test.true),
  instructed c.args.nodes.now c.jumps_of-jumps.result c.past_tags-past_tags.result c.loop-at.instructions.items
      c.push.new.self.items c.loop-at.at _ _ c.of.result c.loop-at.invariant.0 c.loop-at-test.true refl
      c.push.ensures.items
      c.of.ensures c.loop-at.invariant.2,
)

pub returns : goal.returns
returns c x is =
    let all : c.loop-at.at ≡ length c.args.nodes.now = omega (arith, c.loop-at-test.false, c.loop-at.invariant.1) in
    let count = c.loop-at.invariant.0 ∙ all in
    record {
      jumps = c.jumps_of-jumps.result;
      past = c.past_tags-past_tags.result;
      are_jumps = c.jumps_of-jumps.ensures x is;
      are_passed =
          subst (λ ns. ArePassed ns c.jumps_of-jumps.result c.past_tags-past_tags.result) is
          c.past_tags-past_tags.ensures;
      few = omega (arith, count, c.requires);
      count = count ∙ ap length is;
      each = λ i lt d e. rw (sym is) (c.loop-at.invariant.2 i (omega (arith, lt, c.loop-at.invariant.0)) d e);
    }
