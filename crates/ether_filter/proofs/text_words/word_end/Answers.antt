use Rattle.std.proofs.Common.{sym, ◌∙◌}
use Rattle.ether_filter.proofs.WordsLemmas.{grows_next, grown_before, grown_to_end}
use Rattle.ether_filter.proofs.text_words.word_end.Goals as goal

pub loop-end-preserved : goal.loop-end-preserved
loop-end-preserved c =
    let joined = sym c.are_joined.ensures ∙ c.if-are_joined.true in
    grows_next c.args.text.now c.args.start c.loop-end.end c.loop-end-test.true c.loop-end.invariant
    (rw (c.class_of.ensures, c.class_of-in-loop-end.ensures) at joined)

pub returns-else-are_joined-clause-word : goal.returns-else-are_joined-clause-word
returns-else-are_joined-clause-word c =
    let apart = sym c.are_joined.ensures ∙ c.if-are_joined.false in
    grown_before c.args.text.now c.args.start c.loop-end.end c.loop-end.invariant c.loop-end-test.true
    (rw (c.class_of.ensures, c.class_of-in-loop-end.ensures) at apart)

pub returns-after-loop-end-clause-word : goal.returns-after-loop-end-clause-word
returns-after-loop-end-clause-word c = grown_to_end c.args.text.now c.args.start c.loop-end.end c.loop-end.invariant
    c.loop-end-test.false
