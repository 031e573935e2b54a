use Rattle.std.proofs.Common.{length, ◌∙◌, arith}
use Rattle.std.specs.Prelude.{slice_range}
use Rattle.std.proofs.lemmas.Bool.{ne_eqb}
use Rattle.ether_filter.specs.declared.filter.TheConstants.{MAX_WORDS}
use Rattle.ether_filter.specs.Words.{Word, words_from}
use Rattle.ether_filter.specs.ExpressionReading.{state_of}
use Rattle.ether_filter.proofs.Room.{room_after}
use Rattle.ether_filter.proofs.TextLemmas.{word_read, word_refused}
use Rattle.ether_filter.proofs.filter.read.Goals as goal

pub returns-in-Err : goal.returns-in-Err
returns-in-Err c =
    let text = c.args.text.now in
    let span = c.in-Some.word in
    let word : Word = record { at = span.start; bytes = slice_range text span.start span.end } in
    let is = rw c.token_of.ensures at c.in-Err.ensures in
    let here = c.loop-word in
    here.invariant.3
    ∙ word_refused (state_of here.reading) here.count (length text) word (words_from text here.at)
    (words_from text span.end) c.in-Err.kind c.in-Some.ensures.some.words
    (ne_eqb here.count MAX_WORDS c.if-count-eq-MAX_WORDS.false) is

pub loop-word-smaller : goal.loop-word-smaller
loop-word-smaller c = let next = c.in-Some.ensures.some in omega (arith, next.nonempty, next.after, next.inside)

pub loop-word-preserved : goal.loop-word-preserved
loop-word-preserved c =
    let text = c.args.text.now in
    let span = c.in-Some.word in
    let word : Word = record { at = span.start; bytes = slice_range text span.start span.end } in
    let is = rw c.token_of.ensures at c.in-Ok.ensures in
    let here = c.loop-word in
    let room = room_after (state_of here.reading) (state_of c.take.new.self) c.token_of.result c.in-Ok.ensures in (
      c.in-Some.ensures.some.inside,
      omega (arith, here.invariant.1, room),
      omega (arith, here.invariant.2, c.if-count-eq-MAX_WORDS.false),
      here.invariant.3 ∙ word_read (state_of here.reading) (state_of c.take.new.self) here.count (length text) word
          (words_from text here.at) (words_from text span.end) c.in-Some.ensures.some.words
          (ne_eqb here.count MAX_WORDS c.if-count-eq-MAX_WORDS.false) is,
    )
