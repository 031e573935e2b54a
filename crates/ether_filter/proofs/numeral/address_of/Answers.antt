use Rattle.std.proofs.Common.{length, refl, sym, ◌∙◌, arith}
use Rattle.std.specs.Prelude.{map, slice_index}
use Rattle.std.proofs.lemmas.Bool.{ne_eqb}
use Rattle.ether_filter.specs.Numerals.{digit_places}
use Rattle.ether_filter.proofs.NumeralLemmas.{address_read, address_of_twelve}
use Rattle.ether_filter.proofs.numeral.address_of.Goals as goal

pub returns-then-word-eq12 : goal.returns-then-word-eq12
returns-then-word-eq12 c =
    c.narrowed.ensures
    ∙ address_read c.args.word.now c.digits_of.result (omega (arith, c.if-word-eq12.true)) c.digits_of.ensures
    ∙ sym (address_of_twelve c.args.word.now c.if-word-eq12.true)

pub returns-then-word-ne17 : goal.returns-then-word-ne17
returns-then-word-ne17 c =
    rw (ne_eqb (length c.args.word.now) 12 c.if-word-eq12.false, ne_eqb (length c.args.word.now) 17 c.if-word-ne17.true)
    refl

pub returns-then-not-has_colons : goal.returns-then-not-has_colons
returns-then-not-has_colons c =
    rw (
      ne_eqb (length c.args.word.now) 12 c.if-word-eq12.false,
      c.if-word-ne17.false,
      sym c.has_colons.ensures ∙ c.if-not-has_colons.true,
    ) refl

pub returns : goal.returns
returns c =
    rw (
      ne_eqb (length c.args.word.now) 12 c.if-word-eq12.false,
      c.if-word-ne17.false,
      sym c.has_colons.ensures ∙ c.if-not-has_colons.false,
    )
    (c.narrowed-2.ensures
    ∙ address_read (map (slice_index c.args.word.now) digit_places) c.digits_of-2.result (omega arith)
    c.digits_of-2.ensures)
