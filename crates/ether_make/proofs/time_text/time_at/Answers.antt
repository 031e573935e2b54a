use Rattle.std.proofs.Common.{◌≡◌, Bool, true, false, ◌&&◌, true≢false, refl, sym, ◌∙◌}
use Rattle.ether_make.specs.Times.{are_digits, are_signs, is_date, is_time_of_day}
use Rattle.ether_make.proofs.time_text.time_at.Goals as goal

third : (a b c d : Bool) → ((a && b) && (c && d)) ≡ true → c ≡ true
third true true true d e = refl
third true true false d e = e
third true false c d e = absurd (true≢false (sym e))
third false b c d e = absurd (true≢false (sym e))

pub seconds_of-requires-clause-date : goal.seconds_of-requires-clause-date
seconds_of-requires-clause-date c =
    let text = c.args.text.now in
    third (are_digits text) (are_signs text) (is_date text) (is_time_of_day text)
    (sym c.is_moment.ensures ∙ c.if-not-is_moment.false)
