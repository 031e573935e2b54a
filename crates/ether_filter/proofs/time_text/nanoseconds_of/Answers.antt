use Rattle.std.proofs.Common.{◌≡◌, ◌-◌, Bool, length, arith, ap, sym, ◌∙◌, take, drop}
use Rattle.std.specs.Prelude.{None, if◌then◌else◌}
use Rattle.std.proofs.lemmas.Bool.{le-ltb}
use Rattle.std.proofs.lemmas.List.{length-drop, take_all}
use Rattle.ether_filter.specs.TimeTexts.{decimals_in, nanoseconds_with, seconds_in}
use Rattle.ether_filter.proofs.time_text.nanoseconds_of.Goals as goal

pub returns : goal.returns
returns c =
    let text = c.args.text.now in
    let long = le-ltb (length text) 20 (omega (arith, c.if-text-lt20.false)) in
    let rest : take (length text - 19) (drop 19 text) ≡ drop 19 text =
    take_all (length text - 19) (drop 19 text) (omega (arith, length-drop 19 text)) in
    c.nanoseconds_with.ensures
    ∙ (λ i. nanoseconds_with (c.seconds_of.ensures.value i) (c.decimals_of.ensures.value i))
    ∙ ap (λ l. nanoseconds_with (seconds_in (take 19 text)) (decimals_in l)) rest
    ∙ sym (ap (λ (b : Bool). if b then None else nanoseconds_with (seconds_in (take 19 text)) (decimals_in (drop 19
    text)))
    long)
