use Rattle.std.proofs.Common.{◌≡◌, ◌-◌, Bool, Err, length, arith, ap, sym, ◌∙◌, take, drop, if◌then◌else◌}
use Rattle.std.proofs.lemmas.Bool.{le-ltb}
use Rattle.std.proofs.lemmas.List.{length-drop, take_all}
use Rattle.ether_make.specs.declared.refusal.Reason.TheVariants.{NotATime}
use Rattle.ether_make.specs.Times.{decimals_in, time_at}
use Rattle.ether_make.proofs.time_text.time_of.Goals as goal

pub returns : goal.returns
returns c =
    let text = c.args.text.now in
    let long = le-ltb (length text) 20 (omega (arith, c.if-text-lt20.false)) in
    let rest : take (length text - 19) (drop 19 text) ≡ drop 19 text =
    take_all (length text - 19) (drop 19 text) (omega (arith, length-drop 19 text)) in
    c.time_at.ensures
    ∙ ap (time_at (take 19 text)) c.decimals_of.ensures
    ∙ ap (λ l. time_at (take 19 text) (decimals_in l)) rest
    ∙ sym (ap (λ (b : Bool). if b then Err NotATime else time_at (take 19 text) (decimals_in (drop 19 text))) long)
