use Rattle.std.proofs.Common.{Option, option_map, Bor, ap, sym, ◌∙◌}
use Rattle.serde_json.specs.View.{view}
use Rattle.serde_json.specs.declared.value.Value.{Value}
use Rattle.ether_make.specs.Times.{text_time, time, time_in}
use Rattle.ether_make.proofs.time_text.given_time.Goals as goal

pub returns-in-Some-as_str : goal.returns-in-Some-as_str
returns-in-Some-as_str c =
    c.time_of.ensures ∙ ap time_in c.as_bytes.ensures.value ∙ ap text_time c.in-Some-as_str.ensures
    ∙ ap (λ (o : Option (Bor Value)). time (option_map (λ v. view v.now) o)) (sym c.in-Some.is)
