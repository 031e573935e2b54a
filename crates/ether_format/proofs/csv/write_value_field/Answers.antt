use Rattle.std.proofs.Common.{Bor, List, ℕ, ap, sym, ◌∙◌}
use Rattle.std.specs.Prelude.{Option}
use Rattle.std.specs.Option.{option_map}
use Rattle.ether_output.proofs.OutputBufferLemmas.{Takes-same}
use Rattle.ether_format.specs.Values.{value_view}
use Rattle.ether_format.proofs.PlainLemmas.{other_field, text_field}
use Rattle.ether_format.proofs.csv.write_value_field.Goals as goal

abbrev text_of : Option (Bor (List ℕ)) → Option (List ℕ)
text_of text = option_map (λ t. t.now) text

pub returns-in-Some : goal.returns-in-Some
returns-in-Some g c =
    Takes-same
    (text_field (value_view c.args.value.now) c.in-Some.text.now
    (sym c.text_of.ensures ∙ ap text_of c.in-Some.is))
    c.write_csv_text.ensures

pub returns-in-None : goal.returns-in-None
returns-in-None g c =
    Takes-same
    (other_field (value_view c.args.value.now) (sym c.text_of.ensures ∙ ap text_of c.in-None.is))
    c.write_column_value.ensures
