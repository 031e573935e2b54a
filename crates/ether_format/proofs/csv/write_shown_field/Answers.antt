use Rattle.std.proofs.Common.{◌≡◌, ◌∙◌, ℕ, List, ap, refl, sym}
use Rattle.std.specs.Prelude.{Option, Some, None}
use Rattle.ether_output.proofs.OutputBufferLemmas.{Takes-same}
use Rattle.ether_format.specs.declared.moment.Moment.{Moment}
use Rattle.ether_format.specs.declared.interval.Interval.{Interval}
use Rattle.ether_format.specs.declared.value.Shown.{Shown}
use Rattle.ether_format.specs.Counted.{text_in}
use Rattle.ether_format.specs.Csv.{csv_field, csv_value}
use Rattle.ether_format.specs.Values.{shown_view}
use Rattle.ether_format.specs.Members.{Time, Within, if_some}
use Rattle.ether_format.proofs.PlainLemmas.{other_field}
use Rattle.ether_format.proofs.csv.write_shown_field.Goals as goal

no_time_text : (moment : Option Moment) → text_in (if_some Time moment) ≡ None
no_time_text None = refl
no_time_text (Some m) = refl

no_interval_text : (interval : Interval) (moment : Option Moment) → text_in (if_some (Within interval) moment) ≡ None
no_interval_text interval None = refl
no_interval_text interval (Some m) = refl

abbrev field : Option Moment → Shown → List ℕ
field moment s = csv_field (csv_value (shown_view moment s))

pub returns-in-Time : goal.returns-in-Time
returns-in-Time g c moment is =
    Takes-same
    (other_field (if_some Time moment) (no_time_text moment) ∙ ap (field moment) (sym c.in-Time.is))
    (c.write_time.ensures moment is)

pub returns-in-Within : goal.returns-in-Within
returns-in-Within g c moment is =
    let interval = c.in-Within.interval in
    Takes-same
    (other_field (if_some (Within interval) moment) (no_interval_text interval moment)
    ∙ ap (field moment) (sym c.in-Within.is))
    (c.write_time_interval.ensures moment is)
