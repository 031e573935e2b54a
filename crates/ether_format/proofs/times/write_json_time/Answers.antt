use Rattle.std.proofs.Common.{Option, ap, sym, ◌∙◌}
use Rattle.std.specs.Option.{option_map}
use Rattle.ether_output.proofs.OutputBufferLemmas.{Takes-same}
use Rattle.ether_pcap.specs.CaptureViews.{timestamp_view}
use Rattle.ether_format.specs.declared.moment.Moment.{Moment}
use Rattle.ether_format.specs.Members.{Time, if_some}
use Rattle.ether_format.specs.Spelling.{json_value}
use Rattle.ether_format.proofs.OneText.{one_time}
use Rattle.ether_format.proofs.times.write_json_time.Goals as goal

pub returns-in-Some : goal.returns-in-Some
returns-in-Some g c moment is =
    Takes-same
    (ap (λ (m : Option Moment). json_value (if_some Time m))
    (sym c.in-Some.is
    ∙ one_time (option_map timestamp_view c.args.time) c.moment_if.result moment c.moment_if.ensures is))
    c.write_json_moment.ensures
