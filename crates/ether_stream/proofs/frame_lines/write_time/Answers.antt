use Rattle.std.proofs.Common.{Option, ℕ, List, ◌++◌, codes, sym, ap, ◌∙◌}
use Rattle.std.specs.Option.{option_map}
use Rattle.ether_pcap.specs.CaptureViews.{timestamp_view}
use Rattle.ether_pcap.specs.declared.capture.timestamp.Timestamp.{Timestamp}
use Rattle.ether_output.proofs.OutputBufferLemmas.{Takes-same}
use Rattle.ether_stream.specs.FrameLines.{time_text}
use Rattle.ether_stream.proofs.frame_lines.write_time.Goals as goal

abbrev between_words : Option Timestamp → List ℕ
between_words t = codes " time " ++ (time_text (option_map timestamp_view t) ++ codes " link ")

pub returns-in-Some : goal.returns-in-Some
returns-in-Some g c = Takes-same (c.recent_time.ensures ∙ ap between_words (sym c.in-Some.is)) c.append_array.ensures

pub returns-in-None : goal.returns-in-None
unfolding time_text
returns-in-None g c = Takes-same (ap between_words (sym c.in-None.is)) c.append.ensures
