-- The text of a captured packet in a format.
use Rattle.std.specs.Prelude.{◌≡◌, ℕ, length, List, [], Bool, Option}
use Rattle.ether_pcap.specs.Capture.{PacketValue}
use Rattle.ether_content.specs.Content.{content_of}
use Rattle.ether_format.specs.declared.moment.Moment.{Moment}
use Rattle.ether_format.specs.declared.format.Format.{Format}
use Rattle.ether_format.specs.declared.format.Format.TheVariants.{Json, JsonBytes, Brief, Fields, Csv}
use Rattle.ether_format.specs.Calendar.{AreMoments}
use Rattle.ether_format.specs.declared.end.End.{End}
use Rattle.ether_format.specs.Told.{Told, Tells}
use Rattle.ether_format.specs.Json.{json_line}
use Rattle.ether_format.specs.JsonBytes.{json_bytes_line}
use Rattle.ether_format.specs.Brief.{brief_line}
use Rattle.ether_format.specs.Columns.{columns_view, heading_text, row_text, sections}
use Rattle.ether_format.specs.Csv.{csv_heading, csv_row}
use Rattle.ether_format.specs.Origins.{OriginValue}

abbrev pub format_text : Format → OriginValue → PacketValue → Option Moment → List Told → End → List ℕ
format_text Json origin p moment headers end = json_line origin p moment headers end
format_text JsonBytes origin p moment headers end = json_bytes_line origin p moment headers end
format_text Brief origin p moment headers end = brief_line origin.number p moment headers end
format_text (Fields columns) origin p moment headers end =
    row_text (columns_view columns) (sections origin p moment headers end)
format_text (Csv columns) origin p moment headers end =
    csv_row (columns_view columns) (sections origin p moment headers end)

-- the line of the names of columns
abbrev pub format_heading : Format → List ℕ
format_heading Json = []
format_heading JsonBytes = []
format_heading Brief = []
format_heading (Fields columns) = heading_text (columns_view columns)
format_heading (Csv columns) = csv_heading (columns_view columns)

-- The text of a packet of this origin, of what it tells; and whether no header is refused.
pub record HasText (format : Format) (limit : Option ℕ) (origin : OriginValue) (p : PacketValue) (text : List ℕ)
    (accepted : Bool) : Type 0 where
  pub moment : Option Moment
  pub is_moment : AreMoments p.time moment
  pub headers : List Told
  pub end : End
  pub tells : Tells limit (length p.packet) (content_of p) headers end accepted
  pub is_text : text ≡ format_text format origin p moment headers end
