-- A line as it is written along a walk: for the contracts of private functions.
use Rattle.std.specs.Prelude.{◌≡◌, ℕ, List, [], ◌∷◌, ◌++◌, codes, length, Bool, false, Option}
use Rattle.ether_pcap.specs.Capture.{PacketValue}
use Rattle.ether_content.specs.Content.{content_of}
use Rattle.ether_output.specs.OutputBuffer.{Takes}
use Rattle.ether_output.specs.declared.output_buffer.OutputBuffer.{OutputBuffer}
use Rattle.ether_format.specs.declared.end.End.{End}
use Rattle.ether_format.specs.declared.line.Line.{Line}
use Rattle.ether_format.specs.declared.line.Line.TheVariants.{Json, Brief}
use Rattle.ether_format.specs.declared.moment.Moment.{Moment}
use Rattle.ether_format.specs.declared.line.LineHeaders.{LineHeaders}
use Rattle.ether_format.specs.Brief.{brief_cut, brief_end, brief_front, brief_line, brief_told}
use Rattle.ether_format.specs.Calendar.{AreMoments}
use Rattle.ether_format.specs.Json.{json_end, json_front, json_line, json_members, json_object}
use Rattle.ether_fields.specs.Fields.{section_name}
use Rattle.ether_format.specs.Spelling.{quoted}
use Rattle.ether_format.specs.Told.{Told, Tells, end_members, end_section, told_members}
use Rattle.ether_format.specs.Values.{comma_if}
use Rattle.ether_format.specs.Origins.{OriginValue}

-- ---- the parts of a line

abbrev pub front_text : Line → OriginValue → PacketValue → Option Moment → List ℕ
front_text Json origin p moment = json_front origin p moment
front_text Brief origin p moment = brief_front origin.number moment

-- a header, which is the first or not
abbrev pub header_text : Line → (first : Bool) → Told → List ℕ
header_text Json first h = comma_if first ++ json_object (told_members h)
header_text Brief first h = brief_told h

abbrev pub headers_text : Line → (first : Bool) → List Told → List ℕ
headers_text line first [] = []
headers_text line first (h ∷ hs) = header_text line first h ++ headers_text line false hs

abbrev pub end_text : Line → PacketValue → End → List ℕ
end_text Json p end = json_end end
end_text Brief p end = brief_end p end

abbrev pub tail_text : Line → PacketValue → List ℕ
tail_text Json p = []
tail_text Brief p = brief_cut p ++ codes "\n"

abbrev pub line_text : Line → OriginValue → PacketValue → Option Moment → List Told → End → List ℕ
line_text Json origin p moment headers end = json_line origin p moment headers end
line_text Brief origin p moment headers end = brief_line origin.number p moment headers end

-- the end of the list of headers, and the members of how the walk ends, in an object without its end
abbrev pub json_end_front : End → List ℕ
json_end_front end =
    codes "]," ++ (quoted (section_name (end_section end)) ++ (codes ":" ++ (codes "{" ++ json_members (end_members end))))

-- ---- what is written

-- a packet's line, at a moment
pub record HasLine (line : Line) (limit : Option ℕ) (origin : OriginValue) (p : PacketValue) (text : List ℕ)
    (accepted : Bool) : Type 0 where
  pub moment : Option Moment
  pub is_moment : AreMoments p.time moment
  pub headers : List Told
  pub end : End
  pub tells : Tells limit (length p.packet) (content_of p) headers end accepted
  pub is_text : text ≡ line_text line origin p moment headers end

-- what comes before the headers is written, at any moment of the packet
abbrev pub WritesLineFront : {W : Type 0} → (contents : W → Option (List ℕ)) → (can_fail : Type 0) → Line
    → OriginValue → PacketValue → (old new : OutputBuffer W) → Type 0
WritesLineFront contents can_fail line origin p old new =
    (moment : Option Moment) → AreMoments p.time moment
    → Takes contents can_fail old (front_text line origin p moment) new

-- a header is written
abbrev pub TakesHeader : {W : Type 0} → (contents : W → Option (List ℕ)) → (can_fail : Type 0) → LineHeaders
    → OutputBuffer W → Told → LineHeaders → OutputBuffer W → Type 0
TakesHeader contents can_fail old out told new out_new =
    (new ≡ record old { is_first = false })
    × Takes contents can_fail out (header_text old.line old.is_first told) out_new
