-- Laws on lines of JSON.
use Rattle.std.specs.Prelude.{◌≡◌, ℕ, ◌≤◌, List, length, ◌++◌, codes, Bool, Option, Some, IsUtf8, All}
use Rattle.json.specs.Json.{Json, document}
use Rattle.serde_json.specs.Data.{Data}
use Rattle.serde_json.specs.Read.{read}
use Rattle.ether_pcap.specs.Capture.{PacketValue}
use Rattle.ether_content.specs.Content.{content_of}
use Rattle.ether_format.specs.Origins.{OriginValue}
use Rattle.ether_format.specs.declared.end.End.{End}
use Rattle.ether_format.specs.declared.format.Format.TheVariants.{Json as JsonFormat, JsonBytes}
use Rattle.ether_format.specs.declared.moment.Moment.{Moment}
use Rattle.ether_format.specs.Calendar.{AreMoments}
use Rattle.ether_format.specs.Texts.{HasText}
use Rattle.ether_format.specs.Told.{Told, Tells}
use Rattle.ether_make.specs.PacketJson.{FitsPacket, packet_json, exact_json}
use Rattle.ether_make.specs.PacketData.{packet_data, exact_data}

-- A line is a JSON text (RFC 8259) with this value: it is UTF-8 (8.1), and has no control character.
pub record IsJsonOf (line : List ℕ) (j : Json) : Type 0 where
  pub utf8 : IsUtf8 line
  pub printed : All (λ b. 32 ≤ b) line
  pub value : document line ≡ Some j

-- A text is a JSON text and a line feed. The value of the JSON text is what a packet tells, and the kit's reader reads
-- it.
pub record IsPacketLine (json : OriginValue → PacketValue → Option Moment → List Told → End → Json)
    (read_as : OriginValue → PacketValue → Option Moment → List Told → End → Data) (limit : Option ℕ)
    (origin : OriginValue) (p : PacketValue) (text : List ℕ) (accepted : Bool) : Type
    0 where
  pub line : List ℕ
  pub moment : Option Moment
  pub headers : List Told
  pub end : End
  pub is_line : text ≡ line ++ codes "\n"
  pub is_moment : AreMoments p.time moment
  pub tells : Tells limit (length p.packet) (content_of p) headers end accepted
  pub is_json : IsJsonOf line (json origin p moment headers end)
  pub is_read : read line ≡ Some (read_as origin p moment headers end)

-- A packet's text in the format `Json` or `JsonBytes` is a JSON text and a line feed; its one value is what the packet
-- tells.
pub record LinesAreJson : Type 0 where
  pub line : (limit : Option ℕ) (origin : OriginValue) (p : PacketValue) (text : List ℕ) (accepted : Bool)
      → FitsPacket origin p → HasText JsonFormat limit origin p text accepted
      → IsPacketLine packet_json packet_data limit origin p text accepted
  pub exact : (limit : Option ℕ) (origin : OriginValue) (p : PacketValue) (text : List ℕ) (accepted : Bool)
      → FitsPacket origin p → HasText JsonBytes limit origin p text accepted
      → IsPacketLine exact_json exact_data limit origin p text accepted
  pub one : (line : List ℕ) (j k : Json) → IsJsonOf line j → IsJsonOf line k → j ≡ k
