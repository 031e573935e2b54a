-- Laws on the text of packets.
use Rattle.std.specs.Prelude.{◌≡◌, ℕ, List, Bool, Option, map}
use Rattle.ether_pcap.specs.Capture.{PacketValue, TimeValue}
use Rattle.ether_format.specs.declared.format.Format.{Format}
use Rattle.ether_format.specs.declared.moment.Moment.{Moment}
use Rattle.ether_fields.specs.Fields.{column_names, member_names, section_rows}
use Rattle.ether_fields.specs.Rows.{frame_rows}
use Rattle.ether_fields.specs.declared.section.Section.TheVariants.{Frame}
use Rattle.ether_format.specs.declared.end.End.{End}
use Rattle.ether_format.specs.Calendar.{IsMoment}
use Rattle.ether_format.specs.Members.{members, packet_columns, packet_members}
use Rattle.ether_format.specs.Told.{Told, end_members, end_section, told_members, told_section}
use Rattle.ether_format.specs.Texts.{HasText}
use Rattle.ether_format.specs.Origins.{OriginValue}

-- A time is one moment at most, and a packet has one text.
pub record TextsAreOne : Type 0 where
  pub moment : (t : TimeValue) (m n : Moment) → IsMoment t m → IsMoment t n → m ≡ n
  pub text : (format : Format) (limit : Option ℕ) (origin : OriginValue) (p : PacketValue) (text other : List ℕ)
      (accepted also : Bool)
      → HasText format limit origin p text accepted → HasText format limit origin p other also → (text ≡ other)
      × (accepted ≡ also)

-- The members of a packet, of a header and of the end of a walk have the names of the members of their section; and so
-- have the values of columns those of its columns, which headers and ends have no others of.
pub record ColumnsAreMembers : Type 0 where
  pub packet : (origin : OriginValue) (p : PacketValue) (moment : Option Moment)
      → map (λ m. m.name) (packet_members origin p moment) ≡ member_names (section_rows Frame)
  pub packet_column : (origin : OriginValue) (p : PacketValue) (moment : Option Moment)
      → map (λ m. m.name) (members frame_rows (packet_columns origin p moment)) ≡ column_names (section_rows Frame)
  pub header : (h : Told) → map (λ m. m.name) (told_members h) ≡ member_names (section_rows (told_section h))
  pub end : (end : End) → map (λ m. m.name) (end_members end) ≡ member_names (section_rows (end_section end))
  pub header_column : (h : Told)
      → map (λ m. m.name) (told_members h) ≡ column_names (section_rows (told_section h))
  pub end_column : (end : End) → map (λ m. m.name) (end_members end) ≡ column_names (section_rows (end_section end))
