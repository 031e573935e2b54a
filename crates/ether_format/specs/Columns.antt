-- A packet as a row of columns.
use Rattle.std.specs.Prelude.{◌≡◌, ◌⊎◌, ◌≤◌, ◌==◌, ℕ, List, [], ◌∷◌, ◌++◌, codes, length, map, take, Option, Some, None, if◌then◌else◌, slice_index_or}
use Rattle.std.specs.List.{All, IsAmong, flat_map, join_by, slice_split}
use Rattle.std.specs.Str.{bytes_eq}
use Rattle.ether_pcap.specs.Capture.{PacketValue}
use Rattle.ether_format.specs.declared.moment.Moment.{Moment}
use Rattle.ether_fields.specs.Rows.{Row, frame_rows, place_rows}
use Rattle.ether_fields.specs.Fields.{column_names, section_name, section_rows}
use Rattle.ether_fields.specs.declared.section.Section.{Section as DeclaredSection}
use Rattle.ether_format.specs.declared.end.End.{End}
use Rattle.ether_format.specs.declared.column.Column.{Column as DeclaredColumn}
use Rattle.ether_format.specs.declared.columns.Columns.{Columns as DeclaredColumns}
use Rattle.ether_format.specs.Members.{Member, Value, members, packet_columns}
use Rattle.ether_format.specs.Told.{Told, end_members, end_section, told_members, told_place_values, told_section}
use Rattle.ether_format.specs.Spelling.{column_value}
use Rattle.ether_format.specs.Origins.{OriginValue}

-- ---- what a packet tells, in sections

pub record Section : Type 0 where
  pub name : List ℕ
  pub members : List Member

abbrev pub section : List ℕ → List Member → Section
section name members = record { name = name; members = members }

-- a header is a section with its own name; its name and place are also a section `headers`
abbrev pub header_sections : Told → List Section
header_sections h =
    section (section_name (told_section h)) (told_members h)
    ∷ section (codes "headers") (members place_rows (told_place_values h)) ∷ []

-- the packet, its headers, and how the walk through them ends
abbrev pub sections : OriginValue → PacketValue → Option Moment → List Told → End → List Section
sections origin p moment headers end =
    section (codes "frame") (members frame_rows (packet_columns origin p moment))
    ∷ (flat_map header_sections headers ++ (section (section_name (end_section end)) (end_members end) ∷ []))

-- ---- a column

-- the name of a section, and that of a field
pub record ColumnValue : Type 0 where
  pub section : List ℕ
  pub member : List ℕ

-- as `vlan.vid`
abbrev pub column_name : ColumnValue → List ℕ
column_name c = c.section ++ (codes "." ++ c.member)

abbrev pub values_named : List ℕ → List Member → List Value
values_named name [] = []
values_named name (m ∷ ms) = if bytes_eq m.name name then m.value ∷ values_named name ms else values_named name ms

abbrev pub values_in : ColumnValue → Section → List Value
values_in c s = if bytes_eq s.name c.section then values_named c.member s.members else []

-- their values, with a comma between two
abbrev pub column_text : ColumnValue → List Section → List ℕ
column_text c parts = join_by column_value (codes ",") (flat_map (values_in c) parts)

-- ---- a row: columns with a tab between two, and the line of their names

abbrev pub row_text : List ColumnValue → List Section → List ℕ
row_text columns parts = join_by (λ c. column_text c parts) (codes "\t") columns ++ codes "\n"

abbrev pub heading_text : List ColumnValue → List ℕ
heading_text columns = join_by column_name (codes "\t") columns ++ codes "\n"

-- ---- which columns there are

pub record IsColumn (c : ColumnValue) : Type 0 where
  pub of : DeclaredSection
  pub is_section : c.section ≡ section_name of
  pub is_field : IsAmong (column_names (section_rows of)) c.member

-- a text names these columns, at most 32, with a comma (44) between two
pub record AreColumns (text : List ℕ) (columns : List ColumnValue) : Type 0 where
  pub names : slice_split (λ b. b == 44) text ≡ map column_name columns
  pub known : All IsColumn columns
  pub most : length columns ≤ 32

-- a column has this name
abbrev pub NamesColumn : (name : List ℕ) → Type 0
NamesColumn name = (c : ColumnValue) × IsColumn c × (column_name c ≡ name)

-- the first of these names that no column has, if there is one
abbrev pub IsUnknownIn : (names : List (List ℕ)) → (unknown : Option (List ℕ)) → Type 0
IsUnknownIn [] unknown = unknown ≡ None
IsUnknownIn (name ∷ names) unknown =
    ((¬ (NamesColumn name)) × (unknown ≡ Some name)) ⊎ (NamesColumn name × IsUnknownIn names unknown)

-- the length that a packet had (snap lengths aside)
abbrev pub original_column : ColumnValue
original_column = record { section = codes "frame"; member = codes "original" }

-- the columns that a summary counts if none are named
abbrev pub common_columns : List ColumnValue
common_columns =
    record { section = codes "headers"; member = codes "header" }
    ∷ record { section = codes "vlan"; member = codes "vid" }
    ∷ record { section = codes "eth"; member = codes "type" } ∷ record { section = codes "vlan"; member = codes "type" }
    ∷ record { section = codes "rest"; member = codes "type" }
    ∷ record { section = codes "fault"; member = codes "kind" }
    ∷ record { section = codes "arp"; member = codes "sha" } ∷ record { section = codes "arp"; member = codes "spa" }
    ∷ []

-- ---- columns as they are declared

-- the name of the row at an index
abbrev pub name_at : List Row → ℕ → List ℕ
name_at rows n = slice_index_or (map (λ r. r.name) rows) n []

abbrev pub column_view : DeclaredColumn → ColumnValue
column_view c = record { section = section_name c.section; member = name_at (section_rows c.section) c.index }

abbrev pub columns_view : DeclaredColumns → List ColumnValue
columns_view c = column_view c.first ∷ map column_view (take c.count c.others)
