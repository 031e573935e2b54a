-- What one walk gathers for the columns of a row: for the contracts of private functions.
use Rattle.std.specs.Prelude.{◌≡◌, ℕ, List, [], ◌∷◌, ◌++◌, length, drop, map, Bool, true, false, nat_eq, nat_lt, ◌-◌, Option}
use Rattle.std.specs.List.{flat_map}
use Rattle.ether_pcap.specs.Capture.{PacketValue}
use Rattle.ether_pcap.specs.CaptureViews.{captured_packet_view}
use Rattle.ether_content.specs.Content.{content_of}
use Rattle.ether_output.specs.OutputBuffer.{Takes}
use Rattle.ether_output.specs.declared.output_buffer.OutputBuffer.{OutputBuffer}
use Rattle.ether_format.specs.declared.column.Column.{Column as DeclaredColumn}
use Rattle.ether_format.specs.declared.end.End.{End}
use Rattle.ether_format.specs.declared.moment.Moment.{Moment}
use Rattle.ether_format.specs.declared.found.Found.{Found}
use Rattle.ether_format.specs.declared.gathered.Gatherer.{Gatherer}
use Rattle.ether_format.specs.declared.row.RowPacket.{RowPacket}
use Rattle.ether_format.specs.declared.row.LaterValues.{LaterValues}
use Rattle.ether_format.specs.Found.{found_told}
use Rattle.ether_format.specs.GatheredSections.{added_to, new_gatherer}
use Rattle.ether_format.specs.Members.{Value}
use Rattle.ether_format.specs.Calendar.{AreMoments}
use Rattle.ether_format.specs.Columns.{ColumnValue, column_text, column_view, row_text, sections as sections_told}
use Rattle.ether_format.specs.Told.{Told, Tells, told_section}
use Rattle.ether_format.specs.Values.{column_on, header_shown, still_first}
use Rattle.ether_format.specs.Visits.{Visited}
use Rattle.ether_format.specs.Origins.{OriginValue, origin_view}

-- ---- what is gathered

-- one of four headers at most is kept, and of another one its section
abbrev pub GathersIf : (full : Bool) → Gatherer → List Found → Told → Gatherer → List Found → Type 0
GathersIf true old found told new kept =
    (new ≡ record { has_later = true; later = added_to old.later (told_section told) }) × (kept ≡ found)
GathersIf false old found told new kept =
    (new ≡ old) × ((f : Found) × (found_told f ≡ told) × (kept ≡ found ++ (f ∷ [])))

abbrev pub Gathers : Gatherer → List Found → Told → Gatherer → List Found → Type 0
Gathers old found told new kept = GathersIf (nat_eq (length found) 4) old found told new kept

-- the headers of a packet were gathered from the first on
abbrev pub AreGathered : RowPacket → List Found → Gatherer → Type 0
AreGathered row found g =
    let p = captured_packet_view row.packet.now in
    (told : List Told) × (end : End) × (accepted : Bool)
    × Tells row.limit (length p.packet) (content_of p) told end accepted
    × Visited Gathers new_gatherer [] told g found

-- the walk through them ends so
abbrev pub HasEnd : RowPacket → End → Type 0
HasEnd row end =
    let p = captured_packet_view row.packet.now in
    (told : List Told) × (accepted : Bool) × Tells row.limit (length p.packet) (content_of p) told end accepted

-- ---- what is written

-- the values of a column in headers
abbrev pub shown_values : ColumnValue → List Told → List Value
shown_values c told = flat_map (header_shown c) told

-- a claim on what a packet tells, whichever its moment is
abbrev pub OnTold : RowPacket → (OriginValue → PacketValue → Option Moment → List Told → End → Type 0) → Type 0
OnTold row claim =
    let p = captured_packet_view row.packet.now in
    (moment : Option Moment) (told : List Told) (end : End) (accepted : Bool) → AreMoments p.time moment
    → Tells row.limit (length p.packet) (content_of p) told end accepted
    → claim (origin_view row.origin.now) p moment told end

abbrev pub TakesColumn : {W : Type 0} → (contents : W → Option (List ℕ)) → (can_fail : Type 0) → DeclaredColumn
    → RowPacket → (old new : OutputBuffer W) → Type 0
TakesColumn contents can_fail c row old new =
    OnTold row
    (λ origin p moment told end.
    Takes contents can_fail old (column_text (column_view c) (sections_told origin p moment told end)) new)

abbrev pub TakesRow : {W : Type 0} → (contents : W → Option (List ℕ)) → (can_fail : Type 0) → List ColumnValue
    → RowPacket → (old new : OutputBuffer W) → Type 0
TakesRow contents can_fail columns row old new =
    OnTold row
    (λ origin p moment told end.
    Takes contents can_fail old (row_text columns (sections_told origin p moment told end)) new)

abbrev pub TakesAll : {W : Type 0} → (contents : W → Option (List ℕ)) → (can_fail : Type 0) → DeclaredColumn
    → RowPacket → (old new : OutputBuffer W) → Type 0
TakesAll contents can_fail c row old new =
    OnTold row
    (λ origin p moment told end.
    Takes contents can_fail old (column_on true (shown_values (column_view c) told)) new)

-- the values in these headers are written, and whether the next value is the first is returned
abbrev pub TakesInHeaders : {W : Type 0} → (contents : W → Option (List ℕ)) → (can_fail : Type 0) → DeclaredColumn
    → List Found → (old : OutputBuffer W) → (is_first : Bool) → (new : OutputBuffer W) → Type 0
TakesInHeaders contents can_fail c headers old is_first new =
    let values = shown_values (column_view c) (map found_told headers) in
    Takes contents can_fail old (column_on true values) new × (is_first ≡ still_first true values)

-- .. in the headers after the first four
abbrev pub TakesLater : {W : Type 0} → (contents : W → Option (List ℕ)) → (can_fail : Type 0) → DeclaredColumn
    → (is_first : Bool) → RowPacket → (old new : OutputBuffer W) → Type 0
TakesLater contents can_fail c is_first row old new =
    OnTold row
    (λ origin p moment told end.
    Takes contents can_fail old (column_on is_first (shown_values (column_view c) (drop 4 told))) new)

-- .. in a header, unless it is one of those that are left out
abbrev pub TakesLaterIf : (left_out : Bool) → {W : Type 0} → (contents : W → Option (List ℕ)) → (can_fail : Type 0)
    → LaterValues → OutputBuffer W → Told → LaterValues → OutputBuffer W → Type 0
TakesLaterIf true contents can_fail old out told new out_new =
    (new ≡ record old { before = old.before - 1 }) × (out_new ≡ out)
TakesLaterIf false contents can_fail old out told new out_new =
    let values = header_shown (column_view old.column) told in
    (new ≡ record old { is_first = still_first old.is_first values })
    × Takes contents can_fail out (column_on old.is_first values) out_new

abbrev pub TakesLaterValue : {W : Type 0} → (contents : W → Option (List ℕ)) → (can_fail : Type 0) → LaterValues
    → OutputBuffer W → Told → LaterValues → OutputBuffer W → Type 0
TakesLaterValue contents can_fail old out told new out_new =
    TakesLaterIf (nat_lt 0 old.before) contents can_fail old out told new out_new
