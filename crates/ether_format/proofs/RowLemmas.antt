-- Columns that are written one after the other are a row.
use Rattle.std.proofs.Common.{◌≡◌, ℕ, zero, suc, ◌+◌, ◌-◌, ◌<◌, ◌≤◌, List, [], ◌∷◌, ◌++◌, length, drop, map, Bool, true, false, Option, refl, sym, ap, subst, ◌∙◌, append_assoc, append-nil, ltb-false, arith}
use Rattle.std.specs.Prelude.{codes, nat_lt, slice_index_or}
use Rattle.std.specs.List.{flat_map, join_by}
use Rattle.std.proofs.lemmas.List.Folds.{flat_map-map}
use Rattle.ether_pcap.specs.Capture.{PacketValue}
use Rattle.ether_pcap.specs.CaptureViews.{captured_packet_view}
use Rattle.ether_output.specs.OutputBuffer.{Takes}
use Rattle.ether_output.specs.declared.output_buffer.OutputBuffer.{OutputBuffer}
use Rattle.ether_output.proofs.OutputBufferLemmas.{Takes-none, Takes-same, Takes-then}
use Rattle.ether_fields.specs.declared.section.Section.{Section as HeaderSection}
use Rattle.ether_fields.specs.declared.section.Section.TheVariants as parts
use Rattle.ether_format.specs.declared.column.Column.{Column}
use Rattle.ether_format.specs.declared.end.End.{End}
use Rattle.ether_format.specs.declared.end.End.TheVariants as ends
use Rattle.ether_format.specs.declared.found.Found.{Found}
use Rattle.ether_format.specs.declared.moment.Moment.{Moment}
use Rattle.ether_format.specs.declared.row.LaterValues.{LaterValues}
use Rattle.ether_format.specs.declared.row.RowPacket.{RowPacket}
use Rattle.ether_format.specs.Columns.{ColumnValue, Section, column_text, column_view, header_sections, section, sections as sections_told, values_in}
use Rattle.ether_format.specs.Found.{found_told}
use Rattle.ether_format.specs.Gathered.{OnTold, TakesLaterIf, TakesLaterValue, shown_values}
use Rattle.ether_format.specs.Members.{Value, members, packet_columns}
use Rattle.ether_format.specs.Spelling.{column_value}
use Rattle.ether_format.specs.Told.{Told, Walked, CookedV2, end_members, end_section, end_values, told_members, told_place_values, told_section}
use Rattle.ether_format.specs.Values.{column_on, comma_if, end_shown, header_shown, is_end_section, if_any, still_first, value_at}
use Rattle.ether_format.specs.Visits.{Visited}
use Rattle.ether_fields.specs.Fields.{section_name}
use Rattle.ether_fields.specs.Rows.{frame_rows, place_rows}
use Rattle.etherparse.specs.Header as headers
use Rattle.ether_format.proofs.ColumnLemmas.{few_end_values, in_none, in_other, in_section}
use Rattle.ether_format.proofs.ListLemmas.{flat_map-append}
use Rattle.ether_format.proofs.Names.{true_false}
use Rattle.ether_format.specs.Origins.{OriginValue, origin_view}

-- ---- values one after the other

never : (vs : List Value) → still_first false vs ≡ false
never [] = refl
never (v ∷ vs) = refl

pub more : (first : Bool) (vs ws : List Value)
    → column_on first (vs ++ ws) ≡ column_on first vs ++ column_on (still_first first vs) ws
more first [] ws = refl
more first (v ∷ vs) ws =
    ap (λ t. comma_if first ++ (column_value v ++ t))
    (more false vs ws ∙ ap (λ (b : Bool). column_on false vs ++ column_on b ws) (never vs))
    ∙ ap (λ t. comma_if first ++ t) (sym (append_assoc (column_value v) (column_on false vs) (column_on false ws)))
    ∙ sym (append_assoc (comma_if first) (column_value v ++ column_on false vs) (column_on false ws))

pub still_more : (first : Bool) (vs ws : List Value)
    → still_first first (vs ++ ws) ≡ still_first (still_first first vs) ws
still_more first [] ws = refl
still_more first (v ∷ vs) [] = refl
still_more first (v ∷ vs) (w ∷ ws) = refl

joined : (vs : List Value) → column_on true vs ≡ join_by column_value (codes ",") vs
joined [] = refl
joined (v ∷ vs) = ap (λ t. column_value v ++ t) (after vs)
  where
    after : (ws : List Value) → column_on false ws ≡ flat_map (λ w. codes "," ++ column_value w) ws
    after [] = refl
    after (w ∷ ws) = ap (λ t. codes "," ++ (column_value w ++ t)) (after ws)
        ∙ sym (append_assoc (codes ",") (column_value w) _)

-- ---- the values of a column in all sections

in_sections : (c : ColumnValue) (hs : List Told)
    → flat_map (values_in c) (flat_map header_sections hs) ≡ shown_values c hs
in_sections c [] = refl
in_sections c (h ∷ hs) =
    flat_map-append (values_in c) (header_sections h) (flat_map header_sections hs)
    ∙ (λ i. two h i ++ in_sections c hs i)
  where
    two : (k : Told) → flat_map (values_in c) (header_sections k) ≡ header_shown c k
    two k =
        ap (λ (l : List Value). values_in c (section (section_name (told_section k)) (told_members k)) ++ l)
        (append-nil (values_in c (section (codes "headers") (members place_rows (told_place_values k)))))

abbrev frame_shown : ColumnValue → OriginValue → PacketValue → Option Moment → List Value
frame_shown c origin p moment =
    values_in c (section (codes "frame") (members frame_rows (packet_columns origin p moment)))

all_values : (c : ColumnValue) (origin : OriginValue) (p : PacketValue) (moment : Option Moment) (hs : List Told)
    (end : End)
    → flat_map (values_in c) (sections_told origin p moment hs end)
    ≡ frame_shown c origin p moment ++ (shown_values c hs ++ end_shown c end)
all_values c origin p moment hs end =
    ap (λ l. frame_shown c origin p moment ++ l)
    (flat_map-append (values_in c) (flat_map header_sections hs) _
    ∙ (λ i. in_sections c hs i ++ append-nil (end_shown c end) i))

-- ---- only one of the packet, the headers and the end has values

abbrev is_header : HeaderSection → Bool
is_header parts.Frame = false
is_header parts.Headers = false
is_header parts.Rest = false
is_header parts.Fault = false
is_header s = true

told_is_header : (h : Told) → is_header (told_section h) ≡ true
told_is_header (Walked place (headers.Ethernet2 e) fcs) = refl
told_is_header (Walked place (headers.Ethernet2Fcs e) fcs) = refl
told_is_header (Walked place (headers.LinuxSll s) fcs) = refl
told_is_header (Walked place (headers.Vlan v) fcs) = refl
told_is_header (Walked place (headers.Macsec t) fcs) = refl
told_is_header (Walked place (headers.Arp a) fcs) = refl
told_is_header (CookedV2 place s) = refl

module _ (s : HeaderSection) (i : ℕ) where
  abbrev c : ColumnValue
  c = column_view (record { section = s; index = i })

  no_headers : (hs : List Told) → is_header s ≡ false → (s ≡ parts.Headers → ⊥) → shown_values c hs ≡ []
  no_headers [] other all = refl
  no_headers (h ∷ hs) other all =
      λ k. in_none s i h (λ same. true_false (sym (ap is_header same ∙ told_is_header h) ∙ other)) all k
      ++ no_headers hs other all k

  no_frame : (origin : OriginValue) (p : PacketValue) (moment : Option Moment) → (s ≡ parts.Frame → ⊥)
      → frame_shown c origin p moment ≡ []
  no_frame origin p moment other = in_other s parts.Frame i (members frame_rows (packet_columns origin p moment)) other

  no_end : (end : End) → (s ≡ end_section end → ⊥) → end_shown c end ≡ []
  no_end end other = in_other s (end_section end) i (end_members end) other

  abbrev pub all_shown : OriginValue → PacketValue → Option Moment → List Told → End → List Value
  all_shown origin p moment hs end = flat_map (values_in c) (sections_told origin p moment hs end)

  pub as_text : (origin : OriginValue) (p : PacketValue) (moment : Option Moment) (hs : List Told) (end : End)
      (vs : List Value)
      → all_shown origin p moment hs end ≡ vs
      → column_on true vs ≡ column_text c (sections_told origin p moment hs end)
  as_text origin p moment hs end vs are = joined vs ∙ ap (join_by column_value (codes ",")) (sym are)

-- a column of the packet itself
pub frame_values : (i : ℕ) (origin : OriginValue) (p : PacketValue) (moment : Option Moment) (hs : List Told)
    (end : End)
    → all_shown parts.Frame i origin p moment hs end ≡ if_any (value_at (packet_columns origin p moment) i)
frame_values i origin p moment hs end =
    let f = parts.Frame in
    let vs = if_any (value_at (packet_columns origin p moment) i) in
    all_values (c f i) origin p moment hs end
    ∙ (λ k. in_section f i (packet_columns origin p moment) (omega arith) k
    ++ (no_headers f i hs refl (λ e. absurd cc) k ++ no_end f i end (not_frame end) k))
    ∙ append-nil vs
  where
    not_frame : (end : End) → parts.Frame ≡ end_section end → ⊥
    not_frame (ends.Rest start finish kind) same = absurd cc
    not_frame (ends.Skipped len) same = absurd cc
    not_frame (ends.Fault start closed cause) same = absurd cc

pub frame_only : (s : HeaderSection) (i : ℕ) → s ≡ parts.Frame → (origin : OriginValue) (p : PacketValue)
    (moment : Option Moment) (hs : List Told) (end : End)
    → column_on true (if_any (value_at (packet_columns origin p moment) i))
    ≡ column_text (column_view (record { section = s; index = i })) (sections_told origin p moment hs end)
frame_only s i same origin p moment hs end =
    as_text parts.Frame i origin p moment hs end (if_any (value_at (packet_columns origin p moment) i))
    (frame_values i origin p moment hs end)
    ∙ ap (λ (k : HeaderSection).
    column_text (column_view (record { section = k; index = i })) (sections_told origin p moment hs end))
    (sym same)

-- a column of headers
pub headers_values : (s : HeaderSection) (i : ℕ) → (s ≡ parts.Frame → ⊥) → is_end_section s ≡ false
    → (origin : OriginValue) (p : PacketValue) (moment : Option Moment) (hs : List Told) (end : End)
    → all_shown s i origin p moment hs end ≡ shown_values (column_view (record { section = s; index = i })) hs
headers_values s i frame last origin p moment hs end =
    let vs = shown_values (column_view (record { section = s; index = i })) hs in
    all_values (c s i) origin p moment hs end
    ∙ (λ k. no_frame s i origin p moment frame k ++ (vs ++ no_end s i end (not_end end) k))
    ∙ append-nil vs
  where
    not_end : (end : End) → s ≡ end_section end → ⊥
    not_end (ends.Rest start finish kind) same = true_false (sym (ap is_end_section same) ∙ last)
    not_end (ends.Skipped len) same = true_false (sym (ap is_end_section same) ∙ last)
    not_end (ends.Fault start closed cause) same = true_false (sym (ap is_end_section same) ∙ last)

pub headers_only : (s : HeaderSection) (i : ℕ) → (s ≡ parts.Frame → ⊥) → is_end_section s ≡ false
    → (origin : OriginValue) (p : PacketValue) (moment : Option Moment) (hs : List Told) (end : End)
    → column_on true (shown_values (column_view (record { section = s; index = i })) hs)
    ≡ column_text (column_view (record { section = s; index = i })) (sections_told origin p moment hs end)
headers_only s i frame last origin p moment hs end =
    as_text s i origin p moment hs end (shown_values (column_view (record { section = s; index = i })) hs)
    (headers_values s i frame last origin p moment hs end)

-- a column of how the walk ends
end_facts : (s : HeaderSection) → is_end_section s ≡ true
    → (is_header s ≡ false) × ((s ≡ parts.Frame → ⊥) × (s ≡ parts.Headers → ⊥))
end_facts parts.Rest last = (refl, (λ same. absurd cc, λ same. absurd cc))
end_facts parts.Fault last = (refl, (λ same. absurd cc, λ same. absurd cc))
end_facts parts.Frame last = absurd cc
end_facts parts.Eth last = absurd cc
end_facts parts.Sll last = absurd cc
end_facts parts.Sll2 last = absurd cc
end_facts parts.Vlan last = absurd cc
end_facts parts.Macsec last = absurd cc
end_facts parts.Arp last = absurd cc
end_facts parts.Headers last = absurd cc

pub end_shown_only : (s : HeaderSection) (i : ℕ) → is_end_section s ≡ true → (origin : OriginValue) (p : PacketValue)
    (moment : Option Moment) (hs : List Told) (end : End)
    → all_shown s i origin p moment hs end ≡ end_shown (column_view (record { section = s; index = i })) end
end_shown_only s i last origin p moment hs end =
    let facts = end_facts s last in
    let vs = end_shown (column_view (record { section = s; index = i })) end in
    all_values (c s i) origin p moment hs end
    ∙ (λ k. no_frame s i origin p moment facts.1.0 k ++ (no_headers s i hs facts.0 facts.1.1 k ++ vs))

pub end_only : (s : HeaderSection) (i : ℕ) → is_end_section s ≡ true → (origin : OriginValue) (p : PacketValue)
    (moment : Option Moment) (hs : List Told) (end : End)
    → column_on true (end_shown (column_view (record { section = s; index = i })) end)
    ≡ column_text (column_view (record { section = s; index = i })) (sections_told origin p moment hs end)
end_only s i last origin p moment hs end =
    as_text s i origin p moment hs end (end_shown (column_view (record { section = s; index = i })) end)
    (end_shown_only s i last origin p moment hs end)

-- columns that have no values in headers
pub frame_no_headers : (i : ℕ) (hs : List Told)
    → shown_values (column_view (record { section = parts.Frame; index = i })) hs ≡ []
frame_no_headers i hs = no_headers parts.Frame i hs refl (λ e. absurd cc)

pub end_no_headers : (s : HeaderSection) (i : ℕ) → is_end_section s ≡ true → (hs : List Told)
    → shown_values (column_view (record { section = s; index = i })) hs ≡ []
end_no_headers s i last hs = let facts = end_facts s last in no_headers s i hs facts.0 facts.1.1

-- its value at this end, and at another one
pub end_here : (s : HeaderSection) (i : ℕ) (end : End) → s ≡ end_section end
    → if_any (value_at (end_values end) i) ≡ end_shown (column_view (record { section = s; index = i })) end
end_here s i end same =
    sym (in_section (end_section end) i (end_values end) (few_end_values end))
    ∙ ap (λ (k : HeaderSection). end_shown (column_view (record { section = k; index = i })) end) (sym same)

pub end_elsewhere : (s : HeaderSection) (i : ℕ) (end : End) → (s ≡ end_section end → ⊥)
    → [] ≡ end_shown (column_view (record { section = s; index = i })) end
end_elsewhere s i end other = sym (in_other s (end_section end) i (end_members end) other)

-- ---- values in the headers of a walk

module _ {W : Type 0} (contents : W → Option (List ℕ)) (can_fail : Type 0) where
  abbrev LaterTaken : LaterValues → OutputBuffer W → List Told → OutputBuffer W → Type 0
  LaterTaken v out hs new =
      Takes contents can_fail out (column_on v.is_first (shown_values (column_view v.column) (drop v.before hs))) new

  none_dropped : (n : ℕ) → drop {A = Told} n [] ≡ []
  none_dropped zero = refl
  none_dropped (suc n) = refl

  one_dropped : (n : ℕ) (h : Told) (hs : List Told) → nat_lt 0 n ≡ true → drop n (h ∷ hs) ≡ drop (n - 1) hs
  one_dropped zero h hs some = absurd cc
  one_dropped (suc n) h hs some = let same : n ≡ suc n - 1 = omega arith in ap (λ (k : ℕ). drop k hs) same

  zero_is : (n : ℕ) → nat_lt 0 n ≡ false → n ≡ 0
  zero_is n none = let le = ltb-false 0 n none in omega (arith, le)

  pub later_visited : (v : LaterValues) (out : OutputBuffer W) (hs : List Told) (w : LaterValues) (new : OutputBuffer W)
      → Visited (TakesLaterValue contents can_fail) v out hs w new → LaterTaken v out hs new
  later_visited v out [] w new visited =
      subst (λ (k : OutputBuffer W). Takes contents can_fail out
      (column_on v.is_first (shown_values (column_view v.column) (drop v.before []))) k) (sym visited.1)
      (Takes-same (ap (λ (l : List Told). column_on v.is_first (shown_values (column_view v.column) l))
      (sym (none_dropped v.before)))
      (Takes-none contents can_fail out))
  later_visited v out (h ∷ hs) w new visited =
      by (nat_lt 0 v.before) refl visited.2 (later_visited visited.0 visited.1 hs w new visited.3)
    where
      by : (b : Bool) → nat_lt 0 v.before ≡ b → TakesLaterIf b contents can_fail v out h visited.0 visited.1
          → LaterTaken visited.0 visited.1 hs new → LaterTaken v out (h ∷ hs) new
      by true some step after =
          Takes-same
          (ap (λ (l : List Told). column_on v.is_first (shown_values (column_view v.column) l))
          (sym (one_dropped v.before h hs some)))
          (subst (λ (k : OutputBuffer W). Takes contents can_fail k
          (column_on v.is_first (shown_values (column_view v.column) (drop (v.before - 1) hs))) new) step.1
          (subst (λ (k : LaterValues). LaterTaken k visited.1 hs new) step.0 after))
      by false none step after =
          let vs = header_shown (column_view v.column) h in
          let ws = shown_values (column_view v.column) hs in
          let zeros = zero_is v.before none in
          let rest : Takes contents can_fail visited.1 (column_on (still_first v.is_first vs) ws) new =
          Takes-same
          (ap (λ (n : ℕ). column_on (still_first v.is_first vs) (shown_values (column_view v.column) (drop n hs)))
          zeros)
          (subst (λ (k : LaterValues). LaterTaken k visited.1 hs new) step.0 after) in
          Takes-same
          (sym (more v.is_first vs ws)
          ∙ ap (λ (n : ℕ). column_on v.is_first (shown_values (column_view v.column) (drop n (h ∷ hs)))) (sym zeros))
          (Takes-then step.1 rest)

abbrev pub found_shown : ColumnValue → List Found → List Value
found_shown c headers = shown_values c (map found_told headers)

-- ---- the values of a column

pub next_values : (c : ColumnValue) (headers : List Found) (n : ℕ) (f : Found) → n < length headers
    → found_shown c (drop n headers) ≡ header_shown c (found_told (slice_index_or headers n f))
    ++ found_shown c (drop (suc n) headers)
next_values c [] n f lt = absurd (omega (arith, lt))
next_values c (g ∷ headers) zero f lt = refl
next_values c (g ∷ headers) (suc n) f lt = next_values c headers n f (omega (arith, lt))

pub no_values : (c : ColumnValue) (headers : List Found) (n : ℕ) → length headers ≤ n
    → found_shown c (drop n headers) ≡ []
no_values c [] zero le = refl
no_values c [] (suc n) le = refl
no_values c (g ∷ headers) zero le = absurd (omega (arith, le))
no_values c (g ∷ headers) (suc n) le = no_values c headers n (omega (arith, le))

module _ {W : Type 0} (contents : W → Option (List ℕ)) (can_fail : Type 0) (c : Column) (headers : List Found) where
  -- the values in so many headers are written
  pub record WritesValues (count : ℕ) (is_first : Bool) (old new : OutputBuffer W) : Type 0 where
    pub text : List ℕ
    pub taken : Takes contents can_fail old text new
    pub parts : text ++ column_on is_first (found_shown (column_view c) (drop count headers))
        ≡ column_on true (found_shown (column_view c) headers)
    pub next : still_first is_first (found_shown (column_view c) (drop count headers))
        ≡ still_first true (found_shown (column_view c) headers)

  pub values_start : (out : OutputBuffer W) → WritesValues 0 true out out
  values_start out = record { text = []; taken = Takes-none contents can_fail out; parts = refl; next = refl }

  pub values_next : (n : ℕ) (is_first next : Bool) (f : Found) (old mid new : OutputBuffer W) → n < length headers
      → WritesValues n is_first old mid
      → Takes contents can_fail mid (column_on is_first
      (header_shown (column_view c) (found_told (slice_index_or headers n f)))) new
      → next ≡ still_first is_first (header_shown (column_view c) (found_told (slice_index_or headers n f)))
      → WritesValues (n + 1) next old new
  values_next n is_first next f old mid new lt a taken is =
      let vs = header_shown (column_view c) (found_told (slice_index_or headers n f)) in
      let ws = found_shown (column_view c) (drop (suc n) headers) in
      let here = column_on is_first vs in
      let same : n + 1 ≡ suc n = omega arith in
      record {
        text = a.text ++ here;
        taken = Takes-then a.taken taken;
        parts =
            ap (λ (k : ℕ). (a.text ++ here) ++ column_on next (found_shown (column_view c) (drop k headers))) same
            ∙ ap (λ (b : Bool). (a.text ++ here) ++ column_on b ws) is
            ∙ append_assoc a.text here (column_on (still_first is_first vs) ws)
            ∙ ap (λ (l : List ℕ). a.text ++ l)
            (sym (more is_first vs ws) ∙ ap (column_on is_first) (sym (next_values (column_view c) headers n f lt)))
            ∙ a.parts;
        next =
            ap (λ (k : ℕ). still_first next (found_shown (column_view c) (drop k headers))) same
            ∙ ap (λ (b : Bool). still_first b ws) is ∙ sym (still_more is_first vs ws)
            ∙ ap (still_first is_first) (sym (next_values (column_view c) headers n f lt)) ∙ a.next;
      }

  pub values_end : (n : ℕ) (is_first : Bool) (old new : OutputBuffer W) → length headers ≤ n
      → WritesValues n is_first old new
      → Takes contents can_fail old (column_on true (found_shown (column_view c) headers)) new
      × (is_first ≡ still_first true (found_shown (column_view c) headers))
  values_end n is_first old new le a =
      let none = no_values (column_view c) headers n le in (
        Takes-same
            (sym (append-nil a.text) ∙ ap (λ l. a.text ++ column_on is_first l) (sym none) ∙ a.parts) a.taken,
        ap (still_first is_first) (sym none) ∙ a.next,
      )

-- ---- a row: columns with a separator between two, and what ends the row; each is spelled as a field

module _ (separator finish : List ℕ) (field : List Section → ColumnValue → List ℕ) where
  abbrev pub text_of : List Section → ColumnValue → List ℕ
  text_of parts c = field parts c

  abbrev pub row_of : List ColumnValue → List Section → List ℕ
  row_of columns parts = join_by (text_of parts) separator columns ++ finish

  abbrev pub after_separator : List Section → Column → List ℕ
  after_separator parts c = separator ++ text_of parts (column_view c)

  -- the text of a row from a column on
  abbrev pub row_from : List Section → Column → List Column → List ℕ
  row_from parts c others =
      text_of parts (column_view c) ++ (flat_map (after_separator parts) others ++ finish)

  row_is : (parts : List Section) (columns : List ColumnValue) (first : Column) (list : List Column)
      → columns ≡ column_view first ∷ map column_view list → row_from parts first list ≡ row_of columns parts
  row_is parts columns first list are =
      let begin = text_of parts (column_view first) in
      sym (append_assoc begin (flat_map (after_separator parts) list) finish)
      ∙ ap (λ t. (begin ++ t) ++ finish) (sym
      (flat_map-map (λ c. separator ++ text_of parts c) column_view list))
      ∙ ap (λ (l : List ColumnValue). row_of l parts) (sym are)

module _ {W : Type 0} (separator finish : List ℕ) (field : List Section → ColumnValue → List ℕ)
    (contents : W → Option (List ℕ)) (can_fail : Type 0) (columns : List ColumnValue) (row : RowPacket) where
  abbrev text : List Section → ColumnValue → List ℕ
  text parts c = text_of separator finish field parts c

  abbrev from : List Section → Column → List Column → List ℕ
  from parts c others = row_from separator finish field parts c others

  abbrev whole_row : List Section → List ℕ
  whole_row parts = row_of separator finish field columns parts

  abbrev after : List Section → Column → List ℕ
  after parts c = after_separator separator finish field parts c

  -- the text so far, and that of the columns that are left, is that of the row
  pub record Begins (parts : List Section) (c : Column) (others : List Column)
      (old new : OutputBuffer W) : Type 0 where
    pub bytes : List ℕ
    pub taken : Takes contents can_fail old bytes new
    pub whole : bytes ++ from parts c others ≡ whole_row parts

  abbrev pub WritesColumns : (c : Column) (others : List Column) (old new : OutputBuffer W) → Type 0
  WritesColumns c others old new =
      OnTold row (λ origin p moment told end. Begins (sections_told origin p moment told end) c others old new)

  -- a column, and all of them
  abbrev pub WritesField : (c : Column) (old new : OutputBuffer W) → Type 0
  WritesField c old new =
      OnTold row
      (λ origin p moment told end.
      Takes contents can_fail old (text (sections_told origin p moment told end) (column_view c)) new)

  abbrev pub WritesRow : (old new : OutputBuffer W) → Type 0
  WritesRow old new =
      OnTold row
      (λ origin p moment told end.
      Takes contents can_fail old (whole_row (sections_told origin p moment told end)) new)

  pub columns_start : (first : Column) (others : List Column) (out : OutputBuffer W)
      → columns ≡ column_view first ∷ map column_view others → WritesColumns first others out out
  columns_start first others out are moment told end accepted is tells = record {
    bytes = [];
    taken = Takes-none contents can_fail out;
    whole = row_is separator finish field
        (sections_told (origin_view row.origin.now) (captured_packet_view row.packet.now) moment told end) columns first
        others are;
  }

  pub columns_next : (c next : Column) (others rest : List Column) (old mid written new : OutputBuffer W)
      → others ≡ next ∷ rest
      → WritesColumns c others old mid → WritesField c mid written
      → Takes contents can_fail written separator new → WritesColumns next rest old new
  columns_next c next others rest old mid written new are a column between moment told end accepted is tells =
      let parts = sections_told (origin_view row.origin.now) (captured_packet_view row.packet.now) moment told end in
      let before = a moment told end accepted is tells in
      let here = text parts (column_view c) in
      let later = from parts next rest in
      record {
        bytes = before.bytes ++ (here ++ separator);
        taken = Takes-then before.taken (Takes-then (column moment told end accepted is tells) between);
        whole =
            append_assoc before.bytes (here ++ separator) later
            ∙ ap (λ (l : List ℕ). before.bytes ++ l)
            (append_assoc here separator later
            ∙ ap (λ (l : List ℕ). here ++ l)
            (sym (append_assoc separator (text parts (column_view next))
            (flat_map (after parts) rest ++ finish))
            ∙ sym (append_assoc (after parts next) (flat_map (after parts) rest) finish))
            ∙ ap (λ (l : List Column). here ++ (flat_map (after parts) l ++ finish)) (sym are))
            ∙ before.whole;
      }

  pub columns_end : (c : Column) (others : List Column) (old mid written new : OutputBuffer W) → others ≡ []
      → WritesColumns c others old mid → WritesField c mid written
      → Takes contents can_fail written finish new
      → WritesRow old new
  columns_end c others old mid written new none a column line moment told end accepted is tells =
      let parts = sections_told (origin_view row.origin.now) (captured_packet_view row.packet.now) moment told end in
      let before = a moment told end accepted is tells in
      Takes-same
      (ap (λ (l : List Column). before.bytes ++ (text parts (column_view c)
      ++ (flat_map (after parts) l ++ finish))) (sym none)
      ∙ before.whole)
      (Takes-then before.taken (Takes-then (column moment told end accepted is tells) line))
