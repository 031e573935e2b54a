-- The fields of CSV: a column is enclosed exactly if it has several values.
use Rattle.std.proofs.Common.{◌≡◌, ℕ, zero, suc, ◌+◌, ◌<◌, ◌≤◌, List, [], ◌∷◌, ◌++◌, drop, length, map, Bool, true, false, Option, refl, sym, ap, ◌∙◌, append-nil, append_assoc, inl, inr, arith}
use Rattle.std.specs.Prelude.{◌≢◌, ◌⊎◌, ◌&&◌, ⊤, nat_eq, not, codes, if◌then◌else◌, Some, None, slice_index_or}
use Rattle.std.specs.List.{flat_map, join_by}
use Rattle.std.specs.Str.{bytes_eq}
use Rattle.ether_base.specs.declared.len_source.LenSource.{LenSource}
use Rattle.ether_base.specs.declared.len_source.LenSource.TheVariants as sources
use Rattle.etherparse.specs.Bytes.{spelled}
use Rattle.etherparse.specs.Macsec.{PayloadType}
use Rattle.etherparse.specs.Macsec as payloads
use Rattle.etherparse.specs.Header.{Header}
use Rattle.etherparse.specs.Header as headers
use Rattle.etherparse.specs.Types.LinuxSllProtocolType.{LinuxSllProtocolType}
use Rattle.etherparse.specs.Types.LinuxSllProtocolType.TheVariants as protocols
use Rattle.ether_peel.specs.declared.rest_kind.RestKind.{RestKind}
use Rattle.ether_peel.specs.declared.rest_kind.RestKind.TheVariants as rests
use Rattle.ether_pcap.specs.Capture.{PacketValue}
use Rattle.ether_output.specs.Words.{source_text}
use Rattle.ether_fields.specs.Fields.{section_name, section_rows}
use Rattle.ether_fields.specs.Rows.{Row, place_rows}
use Rattle.ether_fields.specs.declared.section.Section.{Section as HeaderSection}
use Rattle.ether_fields.specs.declared.section.Section.TheVariants as parts
use Rattle.ether_format.specs.declared.cause.Cause.TheVariants as causes
use Rattle.ether_format.specs.declared.column.Column.{Column}
use Rattle.ether_format.specs.declared.csv.Count.{Count}
use Rattle.ether_format.specs.declared.csv.Count.TheVariants.{Zero, One, Several}
use Rattle.ether_format.specs.declared.csv.ValueCounter.{ValueCounter}
use Rattle.ether_format.specs.declared.end.End.{End}
use Rattle.ether_format.specs.declared.end.End.TheVariants as ends
use Rattle.ether_format.specs.declared.found.Found.{Found}
use Rattle.ether_format.specs.declared.moment.Moment.{Moment}
use Rattle.ether_format.specs.declared.place.Place.{Place}
use Rattle.ether_format.specs.Columns.{ColumnValue, column_name, column_text, column_view, name_at, section, sections as sections_told, values_in, values_named}
use Rattle.ether_format.specs.Counted.{CountsHeader, counted, is_several, only_text, quote_if}
use Rattle.ether_format.specs.Csv.{csv_field, csv_record, csv_text, csv_value, escaped, has_special}
use Rattle.ether_format.specs.Found.{found_told}
use Rattle.ether_format.specs.Gathered.{shown_values}
use Rattle.ether_format.specs.Members.{Value, Bytes, Dotted, if_some, members, packet_columns, payload_type_value, payload_word, protocol_address}
use Rattle.ether_format.specs.Spelling.{column_value}
use Rattle.ether_format.specs.Told.{Told, Walked, CookedV2, end_section, end_values, header_values, kind_value, kind_word, own_values, place_values, protocol_value, protocol_word, told_place, told_place_values, told_section, told_values}
use Rattle.ether_format.specs.Values.{column_on, end_shown, header_shown, if_any, is_end_section, value_at}
use Rattle.ether_format.specs.Visits.{Visited}
use Rattle.ether_format.proofs.ListLemmas.{flat_map-append}
use Rattle.ether_format.proofs.RowLemmas.{all_shown, as_text, end_elsewhere, end_here, end_no_headers, end_shown_only, found_shown, frame_values, headers_values, next_values, no_values}
use Rattle.ether_format.proofs.PlainLemmas.{IsPlain, plain_append, plain_escaped, plain_same, plain_value, special_after}
use Rattle.ether_format.specs.Origins.{OriginValue}

-- ---- the values of headers, and of how a walk ends, are plain

abbrev AllPlain : List (Option Value) → Type 0
AllPlain [] = ⊤
AllPlain (Some v ∷ vs) = IsPlain v × AllPlain vs
AllPlain (None ∷ vs) = AllPlain vs

joined : (vs ws : List (Option Value)) → AllPlain vs → AllPlain ws → AllPlain (vs ++ ws)
joined [] ws one two = two
joined (Some v ∷ vs) ws one two = (one.0, joined vs ws one.1 two)
joined (None ∷ vs) ws one two = joined vs ws one two

some_bytes : {X : Type 0} (bytes : X → List ℕ) (x : Option X) → IsPlain (if_some (λ k. Bytes (bytes k)) x)
some_bytes bytes None = tt
some_bytes bytes (Some x) = tt

payload_plain : (t : PayloadType) → has_special (payload_word t) ≡ false
payload_plain (payloads.Unmodified ether_type) = refl
payload_plain payloads.Modified = refl
payload_plain payloads.EncryptedUnmodified = refl
payload_plain payloads.Encrypted = refl

type_plain : (t : PayloadType) → IsPlain (payload_type_value t)
type_plain (payloads.Unmodified ether_type) = tt
type_plain payloads.Modified = tt
type_plain payloads.EncryptedUnmodified = tt
type_plain payloads.Encrypted = tt

address_plain : (protocol : ℕ) (bytes : List ℕ) → IsPlain (protocol_address protocol bytes)
address_plain protocol bytes = by (nat_eq protocol 0x0800 && nat_eq (length bytes) 4)
  where
    by : (b : Bool) → IsPlain (if b then Dotted bytes else Bytes bytes)
    by true = tt
    by false = tt

header_plain : (h : Header) (fcs : Option (List ℕ)) → AllPlain (header_values h fcs)
header_plain (headers.Ethernet2 e) fcs = (tt, (tt, (tt, (some_bytes (λ k. k) fcs, tt))))
header_plain (headers.Ethernet2Fcs e) fcs = (tt, (tt, (tt, (some_bytes (λ k. k) fcs, tt))))
header_plain (headers.LinuxSll s) fcs = (tt, (tt, (tt, (tt, (tt, tt)))))
header_plain (headers.Vlan v) fcs = (tt, (tt, (tt, (tt, tt))))
header_plain (headers.Macsec t) fcs = (
  payload_plain t.payload_type,
  (
    tt,
    (
      tt,
      (
        tt,
        (
          tt,
          (
            tt,
            (
              tt,
              (
                tt,
                (
                  some_bytes (λ n. spelled 8 n) t.sci,
                  (type_plain t.payload_type, tt),
                ),
              ),
            ),
          ),
        ),
      ),
    ),
  ),
)
header_plain (headers.Arp a) fcs = (
  tt,
  (
    tt,
    (
      tt,
      (
        tt,
        (
          tt,
          (
            tt,
            (
              address_plain a.protocol_type a.sender_protocol,
              (
                tt,
                (address_plain a.protocol_type a.target_protocol, tt),
              ),
            ),
          ),
        ),
      ),
    ),
  ),
)

own_plain : (h : Told) → AllPlain (own_values h)
own_plain (Walked place h fcs) = header_plain h fcs
own_plain (CookedV2 place s) = (tt, (tt, (tt, (tt, (tt, (tt, tt))))))

section_plain : (s : HeaderSection) → has_special (section_name s) ≡ false
section_plain parts.Frame = refl
section_plain parts.Eth = refl
section_plain parts.Sll = refl
section_plain parts.Sll2 = refl
section_plain parts.Vlan = refl
section_plain parts.Macsec = refl
section_plain parts.Arp = refl
section_plain parts.Headers = refl
section_plain parts.Rest = refl
section_plain parts.Fault = refl

place_plain : (s : HeaderSection) (place : Place) → AllPlain (place_values (section_name s) place)
place_plain s place = (section_plain s, (tt, (tt, (tt, (tt, tt)))))

told_plain : (h : Told) → AllPlain (told_values h)
told_plain h = joined (told_place_values h) (own_values h) (place_plain (told_section h) (told_place h)) (own_plain h)

protocol_plain : (p : LinuxSllProtocolType) → (has_special (protocol_word p) ≡ false) × IsPlain (protocol_value p)
protocol_plain (protocols.Ignored n) = (refl, tt)
protocol_plain (protocols.NetlinkProtocolType n) = (refl, tt)
protocol_plain (protocols.GenericRoutingEncapsulationProtocolType n) = (refl, tt)
protocol_plain (protocols.EtherType t) = (refl, tt)
protocol_plain (protocols.LinuxNonstandardEtherType n) = (refl, tt)

kind_plain : (k : RestKind) → (has_special (kind_word k) ≡ false) × IsPlain (kind_value k)
kind_plain rests.Start = (refl, tt)
kind_plain (rests.EtherType t) = (refl, tt)
kind_plain (rests.Sll protocol) = protocol_plain protocol
kind_plain rests.Sealed = (refl, tt)
kind_plain rests.AfterArp = (refl, tt)

source_plain : (s : LenSource) → has_special (source_text s) ≡ false
source_plain sources.Slice = refl
source_plain sources.MacsecShortLength = refl
source_plain sources.Ipv4HeaderTotalLen = refl
source_plain sources.Ipv6HeaderPayloadLen = refl
source_plain sources.UdpHeaderLen = refl
source_plain sources.TcpHeaderLen = refl
source_plain sources.ArpAddrLengths = refl

end_plain : (end : End) → AllPlain (end_values end)
end_plain (ends.Rest start finish kind) = (tt, (tt, ((kind_plain kind).0, ((kind_plain kind).1, tt))))
end_plain (ends.Skipped len) = (tt, (tt, (refl, (tt, tt))))
end_plain (ends.Fault start closed (causes.Length required available source layer)) =
    (tt, (tt, (refl, (tt, (tt, (source_plain source, (tt, tt)))))))
end_plain (ends.Fault start closed (causes.UnknownPacketType n)) = (tt, (tt, (refl, (tt, (tt, (tt, (tt, tt)))))))
end_plain (ends.Fault start closed (causes.UnknownHardwareType n)) = (tt, (tt, (refl, (tt, (tt, (tt, (tt, tt)))))))
end_plain (ends.Fault start closed causes.Version) = (tt, (tt, (refl, (tt, (tt, (tt, (tt, tt)))))))
end_plain (ends.Fault start closed causes.ShortLength) = (tt, (tt, (refl, (tt, (tt, (tt, (tt, tt)))))))

-- ---- and so are those of a column

abbrev ArePlain : List Value → Type 0
ArePlain [] = ⊤
ArePlain (v ∷ vs) = IsPlain v × ArePlain vs

more_plain : (vs ws : List Value) → ArePlain vs → ArePlain ws → ArePlain (vs ++ ws)
more_plain [] ws one two = two
more_plain (v ∷ vs) ws one two = (one.0, more_plain vs ws one.1 two)

named_plain : (name : List ℕ) (rs : List Row) (vs : List (Option Value)) → AllPlain vs
    → ArePlain (values_named name (members rs vs))
named_plain name [] [] all = tt
named_plain name [] (v ∷ vs) all = tt
named_plain name (r ∷ rs) [] all = tt
named_plain name (r ∷ rs) (Some v ∷ vs) all = by (bytes_eq r.name name) (named_plain name rs vs all.1)
  where
    by : (b : Bool) → ArePlain (values_named name (members rs vs))
        → ArePlain (if b then v ∷ values_named name (members rs vs) else values_named name (members rs vs))
    by true rest = (all.0, rest)
    by false rest = rest
named_plain name (r ∷ rs) (None ∷ vs) all = named_plain name rs vs all

in_plain : (c : ColumnValue) (name : List ℕ) (rs : List Row) (vs : List (Option Value)) → AllPlain vs
    → ArePlain (values_in c (section name (members rs vs)))
in_plain c name rs vs all = by (bytes_eq name c.section)
  where
    by : (b : Bool) → ArePlain (if b then values_named c.member (members rs vs) else [])
    by true = named_plain c.member rs vs all
    by false = tt

shown_plain : (c : ColumnValue) (hs : List Told) → ArePlain (shown_values c hs)
shown_plain c [] = tt
shown_plain c (h ∷ hs) =
    more_plain (header_shown c h) (shown_values c hs)
    (more_plain _ _ (in_plain c (section_name (told_section h)) (section_rows (told_section h)) _ (told_plain h))
    (in_plain c (codes "headers") place_rows (told_place_values h) (place_plain (told_section h) (told_place h))))
    (shown_plain c hs)

-- ---- the text of a column

-- it is enclosed if it has several values, and then it is the same; and it is that of a row
pub record IsField (text csv : List ℕ) (several : Bool) : Type 0 where
  pub marked : has_special text ≡ several
  pub same : escaped text ≡ text
  pub is_csv : text ≡ csv

-- plain values one after the other
csv_later : (vs : List Value) → ArePlain vs
    → flat_map (λ w. codes "," ++ column_value w) vs ≡ flat_map (λ w. codes "," ++ csv_value w) vs
csv_later [] plain = refl
csv_later (v ∷ vs) plain = λ i. (codes "," ++ sym (plain_same v plain.0) i) ++ csv_later vs plain.1 i

csv_same : (vs : List Value) → ArePlain vs → join_by column_value (codes ",") vs ≡ join_by csv_value (codes ",") vs
csv_same [] plain = refl
csv_same (v ∷ vs) plain = λ i. sym (plain_same v plain.0) i ++ csv_later vs plain.1 i

special_on : (vs : List Value) → ArePlain vs → has_special (column_on true vs) ≡ is_several (counted Zero vs)
special_on [] plain = refl
special_on (v ∷ []) plain = plain_append (column_value v) [] (plain_value v plain.0) refl
special_on (v ∷ w ∷ vs) plain = special_after (column_value v) (column_on false (w ∷ vs)) refl

escaped_on : (first : Bool) (vs : List Value) → ArePlain vs → escaped (column_on first vs) ≡ column_on first vs
escaped_on first [] plain = refl
escaped_on true (v ∷ vs) plain =
    flat_map-append _ (column_value v) (column_on false vs)
    ∙ (λ i. plain_escaped (column_value v) (plain_value v plain.0) i ++ escaped_on false vs plain.1 i)
escaped_on false (v ∷ vs) plain =
    ap (λ t. codes "," ++ t)
    (flat_map-append _ (column_value v) (column_on false vs)
    ∙ (λ i. plain_escaped (column_value v) (plain_value v plain.0) i ++ escaped_on false vs plain.1 i))

same_end : (s : HeaderSection) (end : End) → is_end_section s ≡ true
    → (s ≡ end_section end) ⊎ (s ≡ end_section end → ⊥)
same_end parts.Rest (ends.Rest start finish kind) last = inl refl
same_end parts.Rest (ends.Skipped len) last = inl refl
same_end parts.Rest (ends.Fault start closed cause) last = inr (λ e. absurd cc)
same_end parts.Fault (ends.Rest start finish kind) last = inr (λ e. absurd cc)
same_end parts.Fault (ends.Skipped len) last = inr (λ e. absurd cc)
same_end parts.Fault (ends.Fault start closed cause) last = inl refl
same_end parts.Frame end last = absurd cc
same_end parts.Eth end last = absurd cc
same_end parts.Sll end last = absurd cc
same_end parts.Sll2 end last = absurd cc
same_end parts.Vlan end last = absurd cc
same_end parts.Macsec end last = absurd cc
same_end parts.Arp end last = absurd cc
same_end parts.Headers end last = absurd cc

one_at_most : (v : Option Value) → is_several (counted Zero (if_any v)) ≡ false
one_at_most None = refl
one_at_most (Some v) = refl

module _ (origin : OriginValue) (p : PacketValue) (moment : Option Moment) (hs : List Told) (end : End) where
  abbrev c : HeaderSection → ℕ → ColumnValue
  c s i = column_view (record { section = s; index = i })

  abbrev Field : HeaderSection → ℕ → Type 0
  Field s i =
      IsField (column_text (c s i) (sections_told origin p moment hs end))
      (csv_text (c s i) (sections_told origin p moment hs end))
      (is_several (counted Zero (shown_values (c s i) hs)))

  of_values : (s : HeaderSection) (i : ℕ) (vs : List Value) → ArePlain vs
      → all_shown s i origin p moment hs end ≡ vs
      → is_several (counted Zero vs) ≡ is_several (counted Zero (shown_values (c s i) hs)) → Field s i
  of_values s i vs plain are count =
      let is = as_text s i origin p moment hs end vs are in
      record {
        marked = ap has_special (sym is) ∙ special_on vs plain ∙ count;
        same = ap escaped (sym is) ∙ escaped_on true vs plain ∙ is;
        is_csv =
            ap (join_by column_value (codes ",")) are ∙ csv_same vs plain
            ∙ ap (join_by csv_value (codes ",")) (sym are);
      }

  of_headers : (s : HeaderSection) (i : ℕ) → (s ≡ parts.Frame → ⊥) → is_end_section s ≡ false → Field s i
  of_headers s i other none =
      of_values s i (shown_values (c s i) hs) (shown_plain (c s i) hs)
      (headers_values s i other none origin p moment hs end) refl

  end_count : (s : HeaderSection) (i : ℕ) → is_end_section s ≡ true
      → is_several (counted Zero (end_shown (c s i) end)) ≡ false
  end_count s i last = by (same_end s end last)
    where
      by : (s ≡ end_section end) ⊎ (s ≡ end_section end → ⊥)
          → is_several (counted Zero (end_shown (c s i) end)) ≡ false
      by (inl same) =
          ap (λ (l : List Value). is_several (counted Zero l)) (sym (end_here s i end same))
          ∙ one_at_most (value_at (end_values end) i)
      by (inr other) = ap (λ (l : List Value). is_several (counted Zero l)) (sym (end_elsewhere s i end other))

  of_end : (s : HeaderSection) (i : ℕ) → is_end_section s ≡ true → Field s i
  of_end s i last =
      of_values s i (end_shown (c s i) end)
      (in_plain (c s i) (section_name (end_section end)) (section_rows (end_section end)) (end_values end)
      (end_plain end))
      (end_shown_only s i last origin p moment hs end)
      (end_count s i last
      ∙ sym (ap (λ (l : List Value). is_several (counted Zero l)) (end_no_headers s i last hs)))

  pub column_field : (s : HeaderSection) (i : ℕ) → s ≢ parts.Frame → Field s i
  column_field parts.Frame i other = absurd (other refl)
  column_field parts.Rest i other = of_end parts.Rest i refl
  column_field parts.Fault i other = of_end parts.Fault i refl
  column_field parts.Eth i other = of_headers parts.Eth i other refl
  column_field parts.Sll i other = of_headers parts.Sll i other refl
  column_field parts.Sll2 i other = of_headers parts.Sll2 i other refl
  column_field parts.Vlan i other = of_headers parts.Vlan i other refl
  column_field parts.Macsec i other = of_headers parts.Macsec i other refl
  column_field parts.Arp i other = of_headers parts.Arp i other refl
  column_field parts.Headers i other = of_headers parts.Headers i other refl

  -- the value of a column of the packet itself
  pub frame_field : (i : ℕ) → csv_field (only_text (value_at (packet_columns origin p moment) i))
      ≡ csv_field (csv_text (c parts.Frame i) (sections_told origin p moment hs end))
  frame_field i =
      let value = value_at (packet_columns origin p moment) i in
      ap csv_field
      (only value ∙ ap (join_by csv_value (codes ",")) (sym (frame_values i origin p moment hs end)))
    where
      only : (v : Option Value) → only_text v ≡ join_by csv_value (codes ",") (if_any v)
      only None = refl
      only (Some v) = sym (append-nil (csv_value v))

field_text : (text csv : List ℕ) (several : Bool) → IsField text csv several
    → quote_if several ++ (text ++ quote_if several) ≡ csv_field csv
field_text text csv true f =
    ap (λ (t : List ℕ). codes "\"" ++ (t ++ codes "\"")) (sym f.same)
    ∙ ap (λ (b : Bool). if b then codes "\"" ++ (escaped text ++ codes "\"") else text) (sym f.marked)
    ∙ ap csv_field f.is_csv
field_text text csv false f =
    append-nil text
    ∙ ap (λ (b : Bool). if b then codes "\"" ++ (escaped text ++ codes "\"") else text) (sym f.marked)
    ∙ ap csv_field f.is_csv

-- .. by how many values it has
pub enclosed_text : (text csv : List ℕ) (several count : Bool) → several ≡ count → IsField text csv count
    → quote_if several ++ (text ++ quote_if several) ≡ csv_field csv
enclosed_text text csv several count is f =
    ap (λ (b : Bool). quote_if b ++ (text ++ quote_if b)) is ∙ field_text text csv count f

-- ---- how many values a column has

several_stay : (vs : List Value) → counted Several vs ≡ Several
several_stay [] = refl
several_stay (v ∷ vs) = refl

pub counted_append : (count : Count) (vs ws : List Value) → counted count (vs ++ ws) ≡ counted (counted count vs) ws
counted_append count [] ws = refl
counted_append Zero (v ∷ vs) ws = counted_append One vs ws
counted_append One (v ∷ vs) ws = sym (several_stay ws)
counted_append Several (v ∷ vs) ws = sym (several_stay ws)

pub counted_visited : (v : ValueCounter) (count : Count) (hs : List Told) (w : ValueCounter) (next : Count)
    → Visited CountsHeader v count hs w next → next ≡ counted count (shown_values (column_view v.column) hs)
counted_visited v count [] w next visited = visited.1
counted_visited v count (h ∷ hs) w next visited =
    counted_visited visited.0 visited.1 hs w next visited.3
    ∙ (λ i. counted (visited.2.1 i) (shown_values (column_view (visited.2.0 i).column) hs))
    ∙ sym
    (counted_append count (header_shown (column_view v.column) h) (shown_values (column_view v.column) hs))

-- .. in some headers
pub counted_next : (c : ColumnValue) (list : List Found) (n : ℕ) (count next : Count) (f : Found) → n < length list
    → next ≡ counted count (header_shown c (found_told (slice_index_or list n f)))
    → counted count (found_shown c (drop n list)) ≡ counted Zero (found_shown c list)
    → counted next (found_shown c (drop (n + 1) list)) ≡ counted Zero (found_shown c list)
counted_next c list n count next f lt is so_far =
    let same : n + 1 ≡ suc n = omega arith in
    let here = header_shown c (found_told (slice_index_or list n f)) in
    let rest = found_shown c (drop (suc n) list) in
    (λ i. counted (is i) (found_shown c (drop (same i) list)))
    ∙ sym (counted_append count here rest)
    ∙ ap (counted count) (sym (next_values c list n f lt))
    ∙ so_far

pub counted_end : (c : ColumnValue) (list : List Found) (n : ℕ) (count : Count) → length list ≤ n
    → counted count (found_shown c (drop n list)) ≡ counted Zero (found_shown c list)
    → count ≡ counted Zero (found_shown c list)
counted_end c list n count le so_far = ap (counted count) (sym (no_values c list n le)) ∙ so_far

-- ---- names

abbrev names_plain : List Row → Bool
names_plain [] = true
names_plain (r ∷ rs) = not (has_special r.name) && names_plain rs

both : (p q : Bool) → (not p && q) ≡ true → (p ≡ false) × (q ≡ true)
both false q are = (refl, are)
both true q are = absurd cc

name_plain : (rows : List Row) (n : ℕ) → names_plain rows ≡ true → has_special (name_at rows n) ≡ false
name_plain [] zero all = refl
name_plain [] (suc n) all = refl
name_plain (r ∷ rs) zero all = (both (has_special r.name) (names_plain rs) all).0
name_plain (r ∷ rs) (suc n) all = name_plain rs n (both (has_special r.name) (names_plain rs) all).1

rows_plain : (s : HeaderSection) → names_plain (section_rows s) ≡ true
rows_plain parts.Frame = refl
rows_plain parts.Eth = refl
rows_plain parts.Sll = refl
rows_plain parts.Sll2 = refl
rows_plain parts.Vlan = refl
rows_plain parts.Macsec = refl
rows_plain parts.Arp = refl
rows_plain parts.Headers = refl
rows_plain parts.Rest = refl
rows_plain parts.Fault = refl

-- the name of a column is not enclosed
pub name_field : (c : Column) → column_name (column_view c) ≡ csv_field (column_name (column_view c))
name_field c =
    let name = column_name (column_view c) in
    let member = name_at (section_rows c.section) c.index in
    let plain : has_special name ≡ false =
    plain_append (section_name c.section) (codes "." ++ member) (section_plain c.section)
    (plain_append (codes ".") member refl (name_plain (section_rows c.section) c.index (rows_plain c.section))) in
    ap (λ (b : Bool). if b then codes "\"" ++ (escaped name ++ codes "\"") else name) (sym plain)

-- .. so those of several are a record
later_names : (others : List Column)
    → flat_map (λ d. codes "," ++ column_name (column_view d)) others
    ≡ flat_map (λ d. codes "," ++ csv_field (column_name d)) (map column_view others)
later_names [] = refl
later_names (d ∷ others) = λ i. (codes "," ++ name_field d i) ++ later_names others i

pub names_record : (first : Column) (others : List Column)
    → column_name (column_view first)
    ++ (flat_map (λ d. codes "," ++ column_name (column_view d)) others ++ (13 ∷ 10 ∷ []))
    ≡ csv_record column_name (column_view first ∷ map column_view others)
names_record first others =
    sym
    (append_assoc (column_name (column_view first))
    (flat_map (λ d. codes "," ++ column_name (column_view d)) others) (13 ∷ 10 ∷ []))
    ∙ (λ i. (name_field first i ++ later_names others i) ++ (13 ∷ 10 ∷ []))
