-- A packet's line is a JSON text with the packet's value.
use Rattle.std.proofs.Common.{option_map, option_and_then, ◌≡◌, ℕ, zero, suc, ◌-◌, ◌^◌, ◌<◌, ◌≤◌, Bool, true, false, cond, List, [], ◌∷◌, ◌++◌, codes, Option, Some, None, refl, sym, ap, ◌∙◌, arith}
use Rattle.std.specs.Prelude.{slice_index, IfSome}
use Rattle.json.specs.Lex.{tokens}
use Rattle.json.specs.Tree.{json_tokens}
use Rattle.json.specs.Json.{Json}
use Rattle.json.specs.Json as json
use Rattle.serde_json.specs.Data.{Data, object, array, Members, no_members, put}
use Rattle.serde_json.specs.Read.{read, of_json, of_members}
use Rattle.etherparse.specs.Bytes.{IsBytes}
use Rattle.ether_pcap.specs.Capture.{DirectionValue, Inbound, Outbound, PacketValue, TimeValue}
use Rattle.ether_fields.specs.Fields.{section_name}
use Rattle.ether_fields.specs.Rows.{frame_rows}
use Rattle.ether_fields.specs.declared.section.Section.TheVariants.{Frame}
use Rattle.ether_format.specs.Origins.{OriginValue}
use Rattle.ether_format.specs.declared.end.End.{End}
use Rattle.ether_format.specs.declared.format.Format.{Format}
use Rattle.ether_format.specs.declared.format.Format.TheVariants.{Json as JsonFormat, JsonBytes}
use Rattle.ether_format.specs.declared.moment.Moment.{Moment}
use Rattle.ether_format.specs.Calendar.{month_lens, is_leap_year, IsMoment, AreMoments}
use Rattle.ether_format.specs.Json.{json_end_of, json_front, objects_of}
use Rattle.ether_format.specs.JsonBytes.{exact_end_members, exact_members}
use Rattle.ether_format.specs.Members.{Member, Number, Word, Text, Time, if_some, direction_word, packet_values, packet_members}
use Rattle.ether_format.specs.Texts.{HasText, format_text}
use Rattle.ether_format.specs.Told.{Told, told_members, end_section, end_members}
use Rattle.ether_make.specs.Laws.{IsJsonOf, IsPacketLine, LinesAreJson}
use Rattle.ether_make.specs.PacketData.{members_into, members_data, headers_data, packet_data_of}
use Rattle.ether_make.specs.PacketJson.{FitsPacket, packet_json_of, members_json, headers_json}
use Rattle.ether_make.proofs.JsonData.{members_read, object_read, headers_read}
use Rattle.ether_make.proofs.ContentFits.{tells_fit}
use Rattle.ether_make.proofs.ExactFits.{exact_end_fits, exact_fits}
use Rattle.ether_make.proofs.JsonDepth.{packet_depth}
use Rattle.ether_make.proofs.JsonFits.{Each, FitsMoment, FitsValue, FitsMember}
use Rattle.ether_make.proofs.JsonLexemes.{tokens-Spells, document-tokens, read-tokens}
use Rattle.ether_make.proofs.JsonLines.{FitHeaders, line_of, line_feed, Spells-line}
use Rattle.ether_make.proofs.JsonPrintedLines.{IsPrinted-line}
use Rattle.ether_make.proofs.PacketFits.{ArePlain-constant, FitValues, FitsEnd, FitsTold, members_fit, rows_plain, section_plain, some_fits, headers_fit, told_fits, end_fits}

-- ---- times

february : (leap : Bool) → cond leap 29 28 ≤ 31
february true = omega arith
february false = omega arith

index_below : (xs : List ℕ) (n k : ℕ) → Each (λ x. x ≤ n) xs → slice_index xs k ≤ n
index_below [] n k h = omega arith
index_below (x ∷ xs) n zero h = h.0
index_below (x ∷ xs) n (suc k) h = index_below xs n k h.1

month_short : (leap : Bool) (k : ℕ) → slice_index (month_lens leap) k ≤ 31
month_short leap k =
    let l : 31 ≤ 31 = omega arith in
    let s : 30 ≤ 31 = omega arith in
    index_below (month_lens leap) 31 k
    (l, (february leap, (l, (s, (l, (s, (l, (l, (s, (l, (s, (l, tt))))))))))))

moment_fits : (t : TimeValue) (m : Moment) → t.seconds < 2 ^ 64 → IsMoment t m → FitsMoment m
moment_fits t m small is = record {
  seconds = omega (arith, is.seconds);
  month = omega (arith, is.date.last_month);
  day = omega (arith, is.date.last_day, month_short (is_leap_year m.year) (m.month - 1));
  hour = omega (arith, is.hour.hours);
  minute = omega (arith, is.hour.minutes);
  second = omega (arith, is.hour.seconds_left);
}

time_fits : (time : Option TimeValue) (moment : Option Moment) → IfSome time (λ t. t.seconds < 2 ^ 64)
    → AreMoments time moment → FitsValue (if_some Time moment)
time_fits None None h is = tt
time_fits None (Some m) h is = absurd is
time_fits (Some t) None h is = absurd is
time_fits (Some t) (Some m) h is = moment_fits t m h is

-- ---- the members of a packet

direction_fits : (d : Option DirectionValue) → FitsValue (if_some (λ x. Word (direction_word x)) d)
direction_fits None = tt
direction_fits (Some Inbound) = ArePlain-constant (codes "inbound") refl
direction_fits (Some Outbound) = ArePlain-constant (codes "outbound") refl

text_fits : (text : Option (List ℕ)) → FitsValue (if_some Text text)
text_fits None = tt
text_fits (Some bytes) = tt

packet_values_fit : (origin : OriginValue) (p : PacketValue) (moment : Option Moment) → FitsPacket origin p
    → AreMoments p.time moment → FitValues (packet_values origin p moment)
packet_values_fit origin p moment fits is = (
  fits.number_fits,
  (
    time_fits p.time moment fits.seconds is,
    (
      fits.link_type,
      (
        omega (arith, fits.len),
        (
          fits.original_len,
          (
            some_fits Number p.interface fits.interface,
            (direction_fits p.direction, (text_fits p.comment, (text_fits origin.file, (tt, (tt, (tt, tt)))))),
          ),
        ),
      ),
    ),
  ),
)

packet_fits : (origin : OriginValue) (p : PacketValue) (moment : Option Moment) → FitsPacket origin p
    → AreMoments p.time moment
    → Each FitsMember (packet_members origin p moment)
packet_fits origin p moment fits is =
    members_fit frame_rows (packet_values origin p moment) (rows_plain Frame)
    (packet_values_fit origin p moment fits is)

-- ---- the line

module _ (f : Told → List Member) (last : List Member) (origin : OriginValue) (p : PacketValue)
    (moment : Option Moment) (hs : List Told) (end : End)
    (packet : Each FitsMember (packet_members origin p moment))
    (headers : FitHeaders f hs)
    (ending : Each FitsMember last) where
  abbrev line : List ℕ
  line = line_of f (packet_members origin p moment) hs (section_name (end_section end)) last

  abbrev j : Json
  j = packet_json_of f last origin p moment hs end

  same_tokens : tokens line ≡ json_tokens j
  same_tokens =
      tokens-Spells line j
      (Spells-line f (packet_members origin p moment) hs (section_name (end_section end)) last (omega arith)
      packet headers (section_plain (end_section end)) ending)

  pub line_is_json : IsJsonOf line j
  line_is_json =
      let printed = IsPrinted-line f (packet_members origin p moment) hs (section_name (end_section end)) last
      packet headers (section_plain (end_section end)) ending in
      let shallow = packet_depth f last origin p moment hs end in
      record {
        utf8 = printed.utf8;
        printed = printed.shown;
        value = document-tokens line j same_tokens (omega (arith, shallow));
      }

  -- what follows the members of the packet
  abbrev others : json.Members
  others = json.member (codes "headers") (json.array (headers_json f hs))
      (json.member (section_name (end_section end)) (members_json last) json.no_members)

  others_read : (found : Members) → of_members others found
      ≡ Some (put (section_name (end_section end)) (members_data last) (put (codes "headers")
      (array (headers_data f hs)) found))
  others_read found =
      let at_end : Members → Data → Option Members = λ ms d. Some (put (section_name (end_section end)) d ms) in
      ap (λ o. option_and_then (λ d. option_and_then (at_end (put (codes "headers") d found)) (of_json (members_json
      last))) (option_map array o)) (headers_read f hs headers)
      ∙ ap (option_and_then (at_end (put (codes "headers") (array (headers_data f hs)) found)))
      (object_read last ending)

  pub line_is_read : read line ≡ Some (packet_data_of f last origin p moment hs end)
  line_is_read =
      read-tokens line j same_tokens (omega (arith, packet_depth f last origin p moment hs end))
      ∙ ap (option_map object)
      (members_read (packet_members origin p moment) others no_members packet
      ∙ others_read (members_into (packet_members origin p moment) no_members))

-- a line whose headers have these members, and whose end has those
module _ (f : PacketValue → Told → List Member) (last : PacketValue → End → List Member)
    (fit : (p : PacketValue) → IsBytes p.packet → (h : Told) → FitsTold h → Each FitsMember (f p h))
    (fit_last : (p : PacketValue) → IsBytes p.packet → (end : End) → FitsEnd end → Each FitsMember (last p end))
    (format : Format)
    (is_line : (origin : OriginValue) (p : PacketValue) (moment : Option Moment) (hs : List Told) (end : End)
    → format_text format origin p moment hs end
    ≡ json_front origin p moment ++ (objects_of (f p) hs ++ json_end_of end (last p end))) where
  pub packet_line : (limit : Option ℕ) (origin : OriginValue) (p : PacketValue) (text : List ℕ) (accepted : Bool)
      → FitsPacket origin p → HasText format limit origin p text accepted
      → IsPacketLine (λ o q m hs e. packet_json_of (f q) (last q e) o q m hs e)
      (λ o q m hs e. packet_data_of (f q) (last q e) o q m hs e) limit origin p text accepted
  packet_line limit origin p text accepted fits h =
      let told = tells_fit limit p h.headers h.end accepted fits.bytes fits.len h.tells in
      let packet = packet_fits origin p h.moment fits h.is_moment in
      let headers = headers_fit (f p) (fit p fits.bytes) h.headers told.0 in
      let ending = fit_last p fits.bytes h.end told.1 in
      let name = section_name (end_section h.end) in
      let members = packet_members origin p h.moment in
      record {
        line = line_of (f p) members h.headers name (last p h.end);
        moment = h.moment;
        headers = h.headers;
        end = h.end;
        is_line = h.is_text ∙ is_line origin p h.moment h.headers h.end
            ∙ line_feed (f p) members h.headers name (last p h.end);
        is_moment = h.is_moment;
        tells = h.tells;
        is_json = line_is_json (f p) (last p h.end) origin p h.moment h.headers h.end packet headers ending;
        is_read = line_is_read (f p) (last p h.end) origin p h.moment h.headers h.end packet headers ending;
      }

abbrev value_or : Json → Option Json → Json
value_or j None = j
value_or j (Some k) = k

pub lines_are_json : LinesAreJson
lines_are_json = record {
  line = packet_line (λ p. told_members) (λ p. end_members) (λ p ok. told_fits) (λ p ok. end_fits) JsonFormat
      (λ origin p moment hs end. refl);
  exact = packet_line (λ p. exact_members p.packet) (λ p. exact_end_members p.packet)
      (λ p. exact_fits p.packet) (λ p. exact_end_fits p.packet) JsonBytes
      (λ origin p moment hs end. refl);
  one = λ line j k a b. ap (value_or j) (sym a.value ∙ b.value);
}
