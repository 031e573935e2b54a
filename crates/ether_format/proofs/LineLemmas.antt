-- A line that is written along the headers of a packet.
use Rattle.std.proofs.Common.{◌≡◌, ℕ, List, [], ◌∷◌, ◌++◌, Bool, true, sym, ap, subst, append-nil}
use Rattle.std.specs.Prelude.{codes, Option}
use Rattle.ether_pcap.specs.Capture.{PacketValue}
use Rattle.ether_output.specs.OutputBuffer.{Takes, TakesAnswer}
use Rattle.ether_output.specs.declared.output_buffer.OutputBuffer.{OutputBuffer}
use Rattle.ether_output.proofs.OutputBufferLemmas.{Takes-none, Takes-same, Takes-then}
use Rattle.ether_format.specs.declared.end.End.{End}
use Rattle.ether_format.specs.declared.format.Format.TheVariants as formats
use Rattle.ether_format.specs.declared.line.Line.{Line}
use Rattle.ether_format.specs.declared.line.Line.TheVariants.{Json, Brief}
use Rattle.ether_format.specs.declared.line.LineHeaders.{LineHeaders}
use Rattle.ether_format.specs.declared.moment.Moment.{Moment}
use Rattle.ether_format.specs.Brief.{brief_cut, brief_end, brief_front}
use Rattle.ether_format.specs.Json.{json_end, json_front}
use Rattle.ether_format.specs.Lines.{HasLine, TakesHeader, end_text, front_text, headers_text, line_text, tail_text}
use Rattle.ether_format.specs.Texts.{HasText}
use Rattle.ether_format.specs.Told.{Told}
use Rattle.ether_format.specs.Visits.{Visited}
use Rattle.ether_format.proofs.JsonLemmas.{all_objects, brief_headers}
use Rattle.ether_format.specs.Origins.{OriginValue}

-- ---- headers

pub headers_visited : {W : Type 0} (contents : W → Option (List ℕ)) (can_fail : Type 0) (v : LineHeaders)
    (out : OutputBuffer W) (hs : List Told) (w : LineHeaders) (new : OutputBuffer W)
    → Visited (TakesHeader contents can_fail) v out hs w new
    → Takes contents can_fail out (headers_text v.line v.is_first hs) new
headers_visited {W = W} contents can_fail v out [] w new visited =
    subst (λ (k : OutputBuffer W). Takes contents can_fail out [] k) (sym visited.1) (Takes-none contents can_fail out)
headers_visited contents can_fail v out (h ∷ hs) w new visited =
    let x = visited.0 in
    let after = headers_visited contents can_fail x visited.1 hs w new visited.3 in
    Takes-then visited.2.1
    (Takes-same (ap (λ (k : LineHeaders). headers_text k.line k.is_first hs) visited.2.0) after)

-- ---- a whole line

pub whole_line : (line : Line) (origin : OriginValue) (p : PacketValue) (moment : Option Moment) (hs : List Told)
    (end : End)
    → front_text line origin p moment ++ (headers_text line true hs ++ (end_text line p end ++ tail_text line p))
    ≡ line_text line origin p moment hs end
whole_line Json origin p moment hs end =
    λ i. json_front origin p moment ++ (all_objects hs i ++ append-nil (json_end end) i)
whole_line Brief origin p moment hs end =
    ap (λ l. brief_front origin.number moment ++ (l ++ (brief_end p end ++ (brief_cut p ++ codes "\n"))))
    (brief_headers true hs)

-- ---- in a format

pub json_text : {W : Type 0} (contents : W → Option (List ℕ)) (can_fail : Type 0) (limit : Option ℕ)
    (origin : OriginValue)
    (p : PacketValue) (old new : OutputBuffer W) (accepted : Bool)
    → TakesAnswer contents can_fail (HasLine Json limit origin p) old new accepted
    → TakesAnswer contents can_fail (HasText formats.Json limit origin p) old new accepted
json_text contents can_fail limit origin p old new accepted a = record {
  text = a.text;
  answers = record {
    moment = a.answers.moment;
    is_moment = a.answers.is_moment;
    headers = a.answers.headers;
    end = a.answers.end;
    tells = a.answers.tells;
    is_text = a.answers.is_text;
  };
  taken = a.taken;
}

pub brief_text : {W : Type 0} (contents : W → Option (List ℕ)) (can_fail : Type 0) (limit : Option ℕ)
    (origin : OriginValue)
    (p : PacketValue) (old new : OutputBuffer W) (accepted : Bool)
    → TakesAnswer contents can_fail (HasLine Brief limit origin p) old new accepted
    → TakesAnswer contents can_fail (HasText formats.Brief limit origin p) old new accepted
brief_text contents can_fail limit origin p old new accepted a = record {
  text = a.text;
  answers = record {
    moment = a.answers.moment;
    is_moment = a.answers.is_moment;
    headers = a.answers.headers;
    end = a.answers.end;
    tells = a.answers.tells;
    is_text = a.answers.is_text;
  };
  taken = a.taken;
}
