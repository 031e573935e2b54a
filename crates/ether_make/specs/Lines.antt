-- The frames that lines of text mean.
use Rattle.std.specs.Prelude.{◌≡◌, ◌==◌, ℕ, ◌+◌, ◌-◌, ◌^◌, ◌&&◌, ◌||◌, List, [], ◌∷◌, ◌++◌, length, codes, Bool, true, false, Option, Some, None, is_some, unwrap_or, Result, Ok, Err, nat_eq, nat_lt, IsUtf8, if◌then◌else◌}
use Rattle.std.specs.List.{list_all, slice_split}
use Rattle.serde_json.specs.Data.{Data}
use Rattle.serde_json.specs.Find.{as_object}
use Rattle.serde_json.specs.Read.{read}
use Rattle.ether_make.specs.declared.refusal.Reason.TheVariants.{OtherFrames, OtherTime, TooMany}
use Rattle.ether_make.specs.declared.progress.Pace.{Pace}
use Rattle.ether_make.specs.declared.settings.Settings.{Settings}
use Rattle.ether_make.specs.declared.time_text.Time.{Time}
use Rattle.ether_make.specs.Frames.{FrameValue, padded}
use Rattle.ether_make.specs.Templates.{TemplateValue, after_frames, frames_from, in_capture, later, template_meaning}
use Rattle.ether_make.specs.Refusals.{Meaning, RefusalValue}
use Rattle.ether_make.specs.Repeated.{IsRepeated, IsUnique}
use Rattle.ether_make.specs.Refusals.{refused as refusal}

-- why a line means no frame: it is no JSON text; an object in it has two members of one name; it is no object; its
-- object is refused; or the frame is longer than a packet of a capture is
pub data LineRefusal : Type 0 where
  NotJson : LineRefusal
  NotObject : LineRefusal
  Repeated : LineRefusal
  Object : RefusalValue → LineRefusal
  TooLong : LineRefusal

-- a text in UTF-8 (RFC 8259, 8.1) that is this value
pub record IsJson (text : List ℕ) (d : Data) : Type 0 where
  pub utf8 : IsUtf8 text
  pub value : read text ≡ Some d

-- the longest packet that programs read from a capture: libpcap's maximum snap length for Ethernet
abbrev pub longest : ℕ
longest = 262144

-- the frames of an object, if they are no longer
abbrev pub sized : Meaning TemplateValue → Result TemplateValue LineRefusal
sized (Ok t) = if nat_lt longest (length t.frame.packet) then Err TooLong else Ok t
sized (Err r) = Err (Object r)

-- .. and if they have the link type of the frames before, if there are any: a capture has one
abbrev pub one_link : (link : Option ℕ) → Result TemplateValue LineRefusal → Result TemplateValue LineRefusal
one_link None meaning = meaning
one_link (Some link) (Err r) = Err r
one_link (Some link) (Ok t) =
    if nat_eq t.frame.link link then Ok t else Err (Object (refusal None (codes "link") OtherFrames))

-- what a line means after frames with this link type
pub data LineMeans (link : Option ℕ) (text : List ℕ) : Result TemplateValue LineRefusal → Type 0 where
  object : (d : Data) → IsJson text d → is_some (as_object d) ≡ true → IsUnique text
      → LineMeans link text (one_link link (sized (template_meaning d)))
  not_object : (d : Data) → IsJson text d → is_some (as_object d) ≡ false → IsUnique text
      → LineMeans link text (Err NotObject)
  repeated : (d : Data) → IsJson text d → IsRepeated text → LineMeans link text (Err Repeated)
  not_json : (IsUtf8 text → read text ≡ None) → LineMeans link text (Err NotJson)

-- the lines of a text: a line feed (10) is between two
abbrev pub lines_in : List ℕ → List (List ℕ)
lines_in text = slice_split (λ c. c == 10) text

-- a space, a tab or a carriage return: whitespace of a JSON text (RFC 8259, 2) that a line can have
abbrev pub is_space : ℕ → Bool
is_space c = c == 32 || (c == 9 || c == 13)

-- a line with nothing but whitespace
abbrev pub is_blank : List ℕ → Bool
is_blank line = list_all is_space line

-- ---- one line after another

-- what frames leave to the next line: their link type, with a rate what times depend on, and the state of the generator
pub record Progress : Type 0 where
  pub link : Option ℕ
  pub pace : Option Pace
  pub state : ℕ

abbrev pub beginning : (seed : ℕ) → Progress
beginning seed = record { link = None; pace = None; state = seed }

-- the link type of frames and one more
abbrev pub linked : (link : Option ℕ) → FrameValue → Option ℕ
linked None frame = Some frame.link
linked (Some link) frame = Some link

abbrev pub all_linked : (link : Option ℕ) → List FrameValue → Option ℕ
all_linked link [] = link
all_linked link (f ∷ fs) = all_linked (linked link f) fs

-- the time of a frame of a line: that of its object, or at a rate
abbrev pub time_at : (rate : Option ℕ) → Option Pace → Time → (index : ℕ) → Time
time_at None pace t index = t
time_at (Some rate) None t index = later t index rate
time_at (Some rate) (Some p) t index = later p.start (p.sent + index) rate

abbrev pub paced : (rate : Option ℕ) → (count : ℕ) → Time → Option Pace → Option Pace
paced None count t pace = pace
paced (Some rate) count t None = Some (record { start = t; sent = count })
paced (Some rate) count t (Some p) = Some (record p { sent = p.sent + count })

abbrev pub sent_before : Option Pace → ℕ
sent_before None = 0
sent_before (Some p) = p.sent

-- as many frames as are asked for, or one for each combination
abbrev pub frame_count : Settings → TemplateValue → ℕ
frame_count settings t = unwrap_or settings.count t.found.combinations

-- whether it is known how many frames are made: combinations that 64 bits do not count (0) need a number that is
-- asked for
abbrev pub is_counted : Settings → TemplateValue → Bool
is_counted settings t = is_some settings.count || nat_lt 0 t.found.combinations

-- whether a capture can have the time of the last frame, and 64 bits the number of frames
abbrev pub is_timely_at : (rate : Option ℕ) → Option Pace → Time → (count : ℕ) → Bool
is_timely_at None pace t count = true
is_timely_at (Some rate) pace t count =
    nat_lt (sent_before pace + count) (2 ^ 64) && in_capture (time_at (Some rate) pace t (count - 1))

abbrev pub is_timely : Settings → Progress → TemplateValue → Bool
is_timely settings progress t = is_timely_at settings.rate progress.pace t.frame.time (frame_count settings t)

-- the frames of a line, padded if that is asked for
abbrev pub frames_of : Settings → Progress → TemplateValue → List FrameValue
frames_of settings progress t =
    frames_from (frame_count settings t) 0 progress.state (time_at settings.rate progress.pace t.frame.time)
    t.found.slots t.frame.link (padded settings.pad t.frame).packet

-- what they leave to the next line
abbrev pub after : Settings → Progress → TemplateValue → Progress
after settings progress t = record {
  link = all_linked progress.link (frames_of settings progress t);
  pace = paced settings.rate (frame_count settings t) t.frame.time progress.pace;
  state = after_frames (frame_count settings t) t.found.slots progress.state;
}

-- a line that is refused: by itself, since its frames are too many, or since they would be too late
pub data Refuses (settings : Settings) (progress : Progress) (text : List ℕ) : LineRefusal → Type 0 where
  meaning : (r : LineRefusal) → LineMeans progress.link text (Err r) → Refuses settings progress text r
  many : (t : TemplateValue) → LineMeans progress.link text (Ok t) → is_counted settings t ≡ false
      → Refuses settings progress text (Object (refusal None (codes "headers") TooMany))
  late : (t : TemplateValue) → LineMeans progress.link text (Ok t) → is_counted settings t ≡ true
      → is_timely settings progress t ≡ false
      → Refuses settings progress text (Object (refusal None (codes "time") OtherTime))

-- Lines, the first with this number, mean these frames after what lines before left, to the end or to a line that is
-- refused; and they leave something themselves. A blank line means nothing.
pub data LinesMean (settings : Settings)
    : (number : ℕ) → (first last : Progress) → (lines : List (List ℕ)) → (frames : List FrameValue)
    → Option (ℕ × LineRefusal) → Type 0 where
  none : (number : ℕ) (progress : Progress) → LinesMean settings number progress progress [] [] None
  blank : (number : ℕ) (progress last : Progress) (line : List ℕ) (lines : List (List ℕ))
      (frames : List FrameValue) (stop : Option (ℕ × LineRefusal))
      → is_blank line ≡ true → LinesMean settings (number + 1) progress last lines frames stop
      → LinesMean settings number progress last (line ∷ lines) frames stop
  some : (number : ℕ) (progress last : Progress) (line : List ℕ) (t : TemplateValue) (lines : List (List ℕ))
      (frames : List FrameValue) (stop : Option (ℕ × LineRefusal))
      → is_blank line ≡ false → LineMeans progress.link line (Ok t) → is_counted settings t ≡ true
      → is_timely settings progress t ≡ true
      → LinesMean settings (number + 1) (after settings progress t) last lines frames stop
      → LinesMean settings number progress last (line ∷ lines) (frames_of settings progress t ++ frames) stop
  refused : (number : ℕ) (progress : Progress) (line : List ℕ) (lines : List (List ℕ)) (r : LineRefusal)
      → is_blank line ≡ false → Refuses settings progress line r
      → LinesMean settings number progress progress (line ∷ lines) [] (Some (number, r))
