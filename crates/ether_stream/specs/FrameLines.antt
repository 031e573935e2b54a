-- The lines of a captured packet: one for the packet itself, and those of the walk through its headers.
use Rattle.std.specs.Prelude.{◌||◌, ◌≡◌, ℕ, ◌⊎◌, List, [], ◌∷◌, ◌++◌, length, codes, Bool, true, false, Option, Some, None, if◌then◌else◌}
use Rattle.std.specs.Fmt.{decimal}
use Rattle.ether_base.specs.Formats.LinuxSll.{LinuxSllValue}
use Rattle.ether_peel.specs.Grammar.Expectation.{EtherType}
use Rattle.ether_content.specs.Content.{ContentValue, Frame, LinuxSll, LinuxSll2, Unknown, content_of, is_cut, is_unknown}
use Rattle.ether_stream.specs.declared.selection.Selection.{Selection}
use Rattle.ether_text.specs.Lines.{spaced, linux_sll_text}
use Rattle.ether_text.specs.WalkText.{AnswersWalk, AnswersWalkAfter}
use Rattle.ether_pcap.specs.Capture.{PacketValue, TimeValue}
use Rattle.ether_format.specs.Spelling.{nine_digits}
use Rattle.ether_format.specs.Texts.{HasText}
use Rattle.ether_format.specs.declared.format.Format.{Format}
use Rattle.ether_stream.specs.LinuxSll2Lines.{AnswersLinuxSll2}
use Rattle.ether_stream.specs.Task.{IsChosen, LinesValue}

-- the packet has no lines of a walk
abbrev pub is_skipped : PacketValue → Bool
is_skipped p = is_unknown (content_of p)

-- ---- the line of the packet

-- seconds since the beginning of 1970, UTC, with nine decimals
unfoldable pub time_text : Option TimeValue → List ℕ
time_text None = codes "-"
time_text (Some t) = decimal t.seconds ++ (codes "." ++ nine_digits t.nanoseconds)

-- a word, or nothing
abbrev pub mark : Bool → List ℕ → List ℕ
mark true word = word
mark false word = []

unfoldable pub packet_line : ℕ → PacketValue → List ℕ
packet_line number p =
    spaced (codes "frame" ∷ decimal number ∷ codes "time" ∷ time_text p.time ∷ codes "link" ∷ decimal p.link_type
    ∷ codes "captured" ∷ decimal (length p.packet) ∷ codes "original" ∷ decimal p.original_len ∷ [])
    ++ (mark (is_cut p) (codes " cut") ++ (mark (is_skipped p) (codes " skipped") ++ codes "\n"))

-- 1 for a packet that is skipped
abbrev pub skip_count : PacketValue → ℕ
skip_count p = if is_skipped p then 1 else 0

-- .. which is left out if only the lines of walks are asked for
abbrev pub packet_line_if : (plain : Bool) → ℕ → PacketValue → List ℕ
packet_line_if true number p = []
packet_line_if false number p = packet_line number p

-- ---- all lines of a packet

-- of cooked capture v1 that is not a frame: the line of the header, and those of the walk of the payload
pub record AnswersLinuxSll (limit : Option ℕ) (s : LinuxSllValue) (payload text : List ℕ)
    (accepted : Bool) : Type 0 where
  pub lines : List ℕ
  pub walk : AnswersWalkAfter 16 (record { next = EtherType s.protocol; limit = limit }) payload lines accepted
  pub whole : text ≡ (linux_sll_text 0 s ++ codes "\n") ++ lines

-- the lines of the walk, with a limit or without; a packet that is skipped has none
abbrev pub AnswersContent : (limit : Option ℕ) → ContentValue → (text : List ℕ) → (accepted : Bool) → Type 0
AnswersContent limit (Frame next bytes) text accepted =
    AnswersWalk (record { next = next; limit = limit }) bytes text accepted
AnswersContent limit (LinuxSll s payload) text accepted = AnswersLinuxSll limit s payload text accepted
AnswersContent limit (LinuxSll2 bytes) text accepted = AnswersLinuxSll2 limit bytes text accepted
AnswersContent limit Unknown text accepted = (text ≡ []) × (accepted ≡ true)

-- the lines of a packet of this number, as the walk is told
pub record HasWalkLines (options : LinesValue) (number : ℕ) (p : PacketValue) (text : List ℕ)
    (accepted : Bool) : Type 0 where
  pub lines : List ℕ
  pub content : AnswersContent options.limit (content_of p) lines accepted
  pub whole : text ≡ packet_line_if options.is_plain number p ++ lines

-- the text for a packet of this number: these lines, or that of another format
abbrev pub HasLinesIn : Option Format → (options : LinesValue) → ℕ → PacketValue → (text : List ℕ) → (accepted : Bool)
    → Type 0
HasLinesIn None options number p text accepted = HasWalkLines options number p text accepted
HasLinesIn (Some format) options number p text accepted =
    HasText format options.limit (record { file = options.file; number = number }) p text accepted

-- .. which is accepted if its walk ends without a fault, or if faults are excused
abbrev pub HasLines : (options : LinesValue) → ℕ → PacketValue → (text : List ℕ) → (accepted : Bool) → Type 0
HasLines options number p text accepted =
    (ends : Bool) × HasLinesIn options.format options number p text ends × (accepted ≡ ends || options.excuses)

-- .. if it is chosen
abbrev pub AnswersPacket : (select : Option Selection) → (options : LinesValue) → ℕ → PacketValue → (text : List ℕ)
    → (accepted : Bool) → Type 0
AnswersPacket select options number p text accepted =
    (IsChosen select p × HasLines options number p text accepted)
    ⊎ (¬ (IsChosen select p) × (text ≡ []) × (accepted ≡ true))

-- ---- the line of the totals

-- a number after its word
abbrev pub told : (word : List ℕ) → ℕ → List ℕ
told word n = word ++ decimal n

-- .. if there is one
abbrev pub told_if : (word : List ℕ) → Option ℕ → List ℕ
told_if word None = []
told_if word (Some n) = told word n

-- a number of undecided packets, which only a selection has
abbrev pub if_selected : (select : Option Selection) → ℕ → Option ℕ
if_selected None n = None
if_selected (Some s) n = Some n

-- how many packets there are, how many of them were skipped, and how many are undecided, unless only the lines of walks
-- are asked for
abbrev pub totals_line_if : (plain : Bool) → (frames skipped : ℕ) → (undecided : Option ℕ) → List ℕ
totals_line_if true frames skipped undecided = []
totals_line_if false frames skipped undecided =
    told (codes "total frames ") frames
    ++ (told (codes " skipped ") skipped ++ (told_if (codes " undecided ") undecided ++ codes "\n"))

-- .. and unless the capture is one of several
abbrev pub totals_line_after : (before : Option ℕ) → (plain : Bool) → (frames skipped : ℕ) → (undecided : Option ℕ)
    → List ℕ
totals_line_after None plain frames skipped undecided = totals_line_if plain frames skipped undecided
totals_line_after (Some packets) plain frames skipped undecided = []
