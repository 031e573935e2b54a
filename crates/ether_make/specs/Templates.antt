-- The frames of an object with ranges.
use Rattle.std.specs.Prelude.{ℕ, zero, suc, ◌+◌, ◌*◌, ◌/◌, ◌%◌, ◌^◌, List, [], ◌∷◌, length, codes, Bool, Option, Some, None, nat_le, nat_lt, if◌then◌else◌}
use Rattle.std.specs.Option.{option_and_then}
use Rattle.serde_json.specs.Data.{Data, Items}
use Rattle.serde_json.specs.Find.{as_array}
use Rattle.rand_xoshiro.specs.SplitMix64.{mix_u64}
use Rattle.ether_make.specs.declared.slot.Slot.{Slot}
use Rattle.ether_make.specs.declared.time_text.Time.{Time}
use Rattle.ether_make.specs.Bits.{bits_of, packed, with_bits}
use Rattle.ether_make.specs.Frames.{FrameValue, frame_meaning}
use Rattle.ether_make.specs.Objects.{given, listed}
use Rattle.ether_make.specs.Refusals.{Meaning, result_map}
use Rattle.ether_make.specs.Slots.{Found, after_headers, and_then, nothing}

-- ---- the numbers of a frame

-- The place of a number in its range. One that is drawn is the remainder of a word of SplitMix64 (Steele, Lea, Flood:
-- Fast Splittable Pseudorandom Number Generators). Of the ranges that are counted the first one has its next number in
-- each frame, and another one when the ranges before it have had all their combinations.
abbrev pub place_of : (index word : ℕ) → Slot → ℕ
place_of index word s = (if s.range.is_random then word else index / s.below) % (s.range.last + 1)

-- .. and the number, which has 64 bits as all numbers of ranges have
abbrev pub number_of : (index word : ℕ) → Slot → ℕ
number_of index word s = (s.range.from + s.range.step * place_of index word s) % 2 ^ 64

-- the state of the generator after the number of a range
abbrev pub drawn : Slot → (state : ℕ) → ℕ
drawn s state = if s.range.is_random then (mix_u64 state).1 else state

abbrev pub all_drawn : List Slot → (state : ℕ) → ℕ
all_drawn [] state = state
all_drawn (s ∷ ss) state = all_drawn ss (drawn s state)

-- ---- its bytes

-- a number in the bits of a range
abbrev pub filled : Slot → (n : ℕ) → List Bool → List Bool
filled s n bs = if nat_le (s.at + s.len) (length bs) then with_bits s.at s.len n bs else bs

abbrev pub all_filled : (index state : ℕ) → List Slot → List Bool → List Bool
all_filled index state [] bs = bs
all_filled index state (s ∷ ss) bs =
    all_filled index (drawn s state) ss (filled s (number_of index (mix_u64 state).0 s) bs)

-- the bytes of a frame in which each range has its number
abbrev pub numbered : (index state : ℕ) → List Slot → List ℕ → List ℕ
numbered index state ss bytes = packed (all_filled index state ss (bits_of bytes))

-- ---- its time

-- a time and so many parts of a second, in whole nanoseconds
abbrev pub later : Time → (count rate : ℕ) → Time
later t count rate =
    let total = t.seconds * 10 ^ 9 + t.nanoseconds + count * 10 ^ 9 / rate in
    record { seconds = total / 10 ^ 9; nanoseconds = total % 10 ^ 9 }

-- the seconds of a time in a capture have 32 bits (draft-ietf-opsawg-pcap, section 5)
abbrev pub in_capture : Time → Bool
in_capture t = nat_lt t.seconds (2 ^ 32)

-- ---- all of them

-- frames from one on, each at its time, and with numbers in place of those of the one before
abbrev pub frames_from : (left index state : ℕ) → (time_of : ℕ → Time) → List Slot → (link : ℕ) → (packet : List ℕ)
    → List FrameValue
frames_from zero index state time_of ss link packet = []
frames_from (suc left) index state time_of ss link packet =
    let next = numbered index state ss packet in
    record { link = link; time = time_of index; packet = next }
    ∷ frames_from left (index + 1) (all_drawn ss state) time_of ss link next

-- the state of the generator after so many frames
abbrev pub after_frames : (count : ℕ) → List Slot → (state : ℕ) → ℕ
after_frames zero ss state = state
after_frames (suc count) ss state = after_frames count ss (all_drawn ss state)

-- ---- an object

-- the first frame of an object, and what ranges it has
pub record TemplateValue : Type 0 where
  pub frame : FrameValue
  pub found : Found

abbrev pub listed_in : Option Items → List Data
listed_in None = []
listed_in (Some ds) = listed ds

abbrev pub header_objects : Data → List Data
header_objects d = listed_in (option_and_then as_array (given (codes "headers") d))

abbrev pub template_meaning : Data → Meaning TemplateValue
template_meaning d =
    and_then (frame_meaning d)
    (λ f. result_map (λ found. record { frame = f; found = found }) (after_headers 0 (header_objects d) nothing))
